use Rattle.std.proofs.Common.{nat_lt, [], ◌∷◌, ◌++◌, length, codes}
use Rattle.std.specs.List.{flat_map}
use Rattle.mq_display.specs.Details.{gap_words, hex_words}
use Rattle.mq_display.specs.ItemText.{with_spaces}
use Rattle.mq_display.specs.Marking.{between}
use Rattle.mq_display.specs.Outgoing.{Puts}
use Rattle.mq_display.proofs.DetailLaws.{puts_words}
use Rattle.mq_display.proofs.display.details.unfinished.put_first.Goals as goal

pub returns : goal.returns
returns g c =
    let bytes = c.args.bytes.now in
    let shown = between 0 64 bytes in
    let end = gap_words (nat_lt 64 (length bytes)) in
    let put_shown : Puts g.W.Write.contents c.put.new.self (with_spaces (flat_map hex_words shown)) c.put_hex.new.out = rw (← c.between.ensures) c.put_hex.ensures in
    puts_words g.W.Write.contents _ _ _ (codes "bytes" ∷ []) (flat_map hex_words shown ++ end) c.put.ensures
    (puts_words g.W.Write.contents _ _ _ (flat_map hex_words shown) end put_shown c.put_gap.ensures)
