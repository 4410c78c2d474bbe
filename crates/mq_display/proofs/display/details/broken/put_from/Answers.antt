use Rattle.std.proofs.Common.{◌+◌, nat_lt, [], ◌∷◌, ◌++◌, length, codes}
use Rattle.std.specs.List.{flat_map}
use Rattle.mq_display.specs.Details.{gap_words, hex_words, marked}
use Rattle.mq_display.specs.ItemText.{with_spaces}
use Rattle.mq_display.specs.Marking.{between}
use Rattle.mq_display.specs.Outgoing.{Puts}
use Rattle.mq_display.proofs.DetailLaws.{puts_words}
use Rattle.mq_display.proofs.display.details.broken.put_from.Goals as goal

pub returns : goal.returns
returns g c =
    let bytes = c.args.bytes.now in
    let start = c.args.start in
    let at = c.args.at in
    let before = between start at bytes in
    let there = between at (at + 1) bytes in
    let after = between (at + 1) (start + 64) bytes in
    let end = gap_words (nat_lt (start + 64) (length bytes)) in
    let put_before : Puts g.W.Write.contents c.put_gap.new.out (with_spaces (flat_map hex_words before)) c.put_hex.new.out = rw (← c.between.ensures) c.put_hex.ensures in
    let put_there : Puts g.W.Write.contents c.put_hex.new.out (with_spaces (marked there ∷ [])) c.put_marked.new.out = rw (← c.between-2.ensures) c.put_marked.ensures in
    let put_after : Puts g.W.Write.contents c.put_marked.new.out (with_spaces (flat_map hex_words after)) c.put_hex-2.new.out = rw (← c.between-3.ensures) c.put_hex-2.ensures in
    puts_words g.W.Write.contents _ _ _ (codes "bytes" ∷ []) (gap_words (nat_lt 0 start) ++ (flat_map hex_words before ++ (marked there ∷ (flat_map hex_words after ++ end)))) c.put.ensures
    (puts_words g.W.Write.contents _ _ _ (gap_words (nat_lt 0 start)) (flat_map hex_words before ++ (marked there ∷ (flat_map hex_words after ++ end))) c.put_gap.ensures
    (puts_words g.W.Write.contents _ _ _ (flat_map hex_words before) (marked there ∷ (flat_map hex_words after ++ end)) put_before
    (puts_words g.W.Write.contents _ _ _ (marked there ∷ []) (flat_map hex_words after ++ end) put_there
    (puts_words g.W.Write.contents _ _ _ (flat_map hex_words after) end put_after c.put_gap-2.ensures))))
