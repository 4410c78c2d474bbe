use Rattle.std.specs.Prelude.{[], ◌∷◌, refl}
use Rattle.mq_display.specs.Details.{broken_words}
use Rattle.mq_display.specs.ItemText.{with_spaces}
use Rattle.mq_display.proofs.OutgoingLaws.{puts_three}
use Rattle.mq_display.proofs.long_packet.put_bytes.Goals as goal

pub returns : goal.returns
returns g c =
    puts_three g.W.Write.contents _ _ _ _ (32 ∷ []) (with_spaces (broken_words c.args.bytes.now c.args.rule c.args.at)) (10 ∷ []) _
    c.put.ensures c.put_broken.ensures c.put-2.ensures refl
