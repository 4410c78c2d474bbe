use Rattle.std.specs.Prelude.{[], ◌∷◌, refl}
use Rattle.mq_display.specs.Details.{broken_words}
use Rattle.mq_display.specs.ItemText.{packet_rule_code}
use Rattle.mq_display.specs.LongPacket.{inner_line}
use Rattle.mq_display.specs.Sentences.{packet_rule_sentence}
use Rattle.mq_display.proofs.OutgoingLaws.{puts_two}
use Rattle.mq_display.proofs.long_packet.put_fault.Goals as goal

pub returns : goal.returns
returns g c =
    let rule = c.args.rule in
    puts_two g.W.Write.contents _ _ _ (inner_line (broken_words c.args.bytes.now rule c.args.at)) (inner_line (packet_rule_code rule ∷ packet_rule_sentence rule ∷ [])) _
    c.put_bytes.ensures c.put_statement.ensures refl
