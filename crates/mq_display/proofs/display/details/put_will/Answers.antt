use Rattle.std.proofs.Common.{◌≡◌, ◌∙◌, codes}
use Rattle.mq_packet.specs.Reading.{will_view}
use Rattle.mq_rules.specs.Notes.{qos_number}
use Rattle.mq_display.specs.Details.{properties_after}
use Rattle.mq_display.specs.ItemText.{with_spaces}
use Rattle.mq_display.specs.Outgoing.{Puts}
use Rattle.mq_display.proofs.DetailLaws.{puts_words, will_fields}
use Rattle.mq_display.proofs.display.details.put_will.Goals as goal

pub returns-in-Some : goal.returns-in-Some
returns-in-Some g c =
    let number : c.from.result ≡ qos_number c.in-Some.will.qos = c.from.ensures ∙ c.qos_number.ensures in
    let put : Puts g.W.Write.contents c.args.out.now (with_spaces (will_fields (will_view c.in-Some.will))) c.put_all.new.out =
    rw (← number) c.put_all.ensures in
    rw c.in-Some.is (puts_words g.W.Write.contents c.args.out.now c.put_all.new.out c.put_properties.new.out (will_fields (will_view c.in-Some.will))
    (properties_after (codes "will-") c.in-Some.will.properties) put c.put_properties.ensures)
