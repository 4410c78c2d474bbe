use Rattle.std.proofs.Common.{rules, ◌≡◌, length, sym, ◌∙◌}
use Rattle.std.proofs.lemmas.List.{nil_from_length}
use Rattle.mq_packet.specs.Reading.{view}
use Rattle.mq_packet.specs.declared.packet.Packet.TheVariants as packets
use Rattle.mq_rules.proofs.Exports.{none_from_no_bytes}
use Rattle.mq_judge.proofs.watching.tally_publish.Goals as goal

pub returns-then-is_empty : goal.returns-then-is_empty
returns-then-is_empty c = λ tested p events tried is at was.
    let empty : length c.as_bytes.result.now ≡ 0 = search rules in
    let list = c.args.publish.properties in
    let none = none_from_no_bytes list.place list.items c.as_bytes.ensures.allowed (sym c.as_bytes.ensures.spelled ∙ nil_from_length c.as_bytes.result.now empty) in
    c.count_bare.ensures tested p (view (packets.Publish c.args.publish)) events is (tried none) at was

pub returns-else-is_empty : goal.returns-else-is_empty
returns-else-is_empty c = λ tested p events tried is at was. c.count_packet.ensures tested p events is at was
