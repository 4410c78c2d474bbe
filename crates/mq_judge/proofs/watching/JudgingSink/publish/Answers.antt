use Rattle.std.proofs.Common.{ℕ, refl, ap, sym, ◌∙◌}
use Rattle.mq_packet.specs.Reading.{view}
use Rattle.mq_packet.specs.declared.packet.Packet.TheVariants as packets
use Rattle.mq_log.specs.Events.{packet}
use Rattle.mq_log.specs.Flows.{item_event}
use Rattle.mq_log.specs.Reception.{packet_event_at}
use Rattle.mq_rules.specs.Notes.{note_of}
use Rattle.mq_judge.proofs.WatchingLaws.{found-still, next-place, watched-next}
use Rattle.mq_judge.proofs.watching.JudgingSink.publish.Goals as goal

pub returns-in-Ok-clause-receives : goal.returns-in-Ok-clause-receives
returns-in-Ok-clause-receives g c = λ earlier was are.
    let p = packet_event_at c.args.place c.args.direction (packets.Publish c.args.publish) in
    let event = λ (size : ℕ). item_event c.args.direction (packet size (view (packets.Publish c.args.publish))) in
    let next =
    watched-next g.K.End.tested p earlier c.args.self.now.watching c.receive_publish.new.self (note_of (event c.args.size)) (ap (λ size. note_of (event size)) c.requires) are (was.0, was.1)
    c.receive_publish.ensures.tested c.in-Ok.ensures.ok in
    (next.0, next.1, c.in-Ok.ensures.counts ∙ was.2, c.in-Ok.ensures.tallies p earlier (sym (ap event c.requires)) (next-place p earlier are) was.3)

pub returns-in-Err-clause-refused : goal.returns-in-Err-clause-refused
returns-in-Err-clause-refused g c = λ earlier was are.
    let p = packet_event_at c.args.place c.args.direction (packets.Publish c.args.publish) in
    let event = λ (size : ℕ). item_event c.args.direction (packet size (view (packets.Publish c.args.publish))) in
    let still = found-still g.K.End.tested p earlier c.args.self.now.watching c.receive_publish.new.self (note_of (event c.args.size)) (ap (λ size. note_of (event size)) c.requires) are (was.0, was.1)
    c.receive_publish.ensures.tested c.in-Err.ensures.memory in
    (refl, still.0, still.1)
