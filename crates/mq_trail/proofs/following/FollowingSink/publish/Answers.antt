use Rattle.std.proofs.Common.{refl, ap}
use Rattle.mq_packet.specs.Reading.{view}
use Rattle.mq_packet.specs.declared.packet.Packet.TheVariants as packets
use Rattle.mq_log.specs.Events.{packet}
use Rattle.mq_log.specs.Flows.{item_event}
use Rattle.mq_log.specs.Reception.{packet_event_at}
use Rattle.mq_rules.specs.Notes.{note_of}
use Rattle.mq_trail.proofs.following.FollowingSink.publish.Goals as goal

pub returns-clause-receives : goal.returns-clause-receives
returns-clause-receives g c = λ earlier was are.
    c.in-Ok.ensures g.K.Watched.tested earlier (packet_event_at c.args.place c.args.direction (packets.Publish c.args.publish)) refl
    (ap (λ size. note_of (item_event c.args.direction (packet size (view (packets.Publish c.args.publish))))) c.requires) are was
