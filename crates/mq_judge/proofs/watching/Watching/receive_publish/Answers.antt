use Rattle.std.proofs.Common.{subst, sym}
use Rattle.mq_packet.specs.Reading.{publish_view, view}
use Rattle.mq_packet.specs.declared.packet.Packet.TheVariants as packets
use Rattle.mq_log.specs.Events.{packet}
use Rattle.mq_log.specs.Flows.{item_event}
use Rattle.mq_rules.specs.declared.bare.Bare.{Bare}
use Rattle.mq_rules.specs.Parts.{IsTriedAs}
use Rattle.mq_rules.proofs.Exports.{publish_tried}
use Rattle.mq_judge.specs.Watching.{TalliesNext}
use Rattle.mq_judge.proofs.WatchingLaws.{on_ok}
use Rattle.mq_judge.proofs.watching.Watching.receive_publish.Goals as goal

pub returns-then-is_counting-clause-tallies : goal.returns-then-is_counting-clause-tallies
returns-then-is_counting-clause-tallies c =
    let entry = view (packets.Publish c.args.publish) in
    let exact = c.of_publish-bare.ensures.exact in
    on_ok c.count_publish.result _ _ (λ counted.
    subst (λ (b : Bare). TalliesNext c.args.self.now c.count_publish.new.self c.args.place (item_event b.direction (packet b.size entry))) exact
    (counted (λ none. subst (λ (b : Bare). IsTriedAs b.size b.fields entry) (sym exact) (publish_tried c.args.size (publish_view c.args.publish) none))))
    c.count_publish.ensures.tallies
