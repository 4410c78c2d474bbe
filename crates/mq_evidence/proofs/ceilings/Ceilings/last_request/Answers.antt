use Rattle.std.proofs.Common.{◌&&◌, ◌||◌, nat_le, Bool, Some, ap, ◌∙◌}
use Rattle.std.specs.List.{list_any}
use Rattle.mq_topic.specs.Matching.{matches}
use Rattle.mq_rules.specs.Moments.{some, position}
use Rattle.mq_rules.specs.Identifiers.{session_before}
use Rattle.mq_rules.proofs.Exports.{session-descend}
use Rattle.mq_filters.specs.Standings.{has_ceiling}
use Rattle.indexmap.specs.IndexMap.{values}
use Rattle.mq_evidence.specs.Ceilings.{settled_in}
use Rattle.mq_evidence.specs.Settling.{not_before, holds}
use Rattle.mq_evidence.specs.Unsettled.{Unsettled}
use Rattle.mq_evidence.proofs.CeilingLaws.{values-are, last-is}
use Rattle.mq_evidence.proofs.ceilings.Ceilings.last_request.Goals as goal

pub returns : goal.returns
returns c = λ role f k kept. last-is c.args.topic.now k (session_before role f k) c.later_of.result (session-descend role (Some f) k.past) (λ q.
    let topic = c.args.topic.now in
    let asks : Unsettled → Bool = λ r. list_any (λ s. matches s.filter topic && nat_le q r.position) r.filters in
    let ms = session_before role f k in
    c.later_of.ensures q
    ∙ ap (λ b. b || has_ceiling (nat_le q) c.last_of_values.result) (c.last_for.ensures q)
    ∙ ap (λ b. holds (not_before (λ filter. matches filter topic) q) c.args.self.now.settled || b) (c.last_of_values.ensures q)
    ∙ ap (λ b. b || list_any (list_any asks) (values c.args.self.now.waiting)) (kept.settled_are (not_before (λ filter. matches filter topic) q))
    ∙ ap (λ b. some (λ j. list_any (λ s. matches s.filter topic && nat_le q (position j)) (settled_in k.past j)) ms || b) (values-are asks c.args.self.now.waiting.entries k.past ms kept.apart kept.waiting_are))
