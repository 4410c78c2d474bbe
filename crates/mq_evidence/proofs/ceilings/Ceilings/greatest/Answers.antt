use Rattle.std.proofs.Common.{◌&&◌, ◌||◌, nat_le, Bool, ap, sym, ◌∙◌}
use Rattle.std.specs.List.{list_any}
use Rattle.mq_topic.specs.Matching.{matches}
use Rattle.mq_rules.specs.Moments.{some}
use Rattle.mq_rules.specs.Identifiers.{session_before}
use Rattle.mq_rules.specs.Subscriptions.{Standing, standing_at}
use Rattle.mq_filters.specs.Standings.{has_ceiling}
use Rattle.indexmap.specs.IndexMap.{values}
use Rattle.mq_evidence.specs.Ceilings.{settled_in}
use Rattle.mq_evidence.specs.Settling.{allowing, holds}
use Rattle.mq_evidence.specs.Unsettled.{Unsettled}
use Rattle.mq_evidence.proofs.CeilingLaws.{values-are, greatest-kept, greatest-is}
use Rattle.mq_evidence.proofs.ceilings.Ceilings.greatest.Goals as goal

pub returns : goal.returns
returns c = λ role f k kept. greatest-is c.args.topic.now (standing_at role f k) c.higher.result (λ q.
    let topic = c.args.topic.now in
    let t : Standing → Bool = λ s. matches s.filter topic && nat_le q s.ceiling in
    let asks : Unsettled → Bool = λ r. list_any t r.filters in
    let ms = session_before role f k in
    c.higher.ensures q
    ∙ ap (λ b. b || has_ceiling (nat_le q) c.ceiling_of_values.result) (c.in_ok-standing.ensures q)
    ∙ ap (λ b. holds (allowing (λ filter. matches filter topic) q) c.args.self.now.settled || b) (c.ceiling_of_values.ensures q)
    ∙ ap (λ b. b || list_any (list_any asks) (values c.args.self.now.waiting)) (kept.settled_are (allowing (λ filter. matches filter topic) q))
    ∙ ap (λ b. some (λ j. list_any t (settled_in k.past j)) ms || b) (values-are asks c.args.self.now.waiting.entries k.past ms kept.apart kept.waiting_are)
    ∙ sym (greatest-kept topic q k ms))
