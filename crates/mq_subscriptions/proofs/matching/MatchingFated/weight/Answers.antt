use Rattle.std.proofs.Common.{arith, nat_eq, refl, sym, ap, ◌∙◌}
use Rattle.std.specs.Prelude.{is_some}
use Rattle.indexmap.specs.IndexMap.{get, index_map_len}
use Rattle.mq_rules.specs.Connections.{on_open}
use Rattle.mq_rules.specs.Subscriptions.{last_set}
use Rattle.mq_subscriptions.specs.Burden.{aliased_ids}
use Rattle.mq_subscriptions.specs.Weights.{matching_weigh, subscriptions_weigh}
use Rattle.mq_subscriptions.proofs.BesideLaws.{matching-within}
use Rattle.mq_subscriptions.proofs.matching.MatchingFated.weight.Goals as goal

pub returns-clause-bounded : goal.returns-clause-bounded
unfolding aliased_ids
returns-clause-bounded c = λ tested taken past q.
    let s = c.args.self.now in
    let most = matching-within tested s.bound taken past (matching_weigh s) (subscriptions_weigh s.subscriptions) (index_map_len s.topics) q.0 q.1 refl
    (λ is. c.size.ensures.bounded tested taken past (q.2 is).0)
    (λ is. let le = c.map_size.ensures.bounded (λ alias. is_some (last_set alias (on_open past))) (λ alias here. ap is_some (sym ((q.2 is).1.topics_are alias)) ∙ here) in omega (arith, le, c.map_size.ensures.size)) in
    omega (arith, c.saturating_add.ensures, c.size.ensures.exact, c.map_size.ensures.size, most)
