use Rattle.std.proofs.Common.{◌≡◌, ◌≤◌, arith, length, true, refl}
use Rattle.std.specs.List.{sum_by}
use Rattle.indexmap.specs.IndexMap.{index_map_len}
use Rattle.mq_rules.specs.Connections.{session}
use Rattle.mq_subscriptions.specs.Burden.{at_least_one, requested_filters, requested_count}
use Rattle.mq_subscriptions.specs.Deletings.{removes_weigh}
use Rattle.mq_subscriptions.specs.Weights.{deletions_weigh}
use Rattle.mq_subscriptions.proofs.DeletionSizeLaws.{known-named, waiting-within, removing-within, deletions-within}
use Rattle.mq_subscriptions.proofs.deletions.DeletionsFated.weight.Goals as goal

pub returns-clause-bounded : goal.returns-clause-bounded
unfolding requested_count
returns-clause-bounded c = λ tested taken past q.
    let s = c.args.self.now in
    let known : s.bound ≡ true → index_map_len s.states ≤ requested_count tested.role taken past = λ is.
    let le = c.states_size.ensures.different (requested_filters (session tested.role taken past)) (λ f h. known-named past f (session tested.role taken past) _ ((q.2 is).states_are f) h) in
    omega (arith, le, c.states_size.ensures.size) in
    let most = deletions-within tested s.bound taken past (deletions_weigh s) (index_map_len s.states) (sum_by (λ e. at_least_one (length e.1.filters)) s.waiting.entries) (sum_by (λ e. removes_weigh e.1) s.removing.entries) q.0 q.1 refl
    known
    (λ is. waiting-within tested taken s.waiting.entries past c.waiting_size.ensures.unique (q.2 is).waiting_are)
    (λ is. removing-within tested taken s.removing.entries past c.removing_size.ensures.unique (q.2 is).removing_are) in
    omega (arith, c.saturating_add.ensures, c.saturating_add-2.ensures, c.states_size.ensures.size, c.waiting_size.ensures.size, c.removing_size.ensures.size, most)
