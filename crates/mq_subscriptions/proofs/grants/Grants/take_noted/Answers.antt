use Rattle.std.proofs.Common.{◌&&◌, ◌∷◌, nat_eq, subst, sym}
use Rattle.indexmap.specs.IndexMap.{get}
use Rattle.mq_rules.specs.declared.rule.Rule.TheVariants.{B05}
use Rattle.mq_rules.specs.Rules.{same_rule}
use Rattle.mq_rules.specs.FaultKeys.{FaultMap}
use Rattle.mq_rules.specs.Under.{seen, turns_with}
use Rattle.mq_rules.specs.Growing.{Gains}
use Rattle.mq_subscriptions.proofs.GrantLaws.{asked-next, grants-gain}
use Rattle.mq_subscriptions.proofs.grants.Grants.take_noted.Goals as goal

pub returns-clause-agrees : goal.returns-clause-agrees
returns-clause-agrees c = λ tested past under q.
    let s = c.args.self.now in
    let e = seen c.args.at c.args.note.now in
    (q.0, asked-next s.bound (get nat_eq s.wanted) (get nat_eq c.take_bound.new.wanted) e past under.follows.on_connections.0 q.1 c.in_ok-take_bound.ensures.taken c.in_ok-take_bound.ensures.left)

pub returns-clause-grows : goal.returns-clause-grows
returns-clause-grows c = λ tested past under q.
    let s = c.args.self.now in
    let e = seen c.args.at c.args.note.now in
    let m = c.args.faults.now in
    subst (λ (n : FaultMap). Gains (λ k r. same_rule r B05 && turns_with tested c.args.fate e past k r) tested (e ∷ past) c.args.decided m n)
    (sym c.in_ok-judge_by.ensures.ok)
    (grants-gain tested c.args.fate (get nat_eq s.wanted) c.args.decided e past m s.bound c.finds-broken.result under q.1 q.0 c.finds-broken.ensures)
