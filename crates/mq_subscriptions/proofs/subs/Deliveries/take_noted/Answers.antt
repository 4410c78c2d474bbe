use Rattle.std.proofs.Common.{◌&&◌, ◌||◌, List, ◌∷◌, nat_eq, ap, subst, sym, ◌∙◌}
use Rattle.indexmap.specs.IndexMap.{get}
use Rattle.mq_rules.specs.declared.rule.Rule.TheVariants.{B01, B02}
use Rattle.mq_rules.specs.Rules.{same_rule}
use Rattle.mq_rules.specs.FaultKeys.{FaultMap}
use Rattle.mq_rules.specs.Subscriptions.{Standing}
use Rattle.mq_rules.proofs.Exports.{on_err}
use Rattle.mq_rules.specs.Connections.{accepts}
use Rattle.mq_rules.specs.Under.{seen, turns_with, fate_before}
use Rattle.mq_rules.specs.Growing.{Gains, GainsWithin}
use Rattle.mq_fates.specs.Judgements.{judged_by}
use Rattle.mq_subscriptions.specs.Standings.{Waits, IsStanding, delivers_so, is_unasked, is_above}
use Rattle.mq_subscriptions.proofs.FilterLaws.{judged-so}
use Rattle.mq_subscriptions.proofs.StandingLaws.{standing-next}
use Rattle.mq_subscriptions.proofs.DeliveryLaws.{delivery-gains, delivery-within}
use Rattle.mq_subscriptions.proofs.subs.Deliveries.take_noted.Goals as goal

pub returns-clause-agrees : goal.returns-clause-agrees
returns-clause-agrees c = λ tested past under q.
    let s = c.args.self.now in
    let e = seen c.args.at c.args.note.now in
    let f = c.judge_event.new.filters in (
      q.0,
      standing-next tested s.fate c.args.fate f.settled c.take_in.new.self.settled f.waiting c.take_in.new.self.waiting s.sharing c.shares-self.result (get nat_eq s.topics) (get nat_eq c.take_topic.new.topics) e past under.follows.on_connections.0
          (subst (λ (g : List Standing × List Waits). IsStanding s.fate g.0 g.1 s.sharing (get nat_eq s.topics) tested (fate_before tested c.args.fate e past) past) (sym c.judge_event.ensures.unchanged) q.1)
          c.in_ok-take_in.ensures.settled c.in_ok-take_in.ensures.waiting c.in_ok-take_in.ensures.sums c.shares-self.ensures c.in_ok-take_topic.ensures,
    )

pub returns-clause-grows : goal.returns-clause-grows
returns-clause-grows c = λ tested past under q.
    let s = c.args.self.now in
    let e = seen c.args.at c.args.note.now in
    subst (λ (m : FaultMap). Gains (λ k r. (same_rule r B01 || same_rule r B02) && turns_with tested c.args.fate e past k r) tested (e ∷ past) c.args.decided c.args.faults.now m)
    (sym (c.in_ok-judge_by-2.ensures.ok ∙ ap (judged_by c.in_ok-broken.broken.above B02 c.args.at c.args.decided) c.in_ok-judge_by.ensures.ok))
    (delivery-gains tested s.fate c.args.fate s.filters.settled s.filters.waiting s.sharing (get nat_eq s.topics) c.args.decided e past c.args.faults.now s.bound c.in_ok-broken.broken.unasked c.in_ok-broken.broken.above under q.1 q.0
    (judged-so c.in_ok-broken.broken.unasked c.is_judged-binds.result s.bound (accepts c.args.fate) (delivers_so e.note s.sharing (get nat_eq s.topics) (λ p. is_unasked s.filters.settled s.filters.waiting)) c.in_ok-broken.ensures.unasked c.is_judged-binds.ensures)
    (judged-so c.in_ok-broken.broken.above c.is_judged-binds.result s.bound (accepts c.args.fate) (delivers_so e.note s.sharing (get nat_eq s.topics) (λ p. is_above s.filters.settled s.filters.waiting p.qos)) c.in_ok-broken.ensures.above c.is_judged-binds.ensures))

pub returns-in_err-judge_by-2-clause-memory : goal.returns-in_err-judge_by-2-clause-memory
returns-in_err-judge_by-2-clause-memory c =
    on_err c.from_residual-in_err-judge_by-2.result _ (λ tested past under q.
    let s = c.args.self.now in
    let e = seen c.args.at c.args.note.now in
    subst (λ (m : FaultMap). GainsWithin (λ k r. (same_rule r B01 || same_rule r B02) && turns_with tested c.args.fate e past k r) tested (e ∷ past) c.args.decided c.args.faults.now m)
    (sym (c.in_err-judge_by-2.ensures.unchanged ∙ c.in_ok-judge_by.ensures.ok))
    (delivery-within tested s.fate c.args.fate s.filters.settled s.filters.waiting s.sharing (get nat_eq s.topics) c.args.decided e past c.args.faults.now s.bound c.in_ok-broken.broken.unasked under q.1 q.0
    (judged-so c.in_ok-broken.broken.unasked c.is_judged-binds.result s.bound (accepts c.args.fate) (delivers_so e.note s.sharing (get nat_eq s.topics) (λ p. is_unasked s.filters.settled s.filters.waiting)) c.in_ok-broken.ensures.unasked c.is_judged-binds.ensures)))
