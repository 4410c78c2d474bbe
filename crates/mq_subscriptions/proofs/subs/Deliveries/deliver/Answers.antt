use Rattle.std.proofs.Common.{◌&&◌, ◌||◌, List, ◌∷◌, nat_eq, ap, option_map, subst, sym, ◌∙◌}
use Rattle.indexmap.specs.IndexMap.{get}
use Rattle.mq_rules.specs.declared.rule.Rule.TheVariants.{B01, B02}
use Rattle.mq_rules.specs.Rules.{same_rule}
use Rattle.mq_rules.specs.FaultKeys.{FaultMap}
use Rattle.mq_rules.specs.Subscriptions.{Standing}
use Rattle.mq_rules.proofs.Exports.{on_err}
use Rattle.mq_rules.specs.Connections.{accepts, latest_fate}
use Rattle.mq_rules.specs.Under.{seen, turns_with}
use Rattle.mq_rules.specs.Growing.{Gains, GainsWithin}
use Rattle.mq_fates.specs.Judgements.{judged_by}
use Rattle.mq_subscriptions.specs.Standings.{Waits, IsStanding, delivers_so, named_topic, is_unasked, is_above}
use Rattle.mq_subscriptions.proofs.BareLaws.{delivery-stays, delivers-named}
use Rattle.mq_subscriptions.proofs.DeliveryLaws.{delivery-gains, delivery-within}
use Rattle.mq_subscriptions.proofs.FilterLaws.{judged-topic}
use Rattle.mq_fates.proofs.Exports.{knows, known-gains, known-within}
use Rattle.mq_subscriptions.proofs.subs.Deliveries.deliver.Goals as goal

pub returns-clause-agrees : goal.returns-clause-agrees
returns-clause-agrees c = λ n tested taken past delivers follows known q.
    let s = c.args.self.now in
    let e = seen c.args.at n in
    let d = c.args.delivery in
    let k = knows tested s.fate taken e past follows known q.1.same_fate in (
      q.0,
      subst (λ (g : List Standing × List Waits). IsStanding s.fate g.0 g.1 s.sharing (get nat_eq s.topics) tested (latest_fate tested.role (e ∷ past)) (e ∷ past)) (sym c.judge.ensures.unchanged)
          (subst (λ o. IsStanding s.fate s.filters.settled s.filters.waiting s.sharing (get nat_eq s.topics) tested o (e ∷ past)) k.after
          (delivery-stays tested s.fate s.fate s.filters.settled s.filters.waiting s.sharing (get nat_eq s.topics) e.place.position e past d.topic.now d.qos d.duplicate delivers k.under
          (subst (λ o. IsStanding s.fate s.filters.settled s.filters.waiting s.sharing (get nat_eq s.topics) tested o past) k.before q.1))),
    )

pub returns-clause-grows : goal.returns-clause-grows
returns-clause-grows c = λ n tested taken past delivers follows known q.
    let s = c.args.self.now in
    let e = seen c.args.at n in
    let d = c.args.delivery in
    let at = e.place.position in
    let broken = c.in_ok-broken.broken in
    let topic = option_map (λ t. t.now) c.named_topic-topic.result in
    let named = named_topic s.sharing d.duplicate d.topic.now in
    let k = knows tested s.fate taken e past follows known q.1.same_fate in
    known-gains tested s.fate taken (λ r. same_rule r B01 || same_rule r B02) e past c.args.faults.now c.judge_by-2.new.faults k
    (subst (λ (m : FaultMap). Gains (λ k r. (same_rule r B01 || same_rule r B02) && turns_with tested s.fate e past k r) tested (e ∷ past) at c.args.faults.now m)
    (sym (c.in_ok-judge_by-2.ensures.ok ∙ ap (judged_by broken.above B02 e.place at) c.in_ok-judge_by.ensures.ok))
    (delivery-gains tested s.fate s.fate s.filters.settled s.filters.waiting s.sharing (get nat_eq s.topics) at e past c.args.faults.now s.bound broken.unasked broken.above k.under
    (subst (λ o. IsStanding s.fate s.filters.settled s.filters.waiting s.sharing (get nat_eq s.topics) tested o past) k.before q.1) q.0
    (judged-topic broken.unasked c.is_judged-judged.result s.bound (accepts s.fate) (delivers_so n s.sharing (get nat_eq s.topics) (λ p. is_unasked s.filters.settled s.filters.waiting)) (is_unasked s.filters.settled s.filters.waiting) topic named
    c.in_ok-broken.ensures.unasked c.named_topic-topic.ensures c.is_judged-judged.ensures (delivers-named n d.topic.now d.qos d.duplicate s.sharing (get nat_eq s.topics) (λ qos. is_unasked s.filters.settled s.filters.waiting) delivers))
    (judged-topic broken.above c.is_judged-judged.result s.bound (accepts s.fate) (delivers_so n s.sharing (get nat_eq s.topics) (λ p. is_above s.filters.settled s.filters.waiting p.qos)) (is_above s.filters.settled s.filters.waiting d.qos) topic named
    c.in_ok-broken.ensures.above c.named_topic-topic.ensures c.is_judged-judged.ensures (delivers-named n d.topic.now d.qos d.duplicate s.sharing (get nat_eq s.topics) (is_above s.filters.settled s.filters.waiting) delivers))))

pub returns-in_err-judge_by-2-clause-memory : goal.returns-in_err-judge_by-2-clause-memory
returns-in_err-judge_by-2-clause-memory c =
    on_err c.from_residual-in_err-judge_by-2.result _ (λ n tested taken past delivers follows known q.
    let s = c.args.self.now in
    let e = seen c.args.at n in
    let d = c.args.delivery in
    let at = e.place.position in
    let broken = c.in_ok-broken.broken in
    let topic = option_map (λ t. t.now) c.named_topic-topic.result in
    let named = named_topic s.sharing d.duplicate d.topic.now in
    let k = knows tested s.fate taken e past follows known q.1.same_fate in
    known-within tested s.fate taken (λ r. same_rule r B01 || same_rule r B02) e past c.args.faults.now c.judge_by-2.new.faults k
    (subst (λ (m : FaultMap). GainsWithin (λ k r. (same_rule r B01 || same_rule r B02) && turns_with tested s.fate e past k r) tested (e ∷ past) at c.args.faults.now m)
    (sym (c.in_err-judge_by-2.ensures.unchanged ∙ c.in_ok-judge_by.ensures.ok))
    (delivery-within tested s.fate s.fate s.filters.settled s.filters.waiting s.sharing (get nat_eq s.topics) at e past c.args.faults.now s.bound broken.unasked k.under
    (subst (λ o. IsStanding s.fate s.filters.settled s.filters.waiting s.sharing (get nat_eq s.topics) tested o past) k.before q.1) q.0
    (judged-topic broken.unasked c.is_judged-judged.result s.bound (accepts s.fate) (delivers_so n s.sharing (get nat_eq s.topics) (λ p. is_unasked s.filters.settled s.filters.waiting)) (is_unasked s.filters.settled s.filters.waiting) topic named
    c.in_ok-broken.ensures.unasked c.named_topic-topic.ensures c.is_judged-judged.ensures (delivers-named n d.topic.now d.qos d.duplicate s.sharing (get nat_eq s.topics) (λ qos. is_unasked s.filters.settled s.filters.waiting) delivers)))))
