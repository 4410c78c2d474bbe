use Rattle.std.proofs.Common.{◌≡◌, ◌&&◌, ◌∷◌, true, false, nat_eq, ap, subst, sym, ◌∙◌}
use Rattle.indexmap.specs.IndexMap.{get}
use Rattle.mq_rules.specs.FaultKeys.{FaultMap}
use Rattle.mq_rules.proofs.Exports.{on_err}
use Rattle.mq_rules.specs.Moments.{newest}
use Rattle.mq_rules.specs.MatchingSubscriptions.{some_matching}
use Rattle.mq_rules.specs.Under.{seen, turns_with}
use Rattle.mq_subscriptions.specs.declared.matching.verdicts.Verdicts.{Verdicts}
use Rattle.mq_subscriptions.specs.Verdicts.{Blames}
use Rattle.mq_subscriptions.specs.Weights.{matching_weigh}
use Rattle.mq_subscriptions.proofs.BesideLaws.{beside-next}
use Rattle.mq_subscriptions.proofs.MatchingLaws.{subscriptions-next}
use Rattle.mq_subscriptions.proofs.VerdictLaws.{answered, blames}
use Rattle.mq_subscriptions.proofs.matching.Matching.take_noted.Goals as goal

pub returns-clause-agrees : goal.returns-clause-agrees
returns-clause-agrees c = λ tested past under q.
    let s = c.args.self.now in
    let n = c.take_bound.new.self in
    let e = seen c.args.at c.args.note.now in
    let on = under.follows.on_connections.0 in
    let bound = c.in_ok-take_bound.ensures.bound in (
      bound ∙ q.0,
      λ out. let was : s.bound ≡ false = sym bound ∙ out in ap matching_weigh (c.in_ok-take_bound.ensures.left was) ∙ q.1 was,
      λ judged.
          let was : s.bound ≡ true = sym bound ∙ judged in
          let kept = q.2 was in (
            subscriptions-next tested c.args.fate e past on s.subscriptions n.subscriptions (c.in_ok-take_bound.ensures.subscriptions was) kept.0,
            beside-next tested c.args.fate e past on s.sharing n.sharing s.unclear n.unclear s.refusing n.refusing (get nat_eq s.topics) (get nat_eq n.topics) (c.in_ok-take_bound.ensures.beside was) kept.1,
          ),
    )

pub returns-clause-grows : goal.returns-clause-grows
returns-clause-grows c = λ tested past under q.
    let s = c.args.self.now in
    let e = seen c.args.at c.args.note.now in
    let f = c.args.fate in
    let on = under.follows.on_connections.0 in
    c.in_ok-blame.ensures.grows (λ k r. turns_with tested f e past k r) tested (e ∷ past)
    (subst (λ (v : Verdicts). Blames (λ k r. turns_with tested f e past k r) v c.args.at c.args.decided tested (e ∷ past))
    (sym (c.judge-broken.ensures (λ topic. some_matching tested.role f (newest e past) topic)
    (answered tested f s.subscriptions s.sharing s.unclear s.refusing (get nat_eq s.topics) e past on s.bound (λ is. (q.2 is).0))))
    (blames tested f s.subscriptions s.sharing s.unclear s.refusing (get nat_eq s.topics) e past on s.bound q.0 (λ is. (q.2 is).1) c.args.decided under))

pub returns-in_err-blame-clause-memory : goal.returns-in_err-blame-clause-memory
returns-in_err-blame-clause-memory c = on_err c.from_residual-in_err-blame.result _ (λ tested past under q.
    let s = c.args.self.now in
    let e = seen c.args.at c.args.note.now in
    let f = c.args.fate in
    let on = under.follows.on_connections.0 in
    c.in_err-blame.ensures.memory (λ k r. turns_with tested f e past k r) tested (e ∷ past)
    (subst (λ (v : Verdicts). Blames (λ k r. turns_with tested f e past k r) v c.args.at c.args.decided tested (e ∷ past))
    (sym (c.judge-broken.ensures (λ topic. some_matching tested.role f (newest e past) topic)
    (answered tested f s.subscriptions s.sharing s.unclear s.refusing (get nat_eq s.topics) e past on s.bound (λ is. (q.2 is).0))))
    (blames tested f s.subscriptions s.sharing s.unclear s.refusing (get nat_eq s.topics) e past on s.bound q.0 (λ is. (q.2 is).1) c.args.decided under)))
