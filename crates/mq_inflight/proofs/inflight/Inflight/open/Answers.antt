use Rattle.std.proofs.Common.{◌≡◌, ◌||◌, nat_eq, Some, None, refl, ap, sym, ◌∙◌}
use Rattle.mq_rules.specs.KeptOrder.{value_under}
use Rattle.mq_rules.specs.declared.rule.Rule.TheVariants.{S01}
use Rattle.mq_rules.specs.Words.{is_some_and}
use Rattle.mq_rules.specs.Under.{seen}
use Rattle.mq_fates.specs.Judgements.{judged_by}
use Rattle.mq_inflight.specs.Resending.{passed_since}
use Rattle.mq_inflight.specs.Using.{is_taken}
use Rattle.mq_inflight.proofs.MovingLaws.{moved-step}
use Rattle.mq_inflight.proofs.inflight.Inflight.open.Goals as goal

pub returns-clause-ok : goal.returns-clause-ok
returns-clause-ok c = λ accepted n tested taken past moves follows known u.
    let s = c.args.self.now in
    let t = c.shift.new.self in
    let old = c.in_ok-old.old in
    let others = c.in_ok-old.ensures.moved.others in
    let held : c.is_busy-busy.result ≡ is_some_and (is_taken (passed_since s.fate s.bounds s.opened s.bounded)) (value_under s.entries c.args.i) =
    c.is_busy-busy.ensures
    ∙ ap (λ f. is_some_and (is_taken (passed_since f t.bounds t.opened t.bounded)) old) others.fate
    ∙ ap (λ b. is_some_and (is_taken (passed_since s.fate b t.opened t.bounded)) old) others.bounds
    ∙ ap (λ p. is_some_and (is_taken (passed_since s.fate s.bounds p t.bounded)) old) others.opened
    ∙ ap (λ p. is_some_and (is_taken (passed_since s.fate s.bounds s.opened p)) old) others.bounded
    ∙ ap (is_some_and (is_taken (passed_since s.fate s.bounds s.opened s.bounded))) (c.in_ok-old.ensures.old c.args.i refl refl refl refl) in
    moved-step tested s t taken (seen c.args.at n) past c.args.faults.now c.judge_by.new.faults (Some c.args.i) c.args.exactly_once None None None follows known u moves accepted c.in_ok-old.ensures.moved
    (c.in_ok-judge_by.ensures.ok ∙ ap (λ b. judged_by b S01 c.args.at c.args.at.position c.args.faults.now)
    (c.either.ensures ∙ ap (λ b. b || c.is_awaited-awaited.result) held ∙ ap (λ b. is_some_and (is_taken (passed_since s.fate s.bounds s.opened s.bounded)) (value_under s.entries c.args.i) || b) c.is_awaited-awaited.ensures))
