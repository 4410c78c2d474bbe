use Rattle.std.proofs.Common.{ap, sym, subst, ◌∙◌, Some, None}
use Rattle.std.specs.Prelude.{is_some, IfSome}
use Rattle.mq_rules.specs.declared.rule.Rule.TheVariants.{B01}
use Rattle.mq_rules.specs.Words.{only}
use Rattle.mq_rules.specs.Moments.{newest}
use Rattle.mq_evidence.specs.Evidence.{found, reason}
use Rattle.mq_evidence.specs.Stretches.{stretches}
use Rattle.mq_evidence.specs.Subscriptions.{IsSubscriptions}
use Rattle.mq_evidence.proofs.trail.SessionTrail.of_unasked.Goals as goal

pub returns-in-Some : goal.returns-in-Some
returns-in-Some c = λ tested e fate past trail.
    let kept : IsSubscriptions c.in-Some.subscriptions past (stretches tested.role (Some fate) past) = subst (λ o. IfSome o (λ x. IsSubscriptions x past (stretches tested.role (Some fate) past))) c.in-Some.is trail.subscriptions_are in
    ap (λ x. Some x) (c.of_unasked.ensures tested.role fate (newest e past) kept)
    ∙ sym (ap (λ o. only (is_some o) (Some (found (reason tested.role B01) (Some fate) None (newest e past)))) c.in-Some.is)
