use Rattle.std.proofs.Common.{ap, sym, refl, subst, ◌∙◌, Some, None}
use Rattle.std.specs.Prelude.{is_some, IfSome}
use Rattle.mq_rules.specs.Words.{only}
use Rattle.mq_rules.specs.Moments.{newest}
use Rattle.mq_rules.specs.Under.{seen}
use Rattle.mq_evidence.specs.Evidence.{found, by_matching}
use Rattle.mq_evidence.specs.Stretches.{stretches}
use Rattle.mq_evidence.specs.Matching.{IsMatching}
use Rattle.mq_evidence.proofs.trail.SessionTrail.of_delivering.Goals as goal

pub returns-in-Some : goal.returns-in-Some
returns-in-Some c = λ tested at fate past trail.
    let k = newest (seen at c.args.note.now) past in
    let kept : IsMatching c.in-Some.matching (stretches tested.role (Some fate) past) = subst (λ o. IfSome o (λ x. IsMatching x (stretches tested.role (Some fate) past))) c.in-Some.is trail.matching_are in
    ap (λ x. Some x) (c.of_delivering.ensures tested.role fate k kept refl)
    ∙ sym (ap (λ o. only (is_some o) (Some (found (by_matching tested.role) (Some fate) None k))) c.in-Some.is)
