use Rattle.std.proofs.Common.{sym, ◌∙◌, ap, subst, List}
use Rattle.std.specs.List.{find}
use Rattle.std.specs.List.Sorted.{IsNonDecreasingBy}
use Rattle.mq_evidence.specs.declared.overtaking.Resend.{Resend}
use Rattle.mq_evidence.specs.Overtaking.{is_later}
use Rattle.mq_evidence.proofs.OvertakingLaws.{no-evidence, evidence-opened}
use Rattle.mq_evidence.proofs.overtaking.Overtaking.evidence.Goals as goal

pub returns-in_default : goal.returns-in_default
returns-in_default c = λ role f i k kept own. no-evidence role f i k (sym c.in_default.is ∙ own)

pub returns : goal.returns
returns c = λ role f i k kept own.
    c.evidence_by.ensures
    ∙ evidence-opened c.args.self.now role f i k c.in-Some.opened c.first_after.result kept (sym c.in-Some.is ∙ own)
    (c.first_after.ensures (subst (λ (xs : List Resend). IsNonDecreasingBy (λ (r : Resend). r.opened) xs) (sym c.as_slice.ensures.value) kept.rising) ∙ ap (find (is_later c.in-Some.opened)) c.as_slice.ensures.value)
