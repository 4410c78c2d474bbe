use Rattle.std.proofs.Common.{ap, sym, subst, ◌∙◌, ◌<◌, Some, None, length}
use Rattle.std.specs.List.{list_any}
use Rattle.std.specs.Option.{option_or}
use Rattle.std.specs.FinMap.{entries}
use Rattle.mq_rules.specs.FaultKeys.{faults_at}
use Rattle.mq_rules.specs.Words.{only}
use Rattle.mq_rules.specs.Moments.{newest}
use Rattle.mq_rules.specs.Under.{seen}
use Rattle.mq_evidence.specs.Evidence.{found, reason}
use Rattle.mq_evidence.specs.Findings.{found_at}
use Rattle.mq_evidence.specs.Trailing.{finds, is_explained}
use Rattle.mq_evidence.proofs.NextLaws.{next-stays, none-due}
use Rattle.mq_evidence.proofs.explaining.Explaining.explain.Goals as goal

pub returns-then-at-self-clause-next : goal.returns-then-at-self-clause-next
returns-then-at-self-clause-next c = λ count is next. next-stays count c.args.self.now.next c.args.self.now.wanted next

pub returns-then-at-self-clause-closed : goal.returns-then-at-self-clause-closed
returns-then-at-self-clause-closed c = λ shut tested fate past is next trail k r.
    let old = c.args.self.now in
    sym (ap (λ fs. option_or (only (list_any (is_explained (finds old.trail) k r) fs) (Some (found (reason tested.role r) (Some fate) None (newest (seen c.args.at c.args.note.now) past)))) (found_at old.findings k r))
    (ap (λ p. faults_at p (entries old.wanted)) is ∙ none-due (length past) old.next old.wanted (subst (λ p. p < old.next) is c.if-at-self.true) next))
