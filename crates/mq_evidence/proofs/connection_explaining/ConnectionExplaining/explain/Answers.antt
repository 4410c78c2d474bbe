use Rattle.std.proofs.Common.{ap, sym, subst, ◌∙◌, ◌<◌, Some, None, length}
use Rattle.std.specs.List.{list_any}
use Rattle.std.specs.Option.{option_or}
use Rattle.std.specs.FinMap.{entries}
use Rattle.mq_rules.specs.FaultKeys.{faults_at}
use Rattle.mq_rules.specs.Words.{only}
use Rattle.mq_rules.specs.Moments.{newest}
use Rattle.mq_rules.specs.Under.{seen}
use Rattle.mq_evidence.specs.Evidence.{found, reason}
use Rattle.mq_evidence.specs.Findings.{found_at}
use Rattle.mq_evidence.specs.Trailing.{is_explained, IsNext}
use Rattle.mq_evidence.specs.ConnectionTrails.{is_on_connection}
use Rattle.mq_evidence.proofs.NextLaws.{next-stays, none-due}
use Rattle.mq_evidence.proofs.connection_explaining.ConnectionExplaining.explain.Goals as goal

pub returns-then-at-self-clause-next : goal.returns-then-at-self-clause-next
returns-then-at-self-clause-next c = λ count is next. next-stays count c.args.self.now.next c.args.self.now.wanted next

pub returns-then-at-self-clause-explains : goal.returns-then-at-self-clause-explains
returns-then-at-self-clause-explains c = λ tested past is next trail k r.
    let old = c.args.self.now in
    sym (ap (λ fs. option_or (only (list_any (is_explained (is_on_connection tested.role) k r) fs) (Some (found (reason tested.role r) None None (newest (seen c.args.at c.args.note.now) past)))) (found_at old.findings k r))
    (ap (λ p. faults_at p (entries old.wanted)) is ∙ none-due (length past) old.next old.wanted (subst (λ p. p < old.next) is c.if-at-self.true) next))

pub returns-clause-next : goal.returns-clause-next
returns-clause-next c = λ count is next. subst (IsNext c.explain_due.new.self.wanted c.explain_due.new.self.next) is c.in_ok-explain_due.ensures.next
