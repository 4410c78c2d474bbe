use Rattle.std.proofs.Common.{IfSome, subst}
use Rattle.mq_judge.specs.declared.Form.{Form}
use Rattle.mq_judge.specs.Runner.{IsFaultless}
use Rattle.mq_report.specs.Stopping.{IsJudged}
use Rattle.std.specs.Io.KnownBytes.{Appends}
use Rattle.mq_tasks.specs.Choosing.{chosen_as}
use Rattle.mq_tasks.specs.Messages.{StopsCheck, form_of, report_for}
use Rattle.mq_tasks.proofs.MessageLaws.{by_choice, check_fails, check_misused}
use Rattle.mq_tasks.proofs.tasks.check_chosen.Goals as goal

pub returns-in-Ok-check-clause-passed : goal.returns-in-Ok-check-clause-passed
returns-in-Ok-check-clause-passed g c = λ is.
    by_choice c.args.scope c.args.statements.now (chosen_as c.in-Ok.choice) (λ choice. IfSome (g.R.Read.remaining c.args.input.now) (λ log. IsJudged log × IsFaultless choice.has log))
    c.in-Ok.ensures.ok (c.in-Ok-check.ensures.passed is)

pub returns-in-Ok-check-clause-faulty : goal.returns-in-Ok-check-clause-faulty
returns-in-Ok-check-clause-faulty g c = λ is.
    by_choice c.args.scope c.args.statements.now (chosen_as c.in-Ok.choice) (λ choice. IfSome (g.R.Read.remaining c.args.input.now) (λ log. IsJudged log × (¬ IsFaultless choice.has log)))
    c.in-Ok.ensures.ok (c.in-Ok-check.ensures.faulty is)

pub returns-in-Ok-check-clause-reported : goal.returns-in-Ok-check-clause-reported
returns-in-Ok-check-clause-reported g c = λ is.
    let old = g.W.Write.contents c.args.output.now in
    let new = g.W.Write.contents c.check.new.output in
    let P : Form → Type 0 = λ form. IfSome (g.R.Read.remaining c.args.input.now) (λ log. Appends old new (report_for (chosen_as c.in-Ok.choice) form c.args.coverage log)) in
    by_choice c.args.scope c.args.statements.now (chosen_as c.in-Ok.choice)
    (λ choice. IfSome (g.R.Read.remaining c.args.input.now) (λ log. Appends old new (report_for choice (form_of c.args.form) c.args.coverage log)))
    c.in-Ok.ensures.ok (subst P c.form_of.ensures (c.in-Ok-check.ensures.reported is))

pub returns-in-Err-check-clause-stops : goal.returns-in-Err-check-clause-stops
returns-in-Err-check-clause-stops g c = λ file.
    let left = g.R.Read.remaining c.check.new.input in
    let old = g.W.Write.contents c.args.output.now in
    let new = g.W.Write.contents c.check.new.output in
    let P : Form → Type 0 = λ form. IfSome (g.R.Read.remaining c.args.input.now)
    (λ log. StopsCheck (chosen_as c.in-Ok.choice) form c.args.coverage c.in-Err-check.failure log left old new) in
    check_fails file c.args.form c.args.coverage c.args.scope c.args.statements.now (chosen_as c.in-Ok.choice) c.in-Err-check.failure (g.R.Read.remaining c.args.input.now)
    left old new c.in-Ok.ensures.ok (subst P c.form_of.ensures c.in-Err-check.ensures.stops)

pub returns-in-Err-clause-stops : goal.returns-in-Err-clause-stops
returns-in-Err-clause-stops g c = λ file.
    check_misused file c.args.form c.args.coverage c.args.scope c.args.statements.now c.in-Err.misuse (g.R.Read.remaining c.args.input.now) (g.R.Read.remaining c.args.input.now)
    (g.W.Write.contents c.args.output.now) c.in-Err.ensures.err
