use Rattle.mq_tasks.proofs.MessageLaws.{ran_with}
use Rattle.mq_tasks.proofs.tasks.run_for.Goals as goal

pub returns-then-coverage-clause-runs : goal.returns-then-coverage-clause-runs
returns-then-coverage-clause-runs g c =
    ran_with c.args.choice c.args.form c.args.coverage (g.R.Read.remaining c.args.input.now) (g.R.Read.remaining c.run_covered.new.reader)
    (g.W.Write.contents c.args.output.now) (g.W.Write.contents c.run_covered.new.writer) c.run_covered.result c.if-coverage.true c.run_covered.ensures.runs
