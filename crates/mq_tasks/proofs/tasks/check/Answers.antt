use Rattle.std.proofs.Common.{ap, Err}
use Rattle.mq_tasks.specs.Choosing.{chosen_as}
use Rattle.mq_tasks.proofs.MessageLaws.{passed_for, refusal_is_printed, refusal_stops, report_stops, run_lacks, run_stops}
use Rattle.mq_tasks.proofs.tasks.check.Goals as goal

pub returns-in-Ok-Pass-clause-passed : goal.returns-in-Ok-Pass-clause-passed
returns-in-Ok-Pass-clause-passed g c =
    passed_for (chosen_as c.args.choice) c.args.form c.args.coverage (g.R.Read.remaining c.args.input.now) (g.R.Read.remaining c.run_for.new.input) (g.W.Write.contents c.args.output.now) (g.W.Write.contents c.run_for.new.output)
    c.see_out.result (rw c.in-Ok-Pass.field-0-is at c.in-Ok-Pass.ensures.runs)

pub returns-in-Ok-Pass-clause-stops : goal.returns-in-Ok-Pass-clause-stops
returns-in-Ok-Pass-clause-stops g c =
    report_stops (chosen_as c.args.choice) c.args.form c.args.coverage _ _ _ _ _ _ c.see_out.result c.in-Ok-Pass.ensures.runs c.see_out.ensures.kept c.see_out.ensures.failed

pub returns-in-Ok-Fail-clause-stops : goal.returns-in-Ok-Fail-clause-stops
returns-in-Ok-Fail-clause-stops g c =
    report_stops (chosen_as c.args.choice) c.args.form c.args.coverage _ _ _ _ _ _ c.see_out-in-Ok-Fail.result c.in-Ok-Fail.ensures.runs c.see_out-in-Ok-Fail.ensures.kept c.see_out-in-Ok-Fail.ensures.failed

pub returns-in-Err-Refused-clause-refused : goal.returns-in-Err-Refused-clause-refused
returns-in-Err-Refused-clause-refused g c =
    let named = c.in-Err-Refused.field-0-is in
    refusal_is_printed (chosen_as c.args.choice) c.args.form c.args.coverage _ _ _ _ _ c.in-Err-Refused.refusal c.refuse.result (rw named at c.in-Err-Refused.ensures.runs)
    (ap g.W.Write.contents (c.in-Err-Refused.ensures.unwritten _ (ap Err named))) c.refuse.ensures.own c.refuse.ensures.written

pub returns-in-Err-Refused-clause-stops : goal.returns-in-Err-Refused-clause-stops
returns-in-Err-Refused-clause-stops g c =
    let named = c.in-Err-Refused.field-0-is in
    refusal_stops (chosen_as c.args.choice) c.args.form c.args.coverage _ _ _ _ _ c.in-Err-Refused.refusal c.refuse.result (rw named at c.in-Err-Refused.ensures.runs)
    (ap g.W.Write.contents (c.in-Err-Refused.ensures.unwritten _ (ap Err named))) c.refuse.ensures.failed c.refuse.ensures.begun

pub returns-in-Err-Write-clause-stops : goal.returns-in-Err-Write-clause-stops
returns-in-Err-Write-clause-stops g c = run_stops (chosen_as c.args.choice) c.args.form c.args.coverage _ (g.R.Read.remaining c.run_for.new.input) _ _ (rw c.in-Err-Write.field-0-is at c.in-Err-Write.ensures.runs)

pub returns-in-Err-Memory-clause-stops : goal.returns-in-Err-Memory-clause-stops
returns-in-Err-Memory-clause-stops g c = run_lacks (chosen_as c.args.choice) c.args.form c.args.coverage _ (g.R.Read.remaining c.run_for.new.input) _ _ (rw c.in-Err-Memory.field-0-is at c.in-Err-Memory.ensures.runs)
