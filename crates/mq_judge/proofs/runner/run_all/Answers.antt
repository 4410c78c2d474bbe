use Rattle.std.proofs.Common.{None, Ok}
use Rattle.std.proofs.lemmas.Result.{err_from_is_err_and}
use Rattle.mq_choice.specs.Choices.{in_choice, wants_further}
use Rattle.mq_judge.proofs.RunnerLaws.{chosen-verdict, run-lacks-verdict, run-reports, run-stops-writing}
use Rattle.mq_judge.proofs.TellingLaws.{told-refusal, told-verdict}
use Rattle.mq_judge.proofs.runner.run_all.Goals as goal

pub returns-in_err-found-clause-told : goal.returns-in_err-found-clause-told
returns-in_err-found-clause-told g c =
    let p = err_from_is_err_and c.from_residual.result c.from_residual.ensures.1 in
    let told = g.P.Progress.told in
    rw (p.1, p.2) (told-refusal (wants_further (in_choice c.args.choice)) _ (told c.args.progress.now) (told c.judge_bounded-judged.new.progress) (told c.end.new.self) c.end.ensures c.in_err-found.ensures.told)

pub returns-in_err-verdict-clause-runs : goal.returns-in_err-verdict-clause-runs
returns-in_err-verdict-clause-runs g c =
    let p = err_from_is_err_and c.from_residual-in_err-verdict.result c.from_residual-in_err-verdict.ensures.1 in
    rw (p.1, p.2, c.in_err-verdict.ensures.memory.0) (run-lacks-verdict c.args.choice _ None c.args.form _ _ _ _ c.in_ok-found.ensures.judges c.in_err-verdict.ensures.memory.1)

pub returns-in_err-verdict-clause-told : goal.returns-in_err-verdict-clause-told
returns-in_err-verdict-clause-told g c =
    let told = g.P.Progress.told in
    told-verdict (wants_further (in_choice c.args.choice)) _ _ (told c.args.progress.now) (told c.judge_bounded-judged.new.progress) (told c.end.new.self) c.end.ensures c.in_ok-found.ensures.told

pub returns-in_err-write_report-clause-runs : goal.returns-in_err-write_report-clause-runs
returns-in_err-write_report-clause-runs g c =
    let p = err_from_is_err_and c.from_residual-in_err-write_report.result c.from_residual-in_err-write_report.ensures.1 in
    rw (p.1, p.2) (run-stops-writing c.args.choice _ _ c.args.form _ _ _ _ _ _
    (chosen-verdict (in_choice c.args.choice) _ _ _ _ _ _ c.in_ok-found.ensures.judges c.in_ok-verdict.ensures.events c.in_ok-verdict.ensures.faults) c.in_err-write_report.ensures.err)

pub returns-in_err-write_report-clause-told : goal.returns-in_err-write_report-clause-told
returns-in_err-write_report-clause-told g c =
    let told = g.P.Progress.told in
    told-verdict (wants_further (in_choice c.args.choice)) _ _ (told c.args.progress.now) (told c.judge_bounded-judged.new.progress) (told c.end.new.self) c.end.ensures c.in_ok-found.ensures.told

pub returns-clause-runs : goal.returns-clause-runs
returns-clause-runs g c = run-reports c.args.choice _ None c.args.form _ _ _ _ _ _
    (chosen-verdict (in_choice c.args.choice) _ _ _ _ _ _ c.in_ok-found.ensures.judges c.in_ok-verdict.ensures.events c.in_ok-verdict.ensures.faults) c.in_ok-write_report.ensures.ok c.outcome.ensures

pub returns-clause-told : goal.returns-clause-told
returns-clause-told g c =
    let told = g.P.Progress.told in
    told-verdict (wants_further (in_choice c.args.choice)) (Ok c.outcome.result) _ (told c.args.progress.now) (told c.judge_bounded-judged.new.progress) (told c.end.new.self) c.end.ensures c.in_ok-found.ensures.told
