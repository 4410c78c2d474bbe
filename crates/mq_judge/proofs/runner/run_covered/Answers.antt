use Rattle.std.specs.Prelude.{IfSome}
use Rattle.std.proofs.Common.{◌≡◌, List, None, Ok, Err, subst, sym}
use Rattle.std.proofs.lemmas.Result.{err_from_is_err_and}
use Rattle.mq_report.specs.declared.report.RunFault.TheVariants as run_faults
use Rattle.mq_report.specs.declared.report.coverage.Covered.{Covered}
use Rattle.mq_report.specs.declared.report.unjudged.Gap.{Gap}
use Rattle.mq_judge.specs.Coverage.{coverage_of}
use Rattle.mq_judge.specs.Unjudged.{unjudged_of}
use Rattle.mq_choice.specs.Choices.{in_choice, wants_further}
use Rattle.mq_judge.proofs.RunnerLaws.{chosen-verdict, lists-known, rows-known, run-covers, run-lacks-rows, run-stops-covering}
use Rattle.mq_judge.proofs.TellingLaws.{told-refusal, told-verdict}
use Rattle.mq_judge.proofs.runner.run_covered.Goals as goal

pub returns-in_err-covered-clause-told : goal.returns-in_err-covered-clause-told
returns-in_err-covered-clause-told g c =
    let p = err_from_is_err_and c.from_residual.result c.from_residual.ensures.1 in
    let told = g.P.Progress.told in
    rw (p.1, p.2) (told-refusal (wants_further (in_choice c.args.choice)) _ (told c.args.progress.now) (told c.judge_covered-judged.new.progress) (told c.end.new.self) c.end.ensures c.in_err-covered.ensures.told)

pub returns-in_default-clause-runs : goal.returns-in_default-clause-runs
returns-in_default-clause-runs g c =
    run-lacks-rows (in_choice c.args.choice) _ (g.R.Read.remaining c.judge_covered-judged.new.reader) c.args.form (g.W.Write.contents c.args.writer.now) _ _ _ c.in_ok-covered.ensures.judges

pub returns-in_default-clause-told : goal.returns-in_default-clause-told
returns-in_default-clause-told g c =
    let told = g.P.Progress.told in
    told-verdict (wants_further (in_choice c.args.choice)) (Err run_faults.Memory) _ (told c.args.progress.now) (told c.judge_covered-judged.new.progress) (told c.end.new.self) c.end.ensures c.in_ok-covered.ensures.told

pub returns-in_err-verdict-clause-runs : goal.returns-in_err-verdict-clause-runs
returns-in_err-verdict-clause-runs g c =
    let p = err_from_is_err_and c.from_residual-in_err-verdict.result c.from_residual-in_err-verdict.ensures.1 in
    rw (p.1, p.2, c.in_err-verdict.ensures.memory.0)
    (run-lacks-rows (in_choice c.args.choice) _ (g.R.Read.remaining c.judge_covered-judged.new.reader) c.args.form (g.W.Write.contents c.args.writer.now) _ _ _ c.in_ok-covered.ensures.judges)

pub returns-in_err-verdict-clause-told : goal.returns-in_err-verdict-clause-told
returns-in_err-verdict-clause-told g c =
    let told = g.P.Progress.told in
    told-verdict (wants_further (in_choice c.args.choice)) _ _ (told c.args.progress.now) (told c.judge_covered-judged.new.progress) (told c.end.new.self) c.end.ensures c.in_ok-covered.ensures.told

pub returns-in_err-write_covered_report-clause-runs : goal.returns-in_err-write_covered_report-clause-runs
returns-in_err-write_covered_report-clause-runs g c =
    let p = err_from_is_err_and c.from_residual-in_err-write_covered_report.result c.from_residual-in_err-write_covered_report.ensures.1 in
    rw (p.1, p.2) (run-stops-covering (in_choice c.args.choice) _ _ c.args.form _ _ _ _ _ _ _ _
    (chosen-verdict (in_choice c.args.choice) _ _ _ _ _ _ c.in_ok-covered.ensures.judges c.in_ok-verdict.ensures.events c.in_ok-verdict.ensures.faults)
    (lists-known (in_choice c.args.choice) _ _ _
    (subst (λ (rows : List Covered). IfSome (g.R.Read.remaining c.args.reader.now) (λ log. rows ≡ coverage_of (in_choice c.args.choice) log)) (sym c.deref.ensures.value) (rows-known _ _ _ _ c.in-Some.is c.in_ok-covered.ensures.rows))
    (subst (λ (gaps : List Gap). IfSome (g.R.Read.remaining c.args.reader.now) (λ log. gaps ≡ unjudged_of (wants_further (in_choice c.args.choice)) log)) (sym c.deref-2.ensures.value) (rows-known _ _ _ _ c.in-Some-gaps.is c.in_ok-covered.ensures.gaps))) c.in_err-write_covered_report.ensures.err)

pub returns-in_err-write_covered_report-clause-told : goal.returns-in_err-write_covered_report-clause-told
returns-in_err-write_covered_report-clause-told g c =
    let told = g.P.Progress.told in
    told-verdict (wants_further (in_choice c.args.choice)) _ _ (told c.args.progress.now) (told c.judge_covered-judged.new.progress) (told c.end.new.self) c.end.ensures c.in_ok-covered.ensures.told

pub returns-clause-runs : goal.returns-clause-runs
returns-clause-runs g c = run-covers (in_choice c.args.choice) _ None c.args.form _ _ _ _ _ _ _ _
    (chosen-verdict (in_choice c.args.choice) _ _ _ _ _ _ c.in_ok-covered.ensures.judges c.in_ok-verdict.ensures.events c.in_ok-verdict.ensures.faults)
    (lists-known (in_choice c.args.choice) _ _ _
    (subst (λ (rows : List Covered). IfSome (g.R.Read.remaining c.args.reader.now) (λ log. rows ≡ coverage_of (in_choice c.args.choice) log)) (sym c.deref.ensures.value) (rows-known _ _ _ _ c.in-Some.is c.in_ok-covered.ensures.rows))
    (subst (λ (gaps : List Gap). IfSome (g.R.Read.remaining c.args.reader.now) (λ log. gaps ≡ unjudged_of (wants_further (in_choice c.args.choice)) log)) (sym c.deref-2.ensures.value) (rows-known _ _ _ _ c.in-Some-gaps.is c.in_ok-covered.ensures.gaps))) c.in_ok-write_covered_report.ensures.ok c.outcome.ensures

pub returns-clause-told : goal.returns-clause-told
returns-clause-told g c =
    let told = g.P.Progress.told in
    told-verdict (wants_further (in_choice c.args.choice)) (Ok c.outcome.result) _ (told c.args.progress.now) (told c.judge_covered-judged.new.progress) (told c.end.new.self) c.end.ensures c.in_ok-covered.ensures.told
