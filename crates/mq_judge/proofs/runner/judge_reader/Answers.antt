use Rattle.std.proofs.Common.{None}
use Rattle.std.proofs.lemmas.Result.{err_from_is_err_and}
use Rattle.mq_choice.specs.Choices.{in_choice}
use Rattle.mq_judge.proofs.RunnerLaws.{chosen-verdict, judged-lacking, judged-refused, judged-verdict}
use Rattle.mq_judge.proofs.runner.judge_reader.Goals as goal

pub returns-in_err-found : goal.returns-in_err-found
returns-in_err-found g c =
    let p = err_from_is_err_and c.from_residual.result c.from_residual.ensures.1 in
    rw (p.1, p.2) (judged-refused c.args.choice _ _ _ c.in_err-found.ensures.judges)

pub returns-in_err-verdict : goal.returns-in_err-verdict
returns-in_err-verdict g c =
    let p = err_from_is_err_and c.from_residual-in_err-verdict.result c.from_residual-in_err-verdict.ensures.1 in
    rw (p.1, p.2, c.in_err-verdict.ensures.memory.0) (judged-lacking c.args.choice _ None _ _ _ c.in_ok-found.ensures.judges c.in_err-verdict.ensures.memory.1)

pub returns : goal.returns
returns g c = judged-verdict c.args.choice _ None _ _ (chosen-verdict (in_choice c.args.choice) _ _ _ _ _ _ c.in_ok-found.ensures.judges c.in_ok-verdict.ensures.events c.in_ok-verdict.ensures.faults)
