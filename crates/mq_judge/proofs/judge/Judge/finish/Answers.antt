use Rattle.std.proofs.lemmas.Result.{err_from_is_err_and}
use Rattle.mq_judge.proofs.judge.Judge.finish.Goals as goal

pub returns-in_err-verdict-clause-verdict : goal.returns-in_err-verdict-clause-verdict
returns-in_err-verdict-clause-verdict c = λ log k.
    let p = err_from_is_err_and c.from_residual.result c.from_residual.ensures.1 in
    rw (p.1, p.2) (c.in_err-verdict.ensures.verdict log k)
