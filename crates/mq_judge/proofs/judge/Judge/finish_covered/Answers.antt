use Rattle.mq_judge.proofs.CoverageLaws.{whole-long}
use Rattle.mq_judge.proofs.judge.Judge.finish_covered.Goals as goal

pub returns-clause-rows : goal.returns-clause-rows
returns-clause-rows c = λ log counts same k. c.coverage-rows.ensures log counts same k (whole-long log (c.in_ok-verdict.ensures.verdict log k).0)

pub returns-clause-gaps : goal.returns-clause-gaps
returns-clause-gaps c = λ log counts k. c.gaps-gaps.ensures log counts k (whole-long log (c.in_ok-verdict.ensures.verdict log k).0)
