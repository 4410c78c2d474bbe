use Rattle.mq_judge.proofs.judge.Judge.known.Goals as goal

pub returns : goal.returns
returns c = λ taken knows. knows.faults
