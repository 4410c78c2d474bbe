use Rattle.std.proofs.Common.{refl}
use Rattle.mq_judge.proofs.runner.judge_bounded.Goals as goal

pub judge_telling-requires : goal.judge_telling-requires
judge_telling-requires g c = record { told = λ before was. was; counting = refl; further = refl }
