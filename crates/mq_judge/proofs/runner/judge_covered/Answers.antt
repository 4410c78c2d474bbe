use Rattle.std.proofs.Common.{refl}
use Rattle.mq_judge.proofs.runner.judge_covered.Goals as goal

pub cover_telling-requires : goal.cover_telling-requires
cover_telling-requires g c = record { told = λ before was. was; counting = refl; further = refl }
