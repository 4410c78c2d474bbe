use Rattle.std.specs.Prelude.{false}
use Rattle.mq_choice.specs.Choices.{in_choice, wants_further}
use Rattle.mq_judge.proofs.runner.judge_bounded.Given as goal

-- what had been told before
abbrev pub ghosts-judge_telling : goal.ghosts-judge_telling
ghosts-judge_telling g a = record { told = g.P.Progress.told a.progress.now; counting = false; further = wants_further (in_choice a.choice) }
