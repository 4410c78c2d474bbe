use Rattle.std.specs.Prelude.{true}
use Rattle.mq_choice.specs.Choices.{in_choice, wants_further}
use Rattle.mq_judge.proofs.runner.judge_covered.Given as goal

-- what had been told before
abbrev pub ghosts-cover_telling : goal.ghosts-cover_telling
ghosts-cover_telling g a = record { told = g.P.Progress.told a.progress.now; counting = true; further = wants_further (in_choice a.choice) }
