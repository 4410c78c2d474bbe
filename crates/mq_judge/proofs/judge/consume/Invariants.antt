use Rattle.mq_watchers.specs.Kinds.{is_counting}
use Rattle.mq_judge.proofs.judge.consume.Given as goal

-- the end that is judged
abbrev pub ghosts-take_events : goal.ghosts-take_events
ghosts-take_events a = record { tested = a.judging.now.watching.tested; counting = is_counting a.judging.now.watching.watchers }
