use Rattle.std.proofs.Common.{◌≡◌, ◌++◌, true, List, drop, map}
use Rattle.mq_log.specs.Events.{Placed}
use Rattle.mq_rules.specs.Notes.{seen}
use Rattle.mq_watchers.specs.Kinds.{is_counting}
use Rattle.mq_choice.specs.Choices.{in_choice}
use Rattle.mq_judge.specs.Watching.{IsTallying, IsWatching}
use Rattle.mq_judge.specs.Coverage.{rows_among}
use Rattle.mq_judge.proofs.coverage.rows_of.Given as goal

abbrev pub invariant-loop-rule : goal.invariant-loop-rule
invariant-loop-rule l =
    (received : List Placed) → is_counting l.watching.watchers ≡ true → IsWatching l.watching (map seen received) → IsTallying l.watching received
    → l.rows.items ++ rows_among (in_choice l.choice) l.watching.tested received (drop l.rule-index l.rules) ≡ rows_among (in_choice l.choice) l.watching.tested received l.rules
