use Rattle.std.proofs.Common.{◌≡◌}
use Rattle.std.specs.FinMap as map
use Rattle.mq_rules.specs.FaultKeys.{faults_at}
use Rattle.mq_display.specs.Views.{reasons_past}
use Rattle.mq_display.proofs.display.annotated.pass.Given as goal

abbrev pub invariant-loop-key : goal.invariant-loop-key
invariant-loop-key l = reasons_past l._key-iterator l.left ≡ reasons_past (faults_at l.position (map.entries l.faults)) l.reasons
