use Rattle.std.proofs.Common.{◌+◌, ◌<◌, ◌^◌, length}
use Rattle.mq_props.proofs.Loop.{Goes}
use Rattle.mq_props.proofs.list.facts_of.Given as goal

abbrev pub invariant-loop-rest : goal.invariant-loop-rest
invariant-loop-rest l = Goes l.place (record { at = l.at; rest = l.bytes }) (record { at = l.start; rest = l.rest }) l.facts × (l.start + length l.rest < 2 ^ 63)

abbrev pub decreases-loop-rest : goal.decreases-loop-rest
decreases-loop-rest l = length l.rest
