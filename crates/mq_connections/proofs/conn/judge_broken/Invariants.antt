use Rattle.std.proofs.Common.{take}
use Rattle.mq_rules.specs.Growing.{Judges}
use Rattle.mq_connections.specs.Finding.{is_among}
use Rattle.mq_connections.proofs.conn.judge_broken.Given as goal

-- the statements so far have been judged
abbrev pub invariant-loop-rule : goal.invariant-loop-rule
invariant-loop-rule l = Judges (is_among (take l.rule-index l.verdicts)) l.place l.initial.faults l.faults
