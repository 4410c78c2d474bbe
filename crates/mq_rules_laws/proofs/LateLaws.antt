-- Statements that look at the past alone are judged as soon as their event is there.
use Rattle.std.proofs.Common.{◌≡◌, Bool, ◌&&◌, List, ap, ◌∙◌}
use Rattle.mq_packet.specs.declared.rule.PacketRule.{PacketRule}
use Rattle.mq_rules.specs.declared.role.Tested.{Tested}
use Rattle.mq_rules.specs.declared.rule.Rule.{Rule}
use Rattle.mq_rules.specs.declared.note.Seen.{Seen}
use Rattle.mq_rules.specs.Moments.{Moment, newest, is_next}
use Rattle.mq_rules.specs.Rules.{binds}
use Rattle.mq_rules.specs.Statements.{on_bytes, on_past, statement, breaks_bytes}
use Rattle.mq_rules.specs.Steps.{shows, turns, JudgedAtOnce}
use Rattle.mq_rules.proofs.Exports.{and-past}

-- ---- what looks at the past alone

-- a statement on a packet's bytes, and one on the past of a connection
pub bytes-turns : (tested : Tested) (rule : Rule) (bytes : PacketRule) (e : Seen) (past : List Seen) → statement tested.role rule ≡ on_bytes bytes
    → JudgedAtOnce tested rule e past (binds rule tested && breaks_bytes bytes (newest e past))
unfolding turns
bytes-turns tested rule bytes e past is = λ k.
    ap (λ s. binds rule tested && shows tested.role s e past k) is ∙ and-past (binds rule tested) (is_next past k) (breaks_bytes bytes (newest e past))

pub past-turns : (tested : Tested) (rule : Rule) (breaks : Moment → Bool) (e : Seen) (past : List Seen) → statement tested.role rule ≡ on_past breaks
    → JudgedAtOnce tested rule e past (binds rule tested && breaks (newest e past))
unfolding turns
past-turns tested rule breaks e past is = λ k.
    ap (λ s. binds rule tested && shows tested.role s e past k) is ∙ and-past (binds rule tested) (is_next past k) (breaks (newest e past))
