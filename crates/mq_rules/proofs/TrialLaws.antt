-- How many places a statement on a packet's bytes has.
use Rattle.std.proofs.Common.{◌≡◌, ℕ, ◌+◌, ◌≤◌, arith, Bool, true, false, ◌&&◌, cond, List, [], ◌∷◌, length}
use Rattle.mq_log.specs.Events.{Placed}
use Rattle.mq_rules.specs.declared.role.Tested.{Tested}
use Rattle.mq_rules.specs.declared.rule.Rule.{Rule}
use Rattle.mq_rules.specs.Rules.{binds}
use Rattle.mq_rules.specs.Statements.{statement}
use Rattle.mq_rules.specs.Trials.{tries_statement, places_bytes}

one_most : (here : Bool) (n : ℕ) (p : Placed) (past : List Placed) → n ≤ length past → cond here 1 0 + n ≤ length (p ∷ past)
one_most true n p past most = let more : length (p ∷ past) ≡ length past + 1 = omega arith in omega (arith, most, more)
one_most false n p past most = let more : length (p ∷ past) ≡ length past + 1 = omega arith in omega (arith, most, more)

pub bytes-most : (tested : Tested) (events : List Placed) (rule : Rule) → places_bytes tested events rule ≤ length events
unfolding places_bytes
bytes-most tested [] rule = omega arith
bytes-most tested (p ∷ past) rule = one_most (binds rule tested && tries_statement (statement tested.role rule) p.event) (places_bytes tested past rule) p past (bytes-most tested past rule)
