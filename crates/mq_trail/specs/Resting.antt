-- The CONNACKs of the RESTs that show faults of S06.
use Rattle.std.specs.Prelude.{ℕ, ◌≡◌, ◌≤◌, true, List, length, Option, is_some, option_map, nat_eq}
use Rattle.std.specs.Option.{option_and_then}
use Rattle.std.specs.List.{list_any}
use Rattle.std.specs.FinMap.{entries}
use Rattle.indexmap.specs.IndexMap.{get}
use Rattle.mq_rules.specs.declared.role.Role.{Role}
use Rattle.mq_rules.specs.declared.note.Seen.{Seen}
use Rattle.mq_rules.specs.FaultKeys.{FaultMap}
use Rattle.mq_rules.specs.Moments.{position, moment}
use Rattle.mq_evidence.specs.declared.rests.Rests.{Rests}
use Rattle.mq_evidence.specs.Rests.{shows_at, connack_of}
use Rattle.mq_evidence.specs.Evidence.{connack_at}

-- the position of the CONNACK on the connection of the event at a position, if it came before that
abbrev pub connack_before_at : Role → List Seen → ℕ → Option ℕ
connack_before_at role past p = option_and_then (λ t. option_map position (connack_at role t)) (moment past p)

-- The positions that are kept are those that show a fault of S06 among these; for each that is among these events, its connection's CONNACK is kept. Positions begin at 1.
pub record IsResting (r : Rests) (wanted : FaultMap) (role : Role) (past : List Seen) : Type 0 where
  pub kept : (p : ℕ) → is_some (get nat_eq r.connacks p) ≡ list_any (shows_at p) (entries wanted)
  pub connacks_are : (p : ℕ) → 1 ≤ p → p ≤ length past → is_some (get nat_eq r.connacks p) ≡ true → connack_of (get nat_eq r.connacks p) ≡ connack_before_at role past p
