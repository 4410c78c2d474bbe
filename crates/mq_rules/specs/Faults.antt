-- The failing pairs of a log, each with where it was decided.
use Rattle.std.specs.Prelude.{ℕ, ◌≡◌, ◌⊎◌, ◌+◌, cond, Bool, List, [], ◌∷◌, length, Option, Some, None, option_map}
use Rattle.std.specs.Option.{option_and_then, option_or}
use Rattle.std.specs.List.{flat_map, filter_map, range_with_len}
use Rattle.mq_rules.specs.declared.role.Role.{Role}
use Rattle.mq_rules.specs.declared.role.Tested.{Tested}
use Rattle.mq_rules.specs.declared.rule.Rule.{Rule}
use Rattle.mq_rules.specs.declared.note.Seen.{Seen}
use Rattle.mq_rules.specs.declared.fault.Fault.{Fault}
use Rattle.mq_rules.specs.declared.faults.FaultKey.{FaultKey}
use Rattle.mq_rules.specs.Notes.{sent_fault}
use Rattle.mq_rules.specs.Moments.{Moment, note, moment}
use Rattle.mq_rules.specs.Rules.{all_rules}
use Rattle.mq_rules.specs.Statements.{Statement, on_bytes, on_past, in_session, at_release, at_rest, by_later, statement, fails}
use Rattle.mq_rules.specs.FaultKeys.{FaultMap, fault_at}

-- the length of the shortest beginning of the log in which the statement fails at position k
abbrev pub decided : Tested → List Seen → ℕ → Rule → Option ℕ
decided tested [] k rule = None
decided tested (e ∷ past) k rule = option_or (decided tested past k rule) (cond (fails tested (e ∷ past) k rule) (Some (length past + 1)) None)

-- the record of a moment's event
abbrev pub record_of : Option Moment → ℕ
record_of None = 0
record_of (Some m) = m.event.place.record_no

-- for a statement on a packet's bytes, where in the packet it is broken
abbrev pub offset_of : Statement → Option Moment → Option ℕ
offset_of (on_bytes rule) m = option_and_then (λ n. option_map (λ fault. fault.at) (sent_fault (note n))) m
offset_of (on_past breaks) m = None
offset_of (in_session breaks) m = None
offset_of (at_release breaks) m = None
offset_of (at_rest test) m = None
offset_of (by_later test) m = None

-- what is reported of a pair that fails and was decided at this position
abbrev pub reported : Role → Option Moment → Rule → ℕ → Fault
reported role m rule at = record { decided = at; record_no = record_of m; offset = offset_of (statement role rule) m }

-- the fault of a position and a statement, exactly where that pair fails
unfoldable pub fault_in : Tested → List Seen → ℕ → Rule → Option Fault
fault_in tested log k rule = cond (fails tested log k rule) (option_map (reported tested.role (moment log k) rule) (decided tested log k rule)) None

-- the same, if only these statements are judged
abbrev pub chosen_fault : (Rule → Bool) → Tested → List Seen → ℕ → Rule → Option Fault
chosen_fault chosen tested log k rule = cond (chosen rule) (fault_in tested log k rule) None

-- the faults of a position, in the order of the statements
abbrev pub listed_at : (Rule → Bool) → Tested → List Seen → ℕ → List (FaultKey × Fault)
listed_at chosen tested log k = filter_map (λ rule. option_map (λ fault. (record { position = k; rule = rule }, fault)) (chosen_fault chosen tested log k rule)) all_rules

-- the faults of a log, in the order of reports: by position, and then in the order of the statements
unfoldable pub listed_faults : (Rule → Bool) → Tested → List Seen → List (FaultKey × Fault)
listed_faults chosen tested log = flat_map (listed_at chosen tested log) (range_with_len 1 (length log))

-- Each pair of the chosen statements keeps the fault that it had, or else gets the one that it has in this log; the others are unchanged.
pub record Grows (chosen : Rule → Bool) (tested : Tested) (log : List Seen) (old new : FaultMap) : Type 0 where
  pub each : (k : ℕ) (rule : Rule) → fault_at new k rule ≡ option_or (fault_at old k rule) (chosen_fault chosen tested log k rule)

-- Each pair keeps the fault that it had, and those of the chosen statements may have got the one that they have in this log.
pub record GrowsWithin (chosen : Rule → Bool) (tested : Tested) (log : List Seen) (old new : FaultMap) : Type 0 where
  pub each : (k : ℕ) (rule : Rule) → (fault_at new k rule ≡ fault_at old k rule)
      ⊎ (fault_at new k rule ≡ option_or (fault_at old k rule) (chosen_fault chosen tested log k rule))
