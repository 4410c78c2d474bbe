-- What is kept under Packet Identifiers, which are numbers of two bytes (MQTT 5.0, section 2.2.1): how many values there are, and their order.
use Rattle.std.specs.Prelude.{ℕ, zero, suc, ◌≡◌, ◌+◌, ◌<◌, ◌≤◌, nat_lt, cond, List, [], ◌++◌, Option, Some, None, is_some}
use Rattle.std.specs.Option.{option_to_list}
use Rattle.mq_rules.specs.declared.by_identifier.ByIdentifier.{ByIdentifier}
use Rattle.mq_rules.specs.ByIdentifier.{kept}
use Rattle.mq_rules.specs.IdentifierCounts.{ids_where}

-- the value that is kept under a Packet Identifier: none under a greater number
unfoldable pub value_under : {T : Type 0} → ByIdentifier T → ℕ → Option T
value_under table i = cond (nat_lt i 65536) (kept table i) None

-- under how many Packet Identifiers a value is kept
abbrev pub ids_kept : {T : Type 0} → ByIdentifier T → ℕ
ids_kept table = ids_where (λ i. is_some (value_under table i))

-- This is what is found under the least number from `start` on that has something.
abbrev pub IsFirst : {T : Type 0} → (ℕ → Option T) → ℕ → Option (ℕ × T) → Type 0
IsFirst found start None = (i : ℕ) → start ≤ i → found i ≡ None
IsFirst found start (Some first) = (start ≤ first.0) × (found first.0 ≡ Some first.1) × ((i : ℕ) → start ≤ i → i < first.0 → found i ≡ None)

-- what is found under so many numbers from i on, in their order
unfoldable pub found_from : {T : Type 0} → (ℕ → Option T) → ℕ → ℕ → List T
found_from found i zero = []
found_from found i (suc n) = option_to_list (found i) ++ found_from found (i + 1) n

-- all values that are kept under Packet Identifiers, in the order of these
unfoldable pub values_of : {T : Type 0} → (ℕ → Option T) → List T
values_of found = found_from found 0 65536
