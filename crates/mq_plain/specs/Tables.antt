-- A value for each Packet Identifier.
use Rattle.std.specs.Prelude.{ℕ, List, get_or}

-- the value of an identifier, from the list; the initial value if the list has none
abbrev pub at : {T : Type 0} → T × List T → ℕ → T
at (initial, values) i = get_or values i initial
