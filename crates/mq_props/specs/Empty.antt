-- A property list without properties.
use Rattle.std.specs.Prelude.{ℕ, ◌==◌, Bool, false, List, [], ◌∷◌}

-- The bytes begin with an empty property list: its length, 0 (2.2.2.1).
abbrev pub begins_with_zero : List ℕ → Bool
begins_with_zero [] = false
begins_with_zero (byte ∷ bytes) = byte == 0
