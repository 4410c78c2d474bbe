-- Words on what may be absent.
use Rattle.std.specs.Prelude.{ℕ, ◌==◌, Bool, true, false, Option, Some, None}

-- there is one, and it passes the test
abbrev pub is_some_and : {A : Type 0} → (A → Bool) → Option A → Bool
is_some_and test None = false
is_some_and test (Some a) = test a

-- it is there, and it is this number
abbrev pub is_id : ℕ → Option ℕ → Bool
is_id i None = false
is_id i (Some j) = i == j

-- the value, if the test is passed
abbrev pub only : {A : Type 0} → Bool → Option A → Option A
only true o = o
only false o = None
