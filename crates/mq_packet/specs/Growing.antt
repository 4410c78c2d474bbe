-- When a vector that is written to would have to grow.
use Rattle.std.specs.Prelude.{ℕ, ◌+◌, ◌<◌, List, length}

-- A vector of this capacity that holds some bytes has no room for others.
pub record LacksRoom (capacity : ℕ) (held bytes : List ℕ) : Type 0 where
  pub is : capacity < length held + length bytes
