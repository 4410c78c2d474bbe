-- How much a watcher really keeps: the sum of the lengths of its collections. A text in them is one item, and its bytes aren't counted.
use Rattle.std.specs.Prelude.{ℕ, ◌-◌, ◌^◌, min}

-- A sum as a number of 64 bits has it: the sum, or the greatest such number if that is less.
abbrev pub in_word : ℕ → ℕ
in_word sum = min sum (2 ^ 64 - 1)
