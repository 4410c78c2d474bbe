-- Words of a command line that name several logs, where one is taken.
use Rattle.std.specs.Prelude.{◌≡◌, Bool, true, false, not, ◌==◌, ◌&&◌, ◌++◌, ◌∷◌, List, [], ℕ, codes, if◌then◌else◌}
use Rattle.std.specs.List.{list_any}
use Rattle.std.specs.Str.{bytes_eq}

-- a word that is no option: it doesn't begin with `-` (45), or is `-` alone
abbrev pub is_operand : List ℕ → Bool
is_operand [] = true
is_operand (first ∷ []) = true
is_operand (first ∷ second ∷ rest) = not (first == 45)

-- at least two of the words are none
abbrev pub has_two_operands : List (List ℕ) → Bool
has_two_operands [] = false
has_two_operands (word ∷ words) = if is_operand word then list_any is_operand words else has_two_operands words

-- the words, of which the first is the program's name, are `check` and two logs or more
abbrev pub names_many_logs : List (List ℕ) → Bool
names_many_logs [] = false
names_many_logs (program ∷ []) = false
names_many_logs (program ∷ subcommand ∷ words) = bytes_eq subcommand (codes "check") && has_two_operands words

-- A text ends with another one.
pub record EndsWith (text end : List ℕ) : Type 0 where
  pub before : List ℕ
  pub is : text ≡ before ++ end

-- the line on that
abbrev pub many_logs_line : List ℕ
many_logs_line = codes "mqjudge: check takes one log; recorders/judge takes many" ++ 10 ∷ []
