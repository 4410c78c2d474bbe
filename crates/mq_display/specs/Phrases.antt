-- Words with numbers between them, as the source has them.
use Rattle.std.specs.Prelude.{ℕ, List, [], ◌++◌, decimal, Option, Some, None}
use Rattle.mq_display.specs.declared.display.because.OnOne.{OnOne}
use Rattle.mq_display.specs.declared.display.because.OnTwo.{OnTwo}

-- with one number; nothing if there are no words
abbrev pub with_number : Option OnOne → ℕ → List ℕ
with_number None number = []
with_number (Some words) number = words.before.now ++ (decimal number ++ words.after.now)

-- with two
abbrev pub with_numbers : Option OnTwo → ℕ → ℕ → List ℕ
with_numbers None first second = []
with_numbers (Some words) first second = words.before.now ++ (decimal first ++ (words.between.now ++ (decimal second ++ words.after.now)))
