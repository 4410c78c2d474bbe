-- A text in a caller's buffer.
use Rattle.std.specs.Prelude.{◌≡◌, ℕ, ◌+◌, ◌<◌, ◌≤◌, List, ◌∷◌, ◌++◌, length, drop, Option, Some, None, Result, Ok, Err}
use Rattle.mq_rules.specs.declared.rule.Rule.{Rule}
use Rattle.mq_rules.specs.declared.role.Role.{Role}
use Rattle.mq_rules.specs.Naming.{citation_of}
use Rattle.mq_ffi.specs.declared.answer.Trouble.{Trouble}
use Rattle.mq_ffi.specs.declared.answer.Trouble.TheVariants as troubles
use Rattle.mq_ffi.specs.Answers.{answer_code}

-- The buffer begins with the text and a zero byte, and the rest of it is as it was; or there is no room, and all of it is as it was. The length is the text's.
abbrev pub PutsText : List ℕ → List ℕ → List ℕ → ℕ → Result (Unit {0}) Trouble → Type 0
PutsText text old new count (Ok _) = (length text < length old) × (new ≡ text ++ 0 ∷ drop (length text + 1) old) × (count ≡ length text)
PutsText text old new count (Err trouble) = (trouble ≡ troubles.Room) × (length old ≤ length text) × (new ≡ old) × (count ≡ length text)

-- the same by the answer's number
pub record PutsTextAs (text old new : List ℕ) (count code : ℕ) : Type 0 where
  pub answer : Result (Unit {0}) Trouble
  pub code_is : code ≡ answer_code answer
  pub puts : PutsText text old new count answer

-- The text that was asked for, if there is one. If there is none, the answer says so, and nothing is written.
abbrev pub PutsTextIfSome : Option (List ℕ) → List ℕ → List ℕ → ℕ → ℕ → ℕ → Type 0
PutsTextIfSome (Some text) old new before after code = PutsTextAs text old new after code
PutsTextIfSome None old new before after code = (code ≡ answer_code (Err troubles.Absent)) × (new ≡ old) × (after ≡ before)

-- the same of the citation of a statement for an end
abbrev pub PutsCitation : Option Rule → Option Role → List ℕ → List ℕ → ℕ → ℕ → ℕ → Type 0
PutsCitation None role old new before after code = (code ≡ answer_code (Err troubles.Absent)) × (new ≡ old) × (after ≡ before)
PutsCitation (Some rule) None old new before after code = (code ≡ answer_code (Err troubles.Value)) × (new ≡ old) × (after ≡ before)
PutsCitation (Some rule) (Some role) old new before after code = PutsTextAs (citation_of rule role) old new after code
