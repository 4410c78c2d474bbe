-- What is written of a packet's digits, by the operand that gives them.
use Rattle.std.proofs.Common.{◌≡◌, ℕ, Bool, true, false, List, Option, Some, None, IfSome, IsSomeAnd, Result, Ok, Err, IfErr, inl, refl, subst, sym}
use Rattle.std.specs.Prelude.{String, string_bytes, IsErr}
use Rattle.std.specs.Io.KnownBytes.{Keeps}
use Rattle.std.specs.declared.alloc.Global.{Global}
use Rattle.mq_command.specs.Digits.{by_operand, by_test, bytes_of, is_dash, oddity_in, oddity_line}
use Rattle.mq_tasks.specs.Messages.{AppendsReportPart, IsMisread, IsMisspelled, StopsAttempt, StopsGiven, StopsRead, StopsSpelled}
use Rattle.mq_host.specs.Streams.{misuse_line}
use Rattle.mq_command.specs.declared.command_line.Task.TheVariants.{Packet}
use Rattle.mq_host.specs.declared.failure.Failure.TheVariants as failures
use Rattle.mq_host.specs.declared.failure.Obstacle.{Obstacle}
use Rattle.mq_host.specs.declared.failure.Obstacle.TheVariants as obstacles
use Rattle.mq_command.specs.declared.oddity.Oddity.{Oddity}

-- ---- by an operand

by_test_both : (test : Bool) (A : Type 0) → A → by_test test A A
by_test_both true A a = a
by_test_both false A a = a

by_test_same : (test : Bool) (A B C : Type 0) → (A → B) → by_test test A C → by_test test B C
by_test_same true A B C f a = f a
by_test_same false A B C f c = c

by_test_apart : (test : Bool) (A B K : Type 0) → by_test test (A × K) (B × K) → by_test test A B × K
by_test_apart true A B K h = h
by_test_apart false A B K h = h

-- what holds of standard input and of an operand holds of either
pub of_both : (operand : List ℕ) (A : Type 0) → A → by_operand operand A A
of_both operand A a = by_test_both (is_dash operand) A a

-- what holds of what was read of standard input holds of that
pub of_read : (operand : List ℕ) (A B C : Type 0) → (A → B) → by_operand operand A C → by_operand operand B C
of_read operand A B C f h = by_test_same (is_dash operand) A B C f h

-- what keeps the line on what standard input spells from being written keeps that of such an operand
pub dash_stops : (long : Bool) (operand : List ℕ) (input old new : Option (List ℕ)) (status : Result ℕ Obstacle) → is_dash operand ≡ true
    → IfErr status (StopsRead long input old new) → IfErr status (StopsGiven long operand input old new)
dash_stops long operand input old new (Ok s) e h = tt
dash_stops long operand input old new (Err obstacle) e h = rw e h

-- and so it is with another operand
pub operand_stops : (long : Bool) (operand text : List ℕ) (input old new : Option (List ℕ)) (status : Result ℕ Obstacle) → is_dash operand ≡ false → text ≡ operand
    → IfErr status (StopsSpelled long text old new) → IfErr status (StopsGiven long operand input old new)
operand_stops long operand text input old new (Ok s) e is h = tt
operand_stops long operand text input old new (Err obstacle) e is h = rw e (subst (λ (t : List ℕ). StopsSpelled long t old new obstacle) is h)

-- ---- a text that was read

-- what holds of it holds of what there was to read, if that is known
pub of_whole : (known : Option (List ℕ)) (text : List ℕ) (P : List ℕ → Type 0) → IfSome known (λ all. all ≡ text) → P text → IfSome known P
of_whole None text P same h = tt
of_whole (Some all) text P same h = subst P (sym same) h

pub whole_stops : (long : Bool) (known : Option (List ℕ)) (text : List ℕ) (old new : Option (List ℕ)) (status : Result ℕ Obstacle) → IfSome known (λ all. all ≡ text)
    → IfErr status (StopsSpelled long text old new) → IfErr status (StopsRead long known old new)
whole_stops long known text old new (Ok s) same h = tt
whole_stops long known text old new (Err (obstacles.Failed failures.Read)) same h = absurd h
whole_stops long known text old new (Err (obstacles.Failed failures.Write)) same h = of_whole known text (λ t. AppendsReportPart long t old new) same h
whole_stops long known text old new (Err (obstacles.Failed failures.Memory)) same h = h
whole_stops long known text old new (Err (obstacles.Misused misuse)) same h =
    (of_whole known text (λ t. IsMisread t (misuse_line misuse)) same (inl h.0), h.1)

-- it spells no bytes, and this is odd in it
pub misspelled : (text : List ℕ) (odd : Oddity) → IsErr (bytes_of text) → oddity_in text ≡ Some odd → IsMisspelled text (oddity_line odd)
misspelled text odd err found = (err, subst (λ (o : Option Oddity). IsSomeAnd o (λ known. oddity_line odd ≡ oddity_line known)) (sym found) refl)

-- ---- the task

pub packet_stops : (hex : String Global) (long : Bool) (input left old new : Option (List ℕ)) (status : Result ℕ Obstacle)
    → IfErr status (StopsGiven long (string_bytes hex) input old new) → IfErr status (StopsAttempt (Packet hex long) input left old new)
packet_stops hex long input left old new (Ok s) h = tt
packet_stops hex long input left old new (Err (obstacles.Failed failure)) h = h
packet_stops hex long input left old new (Err (obstacles.Misused misuse)) h =
    by_test_apart (is_dash (string_bytes hex)) (IfSome input (λ text. IsMisread text (misuse_line misuse))) (IsMisspelled (string_bytes hex) (misuse_line misuse))
    (Keeps old new) h

-- memory may run out for the line that says what is odd
pub packet_lacks : (long : Bool) (operand : List ℕ) (input old new : Option (List ℕ)) → Keeps old new → StopsGiven long operand input old new (obstacles.Failed failures.Memory)
packet_lacks long operand input old new kept = of_both operand (Keeps old new) kept
