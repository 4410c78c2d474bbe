-- What is kept of an identifier says that it passes its test.
use Rattle.std.proofs.Common.{◌≡◌, ℕ, Bool, true, false, ◌||◌, not, List, [], ◌∷◌, Option, Some, None, refl, ap, sym, ◌∙◌}
use Rattle.std.specs.Prelude.{is_some}
use Rattle.mq_rules.specs.declared.role.Role.{Role}
use Rattle.mq_rules.specs.declared.fate.Fate.{Fate}
use Rattle.mq_rules.specs.declared.note.Seen.{Seen}
use Rattle.mq_rules.specs.Words.{is_some_and}
use Rattle.mq_rules.specs.Moments.{Moment, note, is_same, some, since, earliest_since}
use Rattle.mq_rules.specs.Connections.{session}
use Rattle.mq_rules.specs.Exchanges.{Exchange, causes}
use Rattle.mq_rules.specs.Releases.{brings, ends}
use Rattle.mq_rules.proofs.Exports.{earliest_since-there}
use Rattle.mq_exchanges.specs.Askings.{caused}
use Rattle.mq_exchanges.specs.Releasing.{expires, is_unmatched, needs_release}

-- nothing ends it
pub since-some : (starts : Moment → Bool) (ms : List Moment) → since starts (λ m. false) ms ≡ some starts ms
since-some starts [] = refl
since-some starts (m ∷ ms) = ap (λ b. starts m || b) (since-some starts ms)

some-there : {A : Type 0} (test : A → Bool) (o : Option A) → is_some_and test o ≡ true → is_some o ≡ true
some-there test None h = absurd (cc)
some-there test (Some a) h = refl

-- a message that needs a RELEASE was received, and its exchange hasn't ended
pub needed-brought : (i : ℕ) (ms : List Moment) → needs_release i ms ≡ true → since (brings i) (ends i) ms ≡ true
needed-brought i ms h =
    sym (earliest_since-there (brings i) (ends i) ms)
    ∙ some-there (λ first. not (expires (note first) || not (since (is_same first) (is_unmatched i) ms))) (earliest_since (brings i) (ends i) ms) h

-- what has a cause in the session
pub caused-some : (role : Role) (x : Exchange) (taken : Option Fate) (log : List Seen) (i : ℕ) → caused role x i taken log ≡ some (causes x i) (session role taken log)
caused-some role x taken log i = since-some (causes x i) (session role taken log)
