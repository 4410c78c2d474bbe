-- Moments: an event of a log with all that comes before it. A list of events, and a list of moments, has the newest one first; so a beginning of
-- the log is a tail of its list. Each word on moments looks at such a list, and is a quantifier over positions.
use Rattle.std.specs.Prelude.{ℕ, ◌≡◌, ◌<◌, ◌+◌, ◌==◌, nat_lt, ◌⊎◌, Bool, true, false, ◌||◌, ◌&&◌, not, cond, List, [], ◌∷◌, ◌++◌, length, Option, Some, None}
use Rattle.std.specs.Option.{option_or}
use Rattle.mq_rules.specs.declared.note.Note.{Note}
use Rattle.mq_rules.specs.declared.note.Seen.{Seen}

-- An event, and the events before it in the log.
pub record Moment : Type 0 where
  pub event : Seen
  pub past : List Seen

-- the moment of the newest event of a log
abbrev pub newest : Seen → List Seen → Moment
newest e past = record { event = e; past = past }

-- its position, counted from 1
abbrev pub position : Moment → ℕ
position m = length m.past + 1

abbrev pub note : Moment → Note
note m = m.event.note

-- all moments of a log
abbrev pub moments : List Seen → List Moment
moments [] = []
moments (e ∷ past) = newest e past ∷ moments past

-- the moment at a position, if the log has that position
abbrev pub moment : List Seen → ℕ → Option Moment
moment [] k = None
moment (e ∷ past) k = cond (k == length past + 1) (Some (newest e past)) (moment past k)

-- the position is the next one after these events
abbrev pub is_next : List Seen → ℕ → Bool
is_next past k = k == length past + 1

-- the two moments are the same; the first comes after the second
abbrev pub is_same : Moment → Moment → Bool
is_same a b = position a == position b

abbrev pub is_after : Moment → Moment → Bool
is_after a b = nat_lt (position b) (position a)

-- ---- words on a list of moments

-- some moment passes the test
abbrev pub some : (Moment → Bool) → List Moment → Bool
some test [] = false
some test (m ∷ ms) = test m || some test ms

-- some moment passes the first test, and no later one passes the second
abbrev pub since : (Moment → Bool) → (Moment → Bool) → List Moment → Bool
since starts ends [] = false
since starts ends (m ∷ ms) = starts m || (not (ends m) && since starts ends ms)

-- the moment is among these, and no later one passes the test, which ends it
abbrev pub is_unended : Moment → (Moment → Bool) → List Moment → Bool
is_unended m ends ms = since (is_same m) ends ms

-- the moments that pass the test
abbrev pub those : (Moment → Bool) → List Moment → List Moment
those test [] = []
those test (m ∷ ms) = cond (test m) (m ∷ those test ms) (those test ms)

-- the latest moment that passes the test
abbrev pub latest : (Moment → Bool) → List Moment → Option Moment
latest test [] = None
latest test (m ∷ ms) = cond (test m) (Some m) (latest test ms)

-- what the earliest moment gives that gives something
abbrev pub first_given : {A : Type 0} → (Moment → Option A) → List Moment → Option A
first_given gives [] = None
first_given gives (m ∷ ms) = option_or (first_given gives ms) (gives m)

-- what is found at the earliest moment that has it
abbrev pub first_found : {A : Type 0} → (Note → Option A) → List Moment → Option A
first_found found ms = first_given (λ m. found (note m)) ms

-- the earliest moment that passes the first test with no later one that passes the second
abbrev pub earliest_since : (Moment → Bool) → (Moment → Bool) → List Moment → Option Moment
earliest_since starts ends [] = None
earliest_since starts ends (m ∷ ms) = option_or (cond (ends m) None (earliest_since starts ends ms)) (cond (starts m) (Some m) None)

-- how many moments pass the test
abbrev pub count : (Moment → Bool) → List Moment → ℕ
count test [] = 0
count test (m ∷ ms) = cond (test m) 1 0 + count test ms

-- some number of the newest of these moments passes the test together: a stretch that ends with the newest
abbrev pub some_stretch : (List Moment → Bool) → List Moment → Bool
some_stretch test [] = test []
some_stretch test (m ∷ ms) = test [] || some_stretch (λ stretch. test (m ∷ stretch)) ms

-- ---- what the words are by positions

-- The moment is at this position of the log, and up to there the log is its event and what comes before.
pub record IsMomentAt (log : List Seen) (k : ℕ) (m : Moment) : Type 0 where
  pub at : k ≡ position m
  pub later : List Seen
  pub joined : log ≡ later ++ (m.event ∷ m.past)

-- the moment is one of these
abbrev pub Among : Moment → List Moment → Type 0
Among m [] = ⊥
Among m (n ∷ ms) = (m ≡ n) ⊎ Among m ms

-- each moment has a later position than all that follow it in the list
abbrev pub IsDescending : List Moment → Type 0
IsDescending [] = Unit {0}
IsDescending (m ∷ ms) = ((n : Moment) → Among n ms → position n < position m) × IsDescending ms

-- Some moment among these passes the first test, and none among them at a later position passes the second.
pub record HoldsSince (starts ends : Moment → Bool) (ms : List Moment) : Type 0 where
  pub at : Moment
  pub there : Among at ms
  pub passes : starts at ≡ true
  pub none_after : (n : Moment) → Among n ms → position at < position n → ends n ≡ false

-- This moment among these passes the test, and none among them at a later position does.
pub record IsLatest (test : Moment → Bool) (ms : List Moment) (at : Moment) : Type 0 where
  pub there : Among at ms
  pub passes : test at ≡ true
  pub none_after : (n : Moment) → Among n ms → position at < position n → test n ≡ false

-- At this moment among these something is found, and at none among them at an earlier position.
pub record IsFirstFound {A : Type 0} (found : Note → Option A) (ms : List Moment) (a : A) : Type 0 where
  pub at : Moment
  pub there : Among at ms
  pub has : found (note at) ≡ Some a
  pub none_before : (n : Moment) → Among n ms → position n < position at → found (note n) ≡ None

-- This moment among these passes the first test, and none among them at a later position passes the second; each one at an earlier position that passes
-- the first test has a later one that passes the second.
pub record IsEarliestSince (starts ends : Moment → Bool) (ms : List Moment) (at : Moment) : Type 0 where
  pub there : Among at ms
  pub passes : starts at ≡ true
  pub none_after : (n : Moment) → Among n ms → position at < position n → ends n ≡ false
  pub others_end : (n : Moment) → Among n ms → position n < position at → starts n ≡ true → (l : Moment) × Among l ms × (position n < position l) × (ends l ≡ true)

-- ---- places

-- the position of each event is its index in the list, counted from 1
abbrev pub IsPlaced : List Seen → Type 0
IsPlaced [] = Unit {0}
IsPlaced (e ∷ past) = (e.place.position ≡ length past + 1) × IsPlaced past
