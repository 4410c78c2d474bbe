-- How often S06 is put to the test, and what is kept to count each opener once.
use Rattle.std.specs.Prelude.{ℕ, ◌≡◌, ◌≤◌, ◌+◌, ◌-◌, nat_le, Bool, true, ◌&&◌, not, cond, List, Option, None, option_map}
use Rattle.std.specs.Option.{option_or, option_and_then}
use Rattle.mq_rules.specs.declared.role.Role.{Role}
use Rattle.mq_rules.specs.declared.role.Tested.{Tested}
use Rattle.mq_rules.specs.declared.fate.Fate.{Fate}
use Rattle.mq_rules.specs.declared.rule.Rule.TheVariants.{S06}
use Rattle.mq_rules.specs.declared.note.Note.{Note}
use Rattle.mq_rules.specs.declared.note.Seen.{Seen}
use Rattle.mq_rules.specs.Words.{is_some_and}
use Rattle.mq_rules.specs.Notes.{opener_of, closer_of}
use Rattle.mq_rules.specs.Moments.{Moment, note, position, moments, is_unended, count, Among}
use Rattle.mq_rules.specs.Connections.{accepts, latest_fate, resumed, session}
use Rattle.mq_rules.specs.Passing.{opened_at, before_latest}
use Rattle.mq_rules.specs.Occasions.{applies, places}
use Rattle.mq_inflight.specs.declared.inflight.entry.Entry.{Entry}
use Rattle.mq_inflight.specs.declared.inflight.resuming.ResumedPlaces.{ResumedPlaces}
use Rattle.mq_inflight.specs.Opened.{moves}

-- The moment is an opener of what is open after these events, if their latest connection has this fate: nothing closed its identifier since, or opened it anew.
abbrev pub stands : Role → Option Fate → List Seen → Moment → Bool
stands role f past m = is_some_and (λ i. is_unended m (moves i) (session role f past)) (opener_of (note m))

-- It was one when the latest connection began.
abbrev pub stood : Role → List Seen → Moment → Bool
stood role past m = is_some_and (λ before. stands role (latest_fate role before) before m) (before_latest past)

-- Its position isn't a place of S06 yet.
abbrev pub is_new : Tested → List Seen → Moment → Bool
is_new tested past m = not (applies tested past (position m) S06)

-- It came on the latest connection.
abbrev pub is_here : List Seen → Moment → Bool
is_here past m = nat_le (opened_at past) (position m)

-- These events lead to the counts. What is due was open when the latest connection began, and is known where that is resumed; what was opened before the position
-- `settled`, and is open, was counted at a REST.
pub record CountsResumed (p : ResumedPlaces) (tested : Tested) (taken : Option Fate) (past : List Seen) : Type 0 where
  pub places_are : p.counted ≡ places tested past S06
  pub due_are : resumed taken ≡ true → p.due ≡ count (λ m. stood tested.role past m && is_new tested past m) (moments past)
  pub fresh_are : p.fresh ≡ count (λ m. stands tested.role taken past m && is_new tested past m) (moments past)
  pub opened_are : p.opened ≡ count (λ m. stands tested.role taken past m && is_here past m) (moments past)
  pub settled_is : (m : Moment) → Among m (moments past) → stands tested.role taken past m ≡ true → is_new tested past m ≡ nat_le p.settled (position m)
  pub settled_within : p.settled ≤ opened_at past

-- ---- one event more

-- the identifier that an event opens or closes
abbrev pub moved : Note → Option ℕ
moved n = option_or (opener_of n) (closer_of n)

-- the same, if its connection has this fate
abbrev pub moved_on : Fate → Note → Option ℕ
moved_on f n = cond (accepts f) (moved n) None

-- where what was open under that identifier was opened
abbrev pub ended_at : (ℕ → Option Entry) → Option ℕ → Option ℕ
ended_at entry o = option_map (λ x. x.place.position) (option_and_then entry o)

-- how many are open after an event, of those that were opened from a position on
abbrev pub remaining : ℕ → Bool → Option ℕ → ℕ → ℕ
remaining from opens ended old = cond opens 1 0 + (old - cond (is_some_and (nat_le from) ended) 1 0)
