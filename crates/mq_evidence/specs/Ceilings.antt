-- What may be sent for a topic, and the last SUBSCRIBE that asked for it, for B02: filters that stand whatever comes, and SUBSCRIBEs that wait for their SUBACK (MQTT 5.0,
-- sections 3.8 and 3.9).
use Rattle.std.specs.Prelude.{ℕ, nat_eq, ◌≡◌, ◌==◌, Bool, false, ◌&&◌, cond, List, [], ◌∷◌, ◌++◌, Option, Some, None, is_none, unwrap_or, option_map}
use Rattle.std.specs.Option.{option_and_then}
use Rattle.std.specs.List.{cons_option, list_any}
use Rattle.indexmap.specs.IndexMap.{get, IsUnique}
use Rattle.mq_rules.specs.declared.note.Seen.{Seen}
use Rattle.mq_rules.specs.Words.{is_some_and, only}
use Rattle.mq_rules.specs.Notes.{Subscription, Grant, received_subscription, refuses}
use Rattle.mq_rules.specs.Moments.{Moment, note, position, some}
use Rattle.mq_rules.specs.Connections.{begun, number}
use Rattle.mq_rules.specs.Subscriptions.{Standing, granted}
use Rattle.mq_evidence.specs.declared.ceilings.Ceilings.{Ceilings}
use Rattle.mq_evidence.specs.Subscribed.{codes_in, first_code, other_codes}
use Rattle.mq_evidence.specs.Unsettled.{Unsettled}
use Rattle.mq_evidence.specs.Settling.{Question, passes, holds}

-- the filters of a SUBSCRIBE that stand whatever comes: all that stand, unless it waits here
abbrev pub settled_by : Bool → (ℕ → Option (List ℕ)) → Option Subscription → List Standing
settled_by here codes o = unwrap_or (option_map (λ s. cond (here && is_none (codes s.identifier)) [] (granted s.filters (unwrap_or (codes s.identifier) []))) o) []

abbrev pub settled_in : List Seen → Moment → List Standing
settled_in past j = settled_by (begun past == number j) (codes_in past j) (received_subscription (note j))

-- a SUBSCRIBE at this position, with what it asks for
abbrev pub unsettled : ℕ → Subscription → Unsettled
unsettled at s = record { position = at; filters = granted s.filters [] }

-- a SUBSCRIBE under i, if it waits here; those that wait under i, the earliest first
abbrev pub asked_by : ℕ → ℕ → Bool → (ℕ → Option (List ℕ)) → Option Subscription → Option Unsettled
asked_by i at here codes o = option_and_then (λ s. only ((i == s.identifier) && (here && is_none (codes s.identifier))) (Some (unsettled at s))) o

abbrev pub asked_in : ℕ → List Seen → Moment → Option Unsettled
asked_in i past j = asked_by i (position j) (begun past == number j) (codes_in past j) (received_subscription (note j))

abbrev pub asked_under : ℕ → List Seen → List Moment → List Unsettled
asked_under i past [] = []
asked_under i past (j ∷ js) = asked_under i past js ++ cons_option (asked_in i past j) []

-- a SUBSCRIBE waits here, and passes the test
abbrev pub any_asked : (Unsettled → Bool) → ℕ → Bool → (ℕ → Option (List ℕ)) → Option Subscription → Bool
any_asked test at here codes o = is_some_and (λ s. (here && is_none (codes s.identifier)) && test (unsettled at s)) o

abbrev pub asks_in : (Unsettled → Bool) → List Seen → Moment → Bool
asks_in test past j = any_asked test (position j) (begun past == number j) (codes_in past j) (received_subscription (note j))

-- a filter with its Reason Code, if there is one; filters with these codes
abbrev pub with_code : Standing → Option ℕ → List Standing
with_code s None = s ∷ []
with_code s (Some code) = cond (refuses code) [] (record { filter = s.filter; ceiling = code } ∷ [])

abbrev pub with_codes : List Standing → List ℕ → List Standing
with_codes [] codes = []
with_codes (s ∷ ss) codes = with_code s (first_code codes) ++ with_codes ss (other_codes codes)

-- these Reason Codes settle something of a SUBSCRIBE that passes the test; a SUBACK does, where these wait under each identifier
abbrev pub settles_of : (ℕ → Standing → Bool) → List ℕ → Unsettled → Bool
settles_of test codes r = list_any (test r.position) (with_codes r.filters codes)

abbrev pub settles : (ℕ → Standing → Bool) → Option Grant → (ℕ → List Unsettled) → Bool
settles test None waits = false
settles test (Some a) waits = list_any (settles_of test a.codes) (waits a.identifier)

-- under i a SUBSCRIBE at this position waits from now on, if it counts
abbrev pub asks_under : ℕ → ℕ → Bool → Option Subscription → Option Unsettled
asks_under i at inside o = cond inside (option_and_then (λ s. only (i == s.identifier) (Some (unsettled at s))) o) None

-- With these moments of the session, after these events, this is kept.
pub record IsCeilings (x : Ceilings) (past : List Seen) (ms : List Moment) : Type 0 where
  pub settled_are : (q : Question) → holds q x.settled ≡ some (λ j. list_any (passes q (position j)) (settled_in past j)) ms
  pub apart : IsUnique nat_eq x.waiting
  pub waiting_are : (i : ℕ) → unwrap_or (get nat_eq x.waiting i) [] ≡ asked_under i past ms
