-- The Topic Filters that stand, for B01: how often each does, and the SUBSCRIBEs that wait for their SUBACK (MQTT 5.0, sections 3.8 and 3.9).
use Rattle.std.specs.Prelude.{ℕ, nat_eq, ◌≡◌, false, ◌+◌, ◌==◌, Bool, ◌&&◌, cond, List, [], ◌∷◌, ◌++◌, Option, Some, None, is_none, unwrap_or, option_map}
use Rattle.std.specs.Option.{option_and_then}
use Rattle.std.specs.List.{cons_option}
use Rattle.std.specs.Str.{bytes_eq}
use Rattle.indexmap.specs.IndexMap.{get, get_by_text}
use Rattle.mq_rules.specs.declared.note.Seen.{Seen}
use Rattle.mq_rules.specs.declared.text.NotedFilter.{NotedFilter}
use Rattle.mq_rules.specs.Words.{is_some_and, is_id, only}
use Rattle.mq_rules.specs.Notes.{Subscription, Grant, received_subscription, refuses}
use Rattle.mq_rules.specs.Moments.{Moment, note, is_after, those, first_found}
use Rattle.mq_rules.specs.Connections.{begun, number, of_connection}
use Rattle.mq_rules.specs.Subscriptions.{Standing, granted, codes_under}
use Rattle.mq_evidence.specs.declared.subscribed.Subscribed.{Subscribed}

-- ---- what stands

-- the Reason Codes of the SUBACK of a SUBSCRIBE j under i, if these events have it
abbrev pub codes_in : List Seen → Moment → ℕ → Option (List ℕ)
codes_in past j i = first_found (codes_under i) (those (λ m. is_after m j) (of_connection (number j) past))

-- the filters of a SUBSCRIBE that stand, by the Reason Codes of its SUBACK
abbrev pub standing_by : (ℕ → Option (List ℕ)) → Option Subscription → List Standing
standing_by codes o = unwrap_or (option_map (λ s. granted s.filters (unwrap_or (codes s.identifier) [])) o) []

abbrev pub standing_in : List Seen → Moment → List Standing
standing_in past j = standing_by (codes_in past j) (received_subscription (note j))

-- how many of these are of this filter; how often it stands, by what these moments ask for
abbrev pub times : List ℕ → List Standing → ℕ
times f [] = 0
times f (s ∷ ss) = cond (bytes_eq f s.filter) 1 0 + times f ss

abbrev pub stands : List ℕ → List Seen → List Moment → ℕ
stands f past [] = 0
stands f past (j ∷ js) = times f (standing_in past j) + stands f past js

-- ---- what waits

abbrev pub texts : List NotedFilter → List (List ℕ)
texts [] = []
texts (g ∷ gs) = g.filter ∷ texts gs

-- the filters of a SUBSCRIBE under i, if it waits here: no Reason Codes are known for it
abbrev pub waits_by : ℕ → Bool → (ℕ → Option (List ℕ)) → Option Subscription → Option (List (List ℕ))
waits_by i here codes o = option_and_then (λ s. only ((i == s.identifier) && (here && is_none (codes s.identifier))) (Some (texts s.filters))) o

-- only on the latest connection a SUBACK may come
abbrev pub waits_in : ℕ → List Seen → Moment → Option (List (List ℕ))
waits_in i past j = waits_by i (begun past == number j) (codes_in past j) (received_subscription (note j))

-- those that wait under i, the earliest first
abbrev pub waiting : ℕ → List Seen → List Moment → List (List (List ℕ))
waiting i past [] = []
waiting i past (j ∷ js) = waiting i past js ++ cons_option (waits_in i past j) []

-- ---- what a SUBACK refuses

-- the first Reason Code, if there is one, and the others
abbrev pub first_code : List ℕ → Option ℕ
first_code [] = None
first_code (code ∷ codes) = Some code

abbrev pub other_codes : List ℕ → List ℕ
other_codes [] = []
other_codes (code ∷ codes) = codes

-- how often this Reason Code refuses the filter f, where it is for g
abbrev pub refused_once : List ℕ → List ℕ → Option ℕ → ℕ
refused_once f g code = cond (is_some_and refuses code && bytes_eq f g) 1 0

-- how often these Reason Codes refuse a filter among these; among those of several SUBSCRIBEs
abbrev pub refused : List ℕ → List (List ℕ) → List ℕ → ℕ
refused f [] codes = 0
refused f (g ∷ gs) codes = refused_once f g (first_code codes) + refused f gs (other_codes codes)

abbrev pub refused_of : List ℕ → List (List (List ℕ)) → List ℕ → ℕ
refused_of f [] codes = 0
refused_of f (gs ∷ others) codes = refused f gs codes + refused_of f others codes

-- how often a SUBACK refuses it, where these wait under each identifier
abbrev pub lost : List ℕ → Option Grant → (ℕ → List (List (List ℕ))) → ℕ
lost f None waits = 0
lost f (Some a) waits = refused_of f (waits a.identifier) a.codes

-- the SUBACK is sent under this identifier
abbrev pub answers : ℕ → Option Grant → Bool
answers i g = is_some_and (λ a. a.identifier == i) g

-- ---- one event more

-- how often a filter is among these
abbrev pub named : List ℕ → List (List ℕ) → ℕ
named f [] = 0
named f (g ∷ gs) = cond (bytes_eq f g) 1 0 + named f gs

-- what a SUBSCRIBE asks for, if it counts
abbrev pub asked : Bool → Option Subscription → List (List ℕ)
asked inside o = cond inside (unwrap_or (option_map (λ s. texts s.filters) o) []) []

-- under i it waits from now on, if it counts
abbrev pub asks : ℕ → Bool → Option Subscription → Option (List (List ℕ))
asks i inside o = cond inside (option_and_then (λ s. only (i == s.identifier) (Some (texts s.filters))) o) None

-- ---- what is kept

-- no filter is kept that doesn't stand
abbrev pub IsPositive : (List ℕ → Option ℕ) → Type 0
IsPositive at = (f : List ℕ) → is_id 0 (at f) ≡ false

-- With these moments of the session, after these events, this is kept: how often each filter stands, and what waits under each identifier.
pub record IsSubscribed (x : Subscribed) (past : List Seen) (ms : List Moment) : Type 0 where
  pub counts_are : (f : List ℕ) → unwrap_or (get_by_text x.counts f) 0 ≡ stands f past ms
  pub positive : IsPositive (get_by_text x.counts)
  pub waiting_are : (i : ℕ) → unwrap_or (get nat_eq x.waiting i) [] ≡ waiting i past ms
