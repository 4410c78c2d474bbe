-- What the book of deletions keeps: of each filter the last request that has it, and of each identifier the first SUBSCRIBE and the first UNSUBSCRIBE that aren't answered.
use Rattle.std.specs.Prelude.{ℕ, ◌≡◌, ◌+◌, ◌-◌, ◌==◌, nat_lt, Bool, false, ◌&&◌, ◌||◌, not, cond, List, [], ◌∷◌, length, Option, Some, None, option_map, unwrap_or}
use Rattle.std.specs.Str.{bytes_eq}
use Rattle.mq_rules.specs.declared.role.Role.{Role}
use Rattle.mq_rules.specs.declared.role.Tested.{Tested}
use Rattle.mq_rules.specs.declared.fate.Fate.{Fate}
use Rattle.mq_rules.specs.declared.note.Note.{Note}
use Rattle.mq_rules.specs.declared.note.Seen.{Seen}
use Rattle.mq_rules.specs.declared.text.NotedFilter.{NotedFilter}
use Rattle.mq_rules.specs.Words.{is_some_and, only}
use Rattle.mq_rules.specs.Notes.{Subscription, Grant, is_boundary, received_subscription, received_unsubscription, sent_grant, sent_deletion, receives_unclear, refuses}
use Rattle.mq_rules.specs.Moments.{Moment, note, position, some, latest, first_given}
use Rattle.mq_rules.specs.Connections.{number, of_connection, accepts, accepted, session}
use Rattle.mq_rules.specs.Exchanges.{subscribe_suback, unsubscribe_unsuback}
use Rattle.mq_rules.specs.Subscriptions.{Standing, granted}
use Rattle.mq_rules.specs.FurtherSubscriptions.{asks_about, answers_subscribe, last_code, subscribed_each, some_coded, is_deleted, is_denied, since_began}
use Rattle.mq_fates.specs.Holding.{total}
use Rattle.mq_subscriptions.specs.declared.requested.FilterState.{FilterState}
use Rattle.mq_subscriptions.specs.Firsts.{found_first, first_next}
use Rattle.mq_subscriptions.specs.Burden.{at_least_one}
use Rattle.mq_subscriptions.specs.Standings.{goes_on}

-- ---- what is kept of a filter

-- what is kept of it as long as no request has it
abbrev pub no_request : FilterState
no_request = record { at = 0; granted = false; places = 0 }

-- so much for each place of these at which it is
abbrev pub named : ℕ → List ℕ → List NotedFilter → ℕ
named more f [] = 0
named more f (g ∷ gs) = cond (bytes_eq f g.filter) more 0 + named more f gs

abbrev pub stands_at : List ℕ → List Standing → ℕ
stands_at f [] = 0
stands_at f (s ∷ ss) = cond (bytes_eq f s.filter) 1 0 + stands_at f ss

-- at how many of its places it is refused
abbrev pub refused : List ℕ → List NotedFilter → List ℕ → ℕ
refused f [] codes = 0
refused f (g ∷ gs) [] = 0
refused f (g ∷ gs) (code ∷ codes) = cond (bytes_eq f g.filter && refuses code) 1 0 + refused f gs codes

-- A request at this position has it: a SUBSCRIBE, at so many more places, or an UNSUBSCRIBE.
abbrev pub asked_at : ℕ → ℕ → Option FilterState → FilterState
asked_at at more old = record { at = at; granted = false; places = more + (unwrap_or old no_request).places }

abbrev pub asked_once : ℕ → ℕ → List ℕ → List ℕ → Option FilterState → Option FilterState
asked_once at more g f old = cond (bytes_eq f g) (Some (asked_at at more old)) old

abbrev pub asked_each : ℕ → ℕ → List NotedFilter → List ℕ → Option FilterState → Option FilterState
asked_each at more [] f old = old
asked_each at more (g ∷ gs) f old = asked_each at more gs f (asked_once at more g.filter f old)

-- The SUBACK of the SUBSCRIBE at this position has a Reason Code for it.
abbrev pub coded : ℕ → ℕ → FilterState → FilterState
coded at code s = record { at = s.at; granted = cond (s.at == at) (not (refuses code)) s.granted; places = s.places - cond (refuses code) 1 0 }

abbrev pub coded_once : ℕ → List ℕ → ℕ → List ℕ → Option FilterState → Option FilterState
coded_once at g code f old = cond (bytes_eq f g) (option_map (coded at code) old) old

abbrev pub coded_each : ℕ → List NotedFilter → List ℕ → List ℕ → Option FilterState → Option FilterState
coded_each at [] codes f old = old
coded_each at (g ∷ gs) [] f old = old
coded_each at (g ∷ gs) (code ∷ codes) f old = coded_each at gs codes f (coded_once at g.filter code f old)

-- its last request is a SUBSCRIBE that was granted; is at this position; some SUBSCRIBE has it at a place that isn't refused
abbrev pub is_granted : Option FilterState → Bool
is_granted o = is_some_and (λ s. s.granted) o

abbrev pub is_last : ℕ → Option FilterState → Bool
is_last at o = is_some_and (λ s. s.at == at) o

abbrev pub stands : Option FilterState → Bool
stands o = is_some_and (λ s. nat_lt 0 s.places) o

-- ---- what is kept of requests that wait

-- A SUBSCRIBE: its position and its filters.
pub record Subscribes : Type 0 where
  pub at : ℕ
  pub filters : List NotedFilter

-- An UNSUBSCRIBE: the same, and whether a subscription stood to each, at its first place alone.
pub record Removes : Type 0 where
  pub at : ℕ
  pub filters : List NotedFilter
  pub subscribed : List Bool

-- how much an UNSUBSCRIBE counts: its entry, with its filters after the first, and what is kept of each
abbrev pub removes_weigh : Removes → ℕ
removes_weigh w = at_least_one (length w.filters) + length w.subscribed

-- a packet is received, or sent, under the identifier
abbrev pub requests_under : ℕ → Option Subscription → Bool
requests_under i o = is_some_and (λ s. i == s.identifier) o

abbrev pub answers_under : ℕ → Option Grant → Bool
answers_under i o = is_some_and (λ a. i == a.identifier) o

abbrev pub subscribes_at : ℕ → Note → Option Subscribes
subscribes_at at n = option_map (λ s. record { at = at; filters = s.filters }) (received_subscription n)

abbrev pub removes_at : ℕ → (List ℕ → Option FilterState) → Note → Option Removes
removes_at at states n = option_map (λ s. record { at = at; filters = s.filters; subscribed = subscribed_each (λ f. is_granted (states f)) s.filters }) (received_unsubscription n)

-- ---- what it is by the events

-- the Reason Codes of the SUBACK that answers the SUBSCRIBE j, if this log has it
abbrev pub codes_given : List Seen → Moment → Option (List ℕ)
codes_given past j = first_given (λ t. only (answers_subscribe j t) (option_map (λ a. a.codes) (sent_grant (note t)))) (of_connection (number j) past)

abbrev pub granted_by : List ℕ → Option (List ℕ) → Option Subscription → Bool
granted_by f codes o = is_some_and (λ s. is_some_and (λ code. not (refuses code)) (last_code f s.filters (unwrap_or codes []))) o

abbrev pub places_by : List ℕ → Option (List ℕ) → Option Subscription → ℕ
places_by f codes None = 0
places_by f codes (Some s) = stands_at f (granted s.filters (unwrap_or codes []))

abbrev pub granted_at : List Seen → List ℕ → Moment → Bool
granted_at past f j = granted_by f (codes_given past j) (received_subscription (note j))

abbrev pub places_at : List Seen → List ℕ → Moment → ℕ
places_at past f j = places_by f (codes_given past j) (received_subscription (note j))

-- of a filter, by the moments of the session
abbrev pub state_of : List Seen → List ℕ → List Moment → Moment → FilterState
state_of past f ms j = record { at = position j; granted = granted_at past f j; places = total (places_at past f) ms }

abbrev pub state_in : List Seen → List ℕ → List Moment → Option FilterState
state_in past f ms = option_map (state_of past f ms) (latest (asks_about f) ms)

-- of requests, by their moments
abbrev pub subscribes_of : Moment → Option Subscribes
subscribes_of m = subscribes_at (position m) (note m)

abbrev pub removes_of : Role → Option Fate → Moment → Option Removes
removes_of role taken m = removes_at (position m) (λ f. state_in m.past f (session role taken m.past)) (note m)

-- ---- one event more

-- a filter, with a SUBACK, a SUBSCRIBE, an UNSUBSCRIBE
abbrev pub state_answered : List ℕ → Option Subscribes → List ℕ → Option FilterState → Option FilterState
state_answered codes None f old = old
state_answered codes (Some w) f old = coded_each w.at w.filters codes f old

abbrev pub state_coded : Option Grant → (ℕ → Option Subscribes) → List ℕ → Option FilterState → Option FilterState
state_coded None waiting f old = old
state_coded (Some a) waiting f old = state_answered a.codes (waiting a.identifier) f old

abbrev pub state_asked : ℕ → ℕ → Option Subscription → List ℕ → Option FilterState → Option FilterState
state_asked at more None f old = old
state_asked at more (Some s) f old = asked_each at more s.filters f old

abbrev pub packet_next : ℕ → Note → (ℕ → Option Subscribes) → List ℕ → Option FilterState → Option FilterState
packet_next at n waiting f old = state_asked at 1 (received_subscription n) f (state_coded (sent_grant n) waiting f (state_asked at 0 (received_unsubscription n) f old))

abbrev pub state_next : Fate → ℕ → Note → (ℕ → Option Subscribes) → List ℕ → Option FilterState → Option FilterState
state_next fate at n waiting f old = cond (is_boundary n) (only (goes_on fate n) old) (cond (accepts fate) (packet_next at n waiting f old) old)

-- the first request under an identifier that isn't answered, with a packet, and with any event
abbrev pub waiting_packet : ℕ → Note → ℕ → Option Subscribes → Option Subscribes
waiting_packet at n i old = first_next false (requests_under i (received_subscription n)) (answers_under i (sent_grant n)) (subscribes_at at n) old

abbrev pub waiting_next : Fate → ℕ → Note → ℕ → Option Subscribes → Option Subscribes
waiting_next fate at n i old = cond (is_boundary n) None (cond (accepts fate) (waiting_packet at n i old) old)

abbrev pub removing_packet : ℕ → Note → (List ℕ → Option FilterState) → ℕ → Option Removes → Option Removes
removing_packet at n states i old = first_next false (requests_under i (received_unsubscription n)) (answers_under i (sent_deletion n)) (removes_at at states n) old

abbrev pub removing_next : Fate → ℕ → Note → (List ℕ → Option FilterState) → ℕ → Option Removes → Option Removes
removing_next fate at n states i old = cond (is_boundary n) None (cond (accepts fate) (removing_packet at n states i old) old)

-- bytes that may have been a SUBSCRIBE or an UNSUBSCRIBE were received
abbrev pub unclear_next : Fate → Note → Bool → Bool
unclear_next fate n old = receives_unclear n || (goes_on fate n && old)

-- An event at this position takes what is kept to what is kept after it.
pub record TakesIn (fate : Fate) (at : ℕ) (n : Note) (states more : List ℕ → Option FilterState) (waiting left : ℕ → Option Subscribes) (removing rest : ℕ → Option Removes) (unclear next : Bool) : Type 0 where
  pub states_next : (f : List ℕ) → more f ≡ state_next fate at n waiting f (states f)
  pub waiting_next_is : (i : ℕ) → left i ≡ waiting_next fate at n i (waiting i)
  pub removing_next_is : (i : ℕ) → rest i ≡ removing_next fate at n states i (removing i)
  pub unclear_next_is : next ≡ unclear_next fate n unclear

-- ---- what is kept

-- These events lead to what is kept.
pub record AreDeletions (states : List ℕ → Option FilterState) (waiting : ℕ → Option Subscribes) (removing : ℕ → Option Removes) (unclear : Bool) (tested : Tested) (taken : Option Fate) (past : List Seen) : Type 0 where
  pub states_are : (f : List ℕ) → states f ≡ state_in past f (session tested.role taken past)
  pub waiting_are : (i : ℕ) → waiting i ≡ only (accepted taken) (found_first subscribe_suback subscribes_of i past)
  pub removing_are : (i : ℕ) → removing i ≡ only (accepted taken) (found_first unsubscribe_unsuback (removes_of tested.role taken) i past)
  pub unclear_is : unclear ≡ some (λ m. receives_unclear (note m)) (since_began tested.role taken past)

-- ---- what an UNSUBACK says

-- of a subscription that stood that there was none; or also that it was deleted
abbrev pub denies : Bool → ℕ → Bool
denies wide code = (wide && is_deleted code) || is_denied code

-- of a filter that was never subscribed that it was deleted; or of any filter, and of such a one that it wasn't subscribed
abbrev pub invents : Bool → Bool → ℕ → Bool
invents wide stood code = cond wide (is_deleted code || (is_denied code && not stood)) (is_deleted code && not stood)

-- some filter to which a subscription stood, and which nothing has asked about since, has a Reason Code that passes the test
abbrev pub some_stood : (List ℕ → Bool) → (ℕ → Bool) → List NotedFilter → List Bool → List ℕ → Bool
some_stood still test [] subscribed codes = false
some_stood still test (g ∷ gs) [] codes = false
some_stood still test (g ∷ gs) (s ∷ ss) [] = false
some_stood still test (g ∷ gs) (s ∷ ss) (code ∷ codes) = ((s && still g.filter) && test code) || some_stood still test gs ss codes

abbrev pub denies_kept : Bool → (List ℕ → Option FilterState) → Removes → List ℕ → Bool
denies_kept wide states w codes = some_stood (λ f. is_last w.at (states f)) (denies wide) w.filters w.subscribed codes

abbrev pub invents_kept : Bool → (List ℕ → Option FilterState) → Removes → List ℕ → Bool
invents_kept wide states w codes = some_coded (λ g code. invents wide (stands (states g.filter)) code) w.filters codes

-- an UNSUBACK answers an UNSUBSCRIBE that is kept, in a session in which all could be read, and passes the test
abbrev pub deletes_kept : (Removes → List ℕ → Bool) → Bool → (ℕ → Option Removes) → Option Grant → Bool
deletes_kept test unclear removing reply = not unclear && is_some_and (λ a. is_some_and (λ w. test w a.codes) (removing a.identifier)) reply
