-- How much a log gives the watchers of subscriptions to keep. Where an item is about a session, the latest connection of the log is taken to have a fate.
use Rattle.std.specs.Prelude.{ℕ, zero, suc, ◌+◌, cond, List, [], ◌∷◌, ◌++◌, length, Option, Some, None, is_some, Bool}
use Rattle.std.specs.Set.{distinct_count}
use Rattle.std.specs.Str.{bytes_eq}
use Rattle.mq_rules.specs.declared.role.Role.{Role}
use Rattle.mq_rules.specs.declared.role.Tested.{Tested}
use Rattle.mq_rules.specs.declared.fate.Fate.{Fate}
use Rattle.mq_rules.specs.declared.rule.Rule.TheVariants.{B06, B08}
use Rattle.mq_rules.specs.declared.note.Seen.{Seen}
use Rattle.mq_rules.specs.declared.text.NotedFilter.{NotedFilter}
use Rattle.mq_rules.specs.Words.{is_some_and}
use Rattle.mq_rules.specs.Notes.{Subscription, received_subscription, received_unsubscription}
use Rattle.mq_rules.specs.Moments.{Moment, note, since, is_unended}
use Rattle.mq_rules.specs.IdentifierCounts.{ids_where}
use Rattle.mq_rules.specs.Connections.{connection, on_open, session}
use Rattle.mq_rules.specs.Exchanges.{Exchange, causes, answers, unsubscribe_unsuback}
use Rattle.mq_rules.specs.Subscriptions.{Standing, last_set}
use Rattle.mq_rules.specs.Rules.{binds}
use Rattle.mq_rules.specs.Wishes.{is_share, shared_filter}
use Rattle.mq_rules.specs.MatchingSubscriptions.{identifier_at}
use Rattle.mq_subscriptions.specs.Standings.{codes_in, standing_by, waiting_from, weighed}
use Rattle.mq_fates.specs.Holding.{total, number_in}

-- ---- what is received (MQTT 5.0, sections 3.8.4, 3.10.4 and 4.3)

-- how many have a cause of the exchange on the open connection, and no answer after it there
unfoldable pub unanswered_ids : Exchange → List Seen → ℕ
unanswered_ids x log = ids_where (λ i. since (causes x i) (answers x i) (on_open log))

-- ---- subscriptions (MQTT 5.0, sections 3.3.2.3.4, 3.8 and 3.9)

abbrev pub filters_of : List Standing → List (List ℕ)
filters_of [] = []
filters_of (s ∷ ss) = s.filter ∷ filters_of ss

-- the filters of the SUBSCRIBEs among these moments that their SUBACKs in the log don't refuse
abbrev pub standing_filters : List Seen → List Moment → List (List ℕ)
standing_filters log [] = []
standing_filters log (j ∷ js) = filters_of (standing_by (codes_in log j) (received_subscription (note j))) ++ standing_filters log js

-- how many different filters stand in the session
unfoldable pub standing_count : Role → Option Fate → List Seen → ℕ
standing_count role taken log = distinct_count bytes_eq (standing_filters log (session role taken log))

abbrev pub at_least_one : ℕ → ℕ
at_least_one zero = 1
at_least_one (suc n) = suc n

-- how many filters the SUBSCRIBEs have, counted with repeats, that were received on the open connection without a SUBACK after it there; each has at least one
unfoldable pub asked_filters : List Seen → ℕ
asked_filters log = total (λ j. weighed (λ w. at_least_one (length w.filters)) (waiting_from log j)) (connection log)

-- how many Topic Aliases have a topic that was sent on the open connection: no more than `aliases_sent`, which counts the first PUBLISH that sets each
unfoldable pub aliased_ids : List Seen → ℕ
aliased_ids log = ids_where (λ alias. is_some (last_set alias (on_open log)))

-- ---- requests (MQTT 5.0, sections 3.8 to 3.11): kept if B06 and B07 are judged

-- the filters of a request; of the SUBSCRIBEs and UNSUBSCRIBEs among these moments
abbrev pub names_of : List NotedFilter → List (List ℕ)
names_of [] = []
names_of (g ∷ gs) = g.filter ∷ names_of gs

abbrev pub names_in : Option Subscription → List (List ℕ)
names_in None = []
names_in (Some s) = names_of s.filters

abbrev pub requested_filters : List Moment → List (List ℕ)
requested_filters [] = []
requested_filters (j ∷ js) = (names_in (received_subscription (note j)) ++ names_in (received_unsubscription (note j))) ++ requested_filters js

-- how many different filters the SUBSCRIBEs and UNSUBSCRIBEs of the session have
unfoldable pub requested_count : Role → Option Fate → List Seen → ℕ
requested_count role taken log = distinct_count bytes_eq (requested_filters (session role taken log))

-- no answer to this cause came after it on the open connection
abbrev pub is_unanswered : Exchange → List Seen → Moment → Bool
is_unanswered x log j = is_some_and (λ i. is_unended j (answers x i) (on_open log)) (x.cause (note j))

-- how many filters the UNSUBSCRIBEs have, counted with repeats, that were received on the open connection without an UNSUBACK after it there; each has at least one
unfoldable pub removed_filters : List Seen → ℕ
removed_filters log = total (λ j. cond (is_unanswered unsubscribe_unsuback log j) (number_in (λ s. at_least_one (length s.filters)) (received_unsubscription (note j))) 0) (connection log)

-- what is kept of requests
abbrev pub deletions_burden : Tested → Option Fate → List Seen → ℕ
deletions_burden tested taken log = cond (binds B06 tested) (requested_count tested.role taken log + asked_filters log + removed_filters log) 0

-- ---- subscriptions, by the filters that topics may match (MQTT 5.0, sections 3.8.4 and 4.8.2): kept if B08, B09, P01, P02, R01 and R02 are judged

-- these filters; and of a shared subscription also that after its ShareName
abbrev pub texts_of : NotedFilter → List (List ℕ)
texts_of g = g.filter ∷ cond (is_share g.filter) (shared_filter g.filter ∷ []) []

abbrev pub texts_in : List NotedFilter → List (List ℕ)
texts_in [] = []
texts_in (g ∷ gs) = texts_of g ++ texts_in gs

abbrev pub texts_asked : Option Subscription → List (List ℕ)
texts_asked None = []
texts_asked (Some s) = texts_in s.filters

abbrev pub subscribed_texts : List Moment → List (List ℕ)
subscribed_texts [] = []
subscribed_texts (j ∷ js) = texts_asked (received_subscription (note j)) ++ subscribed_texts js

-- how many different ones the SUBSCRIBEs of the session have
unfoldable pub subscribed_count : Role → Option Fate → List Seen → ℕ
subscribed_count role taken log = distinct_count bytes_eq (subscribed_texts (session role taken log))

-- these texts, each after the Subscription Identifier that it is subscribed to with, if there is one
abbrev pub texts_with : Option ℕ → List (List ℕ) → List (List ℕ)
texts_with None texts = []
texts_with (Some identifier) [] = []
texts_with (Some identifier) (f ∷ fs) = (identifier ∷ f) ∷ texts_with (Some identifier) fs

abbrev pub identified_texts : List Moment → List (List ℕ)
identified_texts [] = []
identified_texts (j ∷ js) = texts_with (identifier_at j) (texts_asked (received_subscription (note j))) ++ identified_texts js

-- how many different ones with a Subscription Identifier they have: one that has several of these is counted for each
unfoldable pub identified_count : Role → Option Fate → List Seen → ℕ
identified_count role taken log = distinct_count bytes_eq (identified_texts (session role taken log))

-- what is kept of subscriptions, and of topics beside those that deliveries are judged by
abbrev pub matching_burden : Tested → Option Fate → List Seen → ℕ
matching_burden tested taken log = cond (binds B08 tested) (subscribed_count tested.role taken log + identified_count tested.role taken log + asked_filters log + aliased_ids log) 0
