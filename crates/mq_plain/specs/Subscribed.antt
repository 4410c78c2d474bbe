-- Whether a filter is subscribed, and what an UNSUBACK answers, found by looking back over a session.
use Rattle.std.specs.Prelude.{ℕ, ◌+◌, ◌==◌, Bool, ◌&&◌, ◌||◌, not, List, [], length, Option, Some, None, option_map, reverse, unwrap_or}
use Rattle.std.specs.Option.{option_and_then}
use Rattle.std.specs.Str.{bytes_eq}
use Rattle.std.specs.List.{list_any}
use Rattle.mq_rules.specs.declared.role.Role.{Role}
use Rattle.mq_rules.specs.declared.fate.Fate.{Fate}
use Rattle.mq_rules.specs.declared.note.Note.{Note}
use Rattle.mq_rules.specs.declared.note.Seen.{Seen}
use Rattle.mq_rules.specs.declared.text.NotedFilter.{NotedFilter}
use Rattle.mq_rules.specs.Words.{is_some_and, only}
use Rattle.mq_rules.specs.Notes.{Subscription, received_subscription, received_unsubscription, refuses, sent_deletion, sent_grant}
use Rattle.mq_rules.specs.Moments.{Moment, position, note, some, latest, first_given}
use Rattle.mq_rules.specs.Connections.{number, of_connection, session}
use Rattle.mq_rules.specs.Subscriptions.{granted}
use Rattle.mq_rules.specs.FurtherSubscriptions.{answers_subscribe, asks_about, has_filter, is_deleted, is_denied, last_code, some_coded, subscribed_each}
use Rattle.mq_plain.specs.declared.further.deletions.Answered.{Answered}
use Rattle.mq_plain.specs.Lookback.{first_unsubscribe_after}

-- ---- what was asked of a filter

-- a SUBSCRIBE or an UNSUBSCRIBE that has the filter is received
abbrev pub has_asked : List ℕ → Note → Bool
has_asked filter n = is_some_and (λ s. has_filter filter s.filters) (received_subscription n) || is_some_and (λ s. has_filter filter s.filters) (received_unsubscription n)

-- the last of them after these events, if the latest connection has this fate
abbrev pub last_about_after : Role → Fate → List Seen → List ℕ → Option Moment
last_about_after role f past filter = latest (asks_about filter) (session role (Some f) past)

-- these are the events before the moment
abbrev pub comes_after : List Seen → Moment → Bool
comes_after past m = length past + 1 == position m

-- ---- what the SUBACK said

-- the Reason Codes with which the moment t answers the SUBSCRIBE j on the same connection
abbrev pub codes_at : Moment → Moment → Option (List ℕ)
codes_at j t = only (answers_subscribe j t && (number t == number j)) (option_map (λ a. a.codes) (sent_grant (note t)))

-- those that answer it first
abbrev pub codes_given : Moment → List Seen → Option (List ℕ)
codes_given j past = first_given (λ t. only (answers_subscribe j t) (option_map (λ a. a.codes) (sent_grant (note t)))) (of_connection (number j) past)

abbrev pub codes_after : Moment → List Seen → List ℕ
codes_after j past = unwrap_or (codes_given j past) []

-- the last of these Reason Codes that the filter has grants it
abbrev pub grants_last : List ℕ → List NotedFilter → List ℕ → Bool
grants_last filter asked codes = is_some_and (λ code. not (refuses code)) (last_code filter asked codes)

-- the moment is a SUBSCRIBE whose answer grants the filter
abbrev pub is_granted_after : List ℕ → List Seen → Moment → Bool
is_granted_after filter past j = is_some_and (λ s. grants_last filter s.filters (codes_after j past)) (received_subscription (note j))

-- a subscription to the filter stands after these events, if the latest connection has this fate
abbrev pub is_subscribed_after : Role → Fate → List Seen → List ℕ → Bool
is_subscribed_after role f past filter = is_some_and (is_granted_after filter past) (last_about_after role f past filter)

-- one stood after the events before an UNSUBSCRIBE, and nothing else asked about it up to now
abbrev pub stood_after : Role → Fate → List Seen → List Seen → List ℕ → Bool
stood_after role f past asked filter = is_subscribed_after role f asked filter && is_some_and (comes_after asked) (last_about_after role f past filter)

-- ---- what was ever asked

-- one of these filters is this one, and isn't refused
abbrev pub any_granted : List ℕ → List NotedFilter → List ℕ → Bool
any_granted filter asked codes = list_any (λ g. bytes_eq filter g.filter) (granted asked codes)

-- so it is with one of them, given its Reason Code if there is one
abbrev pub is_granted_with : List ℕ → NotedFilter → Option ℕ → Bool
is_granted_with filter g None = bytes_eq filter g.filter
is_granted_with filter g (Some code) = not (refuses code) && bytes_eq filter g.filter

-- the moment is a SUBSCRIBE that has the filter, and whose answer doesn't refuse it
abbrev pub is_unrefused_after : List ℕ → List Seen → Moment → Bool
is_unrefused_after filter past j = is_some_and (λ s. any_granted filter s.filters (codes_after j past)) (received_subscription (note j))

abbrev pub was_subscribed_after : Role → Fate → List Seen → List ℕ → Bool
was_subscribed_after role f past filter = some (is_unrefused_after filter past) (session role (Some f) past)

-- ---- what an UNSUBACK says

-- An UNSUBSCRIBE that is answered: what comes before it, its filters, and the Reason Codes of the UNSUBACK.
pub record Told : Type 0 where
  pub past : List Seen
  pub filters : List NotedFilter
  pub codes : List ℕ

abbrev pub told_of : Answered → Told
told_of a = record { past = reverse a.before.now; filters = a.filters.now; codes = a.codes.now }

abbrev pub told_with : List ℕ → List Seen → Subscription → Told
told_with codes past s = record { past = past; filters = s.filters; codes = codes }

-- the first unanswered UNSUBSCRIBE under the identifier, answered with these Reason Codes
abbrev pub told_under : ℕ → List ℕ → List Seen → Option Told
told_under i codes past = option_and_then (λ u. option_map (told_with codes u.past) (received_unsubscription (note u))) (first_unsubscribe_after i past)

-- the one that an event answers
abbrev pub told_after : Note → List Seen → Option Told
told_after n past = option_and_then (λ a. told_under a.identifier a.codes past) (sent_deletion n)

-- some filter that passes the test at its first place is said not to be subscribed
abbrev pub some_denied : (List ℕ → Bool) → List NotedFilter → List ℕ → Bool
some_denied stood asked codes = some_coded (λ stands code. stands && is_denied code) (subscribed_each stood asked) codes

-- some filter that doesn't pass the test is said to be deleted
abbrev pub some_unfounded : (List ℕ → Bool) → List NotedFilter → List ℕ → Bool
some_unfounded subscribed asked codes = some_coded (λ g code. is_deleted code && not (subscribed g.filter)) asked codes
