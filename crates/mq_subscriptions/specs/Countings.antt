-- What the books of SUBACKs and UNSUBACKs keep: how many filters the first packet of an identifier has that isn't answered.
use Rattle.std.specs.Prelude.{ℕ, ◌≡◌, ◌==◌, Bool, not, List, length, Option, Some, None, option_map, is_some, refl}
use Rattle.std.specs.Option.{option_and_then}
use Rattle.std.proofs.Common.{ap}
use Rattle.mq_rules.specs.declared.fate.Fate.{Fate}
use Rattle.mq_rules.specs.declared.note.Note.{Note}
use Rattle.mq_rules.specs.declared.note.Seen.{Seen}
use Rattle.mq_rules.specs.declared.packet_note.PacketFields.{PacketFields}
use Rattle.mq_rules.specs.declared.packet_note.PacketFields.TheVariants.{Subscribe, Suback, Unsubscribe, Unsuback}
use Rattle.mq_rules.specs.Words.{is_some_and, is_id}
use Rattle.mq_rules.specs.Notes.{Subscription, Grant, received_fields, sent_fields, subscribe_in, suback_in, unsubscribe_in, unsuback_in, subscription_in, grant_in, unsubscription_in, deletion_in, received_subscription, sent_grant, received_unsubscription, sent_deletion}
use Rattle.mq_rules.specs.Moments.{Moment, note}
use Rattle.mq_rules.specs.Exchanges.{Exchange, first_unanswered, subscribe_suback, unsubscribe_unsuback}
use Rattle.mq_rules.specs.Subscriptions.{applies_B03, applies_B04, breaks_B03, breaks_B04}
use Rattle.mq_subscriptions.specs.declared.counts.Counted.{Counted}
use Rattle.mq_subscriptions.specs.Firsts.{first_kept, first_next}

-- ---- counts

-- it is there, and has this identifier; its count
abbrev pub names : ℕ → Option Counted → Bool
names i o = is_some_and (λ c. i == c.identifier) o

abbrev pub count_in : Option Counted → Option ℕ
count_in o = option_map (λ c. c.count) o

-- An exchange, and how many filters a cause and how many Reason Codes an answer has.
pub record Counting : Type 0 where
  pub exchange : Exchange
  pub request : Note → Option Counted
  pub reply : Note → Option Counted

-- an answer whose count isn't that of its first unanswered cause
abbrev pub miscounts : Counting → Moment → Bool
miscounts c k = is_some_and (λ r. is_some_and (λ j. is_some_and (λ q. not (q.count == r.count)) (c.request (note j))) (first_unanswered c.exchange r.identifier k)) (c.reply (note k))

-- an answer that has an unanswered cause
abbrev pub answers_one : Counting → Moment → Bool
answers_one c k = is_some_and (λ r. is_some (first_unanswered c.exchange r.identifier k)) (c.reply (note k))

-- The counts are of the causes, which are received, and of the answers, which are sent, and this says that they differ.
pub record IsCounting (c : Counting) (breaks : Moment → Bool) : Type 0 where
  pub is_received : (n : Note) → received_fields n ≡ None → c.request n ≡ None
  pub is_sent : (n : Note) → sent_fields n ≡ None → c.reply n ≡ None
  pub causes_are : (n : Note) (i : ℕ) → is_id i (c.exchange.cause n) ≡ names i (c.request n)
  pub answers_are : (n : Note) (i : ℕ) → is_id i (c.exchange.answer n) ≡ names i (c.reply n)
  pub breaks_are : (m : Moment) → breaks m ≡ miscounts c m

-- ---- what is kept

-- the count of the first unanswered cause of i on the open connection
abbrev pub first_count : Counting → ℕ → List Seen → Option ℕ
first_count c i past = first_kept c.exchange (λ n. count_in (c.request n)) i past

-- what is kept after an event, with which a connection begins or ends, or not
abbrev pub counted_next : Bool → Option Counted → Option Counted → ℕ → Option ℕ → Option ℕ
counted_next boundary request reply i old = first_next boundary (names i request) (names i reply) (count_in request) old

-- an answer whose count isn't the one that is kept
abbrev pub differs : (ℕ → Option ℕ) → Option Counted → Bool
differs counts reply = is_some_and (λ r. is_some_and (λ count. not (count == r.count)) (counts r.identifier)) reply

-- an answer under whose identifier a count is kept
abbrev pub answers_kept : (ℕ → Option ℕ) → Option Counted → Bool
answers_kept counts reply = is_some_and (λ r. is_some (counts r.identifier)) reply

-- These events lead to what is kept.
pub record IsCounted (c : Counting) (fate : Fate) (counts : ℕ → Option ℕ) (taken : Option Fate) (past : List Seen) : Type 0 where
  pub same_fate : taken ≡ Some fate
  pub counts_are : (i : ℕ) → counts i ≡ first_count c i past

-- ---- SUBSCRIBE and SUBACK, UNSUBSCRIBE and UNSUBACK

abbrev pub subscription_count : Subscription → Counted
subscription_count s = record { identifier = s.identifier; count = length s.filters }

abbrev pub grant_count : Grant → Counted
grant_count a = record { identifier = a.identifier; count = length a.codes }

abbrev pub subscribe_request : Note → Option Counted
subscribe_request n = option_map subscription_count (received_subscription n)

abbrev pub suback_reply : Note → Option Counted
suback_reply n = option_map grant_count (sent_grant n)

abbrev pub unsubscribe_request : Note → Option Counted
unsubscribe_request n = option_map subscription_count (received_unsubscription n)

abbrev pub unsuback_reply : Note → Option Counted
unsuback_reply n = option_map grant_count (sent_deletion n)

abbrev pub subscribes : Counting
subscribes = record { exchange = subscribe_suback; request = subscribe_request; reply = suback_reply }

abbrev pub unsubscribes : Counting
unsubscribes = record { exchange = unsubscribe_unsuback; request = unsubscribe_request; reply = unsuback_reply }

-- ---- they are the causes and the answers

subscribe-names : (o : Option PacketFields) (i : ℕ) → is_id i (option_and_then subscribe_in o) ≡ names i (option_map subscription_count (option_and_then subscription_in o))
subscribe-names None i = refl
subscribe-names (Some (Subscribe identifier filters wishes)) i = refl
subscribe-names (Some _) i = refl

suback-names : (o : Option PacketFields) (i : ℕ) → is_id i (option_and_then suback_in o) ≡ names i (option_map grant_count (option_and_then grant_in o))
suback-names None i = refl
suback-names (Some (Suback identifier codes)) i = refl
suback-names (Some _) i = refl

unsubscribe-names : (o : Option PacketFields) (i : ℕ) → is_id i (option_and_then unsubscribe_in o) ≡ names i (option_map subscription_count (option_and_then unsubscription_in o))
unsubscribe-names None i = refl
unsubscribe-names (Some (Unsubscribe identifier filters)) i = refl
unsubscribe-names (Some _) i = refl

unsuback-names : (o : Option PacketFields) (i : ℕ) → is_id i (option_and_then unsuback_in o) ≡ names i (option_map grant_count (option_and_then deletion_in o))
unsuback-names None i = refl
unsuback-names (Some (Unsuback identifier codes)) i = refl
unsuback-names (Some _) i = refl

mapped : {A B : Type 0} (h : A → B) (p : A → Bool) (q : B → Bool) (o : Option A) → ((a : A) → p a ≡ q (h a)) → is_some_and p o ≡ is_some_and q (option_map h o)
mapped h p q None same = refl
mapped h p q (Some a) same = same a

each : {A : Type 0} (p q : A → Bool) (o : Option A) → ((a : A) → p a ≡ q a) → is_some_and p o ≡ is_some_and q o
each p q None same = refl
each p q (Some a) same = same a

B03-says : (k : Moment) → breaks_B03 k ≡ miscounts subscribes k
unfolding breaks_B03
B03-says k = mapped grant_count
    (λ a. is_some_and (λ j. is_some_and (λ s. not (length s.filters == length a.codes)) (received_subscription (note j))) (first_unanswered subscribe_suback a.identifier k))
    (λ r. is_some_and (λ j. is_some_and (λ q. not (q.count == r.count)) (subscribe_request (note j))) (first_unanswered subscribe_suback r.identifier k))
    (sent_grant (note k))
    (λ a. each (λ j. is_some_and (λ s. not (length s.filters == length a.codes)) (received_subscription (note j))) (λ j. is_some_and (λ q. not (q.count == length a.codes)) (subscribe_request (note j)))
    (first_unanswered subscribe_suback a.identifier k)
    (λ j. mapped subscription_count (λ s. not (length s.filters == length a.codes)) (λ q. not (q.count == length a.codes)) (received_subscription (note j)) (λ s. refl)))

B04-says : (k : Moment) → breaks_B04 k ≡ miscounts unsubscribes k
unfolding breaks_B04
B04-says k = mapped grant_count
    (λ a. is_some_and (λ j. is_some_and (λ u. not (length u.filters == length a.codes)) (received_unsubscription (note j))) (first_unanswered unsubscribe_unsuback a.identifier k))
    (λ r. is_some_and (λ j. is_some_and (λ q. not (q.count == r.count)) (unsubscribe_request (note j))) (first_unanswered unsubscribe_unsuback r.identifier k))
    (sent_deletion (note k))
    (λ a. each (λ j. is_some_and (λ u. not (length u.filters == length a.codes)) (received_unsubscription (note j))) (λ j. is_some_and (λ q. not (q.count == length a.codes)) (unsubscribe_request (note j)))
    (first_unanswered unsubscribe_unsuback a.identifier k)
    (λ j. mapped subscription_count (λ u. not (length u.filters == length a.codes)) (λ q. not (q.count == length a.codes)) (received_unsubscription (note j)) (λ u. refl)))

pub subscribes_so : IsCounting subscribes breaks_B03
subscribes_so = record { is_received = λ n h. ap (λ o. option_map subscription_count (option_and_then subscription_in o)) h; is_sent = λ n h. ap (λ o. option_map grant_count (option_and_then grant_in o)) h; causes_are = λ n i. subscribe-names (received_fields n) i; answers_are = λ n i. suback-names (sent_fields n) i; breaks_are = B03-says }

pub unsubscribes_so : IsCounting unsubscribes breaks_B04
unsubscribes_so = record { is_received = λ n h. ap (λ o. option_map subscription_count (option_and_then unsubscription_in o)) h; is_sent = λ n h. ap (λ o. option_map grant_count (option_and_then deletion_in o)) h; causes_are = λ n i. unsubscribe-names (received_fields n) i; answers_are = λ n i. unsuback-names (sent_fields n) i; breaks_are = B04-says }

pub B03_asks : (k : Moment) → applies_B03 k ≡ answers_one subscribes k
unfolding applies_B03
B03_asks k = mapped grant_count (λ a. is_some (first_unanswered subscribe_suback a.identifier k)) (λ r. is_some (first_unanswered subscribe_suback r.identifier k)) (sent_grant (note k)) (λ a. refl)

pub B04_asks : (k : Moment) → applies_B04 k ≡ answers_one unsubscribes k
unfolding applies_B04
B04_asks k = mapped grant_count (λ a. is_some (first_unanswered unsubscribe_unsuback a.identifier k)) (λ r. is_some (first_unanswered unsubscribe_unsuback r.identifier k)) (sent_deletion (note k)) (λ a. refl)
