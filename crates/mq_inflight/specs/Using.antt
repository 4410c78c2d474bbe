-- What the book of identifiers in use keeps.
use Rattle.std.specs.Prelude.{ℕ, ◌≡◌, nat_eq, nat_le, nat_lt, length, Bool, true, false, ◌&&◌, ◌||◌, not, cond, List, [], ◌∷◌, Option, Some, None, is_some}
use Rattle.mq_rules.specs.KeptOrder.{value_under}
use Rattle.indexmap.specs.IndexSet.{contains}
use Rattle.mq_log.specs.declared.place.Place3.{Place3}
use Rattle.mq_rules.specs.declared.role.Role.{Role}
use Rattle.mq_rules.specs.declared.role.Tested.{Tested}
use Rattle.mq_rules.specs.declared.fate.Fate.{Fate}
use Rattle.mq_rules.specs.declared.rule.Rule.{Rule}
use Rattle.mq_rules.specs.declared.rule.Rule.TheVariants.{S01, S02, S03, S04, S05, S06}
use Rattle.mq_rules.specs.declared.note.Note.{Note}
use Rattle.mq_rules.specs.declared.note.Seen.{Seen}
use Rattle.mq_rules.specs.Words.{is_some_and, is_id}
use Rattle.mq_rules.specs.Notes.{is_open, is_boundary, closer_of, delivery_of, resend_of, sent_as, received_as, subscribe_in, suback_in, unsubscribe_in, unsuback_in}
use Rattle.mq_rules.specs.Moments.{note, moments, some, since, those}
use Rattle.mq_rules.specs.Connections.{number, is_connected, connection, on_open, accepts, is_void, voided, fate_under, session, ends_binding, resumes, is_unasked, surprises}
use Rattle.mq_rules.specs.Identifiers.{delivers, taken_by, counts, sent_under}
use Rattle.mq_rules.specs.Counter.{in_flight}
use Rattle.mq_rules.specs.Rules.{same_rule, binds}
use Rattle.mq_rules.specs.FaultKeys.{FaultMap}
use Rattle.mq_inflight.specs.declared.inflight.Inflight.{Inflight}
use Rattle.mq_inflight.specs.declared.inflight.broken.Broken.{Broken}
use Rattle.mq_inflight.specs.declared.inflight.entry.Entry.{Entry}
use Rattle.mq_fates.specs.Judgements.{judged_by}
use Rattle.mq_inflight.specs.Quotas.{peer_room}
use Rattle.mq_inflight.specs.Earlier.{may_resend, IsEarlier}
use Rattle.mq_inflight.specs.Opened.{entry_in}
use Rattle.mq_inflight.specs.Resending.{peer_bounds, passed_since, bounded_at, by_itself, is_passed, IsResent}
use Rattle.mq_rules.specs.Passing.{opened_at, passed_before}
use Rattle.mq_fates.specs.Knowing.{excused}

-- on the connection that is open, something was begun under i by the first, and not ended by the second since
abbrev pub waits : (Note → Option ℕ) → (Note → Option ℕ) → ℕ → List Seen → Bool
waits starts ends i past = since (λ m. is_id i (starts (note m))) (λ m. is_id i (ends (note m))) (on_open past)

-- whether it is so after an event, where nothing waits over the beginning and the end of a connection
abbrev pub waits_next : Option ℕ → Option ℕ → Bool → ℕ → Bool → Bool
waits_next starts ends boundary i old = is_id i starts || (not (is_id i ends) && (not boundary && old))

-- a PUBLISH was sent under i on the connection that is open, whose OPEN is at this position, and not acknowledged there since: what is open in the session says so itself, and the others are listed
abbrev pub in_delivery : ℕ → (ℕ → Option Entry) → (ℕ → Bool) → ℕ → Bool
in_delivery opened entry stray i = stray i || is_some_and (λ o. nat_le opened o.published) (entry i)

abbrev pub delivering : Inflight → ℕ → Bool
delivering s = in_delivery s.opened (value_under s.entries) (contains nat_eq s.stray)

-- whether it is listed after an event of a connection with this fate, where this is then kept of what is open; none is when a connection begins or ends
abbrev pub stray_next : Fate → Note → (ℕ → Option Entry) → ℕ → Bool → Bool
stray_next f n entry i old = cond (is_boundary n) false ((is_id i (delivery_of n) && not (accepts f && is_some (entry i))) || (not (is_id i (closer_of n)) && old))

-- No PUBLISH is later than these events, and none of what is open was sent on a connection that isn't accepted.
pub record ArePublished (f : Fate) (opened : ℕ) (entry : ℕ → Option Entry) (past : List Seen) : Type 0 where
  pub within : (i : ℕ) → is_some_and (λ o. nat_lt (length past) o.published) (entry i) ≡ false
  pub accepted : accepts f ≡ false → (i : ℕ) → is_some_and (λ o. nat_le opened o.published) (entry i) ≡ false

-- a PUBLISH under i was sent on a void connection, where the latest one is taken to have this fate
abbrev pub void_sent : Role → ℕ → Option Fate → List Seen → Bool
void_sent role i taken past = some (λ j. delivers i j && voided (fate_under role taken past (number j))) (moments past)

abbrev pub void_next : Fate → Note → ℕ → Bool → Bool
void_next f n i old = (is_id i (delivery_of n) && is_void f) || old

-- whether a PUBLISH of QoS above 0 or a PUBREL that was sent under i on the connection waits for its closer, after an event of a connection with this fate; that is
-- kept of a resumed connection alone
abbrev pub unanswered_next : Fate → Note → ℕ → Bool → Bool
unanswered_next f n i old = cond (is_boundary n) false (cond (resumes f) (is_id i (sent_under n) || (not (is_id i (closer_of n)) && old)) old)

-- ---- the order in which PUBLISH packets are sent again

-- the position of the opener of what is sent again, if that is open, else 0
abbrev pub place_or_zero : Option Entry → ℕ
place_or_zero None = 0
place_or_zero (Some o) = o.place.position

abbrev pub resent_by : Option ℕ → (ℕ → Option Entry) → ℕ
resent_by None entry = 0
resent_by (Some i) entry = place_or_zero (entry i)

abbrev pub greater : ℕ → ℕ → ℕ
greater a b = cond (nat_lt b a) a b

abbrev pub resent_next : Note → (ℕ → Option Entry) → ℕ → ℕ
resent_next n entry old = cond (is_open n) 0 (greater (resent_by (resend_of n) entry) old)

-- the greatest position of an opener whose PUBLISH was sent again on the latest connection, while it was open there; 0 if there is none
abbrev pub resent_in : Role → Option Fate → List Seen → ℕ
resent_in role taken [] = 0
resent_in role taken (e ∷ past) = resent_next e.note (λ i. entry_in role i (session role taken past)) (resent_in role taken past)

-- ---- what an event breaks

-- what is open is in use, unless it was passed over by connections that began up to this position, and not confirmed since
abbrev pub is_taken : ℕ → Entry → Bool
is_taken since o = o.confirmed || not (is_passed since o)

abbrev pub takes_busy : Fate → Role → Note → ℕ → (ℕ → Option Entry) → (ℕ → Bool) → (ℕ → Bool) → Bool
takes_busy f role n since entry subscribing unsubscribing = accepts f && is_some_and (λ i. is_some_and (is_taken since) (entry i) || (subscribing i || unsubscribing i)) (taken_by role n)

-- the identifier of a PUBLISH that is sent again is not open, not of a void connection, and not excused; is past its PUBREL; was opened before one that was sent again
abbrev pub unopened : (ℕ → Option Entry) → (ℕ → Bool) → (ℕ → Bool) → ℕ → Bool
unopened entry void excused i = not (is_some (entry i) || (void i || excused i))

abbrev pub past_pubrel : (ℕ → Option Entry) → ℕ → Bool
past_pubrel entry i = is_some_and (λ o. o.exactly_once && o.released) (entry i)

abbrev pub out_of_order : (ℕ → Option Entry) → ℕ → ℕ → Bool
out_of_order entry resent i = is_some_and (λ o. nat_lt o.place.position resent) (entry i)

-- what an event of a connection with this fate breaks
abbrev pub breaks : Inflight → Fate → Note → Broken
breaks s f n = record {
  takes_busy = takes_busy f s.role n (passed_since f s.bounds s.opened s.bounded) (value_under s.entries) (contains nat_eq s.subscribing) (contains nat_eq s.unsubscribing);
  unopened = accepts f && is_some_and (unopened (value_under s.entries) (contains nat_eq s.void) (may_resend s.earlier f)) (resend_of n);
  twice = accepts f && is_some_and (delivering s) (resend_of n);
  past_pubrel = accepts f && is_some_and (past_pubrel (value_under s.entries)) (resend_of n);
  out_of_order = s.ordered && (accepts f && is_some_and (out_of_order (value_under s.entries) s.resent) (resend_of n));
}

-- the faults with those of the statements that are broken at this place, decided at this position
abbrev pub judged_all : Broken → Place3 → ℕ → FaultMap → FaultMap
judged_all b place at faults =
    judged_by b.out_of_order S05 place at (judged_by b.past_pubrel S04 place at (judged_by b.twice S03 place at (judged_by b.unopened S02 place at (judged_by b.takes_busy S01 place at faults))))

-- the statements that are judged at the event itself, and all
abbrev pub is_at_once : Rule → Bool
is_at_once r = same_rule r S01 || (same_rule r S02 || (same_rule r S03 || (same_rule r S04 || same_rule r S05)))

abbrev pub is_inflight : Rule → Bool
is_inflight r = is_at_once r || same_rule r S06

-- These events lead to what is kept.
pub record IsUsing (s : Inflight) (tested : Tested) (taken : Option Fate) (past : List Seen) : Type 0 where
  pub same_role : s.role ≡ tested.role
  pub same_fate : taken ≡ Some s.fate
  pub is_ordered : s.ordered ≡ binds S05 tested
  pub entries_are : (i : ℕ) → value_under s.entries i ≡ entry_in tested.role i (session tested.role taken past)
  pub delivering_are : is_connected past ≡ true → (i : ℕ) → delivering s i ≡ waits delivery_of closer_of i past
  pub stray_are : (i : ℕ) → contains nat_eq s.stray i ≡ true → is_connected past ≡ true
  pub published_are : ArePublished s.fate s.opened (value_under s.entries) past
  pub void_are : (i : ℕ) → contains nat_eq s.void i ≡ void_sent tested.role i taken past
  pub earlier_is : IsEarlier s.earlier tested.role taken past
  pub unanswered_are : (i : ℕ) → contains nat_eq s.unanswered i ≡ (resumes s.fate && waits sent_under closer_of i past)
  pub subscribing_are : (i : ℕ) → contains nat_eq s.subscribing i ≡ waits (sent_as subscribe_in) (received_as suback_in) i past
  pub unsubscribing_are : (i : ℕ) → contains nat_eq s.unsubscribing i ≡ waits (sent_as unsubscribe_in) (received_as unsuback_in) i past
  pub resent_is : s.resent ≡ resent_in tested.role taken past
  pub is_ended : s.ended ≡ some ends_binding (connection past)
  pub opened_is : s.opened ≡ opened_at past
  pub same_peer : s.peer ≡ peer_room tested.role past
  pub flying : s.in_flight ≡ in_flight (those (counts tested.role) (connection past))
  pub bounds_are : s.bounds ≡ peer_bounds tested.role past
  pub bounded_is : s.bounded ≡ bounded_at tested.role past
  pub passed_are : (i : ℕ) (o : Entry) → value_under s.entries i ≡ Some o → is_passed s.bounded o ≡ passed_before tested.role i o.place.position past
  pub resent_are : IsResent s.opened (by_itself s.fate s.bounds s.opened s.bounded) (value_under s.entries) s.again

-- the same of what an event breaks of S01 to S05
abbrev pub all_excused : Fate → Bool → Broken → Broken
all_excused f known b = record {
  takes_busy = excused (is_unasked f) known b.takes_busy;
  unopened = excused (surprises f) known b.unopened;
  twice = b.twice;
  past_pubrel = b.past_pubrel;
  out_of_order = b.out_of_order;
}
