-- What a statement of a session is about needs a session; so in a log in order each such statement is judged at once.
use Rattle.std.proofs.Common.{◌≡◌, ℕ, Bool, true, false, ◌&&◌, ◌||◌, List, ◌∷◌, Option, Some, None, is_some, refl, subst, not}
use Rattle.std.specs.Option.{option_and_then, option_or}
use Rattle.mq_rules.specs.declared.role.Role.{Role}
use Rattle.mq_rules.specs.declared.role.Role.TheVariants.{Client, Server}
use Rattle.mq_rules.specs.declared.role.Tested.{Tested}
use Rattle.mq_rules.specs.declared.fate.Fate.{Fate}
use Rattle.mq_rules.specs.declared.rule.Rule.{Rule}
use Rattle.mq_rules.specs.declared.rule.Rule.TheVariants.{S01, S02, S03, S04, S05, S07, E1A, E1O, E2A, E2O, E3A, E3O, E4A, E5A, E6A, E7R, L1, L2, L3, B01, B02, B03, B04, B05, B06, B07, B08, B09, P01, P02, R01, R02}
use Rattle.mq_rules.specs.declared.note.Note.{Note}
use Rattle.mq_rules.specs.declared.note.Note.TheVariants as notes
use Rattle.mq_rules.specs.declared.note.Seen.{Seen}
use Rattle.mq_rules.specs.declared.packet_note.PacketFields.{PacketFields}
use Rattle.mq_rules.specs.declared.packet_note.PacketFields.TheVariants.{Publish, Puback, Pubrec, Pubrel, Pubcomp, Subscribe, Suback, Unsubscribe, Unsuback}
use Rattle.mq_rules.specs.Words.{is_some_and}
use Rattle.mq_rules.specs.Notes.{sent_fields, received_fields, sent_publish, is_release, released_id, publish_in, puback_in, pubrec_in, pubrel_in, pubcomp_in, success_pubcomp_in, subscribe_in, unsubscribe_in, suback_in, unsuback_in, grant_in, deletion_in, sent_as, delivery_in, delivery_of, opener_in, opener_of, resend_in, resend_of, is_session_packet, needs_session}
use Rattle.mq_rules.specs.Moments.{Moment, newest, note}
use Rattle.mq_rules.specs.Connections.{latest_fate, accepts, IsInOrder, couldnt_know, couldnt_know_resumed, is_placed_release}
use Rattle.mq_rules.specs.Rules.{binds}
use Rattle.mq_rules.specs.Identifiers.{taken_by, breaks_S01, breaks_S02, breaks_S03, breaks_S04, breaks_S05, is_delivery, breaks_S07}
use Rattle.mq_rules.specs.Exchanges.{Exchange, publish_puback, publish_pubrec, pubrec_pubrel, pubrel_pubcomp, subscribe_suback, unsubscribe_unsuback, breaks_A, breaks_O}
use Rattle.mq_rules.specs.Releases.{breaks_L1, breaks_L2, breaks_L3}
use Rattle.mq_rules.specs.Subscriptions.{breaks_B01, breaks_B02, breaks_B03, breaks_B04, breaks_B05}
use Rattle.mq_rules.specs.FurtherSubscriptions.{is_clear_before, breaks_B06, breaks_B07}
use Rattle.mq_rules.specs.MatchingSubscriptions.{breaks_B08, breaks_B09, breaks_P01, breaks_P02, breaks_R01, breaks_R02}
use Rattle.mq_rules.specs.Statements.{Statement, on_bytes, on_past, in_session, at_release, at_rest, by_later, statement, knowing, knowing_resumed, where_placed}
use Rattle.mq_rules.specs.Steps.{JudgedAtOnce, IsLate}
use Rattle.mq_rules.proofs.BoolLaws.{both_true}
use Rattle.mq_rules.proofs.LateLaws.{in_order-late, rest-late, late-turns, release-turns}

-- ---- what is there

is_there : {A : Type 0} (test : A → Bool) (o : Option A) → is_some_and test o ≡ true → is_some o ≡ true
is_there test None h = absurd (cc)
is_there test (Some a) h = refl

there_first : {A B : Type 0} (found : A → Option B) (o : Option A) → is_some (option_and_then found o) ≡ true → is_some o ≡ true
there_first found None h = absurd (cc)
there_first found (Some a) h = refl

-- ---- packets by their type

publish-session : (p : PacketFields) → is_some (publish_in p) ≡ true → is_session_packet p ≡ true
publish-session (Publish fields) h = refl
publish-session _ h = absurd (cc)

puback-session : (p : PacketFields) → is_some (puback_in p) ≡ true → is_session_packet p ≡ true
puback-session (Puback i code) h = refl
puback-session _ h = absurd (cc)

pubrec-session : (p : PacketFields) → is_some (pubrec_in p) ≡ true → is_session_packet p ≡ true
pubrec-session (Pubrec i code) h = refl
pubrec-session _ h = absurd (cc)

pubrel-session : (p : PacketFields) → is_some (pubrel_in p) ≡ true → is_session_packet p ≡ true
pubrel-session (Pubrel i code) h = refl
pubrel-session _ h = absurd (cc)

pubcomp-session : (p : PacketFields) → is_some (pubcomp_in p) ≡ true → is_session_packet p ≡ true
pubcomp-session (Pubcomp i code) h = refl
pubcomp-session _ h = absurd (cc)

success-session : (p : PacketFields) → is_some (success_pubcomp_in p) ≡ true → is_session_packet p ≡ true
success-session (Pubcomp i code) h = refl
success-session _ h = absurd (cc)

subscribe-session : (p : PacketFields) → is_some (subscribe_in p) ≡ true → is_session_packet p ≡ true
subscribe-session (Subscribe i filters wishes) h = refl
subscribe-session _ h = absurd (cc)

unsubscribe-session : (p : PacketFields) → is_some (unsubscribe_in p) ≡ true → is_session_packet p ≡ true
unsubscribe-session (Unsubscribe i filters) h = refl
unsubscribe-session _ h = absurd (cc)

suback-session : (p : PacketFields) → is_some (suback_in p) ≡ true → is_session_packet p ≡ true
suback-session (Suback i codes) h = refl
suback-session _ h = absurd (cc)

unsuback-session : (p : PacketFields) → is_some (unsuback_in p) ≡ true → is_session_packet p ≡ true
unsuback-session (Unsuback i codes) h = refl
unsuback-session _ h = absurd (cc)

grant-session : (p : PacketFields) → is_some (grant_in p) ≡ true → is_session_packet p ≡ true
grant-session (Suback i codes) h = refl
grant-session _ h = absurd (cc)

deletion-session : (p : PacketFields) → is_some (deletion_in p) ≡ true → is_session_packet p ≡ true
deletion-session (Unsuback i codes) h = refl
deletion-session _ h = absurd (cc)

-- ---- subjects

middle : (a b c : Bool) → b ≡ true → (a || (b || c)) ≡ true
middle true b c h = refl
middle false true c h = refl
middle false false c h = absurd (cc)

-- a packet of a type that needs a session is sent
sent-needs : {A : Type 0} (found : PacketFields → Option A) → ((p : PacketFields) → is_some (found p) ≡ true → is_session_packet p ≡ true)
    → (n : Note) → is_some (option_and_then found (sent_fields n)) ≡ true → needs_session n ≡ true
sent-needs found session n h = middle (is_release n) (is_some_and is_session_packet (sent_fields n)) (is_some_and is_session_packet (received_fields n)) (go (sent_fields n) h)
  where
    go : (o : Option PacketFields) → is_some (option_and_then found o) ≡ true → is_some_and is_session_packet o ≡ true
    go None h = absurd (cc)
    go (Some p) h = session p h

-- a PUBLISH; one of QoS above 0; a new one, and one that is sent again
publish-needs : (n : Note) → is_some (sent_publish n) ≡ true → needs_session n ≡ true
publish-needs n h = sent-needs publish_in publish-session n h

pub delivery-needs : (n : Note) → is_some (delivery_of n) ≡ true → needs_session n ≡ true
delivery-needs n h = publish-needs n (there_first delivery_in (sent_publish n) h)

pub opener-needs : (n : Note) → is_some (opener_of n) ≡ true → needs_session n ≡ true
opener-needs n h = publish-needs n (there_first opener_in (sent_publish n) h)

pub resend-needs : (n : Note) → is_some (resend_of n) ≡ true → needs_session n ≡ true
resend-needs n h = publish-needs n (there_first resend_in (sent_publish n) h)

-- what takes an identifier
pub taken-needs : (role : Role) (n : Note) → is_some (taken_by role n) ≡ true → needs_session n ≡ true
taken-needs Server n h = opener-needs n h
taken-needs Client n h = go (opener_of n) (sent_as subscribe_in n) (sent_as unsubscribe_in n) h (opener-needs n) (sent-needs subscribe_in subscribe-session n) (sent-needs unsubscribe_in unsubscribe-session n)
  where
    go : (a b c : Option ℕ) → is_some (option_or a (option_or b c)) ≡ true → (is_some a ≡ true → needs_session n ≡ true) → (is_some b ≡ true → needs_session n ≡ true)
        → (is_some c ≡ true → needs_session n ≡ true) → needs_session n ≡ true
    go (Some i) b c h x y z = x refl
    go None (Some i) c h x y z = y refl
    go None None (Some i) h x y z = z refl
    go None None None h x y z = absurd (cc)

-- a RELEASE
pub release-needs : (n : Note) → is_some (released_id n) ≡ true → needs_session n ≡ true
release-needs (notes.Release i) h = refl
release-needs _ h = absurd (cc)

-- ---- in a log in order

-- for a statement of a session, and one at a RELEASE: it is late in each log in order
abbrev IsLateInOrder : Role → Statement → Type 0
IsLateInOrder role (on_bytes rule) = Unit {0}
IsLateInOrder role (on_past breaks) = Unit {0}
IsLateInOrder role (in_session breaks) = (log : List Seen) → IsInOrder role log → IsLate role breaks log
IsLateInOrder role (at_release breaks) = (log : List Seen) → IsInOrder role log → IsLate role breaks log
IsLateInOrder role (at_rest test) = Unit {0}
IsLateInOrder role (by_later test) = Unit {0}

-- its predicate is true only where it has a subject, and the subject needs a session
by_subject : {A : Type 0} (role : Role) (breaks : Fate → Moment → Bool) (subject : Note → Option A) → ((n : Note) → is_some (subject n) ≡ true → needs_session n ≡ true)
    → ((f : Fate) (m : Moment) → breaks f m ≡ true → is_some (subject (note m)) ≡ true) → (log : List Seen) → IsInOrder role log → IsLate role breaks log
by_subject role breaks subject needs has log order = in_order-late role breaks log (λ f m t. needs (note m) (has f m t)) order

answered : (role : Role) (x : Exchange) → ((n : Note) → is_some (x.answer n) ≡ true → needs_session n ≡ true) → (log : List Seen) → IsInOrder role log → IsLate role (breaks_A x role) log
unfolding breaks_A
answered role x needs = by_subject role (breaks_A x role) x.answer needs (λ f m t. is_there _ (x.answer (note m)) t)

in_turn : (role : Role) (x : Exchange) → ((n : Note) → is_some (x.answer n) ≡ true → needs_session n ≡ true) → (log : List Seen) → IsInOrder role log → IsLate role (λ f. breaks_O x) log
unfolding breaks_O
in_turn role x needs = by_subject role (λ f. breaks_O x) x.answer needs (λ f m t. is_there _ (x.answer (note m)) t)

-- a predicate that is true less often is late too
late_less : (role : Role) (breaks less : Fate → Moment → Bool) → ((f : Fate) (m : Moment) → less f m ≡ true → breaks f m ≡ true)
    → ((log : List Seen) → IsInOrder role log → IsLate role breaks log) → (log : List Seen) → IsInOrder role log → IsLate role less log
late_less role breaks less fewer late log order =
    let is = late log order in
    record { decided = λ k m f at t. is.decided k m f at (fewer f m t); no_open = λ k m f at t. is.no_open k m f at (fewer f m t) }

known : (role : Role) (breaks : Fate → Moment → Bool) → ((log : List Seen) → IsInOrder role log → IsLate role breaks log) → (log : List Seen) → IsInOrder role log → IsLate role (knowing role breaks) log
known role breaks = late_less role breaks (knowing role breaks) (λ f m t. (both_true (breaks f m) (not (couldnt_know role f m)) t).0)

known_resumed : (role : Role) (breaks : Fate → Moment → Bool) → ((log : List Seen) → IsInOrder role log → IsLate role breaks log) → (log : List Seen) → IsInOrder role log → IsLate role (knowing_resumed role breaks) log
known_resumed role breaks = late_less role breaks (knowing_resumed role breaks) (λ f m t. (both_true (breaks f m) (not (couldnt_know_resumed role f m)) t).0)

placed : (role : Role) (breaks : Fate → Moment → Bool) → ((log : List Seen) → IsInOrder role log → IsLate role breaks log) → (log : List Seen) → IsInOrder role log → IsLate role (where_placed role breaks) log
placed role breaks = late_less role breaks (where_placed role breaks) (λ f m t. (both_true (breaks f m) (is_placed_release role f m) t).0)

all_late : (role : Role) (rule : Rule) → IsLateInOrder role (statement role rule)
unfolding breaks_S01 breaks_S02 breaks_S03 breaks_S04 breaks_S05 breaks_S07 breaks_L1 breaks_L2 breaks_L3 breaks_B01 breaks_B02 breaks_B03 breaks_B04 breaks_B05 breaks_B06 breaks_B07 breaks_B08 breaks_B09 breaks_P01 breaks_P02 breaks_R01 breaks_R02
all_late role S01 = known_resumed role (breaks_S01 role) (by_subject role (breaks_S01 role) (taken_by role) (taken-needs role) (λ f m t. is_there _ (taken_by role (note m)) t))
all_late role S02 = known role (breaks_S02 role) (by_subject role (breaks_S02 role) resend_of resend-needs (λ f m t. is_there _ (resend_of (note m)) t))
all_late role S03 = by_subject role (λ f. breaks_S03) resend_of resend-needs (λ f m t. is_there _ (resend_of (note m)) t)
all_late role S04 = by_subject role (breaks_S04 role) resend_of resend-needs (λ f m t. is_there _ (resend_of (note m)) t)
all_late role S05 = by_subject role (breaks_S05 role) resend_of resend-needs (λ f m t. is_there _ (resend_of (note m)) t)
all_late role S07 = by_subject role (λ f. breaks_S07 role) delivery_of delivery-needs (λ f m t. (both_true (is_delivery m) _ t).0)
all_late role E1A = known role (breaks_A publish_puback role) (answered role publish_puback (sent-needs puback_in puback-session))
all_late role E1O = in_turn role publish_puback (sent-needs puback_in puback-session)
all_late role E2A = known role (breaks_A publish_pubrec role) (answered role publish_pubrec (sent-needs pubrec_in pubrec-session))
all_late role E2O = in_turn role publish_pubrec (sent-needs pubrec_in pubrec-session)
all_late role E3A = known role (breaks_A pubrec_pubrel role) (answered role pubrec_pubrel (sent-needs pubrel_in pubrel-session))
all_late role E3O = in_turn role pubrec_pubrel (sent-needs pubrel_in pubrel-session)
all_late role E4A = answered role pubrel_pubcomp (sent-needs pubcomp_in pubcomp-session)
all_late role E5A = answered role subscribe_suback (sent-needs suback_in suback-session)
all_late role E6A = answered role unsubscribe_unsuback (sent-needs unsuback_in unsuback-session)
all_late role E7R = λ log order. rest-late role log
all_late role L1 = placed role (breaks_L1 role) (by_subject role (breaks_L1 role) released_id release-needs (λ f m t. is_there _ (released_id (note m)) t))
all_late role L2 = placed role (breaks_L2 role) (by_subject role (breaks_L2 role) released_id release-needs (λ f m t. is_there _ (released_id (note m)) t))
all_late role L3 = by_subject role (breaks_L3 role) (sent_as success_pubcomp_in) (sent-needs success_pubcomp_in success-session) (λ f m t. is_there _ (sent_as success_pubcomp_in (note m)) t)
all_late role B01 = by_subject role (breaks_B01 role) sent_publish publish-needs (λ f m t. is_there _ (sent_publish (note m)) t)
all_late role B02 = by_subject role (breaks_B02 role) sent_publish publish-needs (λ f m t. is_there _ (sent_publish (note m)) t)
all_late role B03 = by_subject role (λ f. breaks_B03) (λ n. option_and_then grant_in (sent_fields n)) (sent-needs grant_in grant-session) (λ f m t. is_there _ (option_and_then grant_in (sent_fields (note m))) t)
all_late role B04 = by_subject role (λ f. breaks_B04) (λ n. option_and_then deletion_in (sent_fields n)) (sent-needs deletion_in deletion-session) (λ f m t. is_there _ (option_and_then deletion_in (sent_fields (note m))) t)
all_late role B05 = by_subject role (λ f. breaks_B05) (λ n. option_and_then grant_in (sent_fields n)) (sent-needs grant_in grant-session) (λ f m t. is_there _ (option_and_then grant_in (sent_fields (note m))) t)
all_late role B06 = by_subject role (breaks_B06 role) (λ n. option_and_then deletion_in (sent_fields n)) (sent-needs deletion_in deletion-session)
    (λ f m t. is_there _ (option_and_then deletion_in (sent_fields (note m))) (both_true (is_clear_before role f m) _ t).1)
all_late role B07 = by_subject role (breaks_B07 role) (λ n. option_and_then deletion_in (sent_fields n)) (sent-needs deletion_in deletion-session)
    (λ f m t. is_there _ (option_and_then deletion_in (sent_fields (note m))) (both_true (is_clear_before role f m) _ t).1)
all_late role B08 = by_subject role (breaks_B08 role) sent_publish publish-needs (λ f m t. is_there _ (sent_publish (note m)) (both_true (is_clear_before role f m) _ t).1)
all_late role B09 = by_subject role (breaks_B09 role) sent_publish publish-needs (λ f m t. is_there _ (sent_publish (note m)) (both_true (is_clear_before role f m) _ t).1)
all_late role P01 = by_subject role (breaks_P01 role) sent_publish publish-needs (λ f m t. is_there _ (sent_publish (note m)) (both_true (is_clear_before role f m) _ t).1)
all_late role P02 = by_subject role (breaks_P02 role) sent_publish publish-needs (λ f m t. is_there _ (sent_publish (note m)) (both_true (is_clear_before role f m) _ t).1)
all_late role R01 = by_subject role (breaks_R01 role) sent_publish publish-needs (λ f m t. is_there _ (sent_publish (note m)) (both_true (is_clear_before role f m) _ t).1)
all_late role R02 = by_subject role (breaks_R02 role) sent_publish publish-needs (λ f m t. is_there _ (sent_publish (note m)) (both_true (is_clear_before role f m) _ t).1)
all_late role _ = tt

-- so in a log in order it is judged at once
pub in_order-turns : (tested : Tested) (rule : Rule) (breaks : Fate → Moment → Bool) (e : Seen) (past : List Seen) → statement tested.role rule ≡ in_session breaks → IsInOrder tested.role (e ∷ past)
    → JudgedAtOnce tested rule e past (binds rule tested && is_some_and (λ f. accepts f && breaks f (newest e past)) (latest_fate tested.role past))
in_order-turns tested rule breaks e past is order =
    late-turns tested rule breaks e past is (subst (IsLateInOrder tested.role) is (all_late tested.role rule) (e ∷ past) order)

pub in_order-releases : (tested : Tested) (rule : Rule) (breaks : Fate → Moment → Bool) (e : Seen) (past : List Seen) → statement tested.role rule ≡ at_release breaks → IsInOrder tested.role (e ∷ past)
    → JudgedAtOnce tested rule e past (binds rule tested && is_some_and (λ f. breaks f (newest e past)) (latest_fate tested.role past))
in_order-releases tested rule breaks e past is order =
    release-turns tested rule breaks e past is (subst (IsLateInOrder tested.role) is (all_late tested.role rule) (e ∷ past) order)
