-- Wherever a statement is false, it is put to the test: a lemma for each statement, and one for all. Those on subscriptions are in SubscriptionLaws and MatchingLaws.
use Rattle.std.proofs.Common.{◌≡◌, ℕ, ◌+◌, ◌<◌, ◌==◌, nat_le, nat_lt, arith, Bool, true, false, ◌&&◌, ◌||◌, not, List, [], ◌∷◌, Option, Some, None, is_some, refl, subst}
use Rattle.std.specs.Prelude.{◌≤◌, max, unwrap_or}
use Rattle.std.specs.Option.{option_and_then, option_or}
use Rattle.std.specs.List.{list_any}
use Rattle.std.proofs.lemmas.Bool.{eqb-true, le-leb, ltb-true}
use Rattle.std.proofs.lemmas.Bool.Decides.{nat_tests}
use Rattle.mq_packet.specs.declared.packet.Qos.{Qos}
use Rattle.mq_packet.specs.declared.packet.Qos.TheVariants as quality
use Rattle.mq_packet.specs.declared.packet.PacketType.{PacketType}
use Rattle.mq_packet.specs.declared.packet.PacketType.TheVariants as types
use Rattle.mq_packet.specs.Canonical.{type_number}
use Rattle.mq_rules.specs.declared.role.Role.{Role}
use Rattle.mq_rules.specs.declared.role.Role.TheVariants.{Client, Server}
use Rattle.mq_rules.specs.declared.role.Tested.{Tested}
use Rattle.mq_rules.specs.declared.fate.Fate.{Fate}
use Rattle.mq_rules.specs.declared.rule.Rule.{Rule}
use Rattle.mq_rules.specs.declared.rule.Rule.TheVariants.{W01, W02, W03, W04, W05, W06, W07, W08, W09, W10, W11, W12, W13, W14, W15, W16, W17, W18, W19, W20, W21, C01, C02, C03, C04, C05, C06, C07, C08, C09, C10, C11, C12, C13, C14, C15, C16, C17, C18, C19, C20, C21, C22, C23, S01, S02, S03, S04, S05, S06, S07, E1A, E1R, E1O, E2A, E2R, E2O, E3A, E3R, E3O, E4A, E4R, E5A, E5R, E6A, E6R, E7R, L1, L2, L3, B01, B02, B03, B04, B05, B06, B07, B08, B09, P01, P02, R01, R02, F01, F02, F03, F04, F05, F06, V03, V04, V06, C24, D01, D02, D03, D05, A01, A02, A03, K01, K02}
use Rattle.mq_rules.specs.declared.note.Note.{Note}
use Rattle.mq_rules.specs.declared.note.ItemNote.{ItemNote}
use Rattle.mq_rules.specs.declared.note.Seen.{Seen}
use Rattle.mq_rules.specs.declared.packet_note.PacketNote.{PacketNote}
use Rattle.mq_rules.specs.declared.packet_note.PublishNote.{PublishNote}
use Rattle.mq_rules.specs.declared.packet_note.ConnectNote.{ConnectNote}
use Rattle.mq_rules.specs.declared.packet_note.ConnackNote.{ConnackNote}
use Rattle.mq_rules.specs.declared.packet_note.WillNote.{WillNote}
use Rattle.mq_rules.specs.declared.packet_note.DisconnectNote.{DisconnectNote}
use Rattle.mq_rules.specs.Words.{is_some_and, is_id}
use Rattle.mq_rules.specs.Notes.{is_close, is_rest, sent_packet, sent_publish, sent_disconnect, sent_connack, sent_wishes, sent_receipt_code, sent_item, is_of_type, foreign_types, type_number_in, sends_type, receives_type, may_explain, resumed_by, qos_number, opener_of, resend_of, sent_as, pubrel_in, subscribe_in, suback_in, unsubscribe_in, unsuback_in, received_as, success_pubcomp_in, released_id, is_received_pingreq, is_sent_pingresp, sends_auth}
use Rattle.mq_rules.specs.Moments.{Moment, note, moments, is_same, is_after, some, since, those, count, some_stretch}
use Rattle.mq_rules.specs.Connections.{begun, number, connection, fate, is_binding, latest_fate, resumed, session}
use Rattle.mq_rules.specs.Pasts.{sends_typed, sends_or_closes, came_before, is_sent_disconnect, is_sent_refusal, says_session_present, accepts_so, connect_before, connack_before, is_alive, peer_maximum_packet_size, peer_topic_alias_maximum, peer_receive_maximum, knows_peer, set_alias, used_alias, is_last_sent, breaks_C01, breaks_C02, breaks_C03, breaks_C04, breaks_C05, breaks_C06, breaks_C07, breaks_C08, breaks_C09, breaks_C10, breaks_C11, breaks_C12, breaks_C13, breaks_C14, breaks_C15, breaks_C16, breaks_C17, breaks_C18, breaks_C19, breaks_C20, breaks_C21, breaks_C22, breaks_C23, applies_C01, applies_C02, applies_C03, applies_C04, applies_C05, applies_C06, applies_C07, applies_C08, applies_C09, applies_C10, applies_C11, applies_C12, applies_C13, applies_C14, applies_C15, applies_C16, applies_C17, applies_C18, applies_C19, applies_C20, applies_C21, applies_C22, applies_C23}
use Rattle.mq_rules.specs.KeepAlive.{breaks_K01, breaks_K02, applies_K01, applies_K02, client_limit, cuts_packet, half, is_first_longer, is_heard, is_listened_to, is_longer, keep_alive, one_and_a_half, server_limit, silence, takes_time}
use Rattle.mq_rules.specs.FurtherPasts.{breaks_F01, breaks_F02, breaks_F03, breaks_F04, breaks_F05, breaks_F06, breaks_V03, breaks_V04, breaks_V06, breaks_A01, breaks_A02, breaks_A03, applies_F01, applies_F02, applies_F03, applies_F04, applies_F05, applies_F06, applies_V03, applies_V04, applies_V06, applies_A01, applies_A02, applies_A03, has_to_name, is_authenticating, method_before, names_method, lacks_method, lacks_retain, lacks_wildcards, lacks_identifiers, lacks_shares, is_code_of_servers, is_code_of_clients, is_receipt_of_servers, will_in}
use Rattle.mq_rules.specs.FurtherRests.{is_unrefused, leaves_unanswered, owes_C24, owes_D01, owes_D02, owes_D03, owes_D05, says_goodbye, shows_outcome, stays_open, shows_C24, shows_D01, shows_D02, shows_D03, shows_D05, applies_C24, applies_D01, applies_D02, applies_D03, applies_D05}
use Rattle.mq_rules.specs.Identifiers.{opens_id, closes_id, delivers, session_before, is_open_at, latest_opener, awaits_suback, awaits_unsuback, may_be_discarded, is_busy_at, takes_some, is_any_busy_at, taken_by, was_sent_on_void, was_sent_before_session, was_cut_off, opens_exactly_once, sends_pubrel, comes_after, is_delivery, is_closer, counts, passes, is_waiting, came_on, was_open, was_sent_again, is_excused, breaks_S01, breaks_S02, breaks_S03, breaks_S04, breaks_S05, breaks_S07, shows_S06, applies_S01, applies_S02, applies_S03, applies_S04, applies_S05, applies_S06, applies_S07}
use Rattle.mq_rules.specs.Exchanges.{Exchange, publish_puback, publish_pubrec, pubrec_pubrel, pubrel_pubcomp, subscribe_suback, unsubscribe_unsuback, answers, causes, first_unanswered, is_other_unanswered, breaks_A, breaks_O, shows_R, breaks_E7R, applies_A, applies_O, applies_R, applies_E7R}
use Rattle.mq_rules.specs.Releases.{brings, releases_message, ends, first_brought, may_lapse, breaks_L1, breaks_L2, breaks_L3, applies_L1, applies_L2, applies_L3}
use Rattle.mq_rules.specs.Subscriptions.{breaks_B01, breaks_B02, breaks_B03, breaks_B04, breaks_B05, applies_B01, applies_B02, applies_B03, applies_B04, applies_B05}
use Rattle.mq_rules.specs.FurtherSubscriptions.{breaks_B06, breaks_B07, applies_B06, applies_B07}
use Rattle.mq_rules.specs.MatchingSubscriptions.{breaks_B08, breaks_B09, breaks_P01, breaks_P02, breaks_R01, breaks_R02, applies_B08, applies_B09, applies_P01, applies_P02, applies_R01, applies_R02}
use Rattle.mq_rules.specs.Rules.{binds}
use Rattle.mq_rules.specs.Statements.{statement, is_by_bytes, is_on_bytes, is_so, fails}
use Rattle.mq_rules.specs.Occasions.{occasion, occurs, applies}
use Rattle.mq_rules.proofs.Exports.{among-some, and_false, and_true, both_true, or_left, or_right, session-members, some-among, those-among}
use Rattle.mq_rules_laws.proofs.WiderLaws.{is_there, wider-there, passing-id, first_true, wider-some, since-some, since-fewer, count-some, wider-stretch, wider-past, wider-session, wider-knowing, wider-knowing_resumed, wider-placed, wider-rest, wider-later}
use Rattle.mq_rules_laws.proofs.SubscriptionLaws.{B01-applies, B02-applies, B03-applies, B04-applies, B05-applies, B06-applies, B07-applies}
use Rattle.mq_rules_laws.proofs.MatchingLaws.{B08-applies, B09-applies, P01-applies, P02-applies, R01-applies, R02-applies}

-- ---- the past of a connection

pub C01-applies : (role : Role) (k : Moment) → breaks_C01 role k ≡ true → applies_C01 k ≡ true
unfolding breaks_C01 applies_C01
C01-applies role k h = go (sent_item (note k)) h
  where
    -- the number 0 is no type's
    typed : (j : ℕ) → list_any (λ type. type_number type == j) (foreign_types role) ≡ true → not (j == 0) ≡ true
    typed j h = by role (j == 0) refl h
      where
        by : (r : Role) (z : Bool) → (j == 0) ≡ z → list_any (λ type. type_number type == j) (foreign_types r) ≡ true → not z ≡ true
        by r false is h = refl
        by Client true is h = absurd (let zero : list_any (λ type. type_number type == 0) (foreign_types Client) ≡ true = subst (λ (n : ℕ). list_any (λ type. type_number type == n) (foreign_types Client) ≡ true) (eqb-true j 0 is) h in cc)
        by Server true is h = absurd (let zero : list_any (λ type. type_number type == 0) (foreign_types Server) ≡ true = subst (λ (n : ℕ). list_any (λ type. type_number type == n) (foreign_types Server) ≡ true) (eqb-true j 0 is) h in cc)

    -- no type is there
    none : (ts : List PacketType) → list_any (λ type. false) ts ≡ true → ⊥
    none [] h = absurd (cc)
    none (t ∷ ts) h = none ts h

    numbered : (o : Option ℕ) → list_any (λ type. is_id (type_number type) o) (foreign_types role) ≡ true → is_some_and (λ type. not (type == 0)) o ≡ true
    numbered None h = absurd (none (foreign_types role) h)
    numbered (Some j) h = typed j h

    go : (o : Option ItemNote) → list_any (λ type. is_some_and (is_of_type type) o) (foreign_types role) ≡ true → is_some_and (λ type. not (type == 0)) (option_and_then type_number_in o) ≡ true
    go None h = absurd (none (foreign_types role) h)
    go (Some item) h = numbered (type_number_in item) h

pub C02-applies : (k : Moment) → breaks_C02 k ≡ true → applies_C02 k ≡ true
unfolding breaks_C02 applies_C02
C02-applies k h =
    let a = both_true (sends_typed k) (not (sends_type types.Connect (note k)) && not (some sends_typed (connection k.past))) h in
    and_true (sends_typed k) (not (some sends_typed (connection k.past))) a.0 (both_true (not (sends_type types.Connect (note k))) (not (some sends_typed (connection k.past))) a.1).1

pub C03-applies : (k : Moment) → breaks_C03 k ≡ true → applies_C03 k ≡ true
unfolding breaks_C03 applies_C03
C03-applies k h = first_true (sends_type types.Connect (note k)) (came_before (sends_type types.Connect) k) h

pub C04-applies : (k : Moment) → breaks_C04 k ≡ true → applies_C04 k ≡ true
unfolding breaks_C04 applies_C04
C04-applies k h = first_true (sends_type types.Connack (note k)) (not (came_before (receives_type types.Connect) k)) h

pub C05-applies : (k : Moment) → breaks_C05 k ≡ true → applies_C05 k ≡ true
unfolding breaks_C05 applies_C05
C05-applies k h = go (sends_typed k) (sends_type types.Connack (note k)) (sends_type types.Auth (note k)) (came_before (sends_type types.Connack) k) h
  where
    go : (a b c d : Bool) → (a && (not (b || c) && not d)) ≡ true → (a && (not c && not d)) ≡ true
    go false b c d h = absurd (cc)
    go true true c d h = absurd (cc)
    go true false c d h = h

pub C06-applies : (k : Moment) → breaks_C06 k ≡ true → applies_C06 k ≡ true
unfolding breaks_C06 applies_C06
C06-applies k h = first_true (sends_type types.Connack (note k)) (came_before (sends_type types.Connack) k) h

pub C07-applies : (k : Moment) → breaks_C07 k ≡ true → applies_C07 k ≡ true
unfolding breaks_C07 applies_C07
C07-applies k h =
    let a = both_true (says_session_present (note k)) (is_some_and (λ c. c.clean_start) (connect_before Server k)) h in
    and_true (is_some (sent_connack (note k))) (is_some_and (λ c. c.clean_start) (connect_before Server k)) (is_there (λ c. c.session_present) (sent_connack (note k)) a.0) a.1

pub C08-applies : (k : Moment) → breaks_C08 k ≡ true → applies_C08 k ≡ true
unfolding breaks_C08 applies_C08
C08-applies k h = go (says_session_present (note k)) (accepts_so (note k)) (is_alive Server k) (is_some_and (λ c. not c.clean_start) (connect_before Server k)) h
  where
    go : (a b c d : Bool) → (a && (b && not c)) ≡ true → (b && (a || (d && not c))) ≡ true
    go false b c d h = absurd (cc)
    go true false c d h = absurd (cc)
    go true true c d h = refl

pub C09-applies : (k : Moment) → breaks_C09 k ≡ true → applies_C09 k ≡ true
unfolding breaks_C09 applies_C09
C09-applies k h =
    let a = both_true (says_session_present (note k)) (not (accepts_so (note k))) h in
    and_true (is_some (sent_connack (note k))) (not (accepts_so (note k))) (is_there (λ c. c.session_present) (sent_connack (note k)) a.0) a.1

pub C10-applies : (k : Moment) → breaks_C10 k ≡ true → applies_C10 k ≡ true
unfolding breaks_C10 applies_C10
C10-applies k h =
    let a = both_true (accepts_so (note k)) (not (is_some_and (λ c. c.has_assigned_identifier) (sent_connack (note k))) && is_some_and (λ c. c.is_unnamed) (connect_before Server k)) h in
    and_true (accepts_so (note k)) (is_some_and (λ c. c.is_unnamed) (connect_before Server k)) a.0 (both_true (not (is_some_and (λ c. c.has_assigned_identifier) (sent_connack (note k)))) (is_some_and (λ c. c.is_unnamed) (connect_before Server k)) a.1).1

after-applies : (test : Note → Bool) (k : Moment) → (sends_typed k && came_before test k) ≡ true → (sends_or_closes k && came_before test k) ≡ true
after-applies test k h =
    let a = both_true (sends_typed k) (came_before test k) h in
    and_true (sends_or_closes k) (came_before test k) (or_left (sends_typed k) (is_close (note k)) a.0) a.1

pub C11-applies : (k : Moment) → breaks_C11 k ≡ true → applies_C11 k ≡ true
unfolding breaks_C11 applies_C11
C11-applies k h = after-applies is_sent_disconnect k h

pub C12-applies : (k : Moment) → breaks_C12 k ≡ true → applies_C12 k ≡ true
unfolding breaks_C12 applies_C12
C12-applies k h = after-applies is_sent_refusal k h

pub C13-applies : (k : Moment) → breaks_C13 k ≡ true → applies_C13 k ≡ true
unfolding breaks_C13 applies_C13
C13-applies k h = go (is_some (sent_packet (note k))) (is_sent_disconnect (note k)) (is_some_and resumed_by (connack_before Client k)) (is_some_and (λ c. c.clean_start) (connect_before Client k) || not (is_alive Client k)) (is_close (note k)) h
  where
    go : (a b c d e : Bool) → (a && (not b && (c && d))) ≡ true → ((a || e) && (c && d)) ≡ true
    go false b c d e h = absurd (cc)
    go true true c d e h = absurd (cc)
    go true false c d e h = h

pub C14-applies : (role : Role) (k : Moment) → breaks_C14 role k ≡ true → applies_C14 role k ≡ true
unfolding breaks_C14 applies_C14
C14-applies role k h = go (sent_packet (note k)) (peer_maximum_packet_size role k) h
  where
    go : (o : Option PacketNote) (q : Option ℕ) → is_some_and (λ p. is_some_and (λ most. nat_lt most p.size) q) o ≡ true → (is_some o && is_some q) ≡ true
    go None q h = absurd (cc)
    go (Some p) None h = absurd (cc)
    go (Some p) (Some most) h = refl

pub C15-applies : (role : Role) (k : Moment) → breaks_C15 role k ≡ true → applies_C15 role k ≡ true
unfolding breaks_C15 applies_C15
C15-applies role k h =
    let alias = option_and_then (λ p. p.topic_alias) (sent_publish (note k)) in
    let a = both_true (knows_peer role k) (is_some_and (λ alias. nat_lt (peer_topic_alias_maximum role k) alias) alias) h in
    and_true (knows_peer role k) (is_some alias) a.0 (is_there (λ alias. nat_lt (peer_topic_alias_maximum role k) alias) alias a.1)

pub C16-applies : (k : Moment) → breaks_C16 k ≡ true → applies_C16 k ≡ true
unfolding breaks_C16 applies_C16
C16-applies k h = is_there (λ alias. not (came_before (λ n. is_id alias (set_alias n)) k)) (used_alias (note k)) h

-- a QoS is at most 2
qos-most : (q : Qos) → nat_lt 2 (qos_number q) ≡ false
qos-most quality.AtMostOnce = refl
qos-most quality.AtLeastOnce = refl
qos-most quality.ExactlyOnce = refl

pub C17-applies : (k : Moment) → breaks_C17 k ≡ true → applies_C17 k ≡ true
unfolding breaks_C17 applies_C17
C17-applies k h = go (sent_publish (note k)) (option_and_then (λ a. a.maximum_qos) (connack_before Client k)) h
  where
    go : (o : Option PublishNote) (q : Option ℕ) → is_some_and (λ p. nat_lt (unwrap_or q 2) (qos_number p.qos)) o ≡ true → (is_some o && is_some q) ≡ true
    go None q h = absurd (cc)
    go (Some p) None h = absurd (let low = qos-most p.qos in cc)
    go (Some p) (Some most) h = refl

pub C18-applies : (k : Moment) → breaks_C18 k ≡ true → applies_C18 k ≡ true
unfolding breaks_C18 applies_C18
C18-applies k h = is_there (λ p. p.has_subscription_identifier) (sent_publish (note k)) h

pub C19-applies : (k : Moment) → breaks_C19 k ≡ true → applies_C19 k ≡ true
unfolding breaks_C19 applies_C19
C19-applies k h = is_there (λ d. is_some d.session_expiry) (sent_disconnect (note k)) h

pub C20-applies : (k : Moment) → breaks_C20 k ≡ true → applies_C20 k ≡ true
unfolding breaks_C20 applies_C20
C20-applies k h = first_true (is_some_and (λ d. is_some_and (λ seconds. not (seconds == 0)) d.session_expiry) (sent_disconnect (note k))) (is_some_and (λ c. unwrap_or c.session_expiry 0 == 0) (connect_before Client k)) h

pub C21-applies : (k : Moment) → breaks_C21 k ≡ true → applies_C21 k ≡ true
unfolding breaks_C21 applies_C21
C21-applies k h =
    let explains = λ (p : PacketNote). (p.has_reason_string || p.has_user_property) && not (may_explain p.fields) in
    let asked = is_some_and (λ c. is_id 0 c.request_problem_information) (connect_before Server k) in
    let a = both_true (is_some_and explains (sent_packet (note k))) asked h in
    and_true (is_some_and (λ p. not (may_explain p.fields)) (sent_packet (note k))) asked
    (wider-there explains (λ p. not (may_explain p.fields)) (λ p t. (both_true (p.has_reason_string || p.has_user_property) (not (may_explain p.fields)) t).1) (sent_packet (note k)) a.0) a.1

pub C22-applies : (k : Moment) → breaks_C22 k ≡ true → applies_C22 k ≡ true
unfolding breaks_C22 applies_C22
C22-applies k h = first_true (is_some_and (λ c. c.has_response_information) (sent_connack (note k))) (is_some_and (λ c. not (is_id 1 c.request_response_information)) (connect_before Server k)) h

pub C23-applies : (role : Role) (k : Moment) → breaks_C23 role k ≡ true → applies_C23 role k ≡ true
unfolding breaks_C23 applies_C23
C23-applies role k h =
    let a = both_true (is_rest (note k)) (came_before (is_last_sent role) k) h in
    and_true (is_rest (note k) || is_close (note k)) (came_before (is_last_sent role) k) (or_left (is_rest (note k)) (is_close (note k)) a.0) a.1

-- ---- further statements on the past of a connection

-- what is said of a packet after a CONNACK is said of one that is there
after-connack : {A : Type 0} (a b : A → Bool) → ((m : A) → a m ≡ true → b m ≡ true) → (o : Option A) (lacks : Bool) → (is_some_and a o && lacks) ≡ true → (is_some_and b o && lacks) ≡ true
after-connack a b each o lacks h =
    let p = both_true (is_some_and a o) lacks h in
    and_true (is_some_and b o) lacks (wider-there a b each o p.0) p.1

there-after-connack : {A : Type 0} (a : A → Bool) (o : Option A) (lacks : Bool) → (is_some_and a o && lacks) ≡ true → (is_some o && lacks) ≡ true
there-after-connack a o lacks h =
    let p = both_true (is_some_and a o) lacks h in
    and_true (is_some o) lacks (is_there a o p.0) p.1

pub F01-applies : (k : Moment) → breaks_F01 k ≡ true → applies_F01 k ≡ true
unfolding breaks_F01 applies_F01
F01-applies k h =
    after-connack (λ p. not p.duplicate && p.retain) (λ p. not p.duplicate) (λ p t. (both_true (not p.duplicate) p.retain t).0) (sent_publish (note k)) (lacks_retain (connack_before Client k)) h

pub F02-applies : (k : Moment) → breaks_F02 k ≡ true → applies_F02 k ≡ true
unfolding breaks_F02 applies_F02
F02-applies k h = there-after-connack (λ w. w.has_wildcard) (sent_wishes (note k)) (lacks_wildcards (connack_before Client k)) h

pub F03-applies : (k : Moment) → breaks_F03 k ≡ true → applies_F03 k ≡ true
unfolding breaks_F03 applies_F03
F03-applies k h = there-after-connack (λ w. is_some w.subscription_identifier) (sent_wishes (note k)) (lacks_identifiers (connack_before Client k)) h

pub F04-applies : (k : Moment) → breaks_F04 k ≡ true → applies_F04 k ≡ true
unfolding breaks_F04 applies_F04
F04-applies k h = there-after-connack (λ w. w.has_share) (sent_wishes (note k)) (lacks_shares (connack_before Client k)) h

pub F05-applies : (k : Moment) → breaks_F05 k ≡ true → applies_F05 k ≡ true
unfolding breaks_F05 applies_F05
F05-applies k h = go (sent_connack (note k)) (will_in (connect_before Server k)) h
  where
    go : (connack : Option ConnackNote) (will : Option WillNote)
        → is_some_and (λ c. (c.code == 0) && is_some_and (λ w. is_some_and (λ most. nat_lt most (qos_number w.qos)) c.maximum_qos) will) connack ≡ true
        → (is_some_and (λ c. is_some c.maximum_qos || (c.code == 155)) connack && is_some will) ≡ true
    go None will h = absurd (cc)
    go (Some c) None h = absurd (let none : ((c.code == 0) && false) ≡ false = and_false (c.code == 0) in cc)
    go (Some c) (Some w) h =
        and_true (is_some c.maximum_qos || (c.code == 155)) true
        (or_left (is_some c.maximum_qos) (c.code == 155) (bounded c.maximum_qos (both_true (c.code == 0) (is_some_and (λ most. nat_lt most (qos_number w.qos)) c.maximum_qos) h).1)) refl
      where
        bounded : (o : Option ℕ) → is_some_and (λ most. nat_lt most (qos_number w.qos)) o ≡ true → is_some o ≡ true
        bounded None t = absurd (cc)
        bounded (Some most) t = refl

pub F06-applies : (k : Moment) → breaks_F06 k ≡ true → applies_F06 k ≡ true
unfolding breaks_F06 applies_F06
F06-applies k h =
    let a = both_true (is_some_and (λ c. (c.code == 0) && is_id 0 c.retain_available) (sent_connack (note k))) (is_some_and (λ w. w.retain) (will_in (connect_before Server k))) h in
    and_true (is_some_and (λ c. is_id 0 c.retain_available || (c.code == 154)) (sent_connack (note k))) (is_some (will_in (connect_before Server k)))
    (wider-there (λ c. (c.code == 0) && is_id 0 c.retain_available) (λ c. is_id 0 c.retain_available || (c.code == 154))
    (λ c t. or_left (is_id 0 c.retain_available) (c.code == 154) (both_true (c.code == 0) (is_id 0 c.retain_available) t).1) (sent_connack (note k)) a.0)
    (there (will_in (connect_before Server k)) a.1)
  where
    there : (will : Option WillNote) → is_some_and (λ w. w.retain) will ≡ true → is_some will ≡ true
    there None t = absurd (cc)
    there (Some w) t = refl

pub V03-applies : (k : Moment) → breaks_V03 k ≡ true → applies_V03 k ≡ true
unfolding breaks_V03 applies_V03
V03-applies k h = wider-there (λ w. w.has_share && w.has_misnamed_share) (λ w. w.has_share) (λ w t. (both_true w.has_share w.has_misnamed_share t).0) (sent_wishes (note k)) h

pub V04-applies : (k : Moment) → breaks_V04 k ≡ true → applies_V04 k ≡ true
unfolding breaks_V04 applies_V04
V04-applies k h = wider-there (λ w. w.has_share && w.has_no_local_share) (λ w. w.has_share) (λ w t. (both_true w.has_share w.has_no_local_share t).0) (sent_wishes (note k)) h

pub V06-applies : (role : Role) (k : Moment) → breaks_V06 role k ≡ true → applies_V06 role k ≡ true
unfolding breaks_V06 applies_V06
V06-applies Client k h = go (sent_disconnect (note k)) (sent_receipt_code (note k)) h
  where
    go : (disconnect : Option DisconnectNote) (code : Option ℕ) → (is_some_and (λ d. is_code_of_servers d.code) disconnect || is_some_and is_receipt_of_servers code) ≡ true
        → (is_some disconnect || is_some code) ≡ true
    go (Some d) code h = refl
    go None (Some c) h = refl
    go None None h = absurd (cc)
V06-applies Server k h = is_there (λ d. is_code_of_clients d.code) (sent_disconnect (note k)) h

pub A01-applies : (k : Moment) → breaks_A01 k ≡ true → applies_A01 k ≡ true
unfolding breaks_A01 applies_A01
A01-applies k h = go (sends_typed k) (sends_type types.Connect (note k)) (sends_type types.Auth (note k) || sends_type types.Disconnect (note k)) (is_authenticating k) h
  where
    go : (typed connects others waits : Bool) → (typed && (not (connects || others) && waits)) ≡ true → (typed && (not connects && waits)) ≡ true
    go false connects others waits h = absurd (cc)
    go true true others waits h = absurd (cc)
    go true false true waits h = absurd (cc)
    go true false false waits h = h

-- a CONNECT without a method is there
lacking-there : (connect : Option ConnectNote) → lacks_method connect ≡ true → is_some connect ≡ true
lacking-there None t = absurd (cc)
lacking-there (Some c) t = refl

pub A02-applies : (role : Role) (k : Moment) → breaks_A02 role k ≡ true → applies_A02 role k ≡ true
unfolding breaks_A02 applies_A02
A02-applies Client k h =
    let a = both_true (sends_auth (note k)) (lacks_method (connect_before Client k)) h in
    and_true (sends_auth (note k)) (is_some (connect_before Client k)) a.0 (lacking-there (connect_before Client k) a.1)
A02-applies Server k h = go (sends_auth (note k)) (sent_connack (note k)) (connect_before Server k) h
  where
    go : (auth : Bool) (connack : Option ConnackNote) (connect : Option ConnectNote) → ((auth || is_some_and (λ c. c.has_authentication_method) connack) && lacks_method connect) ≡ true
        → ((auth && is_some connect) || (is_some connack && lacks_method connect)) ≡ true
    go true connack connect h = or_left (is_some connect) (is_some connack && lacks_method connect) (lacking-there connect h)
    go false None connect h = absurd (cc)
    go false (Some c) connect h = (both_true c.has_authentication_method (lacks_method connect) h).1

pub A03-applies : (role : Role) (k : Moment) → breaks_A03 role k ≡ true → applies_A03 role k ≡ true
unfolding breaks_A03 applies_A03
A03-applies role k h =
    let a = both_true (has_to_name role (note k)) (is_some_and (λ method. not (names_method (note k) method)) (method_before role k)) h in
    and_true (has_to_name role (note k)) (is_some (method_before role k)) a.0 (is_there (λ method. not (names_method (note k) method)) (method_before role k) a.1)

-- ---- further statements on the Keep Alive

-- what is longer than a limit is longer than a shorter one
longer-sooner : (sooner later long : ℕ) → sooner ≤ later → nat_lt later long ≡ true → nat_lt sooner long ≡ true
longer-sooner sooner later long le h = grind (arith, nat_tests)

-- what comes for the first time comes
first-longer : (limit : ℕ → ℕ) (role : Role) (k : Moment) (excused : Bool) → (is_first_longer limit role k && excused) ≡ true → is_longer limit role k ≡ true
first-longer limit role k excused h =
    (both_true (is_longer limit role k) (not (since (λ j. is_longer limit role j && not (is_heard role j)) (is_heard role) (connection k.past)))
    (both_true (is_first_longer limit role k) excused h).0).0

pub K01-applies : (k : Moment) → breaks_K01 k ≡ true → applies_K01 k ≡ true
unfolding breaks_K01 applies_K01
K01-applies k h =
    let a = both_true (is_listened_to Client k) (is_first_longer client_limit Client k && not (takes_time (note k) || cuts_packet (note k))) h in
    and_true (is_listened_to Client k) (is_longer half Client k) a.0
    (longer-sooner (half (keep_alive Client k)) (client_limit (keep_alive Client k)) (silence Client k) (sooner (keep_alive Client k))
    (first-longer client_limit Client k (not (takes_time (note k) || cuts_packet (note k))) a.1))
  where
    sooner : (n : ℕ) → half n ≤ client_limit n
    sooner n = omega arith

pub K02-applies : (k : Moment) → breaks_K02 k ≡ true → applies_K02 k ≡ true
unfolding breaks_K02 applies_K02
K02-applies k h =
    let a = both_true (is_listened_to Server k) (is_first_longer server_limit Server k && not (takes_time (note k))) h in
    and_true (is_listened_to Server k) (is_longer one_and_a_half Server k) a.0
    (longer-sooner (one_and_a_half (keep_alive Server k)) (server_limit (keep_alive Server k)) (silence Server k) (sooner (one_and_a_half (keep_alive Server k)) (max (half (keep_alive Server k)) 5000000))
    (first-longer server_limit Server k (not (takes_time (note k))) a.1))
  where
    sooner : (n m : ℕ) → n ≤ n + m
    sooner n m = omega arith

-- ---- identifiers

-- what is busy is open, or waits for its answer
busy-parts : (role : Role) (f : Fate) (i : ℕ) (k : Moment) → is_busy_at role f i k ≡ true → (is_open_at role f i k || (awaits_suback i k || awaits_unsuback i k)) ≡ true
busy-parts role f i k h = go (is_open_at role f i k) (may_be_discarded role f i k) h
  where
    go : (o d : Bool) → ((o && not d) || (awaits_suback i k || awaits_unsuback i k)) ≡ true → (o || (awaits_suback i k || awaits_unsuback i k)) ≡ true
    go true d h = refl
    go false d h = h

-- and was taken before
busy-taken : (role : Role) (f : Fate) (i : ℕ) (k : Moment) (test : ℕ → Bool) → test i ≡ true → is_busy_at role f i k ≡ true → some (takes_some test) (moments k.past) ≡ true
busy-taken role f i k test passing busy = go (is_open_at role f i k) refl (awaits_suback i k) refl (busy-parts role f i k busy)
  where
    opened : Moment → Bool
    opened m = is_some_and test (opener_of (note m))

    subscribed : Moment → Bool
    subscribed m = is_some_and test (sent_as subscribe_in (note m))

    unsubscribed : Moment → Bool
    unsubscribed m = is_some_and test (sent_as unsubscribe_in (note m))

    -- what was taken on the connection, by a SUBSCRIBE or an UNSUBSCRIBE
    asked : (asks ends : Moment → Bool) → ((m : Moment) → asks m ≡ true → (subscribed m || unsubscribed m) ≡ true) → since asks ends (connection k.past) ≡ true → some (takes_some test) (moments k.past) ≡ true
    asked asks stops each h =
        let r = some-among asks (connection k.past) (since-some asks stops (connection k.past) h) in
        among-some (takes_some test) (moments k.past) r.0 (those-among (λ m. number m == begun k.past) (moments k.past) r.0 r.1).0 (or_right (opened r.0) (subscribed r.0 || unsubscribed r.0) (each r.0 r.2))

    go : (o : Bool) → is_open_at role f i k ≡ o → (s : Bool) → awaits_suback i k ≡ s → (o || (s || awaits_unsuback i k)) ≡ true → some (takes_some test) (moments k.past) ≡ true
    go true is s at h =
        let r = some-among (opens_id i) (session_before role f k) (since-some (opens_id i) (closes_id i) (session_before role f k) is) in
        among-some (takes_some test) (moments k.past) r.0 (session-members role (Some f) k.past r.0 r.1).0
        (or_left (opened r.0) (subscribed r.0 || unsubscribed r.0) (passing-id i test (opener_of (note r.0)) passing r.2))
    go false is true at h = asked (λ m. is_id i (sent_as subscribe_in (note m))) (λ m. is_id i (received_as suback_in (note m)))
        (λ m t. or_left (subscribed m) (unsubscribed m) (passing-id i test (sent_as subscribe_in (note m)) passing t)) at
    go false is false at h = asked (λ m. is_id i (sent_as unsubscribe_in (note m))) (λ m. is_id i (received_as unsuback_in (note m)))
        (λ m t. or_right (subscribed m) (unsubscribed m) (passing-id i test (sent_as unsubscribe_in (note m)) passing t)) h

pub S01-applies : (role : Role) (f : Fate) (k : Moment) → breaks_S01 role f k ≡ true → applies_S01 role f k ≡ true
unfolding breaks_S01 applies_S01
S01-applies role f k h = go (taken_by role (note k)) h
  where
    go : (o : Option ℕ) → is_some_and (λ i. is_busy_at role f i k) o ≡ true → (is_some o && is_any_busy_at role f k) ≡ true
    go None h = absurd (cc)
    go (Some i) h = busy-taken role f i k (λ j. is_busy_at role f j k) h h

pub S02-applies : (role : Role) (f : Fate) (k : Moment) → breaks_S02 role f k ≡ true → applies_S02 role f k ≡ true
unfolding breaks_S02 applies_S02
S02-applies role f k h = go (resend_of (note k)) h
  where
    last : (a b c d : Bool) → not (a || (b || (c || d))) ≡ true → not d ≡ true
    last true b c d h = absurd (cc)
    last false true c d h = absurd (cc)
    last false false true d h = absurd (cc)
    last false false false d h = h

    go : (o : Option ℕ) → is_some_and (λ i. not (is_open_at role f i k || (was_sent_on_void role i k || (was_sent_before_session role f i k || was_cut_off role f k)))) o ≡ true
        → (is_some o && not (was_cut_off role f k)) ≡ true
    go None h = absurd (cc)
    go (Some i) h = last (is_open_at role f i k) (was_sent_on_void role i k) (was_sent_before_session role f i k) (was_cut_off role f k) h

pub S03-applies : (k : Moment) → breaks_S03 k ≡ true → applies_S03 k ≡ true
unfolding breaks_S03 applies_S03
S03-applies k h = is_there (λ i. since (delivers i) (closes_id i) (connection k.past)) (resend_of (note k)) h

pub S04-applies : (role : Role) (f : Fate) (k : Moment) → breaks_S04 role f k ≡ true → applies_S04 role f k ≡ true
unfolding breaks_S04 applies_S04
S04-applies role f k h = go (resend_of (note k)) h
  where
    past : ℕ → Bool
    past i = is_open_at role f i k && (is_some_and (opens_exactly_once i) (latest_opener role f i k) && since (sends_pubrel i) (opens_id i) (session_before role f k))

    go : (o : Option ℕ) → is_some_and past o ≡ true → is_some_and past (option_or o (sent_as pubrel_in (note k))) ≡ true
    go None h = absurd (cc)
    go (Some i) h = h

pub S05-applies : (role : Role) (f : Fate) (k : Moment) → breaks_S05 role f k ≡ true → applies_S05 role f k ≡ true
unfolding breaks_S05 applies_S05
S05-applies role f k h = go (resend_of (note k)) h
  where
    late : ℕ → Moment → ℕ → Bool
    late i j o = is_open_at role f o j && comes_after (latest_opener role f o j) (latest_opener role f i k)

    go : (o : Option ℕ) → is_some_and (λ i. is_open_at role f i k && some (λ j. is_some_and (late i j) (resend_of (note j))) (connection k.past)) o ≡ true
        → (is_some_and (λ i. is_open_at role f i k) o && some (λ j. is_some_and (λ o. is_open_at role f o j) (resend_of (note j))) (connection k.past)) ≡ true
    go None h = absurd (cc)
    go (Some i) h =
        let p = both_true (is_open_at role f i k) (some (λ j. is_some_and (late i j) (resend_of (note j))) (connection k.past)) h in
        and_true (is_open_at role f i k) (some (λ j. is_some_and (λ o. is_open_at role f o j) (resend_of (note j))) (connection k.past)) p.0
        (wider-some (λ j. is_some_and (late i j) (resend_of (note j))) (λ j. is_some_and (λ o. is_open_at role f o j) (resend_of (note j)))
        (λ j. wider-there (late i j) (λ o. is_open_at role f o j) (λ o t. (both_true (is_open_at role f o j) (comes_after (latest_opener role f o j) (latest_opener role f i k)) t).0) (resend_of (note j))) (connection k.past) p.1)

pub S06-applies : (role : Role) (t k : Moment) → shows_S06 role t k ≡ true → applies_S06 role t k ≡ true
unfolding shows_S06 applies_S06
S06-applies role t k h =
    let p = both_true (resumed (latest_fate role t.past)) (not (is_waiting t) && is_some_and owes (opener_of (note k))) h in
    let q = both_true (not (is_waiting t)) (is_some_and owes (opener_of (note k))) p.1 in
    and_true (resumed (latest_fate role t.past)) (not (is_waiting t) && is_some_and owed (opener_of (note k))) p.0
    (and_true (not (is_waiting t)) (is_some_and owed (opener_of (note k))) q.0 (wider-there owes owed each (opener_of (note k)) q.1))
  where
    before : List Moment
    before = session role (latest_fate role t.past) t.past

    earlier : Bool
    earlier = not (some (is_same k) (connection t.past))

    owes : ℕ → Bool
    owes i = since (is_same k) (λ m. opens_id i m || closes_id i m) before && (earlier && (not (was_sent_again i t) && not (is_excused role i t k)))

    owed : ℕ → Bool
    owed i = was_open role i t k && earlier

    each : (i : ℕ) → owes i ≡ true → owed i ≡ true
    each i h =
        let p = both_true (since (is_same k) (λ m. opens_id i m || closes_id i m) before) (earlier && (not (was_sent_again i t) && not (is_excused role i t k))) h in
        and_true (was_open role i t k) earlier
        (since-fewer (is_same k) (λ m. opens_id i m || closes_id i m) (λ m. (opens_id i m || closes_id i m) && not (came_on t m))
        (λ m q. (both_true (opens_id i m || closes_id i m) (not (came_on t m)) q).0) before p.0)
        (both_true earlier (not (was_sent_again i t) && not (is_excused role i t k)) p.1).0

pub S07-applies : (role : Role) (k : Moment) → breaks_S07 role k ≡ true → applies_S07 role k ≡ true
unfolding breaks_S07 applies_S07
S07-applies role k h = go (is_delivery k) (counts role k) h
  where
    mine : List Moment
    mine = k ∷ those (counts role) (connection k.past)

    most : ℕ
    most = peer_receive_maximum role k

    uses_up : List Moment → Bool
    uses_up stretch = nat_le (most + count is_closer stretch) (count is_delivery stretch)

    go : (d c : Bool) → (d && (c && passes most mine)) ≡ true → (d && (c && some_stretch uses_up mine)) ≡ true
    go false c h = absurd (cc)
    go true false h = absurd (cc)
    go true true h = wider-stretch (λ stretch. nat_lt (most + count is_closer stretch) (count is_delivery stretch)) uses_up
        (λ s t. let lt : most + count is_closer s < count is_delivery s = ltb-true (most + count is_closer s) (count is_delivery s) t in le-leb (most + count is_closer s) (count is_delivery s) (omega arith)) mine h

-- ---- exchanges

pub A-applies : (x : Exchange) (role : Role) (f : Fate) (k : Moment) → breaks_A x role f k ≡ true → applies_A x k ≡ true
unfolding breaks_A applies_A
A-applies x role f k h = is_there (λ i. not (since (causes x i) (λ j. answers x i j && (number j == number k)) (session_before role f k))) (x.answer (note k)) h

pub O-applies : (x : Exchange) (k : Moment) → breaks_O x k ≡ true → applies_O x k ≡ true
unfolding breaks_O applies_O
O-applies x k h = go (x.answer (note k)) h
  where
    go : (o : Option ℕ) → is_some_and (λ i. is_some_and (λ first. some (λ j. is_other_unanswered x i k j && is_after first j) (connection k.past)) (first_unanswered x i k)) o ≡ true
        → is_some_and (λ i. is_some (first_unanswered x i k) && some (is_other_unanswered x i k) (connection k.past)) o ≡ true
    go None h = absurd (cc)
    go (Some i) h = first (first_unanswered x i k) h
      where
        first : (q : Option Moment) → is_some_and (λ first. some (λ j. is_other_unanswered x i k j && is_after first j) (connection k.past)) q ≡ true → (is_some q && some (is_other_unanswered x i k) (connection k.past)) ≡ true
        first None h = absurd (cc)
        first (Some n) h = wider-some (λ j. is_other_unanswered x i k j && is_after n j) (is_other_unanswered x i k) (λ j t. (both_true (is_other_unanswered x i k j) (is_after n j) t).0) (connection k.past) h

pub R-applies : (x : Exchange) (t k : Moment) → shows_R x t k ≡ true → applies_R x t k ≡ true
unfolding shows_R applies_R
R-applies x t k h = go (x.cause (note k)) h
  where
    go : (o : Option ℕ) → is_some_and (λ i. not (is_some (first_unanswered x i k)) && since (is_same k) (answers x i) (connection t.past)) o ≡ true
        → (is_some_and (λ i. not (is_some (first_unanswered x i k))) o && some (is_same k) (connection t.past)) ≡ true
    go None h = absurd (cc)
    go (Some i) h =
        let p = both_true (not (is_some (first_unanswered x i k))) (since (is_same k) (answers x i) (connection t.past)) h in
        and_true (not (is_some (first_unanswered x i k))) (some (is_same k) (connection t.past)) p.0 (since-some (is_same k) (answers x i) (connection t.past) p.1)

pub E7R-applies : (role : Role) (k : Moment) → breaks_E7R role k ≡ true → applies_E7R role k ≡ true
unfolding breaks_E7R applies_E7R
E7R-applies role k h =
    let p = both_true (is_binding role k) (nat_lt (count (λ m. is_sent_pingresp (note m)) (connection k.past)) (count (λ m. is_received_pingreq (note m)) (connection k.past))) h in
    and_true (is_binding role k) (some (λ m. is_received_pingreq (note m)) (connection k.past)) p.0
    (count-some (λ m. is_received_pingreq (note m)) (count (λ m. is_sent_pingresp (note m)) (connection k.past)) (connection k.past) p.1)

-- ---- releases

pub L1-applies : (role : Role) (f : Fate) (k : Moment) → breaks_L1 role f k ≡ true → applies_L1 k ≡ true
unfolding breaks_L1 applies_L1
L1-applies role f k h = is_there (λ i. not (since (brings i) (ends i) (session_before role f k))) (released_id (note k)) h

pub L2-applies : (role : Role) (f : Fate) (k : Moment) → breaks_L2 role f k ≡ true → applies_L2 k ≡ true
unfolding breaks_L2 applies_L2
L2-applies role f k h = is_there (λ i. since (releases_message i) (ends i) (session_before role f k)) (released_id (note k)) h

pub L3-applies : (role : Role) (f : Fate) (k : Moment) → breaks_L3 role f k ≡ true → applies_L3 role f k ≡ true
unfolding breaks_L3 applies_L3
L3-applies role f k h = wider-there old new each (sent_as success_pubcomp_in (note k)) h
  where
    old : ℕ → Bool
    old i = is_some_and (λ first. not (since (releases_message i) (ends i) (session_before role f k)) && not (may_lapse role f i k first)) (first_brought role f i k)

    new : ℕ → Bool
    new i = is_some_and (λ first. not (may_lapse role f i k first)) (first_brought role f i k)

    each : (i : ℕ) → old i ≡ true → new i ≡ true
    each i = wider-there (λ first. not (since (releases_message i) (ends i) (session_before role f k)) && not (may_lapse role f i k first)) (λ first. not (may_lapse role f i k first))
        (λ first t. (both_true (not (since (releases_message i) (ends i) (session_before role f k))) (not (may_lapse role f i k first)) t).1) (first_brought role f i k)

-- ---- what a later REST shows

pub C24-applies : (t m : Moment) → shows_C24 t m ≡ true → applies_C24 t m ≡ true
unfolding shows_C24 applies_C24
C24-applies t m h =
    let p = both_true (owes_C24 m) (leaves_unanswered t) h in
    and_true (owes_C24 m) (is_some (sent_connack (note t)) || leaves_unanswered t) p.0 (or_right (is_some (sent_connack (note t))) (leaves_unanswered t) p.1)

-- a REST at which the connection is still open shows what came of the error
stays-shown : (t : Moment) → stays_open t ≡ true → shows_outcome (note t) ≡ true
stays-shown t h =
    let rests = (both_true (is_rest (note t)) (not (came_before says_goodbye t)) h).0 in
    or_right (says_goodbye (note t)) (is_close (note t) || is_rest (note t)) (or_right (is_close (note t)) (is_rest (note t)) rests)

pub D01-applies : (t m : Moment) → shows_D01 t m ≡ true → applies_D01 t m ≡ true
unfolding shows_D01 applies_D01
D01-applies t m h =
    let p = both_true (owes_D01 m) (stays_open t) h in
    and_true (owes_D01 m) (shows_outcome (note t)) p.0 (stays-shown t p.1)

pub D02-applies : (t m : Moment) → shows_D02 t m ≡ true → applies_D02 t m ≡ true
unfolding shows_D02 applies_D02
D02-applies t m h =
    let p = both_true (owes_D02 m) (stays_open t) h in
    and_true (owes_D02 m) (shows_outcome (note t)) p.0 (stays-shown t p.1)

pub D03-applies : (t m : Moment) → shows_D03 t m ≡ true → applies_D03 t m ≡ true
unfolding shows_D03 applies_D03
D03-applies t m h =
    let p = both_true (owes_D03 m) (stays_open t) h in
    and_true (owes_D03 m) (shows_outcome (note t)) p.0 (stays-shown t p.1)

pub D05-applies : (t m : Moment) → shows_D05 t m ≡ true → applies_D05 t m ≡ true
unfolding shows_D05 applies_D05
D05-applies t m h =
    let p = both_true (owes_D05 m) (stays_open t && is_unrefused t) h in
    let q = both_true (stays_open t) (is_unrefused t) p.1 in
    and_true (owes_D05 m) (shows_outcome (note t) && is_unrefused t) p.0 (and_true (shows_outcome (note t)) (is_unrefused t) (stays-shown t q.0) q.1)

-- ---- all of them

line-applies : (role : Role) (rule : Rule) (fates : ℕ → Option Fate) (log : List Seen) (k : ℕ) → is_so role fates (statement role rule) log k ≡ true → is_by_bytes (statement role rule) ≡ false
    → occurs role fates (occasion role rule) log k ≡ true
line-applies role W01 fates log k h by_bytes = absurd (cc)
line-applies role W02 fates log k h by_bytes = absurd (cc)
line-applies role W03 fates log k h by_bytes = absurd (cc)
line-applies role W04 fates log k h by_bytes = absurd (cc)
line-applies role W05 fates log k h by_bytes = absurd (cc)
line-applies role W06 fates log k h by_bytes = absurd (cc)
line-applies role W07 fates log k h by_bytes = absurd (cc)
line-applies role W08 fates log k h by_bytes = absurd (cc)
line-applies role W09 fates log k h by_bytes = absurd (cc)
line-applies role W10 fates log k h by_bytes = absurd (cc)
line-applies role W11 fates log k h by_bytes = absurd (cc)
line-applies role W12 fates log k h by_bytes = absurd (cc)
line-applies role W13 fates log k h by_bytes = absurd (cc)
line-applies role W14 fates log k h by_bytes = absurd (cc)
line-applies role W15 fates log k h by_bytes = absurd (cc)
line-applies role W16 fates log k h by_bytes = absurd (cc)
line-applies role W17 fates log k h by_bytes = absurd (cc)
line-applies role W18 fates log k h by_bytes = absurd (cc)
line-applies role W19 fates log k h by_bytes = absurd (cc)
line-applies role W20 fates log k h by_bytes = absurd (cc)
line-applies role W21 fates log k h by_bytes = absurd (cc)
line-applies role C01 fates log k h by_bytes = wider-past role fates (breaks_C01 role) applies_C01 (C01-applies role) log k h
line-applies role C02 fates log k h by_bytes = wider-past role fates breaks_C02 applies_C02 C02-applies log k h
line-applies role C03 fates log k h by_bytes = wider-past role fates breaks_C03 applies_C03 C03-applies log k h
line-applies role C04 fates log k h by_bytes = wider-past role fates breaks_C04 applies_C04 C04-applies log k h
line-applies role C05 fates log k h by_bytes = wider-past role fates breaks_C05 applies_C05 C05-applies log k h
line-applies role C06 fates log k h by_bytes = wider-past role fates breaks_C06 applies_C06 C06-applies log k h
line-applies role C07 fates log k h by_bytes = wider-past role fates breaks_C07 applies_C07 C07-applies log k h
line-applies role C08 fates log k h by_bytes = wider-past role fates breaks_C08 applies_C08 C08-applies log k h
line-applies role C09 fates log k h by_bytes = wider-past role fates breaks_C09 applies_C09 C09-applies log k h
line-applies role C10 fates log k h by_bytes = wider-past role fates breaks_C10 applies_C10 C10-applies log k h
line-applies role C11 fates log k h by_bytes = wider-past role fates breaks_C11 applies_C11 C11-applies log k h
line-applies role C12 fates log k h by_bytes = wider-past role fates breaks_C12 applies_C12 C12-applies log k h
line-applies role C13 fates log k h by_bytes = wider-past role fates breaks_C13 applies_C13 C13-applies log k h
line-applies role C14 fates log k h by_bytes = wider-past role fates (breaks_C14 role) (applies_C14 role) (C14-applies role) log k h
line-applies role C15 fates log k h by_bytes = wider-past role fates (breaks_C15 role) (applies_C15 role) (C15-applies role) log k h
line-applies role C16 fates log k h by_bytes = wider-past role fates breaks_C16 applies_C16 C16-applies log k h
line-applies role C17 fates log k h by_bytes = wider-past role fates breaks_C17 applies_C17 C17-applies log k h
line-applies role C18 fates log k h by_bytes = wider-past role fates breaks_C18 applies_C18 C18-applies log k h
line-applies role C19 fates log k h by_bytes = wider-past role fates breaks_C19 applies_C19 C19-applies log k h
line-applies role C20 fates log k h by_bytes = wider-past role fates breaks_C20 applies_C20 C20-applies log k h
line-applies role C21 fates log k h by_bytes = wider-past role fates breaks_C21 applies_C21 C21-applies log k h
line-applies role C22 fates log k h by_bytes = wider-past role fates breaks_C22 applies_C22 C22-applies log k h
line-applies role C23 fates log k h by_bytes = wider-past role fates (breaks_C23 role) (applies_C23 role) (C23-applies role) log k h
line-applies role S01 fates log k h by_bytes = wider-knowing_resumed role fates (breaks_S01 role) (applies_S01 role) (S01-applies role) log k h
line-applies role S02 fates log k h by_bytes = wider-knowing role fates (breaks_S02 role) (applies_S02 role) (S02-applies role) log k h
line-applies role S03 fates log k h by_bytes = wider-session role fates (λ f. breaks_S03) (λ f. applies_S03) (λ f. S03-applies) log k h
line-applies role S04 fates log k h by_bytes = wider-session role fates (breaks_S04 role) (applies_S04 role) (S04-applies role) log k h
line-applies role S05 fates log k h by_bytes = wider-session role fates (breaks_S05 role) (applies_S05 role) (S05-applies role) log k h
line-applies role S06 fates log k h by_bytes = wider-rest role fates (shows_S06 role) (applies_S06 role) (S06-applies role) log k h
line-applies role S07 fates log k h by_bytes = wider-session role fates (λ f. breaks_S07 role) (λ f. applies_S07 role) (λ f. S07-applies role) log k h
line-applies role E1A fates log k h by_bytes = wider-knowing role fates (breaks_A publish_puback role) (λ f. applies_A publish_puback) (A-applies publish_puback role) log k h
line-applies role E1R fates log k h by_bytes = wider-rest role fates (shows_R publish_puback) (applies_R publish_puback) (R-applies publish_puback) log k h
line-applies role E1O fates log k h by_bytes = wider-session role fates (λ f. breaks_O publish_puback) (λ f. applies_O publish_puback) (λ f. O-applies publish_puback) log k h
line-applies role E2A fates log k h by_bytes = wider-knowing role fates (breaks_A publish_pubrec role) (λ f. applies_A publish_pubrec) (A-applies publish_pubrec role) log k h
line-applies role E2R fates log k h by_bytes = wider-rest role fates (shows_R publish_pubrec) (applies_R publish_pubrec) (R-applies publish_pubrec) log k h
line-applies role E2O fates log k h by_bytes = wider-session role fates (λ f. breaks_O publish_pubrec) (λ f. applies_O publish_pubrec) (λ f. O-applies publish_pubrec) log k h
line-applies role E3A fates log k h by_bytes = wider-knowing role fates (breaks_A pubrec_pubrel role) (λ f. applies_A pubrec_pubrel) (A-applies pubrec_pubrel role) log k h
line-applies role E3R fates log k h by_bytes = wider-rest role fates (shows_R pubrec_pubrel) (applies_R pubrec_pubrel) (R-applies pubrec_pubrel) log k h
line-applies role E3O fates log k h by_bytes = wider-session role fates (λ f. breaks_O pubrec_pubrel) (λ f. applies_O pubrec_pubrel) (λ f. O-applies pubrec_pubrel) log k h
line-applies role E4A fates log k h by_bytes = wider-session role fates (breaks_A pubrel_pubcomp role) (λ f. applies_A pubrel_pubcomp) (A-applies pubrel_pubcomp role) log k h
line-applies role E4R fates log k h by_bytes = wider-rest role fates (shows_R pubrel_pubcomp) (applies_R pubrel_pubcomp) (R-applies pubrel_pubcomp) log k h
line-applies role E5A fates log k h by_bytes = wider-session role fates (breaks_A subscribe_suback role) (λ f. applies_A subscribe_suback) (A-applies subscribe_suback role) log k h
line-applies role E5R fates log k h by_bytes = wider-rest role fates (shows_R subscribe_suback) (applies_R subscribe_suback) (R-applies subscribe_suback) log k h
line-applies role E6A fates log k h by_bytes = wider-session role fates (breaks_A unsubscribe_unsuback role) (λ f. applies_A unsubscribe_unsuback) (A-applies unsubscribe_unsuback role) log k h
line-applies role E6R fates log k h by_bytes = wider-rest role fates (shows_R unsubscribe_unsuback) (applies_R unsubscribe_unsuback) (R-applies unsubscribe_unsuback) log k h
line-applies role E7R fates log k h by_bytes = wider-session role fates (λ f. breaks_E7R role) (λ f. applies_E7R role) (λ f. E7R-applies role) log k h
line-applies role L1 fates log k h by_bytes = wider-placed role fates (breaks_L1 role) (λ f. applies_L1) (L1-applies role) log k h
line-applies role L2 fates log k h by_bytes = wider-placed role fates (breaks_L2 role) (λ f. applies_L2) (L2-applies role) log k h
line-applies role L3 fates log k h by_bytes = wider-session role fates (breaks_L3 role) (applies_L3 role) (L3-applies role) log k h
line-applies role B01 fates log k h by_bytes = wider-session role fates (breaks_B01 role) (applies_B01 role) (B01-applies role) log k h
line-applies role B02 fates log k h by_bytes = wider-session role fates (breaks_B02 role) (applies_B02 role) (B02-applies role) log k h
line-applies role B03 fates log k h by_bytes = wider-session role fates (λ f. breaks_B03) (λ f. applies_B03) (λ f. B03-applies) log k h
line-applies role B04 fates log k h by_bytes = wider-session role fates (λ f. breaks_B04) (λ f. applies_B04) (λ f. B04-applies) log k h
line-applies role B05 fates log k h by_bytes = wider-session role fates (λ f. breaks_B05) (λ f. applies_B05) (λ f. B05-applies) log k h
line-applies role B06 fates log k h by_bytes = wider-session role fates (breaks_B06 role) (applies_B06 role) (B06-applies role) log k h
line-applies role B07 fates log k h by_bytes = wider-session role fates (breaks_B07 role) (applies_B07 role) (B07-applies role) log k h
line-applies role B08 fates log k h by_bytes = wider-session role fates (breaks_B08 role) (applies_B08 role) (B08-applies role) log k h
line-applies role B09 fates log k h by_bytes = wider-session role fates (breaks_B09 role) (applies_B09 role) (B09-applies role) log k h
line-applies role P01 fates log k h by_bytes = wider-session role fates (breaks_P01 role) (applies_P01 role) (P01-applies role) log k h
line-applies role P02 fates log k h by_bytes = wider-session role fates (breaks_P02 role) (applies_P02 role) (P02-applies role) log k h
line-applies role R01 fates log k h by_bytes = wider-session role fates (breaks_R01 role) (applies_R01 role) (R01-applies role) log k h
line-applies role R02 fates log k h by_bytes = wider-session role fates (breaks_R02 role) (applies_R02 role) (R02-applies role) log k h
line-applies role F01 fates log k h by_bytes = wider-past role fates breaks_F01 applies_F01 F01-applies log k h
line-applies role F02 fates log k h by_bytes = wider-past role fates breaks_F02 applies_F02 F02-applies log k h
line-applies role F03 fates log k h by_bytes = wider-past role fates breaks_F03 applies_F03 F03-applies log k h
line-applies role F04 fates log k h by_bytes = wider-past role fates breaks_F04 applies_F04 F04-applies log k h
line-applies role F05 fates log k h by_bytes = wider-past role fates breaks_F05 applies_F05 F05-applies log k h
line-applies role F06 fates log k h by_bytes = wider-past role fates breaks_F06 applies_F06 F06-applies log k h
line-applies role V03 fates log k h by_bytes = wider-past role fates breaks_V03 applies_V03 V03-applies log k h
line-applies role V04 fates log k h by_bytes = wider-past role fates breaks_V04 applies_V04 V04-applies log k h
line-applies role V06 fates log k h by_bytes = wider-past role fates (breaks_V06 role) (applies_V06 role) (V06-applies role) log k h
line-applies role C24 fates log k h by_bytes = wider-later role fates shows_C24 applies_C24 C24-applies log k h
line-applies role D01 fates log k h by_bytes = wider-later role fates shows_D01 applies_D01 D01-applies log k h
line-applies role D02 fates log k h by_bytes = wider-later role fates shows_D02 applies_D02 D02-applies log k h
line-applies role D03 fates log k h by_bytes = wider-later role fates shows_D03 applies_D03 D03-applies log k h
line-applies role D05 fates log k h by_bytes = wider-later role fates shows_D05 applies_D05 D05-applies log k h
line-applies role A01 fates log k h by_bytes = wider-past role fates breaks_A01 applies_A01 A01-applies log k h
line-applies role A02 fates log k h by_bytes = wider-past role fates (breaks_A02 role) (applies_A02 role) (A02-applies role) log k h
line-applies role A03 fates log k h by_bytes = wider-past role fates (breaks_A03 role) (applies_A03 role) (A03-applies role) log k h
line-applies role K01 fates log k h by_bytes = wider-past role fates breaks_K01 applies_K01 K01-applies log k h
line-applies role K02 fates log k h by_bytes = wider-past role fates breaks_K02 applies_K02 K02-applies log k h

-- what fails is put to the test
pub fails-applies : (tested : Tested) (log : List Seen) (k : ℕ) (rule : Rule) → is_on_bytes tested rule ≡ false → fails tested log k rule ≡ true → applies tested log k rule ≡ true
unfolding fails applies
fails-applies tested log k rule by_bytes h =
    let fates : ℕ → Option Fate = λ c. fate tested.role c log in
    let p = both_true (binds rule tested) (is_so tested.role fates (statement tested.role rule) log k) h in
    and_true (binds rule tested) (occurs tested.role fates (occasion tested.role rule) log k) p.0 (line-applies tested.role rule fates log k p.1 by_bytes)
