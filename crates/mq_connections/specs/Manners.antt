-- What is kept of the latest connection, so that the further statements on one packet and on its past (F01 to F06, V03, V04, V06, and A01 to A03) are judged in one pass: its
-- CONNECT, with its Authentication Method, its CONNACK, and whether a CONNACK was heard. Whether each is false at the next event, and whether that puts it to the test.
use Rattle.std.specs.Prelude.{ℕ, ◌≡◌, ◌==◌, nat_lt, Bool, true, false, ◌&&◌, ◌||◌, not, cond, List, [], ◌∷◌, Option, None, is_some}
use Rattle.std.specs.Option.{option_and_then, option_or}
use Rattle.mq_packet.specs.declared.packet.PacketType.TheVariants as types
use Rattle.mq_rules.specs.declared.role.Role.{Role}
use Rattle.mq_rules.specs.declared.role.Role.TheVariants.{Client, Server}
use Rattle.mq_rules.specs.declared.role.Tested.{Tested}
use Rattle.mq_rules.specs.declared.fate.Fate.{Fate}
use Rattle.mq_rules.specs.declared.rule.Rule.{Rule}
use Rattle.mq_rules.specs.declared.rule.Rule.TheVariants.{F01, F02, F03, F04, F05, F06, V03, V04, V06, A01, A02, A03}
use Rattle.mq_rules.specs.declared.note.Note.{Note}
use Rattle.mq_rules.specs.declared.note.Seen.{Seen}
use Rattle.mq_rules.specs.declared.packet_note.ConnectNote.{ConnectNote}
use Rattle.mq_rules.specs.declared.packet_note.ConnackNote.{ConnackNote}
use Rattle.mq_connections.specs.declared.manners.Manners.{Manners}
use Rattle.mq_connections.specs.declared.manners.MannersPlaces.{MannersPlaces}
use Rattle.mq_rules.specs.Words.{is_some_and, is_id}
use Rattle.mq_rules.specs.Notes.{connect_method, is_open, is_typed, qos_number, connect_of, connack_of, sent_connack, sent_disconnect, sent_item, sent_publish, sent_receipt_code, sent_wishes, sends_auth, sends_type}
use Rattle.mq_rules.specs.Moments.{note, some, first_found}
use Rattle.mq_rules.specs.Connections.{connection, first_connack, first_connect}
use Rattle.mq_rules.specs.FurtherPasts.{has_to_name, names_method, will_in, has_method, lacks_method, hears_connack, lacks_retain, lacks_wildcards, lacks_identifiers, lacks_shares, is_code_of_servers, is_code_of_clients, is_receipt_of_servers}
use Rattle.mq_rules.specs.Occasions.{places}
use Rattle.mq_rules.specs.Burden.{methods_kept}

-- ---- what is kept

-- the first CONNECT of the connection, with one event more: at an OPEN a new connection begins
abbrev pub connect_after : Role → Option ConnectNote → Note → Option ConnectNote
connect_after role connect n = option_or (cond (is_open n) None connect) (connect_of role n)

-- its first CONNACK likewise
abbrev pub connack_after : Role → Option ConnackNote → Note → Option ConnackNote
connack_after role connack n = option_or (cond (is_open n) None connack) (connack_of role n)

-- whether a CONNACK was heard there, likewise
abbrev pub heard_after : Bool → Note → Bool
heard_after heard n = (not (is_open n) && heard) || hears_connack n

-- the Authentication Method of its first CONNECT likewise
abbrev pub method_after : Role → Option (Option (List ℕ)) → Note → Option (Option (List ℕ))
method_after role method n = option_or (cond (is_open n) None method) (connect_method role n)

-- how much is kept: an Authentication Method counts once
abbrev pub manners_weigh : Manners → ℕ
manners_weigh m = cond (is_some (option_and_then (λ method. method) m.method)) 1 0

-- What the watcher keeps is the CONNECT, with its Authentication Method, and the CONNACK of the latest connection of these events, the newest first, and whether a CONNACK was
-- heard there, if the further statements are asked for.
pub record IsManners (m : Manners) (tested : Tested) (taken : Option Fate) (past : List Seen) : Type 0 where
  pub same_role : m.role ≡ tested.role
  pub same_further : m.further ≡ tested.further.on_request
  pub same_connect : m.further ≡ true → m.connect ≡ first_connect tested.role (connection past)
  pub same_connack : m.further ≡ true → m.connack ≡ first_connack tested.role (connection past)
  pub same_heard : m.further ≡ true → m.has_heard_connack ≡ some (λ j. hears_connack (note j)) (connection past)
  pub same_method : m.further ≡ true → m.method ≡ first_found (connect_method tested.role) (connection past)
  pub as_many : manners_weigh m ≡ methods_kept tested past

-- ---- whether each statement is false at the next event

abbrev pub finds_F01 : Option ConnackNote → Note → Bool
finds_F01 connack n = is_some_and (λ p. not p.duplicate && p.retain) (sent_publish n) && lacks_retain connack

abbrev pub finds_F02 : Option ConnackNote → Note → Bool
finds_F02 connack n = is_some_and (λ w. w.has_wildcard) (sent_wishes n) && lacks_wildcards connack

abbrev pub finds_F03 : Option ConnackNote → Note → Bool
finds_F03 connack n = is_some_and (λ w. is_some w.subscription_identifier) (sent_wishes n) && lacks_identifiers connack

abbrev pub finds_F04 : Option ConnackNote → Note → Bool
finds_F04 connack n = is_some_and (λ w. w.has_share) (sent_wishes n) && lacks_shares connack

abbrev pub finds_F05 : Option ConnectNote → Option ConnackNote → Bool
finds_F05 connect connack = is_some_and (λ c. (c.code == 0) && is_some_and (λ w. is_some_and (λ most. nat_lt most (qos_number w.qos)) c.maximum_qos) (will_in connect)) connack

abbrev pub finds_F06 : Option ConnectNote → Option ConnackNote → Bool
finds_F06 connect connack = is_some_and (λ c. (c.code == 0) && is_id 0 c.retain_available) connack && is_some_and (λ w. w.retain) (will_in connect)

abbrev pub finds_V03 : Note → Bool
finds_V03 n = is_some_and (λ w. w.has_share && w.has_misnamed_share) (sent_wishes n)

abbrev pub finds_V04 : Note → Bool
finds_V04 n = is_some_and (λ w. w.has_share && w.has_no_local_share) (sent_wishes n)

abbrev pub finds_V06 : Role → Note → Bool
finds_V06 Client n = is_some_and (λ d. is_code_of_servers d.code) (sent_disconnect n) || is_some_and is_receipt_of_servers (sent_receipt_code n)
finds_V06 Server n = is_some_and (λ d. is_code_of_clients d.code) (sent_disconnect n)

abbrev pub finds_A01 : Option ConnectNote → Bool → Note → Bool
finds_A01 connect heard n =
    is_some_and is_typed (sent_item n) && (not (sends_type types.Connect n || (sends_type types.Auth n || sends_type types.Disconnect n)) && (has_method connect && not heard))

abbrev pub finds_A02 : Role → Option ConnectNote → Note → Bool
finds_A02 Client connect n = sends_auth n && lacks_method connect
finds_A02 Server connect n = (sends_auth n || is_some_and (λ c. c.has_authentication_method) (sent_connack n)) && lacks_method connect

abbrev pub finds_A03 : Role → Option (Option (List ℕ)) → Note → Bool
finds_A03 role method n = has_to_name role n && is_some_and (λ method. not (names_method n method)) (option_and_then (λ method. method) method)

-- each statement that binds the end, with whether it is false at the event
abbrev pub further_verdicts : Role → Option ConnectNote → Option ConnackNote → Bool → Option (Option (List ℕ)) → Note → List (Rule × Bool)
further_verdicts Client connect connack heard method n =
    (F01, finds_F01 connack n) ∷ (F02, finds_F02 connack n) ∷ (F03, finds_F03 connack n) ∷ (F04, finds_F04 connack n)
    ∷ (V03, finds_V03 n) ∷ (V04, finds_V04 n) ∷ (V06, finds_V06 Client n) ∷ (A01, finds_A01 connect heard n) ∷ (A02, finds_A02 Client connect n)
    ∷ (A03, finds_A03 Client method n) ∷ []
further_verdicts Server connect connack heard method n =
    (F05, finds_F05 connect (sent_connack n)) ∷ (F06, finds_F06 connect (sent_connack n)) ∷ (V06, finds_V06 Server n) ∷ (A02, finds_A02 Server connect n)
    ∷ (A03, finds_A03 Server method n) ∷ []

-- ---- whether the next event puts it to the test

abbrev pub tries_F01 : Role → Option ConnackNote → Note → Bool
tries_F01 Client connack n = is_some_and (λ p. not p.duplicate) (sent_publish n) && lacks_retain connack
tries_F01 Server connack n = false

abbrev pub tries_F02 : Role → Option ConnackNote → Note → Bool
tries_F02 Client connack n = is_some (sent_wishes n) && lacks_wildcards connack
tries_F02 Server connack n = false

abbrev pub tries_F03 : Role → Option ConnackNote → Note → Bool
tries_F03 Client connack n = is_some (sent_wishes n) && lacks_identifiers connack
tries_F03 Server connack n = false

abbrev pub tries_F04 : Role → Option ConnackNote → Note → Bool
tries_F04 Client connack n = is_some (sent_wishes n) && lacks_shares connack
tries_F04 Server connack n = false

abbrev pub tries_F05 : Role → Option ConnectNote → Note → Bool
tries_F05 Client connect n = false
tries_F05 Server connect n = is_some_and (λ c. is_some c.maximum_qos || (c.code == 155)) (sent_connack n) && is_some (will_in connect)

abbrev pub tries_F06 : Role → Option ConnectNote → Note → Bool
tries_F06 Client connect n = false
tries_F06 Server connect n = is_some_and (λ c. is_id 0 c.retain_available || (c.code == 154)) (sent_connack n) && is_some (will_in connect)

-- V03 and V04
abbrev pub tries_shares : Role → Note → Bool
tries_shares Client n = is_some_and (λ w. w.has_share) (sent_wishes n)
tries_shares Server n = false

abbrev pub tries_V06 : Role → Note → Bool
tries_V06 Client n = is_some (sent_disconnect n) || is_some (sent_receipt_code n)
tries_V06 Server n = is_some (sent_disconnect n)

abbrev pub tries_A01 : Role → Option ConnectNote → Bool → Note → Bool
tries_A01 Client connect heard n = is_some_and is_typed (sent_item n) && (not (sends_type types.Connect n) && (has_method connect && not heard))
tries_A01 Server connect heard n = false

abbrev pub tries_A02 : Role → Option ConnectNote → Note → Bool
tries_A02 Client connect n = sends_auth n && is_some connect
tries_A02 Server connect n = (sends_auth n && is_some connect) || (is_some (sent_connack n) && lacks_method connect)

abbrev pub tries_A03 : Role → Option (Option (List ℕ)) → Note → Bool
tries_A03 role method n = has_to_name role n && is_some (option_and_then (λ method. method) method)

-- the counts are those of these events, the newest first
pub record CountsManners (p : MannersPlaces) (tested : Tested) (past : List Seen) : Type 0 where
  pub f01 : p.f01 ≡ places tested past F01
  pub f02 : p.f02 ≡ places tested past F02
  pub f03 : p.f03 ≡ places tested past F03
  pub f04 : p.f04 ≡ places tested past F04
  pub f05 : p.f05 ≡ places tested past F05
  pub f06 : p.f06 ≡ places tested past F06
  pub v03 : p.v03 ≡ places tested past V03
  pub v04 : p.v04 ≡ places tested past V04
  pub v06 : p.v06 ≡ places tested past V06
  pub a01 : p.a01 ≡ places tested past A01
  pub a02 : p.a02 ≡ places tested past A02
  pub a03 : p.a03 ≡ places tested past A03
