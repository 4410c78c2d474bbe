-- What a harmless event puts to the test.
use Rattle.std.proofs.Common.{◌≡◌, ℕ, nat_lt, ◌+◌, ◌<◌, ◌==◌, arith, Bool, true, false, cond, ◌&&◌, ◌||◌, not, List, ◌∷◌, length, Option, Some, None, is_some, refl, ap, sym, subst, ◌∙◌}
use Rattle.std.specs.Option.{option_and_then}
use Rattle.mq_packet.specs.declared.packet.PacketType.TheVariants as types
use Rattle.mq_rules.specs.declared.role.Role.{Role}
use Rattle.mq_rules.specs.declared.role.Role.TheVariants.{Client, Server}
use Rattle.mq_rules.specs.declared.role.Tested.{Tested}
use Rattle.mq_rules.specs.declared.rule.Rule.{Rule}
use Rattle.mq_rules.specs.declared.rule.Rule.TheVariants.{C01, C02, C03, C04, C05, C06, C07, C08, C09, C10, C11, C12, C13, C14, C15, C16, C17, C18, C19, C20, C21, C22, C23}
use Rattle.mq_rules.specs.declared.note.Note.{Note}
use Rattle.mq_rules.specs.declared.note.Note.TheVariants as notes
use Rattle.mq_rules.specs.declared.note.ItemNote.TheVariants as items
use Rattle.mq_rules.specs.declared.note.Seen.{Seen}
use Rattle.mq_rules.specs.declared.packet_note.PacketNote.{PacketNote}
use Rattle.mq_rules.specs.declared.packet_note.ConnackNote.{ConnackNote}
use Rattle.mq_rules.specs.declared.packet_note.DisconnectNote.{DisconnectNote}
use Rattle.mq_rules.specs.declared.fate.Fate.{Fate}
use Rattle.mq_connections.specs.declared.conn.Conn.{Conn}
use Rattle.mq_rules.specs.declared.connection_state.ConnectionState.{ConnectionState}
use Rattle.mq_connections.specs.declared.conn.harmless_tests.HarmlessTests.{HarmlessTests}
use Rattle.mq_rules.specs.Words.{is_some_and}
use Rattle.mq_rules.specs.Notes.{is_close, is_rest, sent_packet, sent_publish, sent_connack, sent_disconnect, sends_type, resumed_by}
use Rattle.mq_rules.specs.Moments.{Moment, newest}
use Rattle.mq_rules.specs.Pasts.{accepts_so, says_session_present, used_alias, applies_C01, applies_C02, applies_C03, applies_C04, applies_C05, applies_C06, applies_C07, applies_C08, applies_C09, applies_C10, applies_C11, applies_C12, applies_C13, applies_C14, applies_C15, applies_C16, applies_C17, applies_C18, applies_C19, applies_C20, applies_C21, applies_C22, applies_C23}
use Rattle.mq_rules.specs.Rules.{binds}
use Rattle.mq_rules.specs.Statements.{on_past}
use Rattle.mq_rules.specs.Occasions.{occasion, places}
use Rattle.mq_rules.specs.Keeping.{kept, is_ordinary_in}
use Rattle.mq_connections.specs.Finding.{may_go_on, may_look, has_left, size_bound, qos_bound, send_bounds, is_harmless_in, is_harmless, IsConn}
use Rattle.mq_connections.specs.Trying as trying
use Rattle.mq_connections.specs.Trying.{Tries, sends_some, has_no_session, harmless_tests, tried_by_harmless, is_tallied}
use Rattle.mq_rules.proofs.Exports.{and_false, both_true, no-connack, no-disconnect, not-connack, not-connect, places-most, places-past}
use Rattle.mq_connections.proofs.HarmlessLaws.{goes-on, harmless-ordinary, no-alias, sends, was-false}

-- ---- what is known of a harmless event

record Harmless (role : Role) (s : ConnectionState) (n : Note) : Type 0 where
  going : may_go_on role s ≡ true
  connack : sent_connack n ≡ None
  disconnect : sent_disconnect n ≡ None
  no_connect_type : sends_type types.Connect n ≡ false
  no_connack_type : sends_type types.Connack n ≡ false
  alias : option_and_then (λ p. p.topic_alias) (sent_publish n) ≡ None
  used : used_alias n ≡ None
  closes : is_close n ≡ false
  rests : is_rest n ≡ false

known : (role : Role) (s : ConnectionState) (n : Note) → is_harmless (send_bounds role s) n ≡ true → Harmless role s n
known role s (notes.Sent (items.Packet p)) t =
    let is = sends role s p t in
    let u = harmless-ordinary role (qos_bound role s) p.fields is.inside in
    let none = no-alias role (qos_bound role s) p.fields is.inside in
    record {
      going = goes-on role s p.size is.below;
      connack = no-connack p.fields u;
      disconnect = no-disconnect p.fields u;
      no_connect_type = not-connect p.fields u;
      no_connack_type = not-connack p.fields u;
      alias = none.0;
      used = none.1;
      closes = refl;
      rests = refl;
    }
known role s (notes.Recv (items.Packet p)) t =
    let both = both_true (nat_lt 0 (size_bound role s)) (is_ordinary_in p.fields) t in
    record { going = goes-on role s 0 both.0; connack = refl; disconnect = refl; no_connect_type = refl; no_connack_type = refl; alias = refl; used = refl; closes = refl; rests = refl }
known role s _ t = absurd (cc)

record ClientGoes (s : ConnectionState) : Type 0 where
  began : s.has_sent ≡ true
  stays : s.has_sent_disconnect ≡ false
  rightly : (is_some_and resumed_by s.connack && has_no_session s) ≡ false

client-goes : (s : ConnectionState) → may_go_on Client s ≡ true → ClientGoes s
client-goes s on =
    let sent = both_true s.has_sent (not s.has_sent_disconnect && not (is_some_and resumed_by s.connack && has_no_session s)) on in
    let stays = both_true (not s.has_sent_disconnect) (not (is_some_and resumed_by s.connack && has_no_session s)) sent.1 in
    record { began = sent.0; stays = was-false s.has_sent_disconnect stays.0; rightly = was-false (is_some_and resumed_by s.connack && has_no_session s) stays.1 }

record ServerGoes (s : ConnectionState) : Type 0 where
  answered : s.has_sent_connack ≡ true
  stays : s.has_sent_disconnect ≡ false
  accepted : s.has_sent_refusal ≡ false

server-goes : (s : ConnectionState) → may_go_on Server s ≡ true → ServerGoes s
server-goes s on =
    let sent = both_true s.has_sent (s.has_sent_connack && (not s.has_sent_disconnect && not s.has_sent_refusal)) on in
    let answered = both_true s.has_sent_connack (not s.has_sent_disconnect && not s.has_sent_refusal) sent.1 in
    let stays = both_true (not s.has_sent_disconnect) (not s.has_sent_refusal) answered.1 in
    record { answered = answered.0; stays = was-false s.has_sent_disconnect stays.0; accepted = was-false s.has_sent_refusal stays.1 }

stays-on : (role : Role) (s : ConnectionState) → may_go_on role s ≡ true → s.has_sent_disconnect ≡ false
stays-on Client s on = (client-goes s on).stays
stays-on Server s on = (server-goes s on).stays

-- ---- what it doesn't put to the test

not-C02 : (role : Role) (s : ConnectionState) (n : Note) → Harmless role s n → trying.tries_C02 role s n ≡ false
not-C02 Client s n is = ap (λ b. sends_some n && not b) (client-goes s is.going).began ∙ and_false (sends_some n)
not-C02 Server s n is = refl

not-C03 : (role : Role) (s : ConnectionState) (n : Note) → Harmless role s n → trying.tries_C03 role n ≡ false
not-C03 Client s n is = is.no_connect_type
not-C03 Server s n is = refl

not-C04 : (role : Role) (s : ConnectionState) (n : Note) → Harmless role s n → trying.tries_C04 role n ≡ false
not-C04 Client s n is = refl
not-C04 Server s n is = is.no_connack_type

not-C05 : (role : Role) (s : ConnectionState) (n : Note) → Harmless role s n → trying.tries_C05 role s n ≡ false
not-C05 Client s n is = refl
not-C05 Server s n is =
    ap (λ b. sends_some n && (not (sends_type types.Auth n) && not b)) (server-goes s is.going).answered
    ∙ ap (λ b. sends_some n && b) (and_false (not (sends_type types.Auth n)))
    ∙ and_false (sends_some n)

not-C07 : (role : Role) (s : ConnectionState) (n : Note) → Harmless role s n → trying.tries_C07 role s n ≡ false
not-C07 Client s n is = refl
not-C07 Server s n is = ap (λ (o : Option ConnackNote). is_some o && is_some_and (λ c. c.clean_start) s.connect) is.connack

not-C08 : (role : Role) (s : ConnectionState) (n : Note) → Harmless role s n → trying.tries_C08 role s n ≡ false
not-C08 Client s n is = refl
not-C08 Server s n is = ap (λ (o : Option ConnackNote). is_some_and (λ c. c.code == 0) o && (says_session_present n || (is_some_and (λ c. not c.clean_start) s.connect && not s.was_alive))) is.connack

not-C09 : (role : Role) (s : ConnectionState) (n : Note) → Harmless role s n → trying.tries_C09 role n ≡ false
not-C09 Client s n is = refl
not-C09 Server s n is = ap (λ (o : Option ConnackNote). is_some o && not (accepts_so n)) is.connack

not-C10 : (role : Role) (s : ConnectionState) (n : Note) → Harmless role s n → trying.tries_C10 role s n ≡ false
not-C10 Client s n is = refl
not-C10 Server s n is = ap (λ (o : Option ConnackNote). is_some_and (λ c. c.code == 0) o && is_some_and (λ c. c.is_unnamed) s.connect) is.connack

not-C11 : (role : Role) (s : ConnectionState) (n : Note) → Harmless role s n → trying.tries_C11 s n ≡ false
not-C11 role s n is = ap (λ b. (sends_some n || is_close n) && b) (stays-on role s is.going) ∙ and_false (sends_some n || is_close n)

not-C12 : (role : Role) (s : ConnectionState) (n : Note) → Harmless role s n → trying.tries_C12 role s n ≡ false
not-C12 Client s n is = refl
not-C12 Server s n is = ap (λ b. (sends_some n || is_close n) && b) (server-goes s is.going).accepted ∙ and_false (sends_some n || is_close n)

not-C13 : (role : Role) (s : ConnectionState) (n : Note) → Harmless role s n → trying.tries_C13 role s n ≡ false
not-C13 Client s n is = ap (λ b. (is_some (sent_packet n) || is_close n) && b) (client-goes s is.going).rightly ∙ and_false (is_some (sent_packet n) || is_close n)
not-C13 Server s n is = refl

not-C15 : (role : Role) (s : ConnectionState) (n : Note) → Harmless role s n → trying.tries_C15 role s n ≡ false
not-C15 role s n is = ap (λ (o : Option ℕ). may_look role s && is_some o) is.alias ∙ and_false (may_look role s)

not-C16 : (role : Role) (s : ConnectionState) (n : Note) → Harmless role s n → trying.tries_C16 n ≡ false
not-C16 role s n is = ap (λ (o : Option ℕ). is_some o) is.used

not-C19 : (role : Role) (s : ConnectionState) (n : Note) → Harmless role s n → trying.tries_C19 role n ≡ false
not-C19 Client s n is = refl
not-C19 Server s n is = ap (λ (o : Option DisconnectNote). is_some o) is.disconnect

not-C20 : (role : Role) (s : ConnectionState) (n : Note) → Harmless role s n → trying.tries_C20 role n ≡ false
not-C20 Client s n is = ap (λ (o : Option DisconnectNote). is_some_and (λ d. is_some_and (λ seconds. not (seconds == 0)) d.session_expiry) o) is.disconnect
not-C20 Server s n is = refl

not-C22 : (role : Role) (s : ConnectionState) (n : Note) → Harmless role s n → trying.tries_C22 role n ≡ false
not-C22 Client s n is = refl
not-C22 Server s n is = ap (λ (o : Option ConnackNote). is_some_and (λ c. c.has_response_information) o) is.connack

not-C23 : (role : Role) (s : ConnectionState) (n : Note) → Harmless role s n → trying.tries_C23 role s n ≡ false
not-C23 role s n is = λ i. (is.rests i || is.closes i) && has_left role s

-- ---- the places

-- a statement is put to the test at the next event just where what is kept says so
found-places : (rule : Rule) (test : Role → Moment → Bool) (found : Role → ConnectionState → Note → Bool) → ((role : Role) → occasion role rule ≡ Some (on_past (test role))) → Tries rule test found
    → (tested : Tested) (e : Seen) (past : List Seen) (here : Bool) → found tested.role (kept tested.role past) e.note ≡ here → places tested (e ∷ past) rule ≡ cond here 1 0 + places tested past rule
found-places rule test found says finds tested e past here is =
    places-past tested rule (test tested.role) e past (says tested.role)
    ∙ ap (λ b. cond b 1 0 + places tested past rule) (finds tested.role tested.releases tested.further e past ∙ is)

harmless-places : (rule : Rule) (tested : Tested) (e : Seen) (past : List Seen) → is_tallied rule ≡ true → Harmless tested.role (kept tested.role past) e.note
    → places tested (e ∷ past) rule ≡ cond (tried_by_harmless (harmless_tests tested.role (kept tested.role past) e.note) rule) 1 0 + places tested past rule
harmless-places C01 tested e past one is = found-places C01 (λ role. applies_C01) (λ role s n. trying.tries_C01 n) (λ role. refl) trying.C01_tried tested e past _ refl
harmless-places C02 tested e past one is = found-places C02 (λ role. applies_C02) trying.tries_C02 (λ role. refl) trying.C02_tried tested e past false (not-C02 tested.role (kept tested.role past) e.note is)
harmless-places C03 tested e past one is = found-places C03 (λ role. applies_C03) (λ role s n. trying.tries_C03 role n) (λ role. refl) trying.C03_tried tested e past false (not-C03 tested.role (kept tested.role past) e.note is)
harmless-places C04 tested e past one is = found-places C04 (λ role. applies_C04) (λ role s n. trying.tries_C04 role n) (λ role. refl) trying.C04_tried tested e past false (not-C04 tested.role (kept tested.role past) e.note is)
harmless-places C05 tested e past one is = found-places C05 (λ role. applies_C05) trying.tries_C05 (λ role. refl) trying.C05_tried tested e past false (not-C05 tested.role (kept tested.role past) e.note is)
harmless-places C06 tested e past one is = found-places C06 (λ role. applies_C06) (λ role s n. trying.tries_C04 role n) (λ role. refl) trying.C06_tried tested e past false (not-C04 tested.role (kept tested.role past) e.note is)
harmless-places C07 tested e past one is = found-places C07 (λ role. applies_C07) trying.tries_C07 (λ role. refl) trying.C07_tried tested e past false (not-C07 tested.role (kept tested.role past) e.note is)
harmless-places C08 tested e past one is = found-places C08 (λ role. applies_C08) trying.tries_C08 (λ role. refl) trying.C08_tried tested e past false (not-C08 tested.role (kept tested.role past) e.note is)
harmless-places C09 tested e past one is = found-places C09 (λ role. applies_C09) (λ role s n. trying.tries_C09 role n) (λ role. refl) trying.C09_tried tested e past false (not-C09 tested.role (kept tested.role past) e.note is)
harmless-places C10 tested e past one is = found-places C10 (λ role. applies_C10) trying.tries_C10 (λ role. refl) trying.C10_tried tested e past false (not-C10 tested.role (kept tested.role past) e.note is)
harmless-places C11 tested e past one is = found-places C11 (λ role. applies_C11) (λ role s n. trying.tries_C11 s n) (λ role. refl) trying.C11_tried tested e past false (not-C11 tested.role (kept tested.role past) e.note is)
harmless-places C12 tested e past one is = found-places C12 (λ role. applies_C12) trying.tries_C12 (λ role. refl) trying.C12_tried tested e past false (not-C12 tested.role (kept tested.role past) e.note is)
harmless-places C13 tested e past one is = found-places C13 (λ role. applies_C13) trying.tries_C13 (λ role. refl) trying.C13_tried tested e past false (not-C13 tested.role (kept tested.role past) e.note is)
harmless-places C14 tested e past one is = found-places C14 applies_C14 trying.tries_C14 (λ role. refl) trying.C14_tried tested e past _ refl
harmless-places C15 tested e past one is = found-places C15 applies_C15 trying.tries_C15 (λ role. refl) trying.C15_tried tested e past false (not-C15 tested.role (kept tested.role past) e.note is)
harmless-places C16 tested e past one is = found-places C16 (λ role. applies_C16) (λ role s n. trying.tries_C16 n) (λ role. refl) trying.C16_tried tested e past false (not-C16 tested.role (kept tested.role past) e.note is)
harmless-places C17 tested e past one is = found-places C17 (λ role. applies_C17) trying.tries_C17 (λ role. refl) trying.C17_tried tested e past _ refl
harmless-places C18 tested e past one is = found-places C18 (λ role. applies_C18) (λ role s n. trying.tries_C18 role n) (λ role. refl) trying.C18_tried tested e past _ refl
harmless-places C19 tested e past one is = found-places C19 (λ role. applies_C19) (λ role s n. trying.tries_C19 role n) (λ role. refl) trying.C19_tried tested e past false (not-C19 tested.role (kept tested.role past) e.note is)
harmless-places C20 tested e past one is = found-places C20 (λ role. applies_C20) (λ role s n. trying.tries_C20 role n) (λ role. refl) trying.C20_tried tested e past false (not-C20 tested.role (kept tested.role past) e.note is)
harmless-places C21 tested e past one is = found-places C21 (λ role. applies_C21) trying.tries_C21 (λ role. refl) trying.C21_tried tested e past _ refl
harmless-places C22 tested e past one is = found-places C22 (λ role. applies_C22) (λ role s n. trying.tries_C22 role n) (λ role. refl) trying.C22_tried tested e past false (not-C22 tested.role (kept tested.role past) e.note is)
harmless-places C23 tested e past one is = found-places C23 applies_C23 trying.tries_C23 (λ role. refl) trying.C23_tried tested e past false (not-C23 tested.role (kept tested.role past) e.note is)
harmless-places _ tested e past one is = absurd (cc)

-- one harmless event more, which is counted elsewhere
pub tally-passes : (rule : Rule) → is_tallied rule ≡ true → (before after : Rule → ℕ) (tested : Tested) (e : Seen) (past : List Seen) (n : ℕ) → is_harmless (send_bounds tested.role (kept tested.role past)) e.note ≡ true
    → ((one : Rule) → before one < length past + 1 → after one ≡ cond (tried_by_harmless (harmless_tests tested.role (kept tested.role past) e.note) one) 1 0 + before one)
    → n + before rule ≡ places tested past rule → n + after rule ≡ places tested (e ∷ past) rule
tally-passes rule one before after tested e past n harmless more was =
    let most = places-most tested past rule in
    beside (tried_by_harmless (harmless_tests tested.role (kept tested.role past) e.note) rule) n (before rule) (after rule) (places tested past rule) (places tested (e ∷ past) rule)
    (more rule (omega (arith, most, was))) (harmless-places rule tested e past one (known tested.role (kept tested.role past) e.note harmless)) was
  where
    beside : (here : Bool) (n old new were are : ℕ) → new ≡ cond here 1 0 + old → are ≡ cond here 1 0 + were → n + old ≡ were → n + new ≡ are
    beside true n old new were are more next was = omega (arith, more, next, was)
    beside false n old new were are more next was = omega (arith, more, next, was)

-- nothing that is received is put to the test
pub none-received : (role : Role) (s : ConnectionState) (n : Note) (rule : Rule) → is_harmless (send_bounds role s) n ≡ true → is_some (sent_packet n) ≡ false → tried_by_harmless (harmless_tests role s n) rule ≡ false
none-received role s (notes.Sent (items.Packet p)) rule t none = absurd (cc)
none-received role s (notes.Recv (items.Packet p)) rule t none = each role rule
  where
    each : (role : Role) (rule : Rule) → tried_by_harmless (harmless_tests role s (notes.Recv (items.Packet p))) rule ≡ false
    each Client C01 = refl
    each Client _ = refl
    each Server C01 = refl
    each Server _ = refl
none-received role s _ rule t none = absurd (cc)

pub none-more : (here : Bool) (n : ℕ) → here ≡ false → n ≡ cond here 1 0 + n
none-more true n is = absurd (cc)
none-more false n is = omega arith

-- what is harmless by the bounds of a watcher
pub harmless-here : (conn : Conn) (tested : Tested) (taken : Option Fate) (past : List Seen) (n : Note) → IsConn conn tested taken past → is_harmless conn.bounds n ≡ true → is_harmless (send_bounds tested.role (kept tested.role past)) n ≡ true
harmless-here conn tested taken past n here t = sym (ap (λ b. is_harmless b n) (here.same_bounds ∙ (λ i. send_bounds (here.same_role i) (here.same_state i)))) ∙ t
