-- Events that break no statement on the past of a connection, and leave what is kept of it as it is.
use Rattle.std.proofs.Common.{◌≡◌, ℕ, ◌+◌, ◌==◌, Bool, true, false, cond, ◌&&◌, ◌||◌, not, length, List, ◌∷◌, Option, Some, None, is_none, is_some, refl, ap, sym, subst, ◌∙◌, arith, nat_lt, nat_le}
use Rattle.std.proofs.lemmas.Bool.Decides.{nat_tests}
use Rattle.std.specs.Option.{option_and_then}
use Rattle.std.specs.List.{list_any}
use Rattle.std.specs.BTreeSet.{contains, btree_set_len}
use Rattle.std.specs.Ordering.{nat_cmp}
use Rattle.mq_packet.specs.Canonical.{type_number}
use Rattle.mq_packet.specs.declared.packet.PacketType.TheVariants as types
use Rattle.mq_log.specs.declared.place.Place3.{Place3}
use Rattle.mq_rules.specs.declared.role.Role.{Role}
use Rattle.mq_rules.specs.declared.role.Role.TheVariants.{Client, Server}
use Rattle.mq_rules.specs.declared.role.Tested.{Tested}
use Rattle.mq_rules.specs.declared.note.Note.{Note}
use Rattle.mq_rules.specs.declared.note.Note.TheVariants as notes
use Rattle.mq_rules.specs.declared.note.ItemNote.TheVariants as items
use Rattle.mq_rules.specs.declared.note.Seen.{Seen}
use Rattle.mq_rules.specs.declared.packet_note.ConnackNote.{ConnackNote}
use Rattle.mq_rules.specs.declared.packet_note.DisconnectNote.{DisconnectNote}
use Rattle.mq_rules.specs.declared.packet_note.PacketNote.{PacketNote}
use Rattle.mq_rules.specs.declared.packet_note.PacketFields.{PacketFields}
use Rattle.mq_rules.specs.declared.packet_note.PacketFields.TheVariants.{Publish, Puback, Pubrec, Pubrel, Pubcomp, Pingreq, Pingresp}
use Rattle.mq_rules.specs.declared.packet_note.PublishNote.{PublishNote}
use Rattle.mq_connections.specs.declared.conn.Conn.{Conn}
use Rattle.mq_connections.specs.declared.conn.harmless.SendBounds.{SendBounds}
use Rattle.mq_rules.specs.declared.fate.Fate.{Fate}
use Rattle.mq_rules.specs.declared.connection_state.ConnectionState.{ConnectionState}
use Rattle.mq_rules.specs.Words.{is_id, is_some_and, only}
use Rattle.mq_rules.specs.Notes.{is_open, is_close, sent_fault, fields_type, foreign_types, publish_in, resumed_by, may_explain, qos_number}
use Rattle.mq_rules.specs.Connections.{latest_fate, IsOnConnection}
use Rattle.mq_rules.specs.Pasts.{set_alias}
use Rattle.mq_rules.specs.Statements.{is_on_past}
use Rattle.mq_rules.specs.FaultKeys.{FaultMap}
use Rattle.mq_rules.specs.Growing.{Judges, GrowsBy}
use Rattle.mq_connections.specs.Skipping.{Skips}
use Rattle.mq_rules.specs.Steps.{turns}
use Rattle.mq_rules.specs.Under.{Follows}
use Rattle.mq_rules.specs.Keeping.{connection_after, is_ordinary_in, is_ordinary}
use Rattle.mq_connections.specs.Finding.{size_limit, alias_limit, qos_limit, may_look, item_verdicts, packet_verdicts, publish_verdicts, connack_verdicts, disconnect_verdicts, rest_verdicts, is_among, is_another, is_any_broken, is_found, may_go_on, too_large, size_bound, qos_bound, send_bounds, is_harmless_in, is_harmless, Agrees, IsConn}
use Rattle.mq_rules.proofs.Exports.{and_false, both_true, no-connack, no-disconnect, not-connack, not-connect, or_false, unchanged}
use Rattle.mq_connections.proofs.AtPlaceLaws.{judges-none, judges-unbroken}
use Rattle.mq_connections.proofs.JudgeLaws.{no_item, no_packet, no_publish, no_connack, no_disconnect, judged-all}
use Rattle.mq_connections.proofs.FindLaws.{agrees-next, step-grows}
use Rattle.mq_connections.proofs.WatchLaws.{conn-next, conn-gains}

-- ---- what a harmless packet is not

pub harmless-ordinary : (role : Role) (most : ℕ) (f : PacketFields) → is_harmless_in role most f ≡ true → is_ordinary_in f ≡ true
harmless-ordinary role most (Publish p) t = refl
harmless-ordinary role most (Puback identifier code) t = refl
harmless-ordinary role most (Pubrec identifier code) t = refl
harmless-ordinary role most (Pubrel identifier code) t = refl
harmless-ordinary role most (Pubcomp identifier code) t = refl
harmless-ordinary role most Pingreq t = refl
harmless-ordinary role most Pingresp t = refl
harmless-ordinary Client most _ t = absurd (cc)
harmless-ordinary Server most _ t = absurd (cc)

not-foreign : (role : Role) (most : ℕ) (f : PacketFields) → is_harmless_in role most f ≡ true → list_any (λ type. is_id (type_number type) (Some (type_number (fields_type f)))) (foreign_types role) ≡ false
not-foreign Client most (Publish p) t = refl
not-foreign Client most (Puback identifier code) t = refl
not-foreign Client most (Pubrec identifier code) t = refl
not-foreign Client most (Pubrel identifier code) t = refl
not-foreign Client most (Pubcomp identifier code) t = refl
not-foreign Client most Pingreq t = refl
not-foreign Client most _ t = absurd (cc)
not-foreign Server most (Publish p) t = refl
not-foreign Server most (Puback identifier code) t = refl
not-foreign Server most (Pubrec identifier code) t = refl
not-foreign Server most (Pubrel identifier code) t = refl
not-foreign Server most (Pubcomp identifier code) t = refl
not-foreign Server most Pingresp t = refl
not-foreign Server most _ t = absurd (cc)

not-auth : (role : Role) (most : ℕ) (f : PacketFields) → is_harmless_in role most f ≡ true → is_id (type_number types.Auth) (Some (type_number (fields_type f))) ≡ false
not-auth role most (Publish p) t = refl
not-auth role most (Puback identifier code) t = refl
not-auth role most (Pubrec identifier code) t = refl
not-auth role most (Pubrel identifier code) t = refl
not-auth role most (Pubcomp identifier code) t = refl
not-auth role most Pingreq t = refl
not-auth role most Pingresp t = refl
not-auth Client most _ t = absurd (cc)
not-auth Server most _ t = absurd (cc)

pub was-false : (b : Bool) → not b ≡ true → b ≡ false
was-false true t = absurd (cc)
was-false false t = refl

was-none : (o : Option ℕ) → is_none o ≡ true → o ≡ None
was-none None t = refl
was-none (Some n) t = absurd (cc)

-- ---- what is kept of an end that may go on

pub goes-on : (role : Role) (s : ConnectionState) (size : ℕ) → nat_lt size (size_bound role s) ≡ true → may_go_on role s ≡ true
goes-on role s size below = go (may_go_on role s) below
  where
    go : (b : Bool) → nat_lt size (cond b (too_large (size_limit role s)) 0) ≡ true → b ≡ true
    go true below = refl
    go false below = absurd (grind (arith, nat_tests))

-- no packet below the bound is larger than the peer takes
not-larger : (role : Role) (s : ConnectionState) (size : ℕ) → nat_lt size (size_bound role s) ≡ true → is_some_and (λ most. nat_lt most size) (size_limit role s) ≡ false
not-larger role s size below = go (size_limit role s) (subst (λ b. nat_lt size (cond b (too_large (size_limit role s)) 0) ≡ true) (goes-on role s size below) below)
  where
    go : (limit : Option ℕ) → nat_lt size (too_large limit) ≡ true → is_some_and (λ most. nat_lt most size) limit ≡ false
    go None below = refl
    go (Some most) below = grind (arith, nat_tests)

-- ---- what is found of a harmless packet that is sent

any-item : (role : Role) (s : ConnectionState) (most : ℕ) (p : PacketNote) → may_go_on role s ≡ true → is_harmless_in role most p.fields ≡ true → is_any_broken (item_verdicts role s (Some (items.Packet p))) ≡ false
any-item Client s most p on t =
    let sent = both_true s.has_sent (not s.has_sent_disconnect && not (is_some_and resumed_by s.connack && (is_some_and (λ c. c.clean_start) s.connect || not s.was_alive))) on in
    let stays = both_true (not s.has_sent_disconnect) (not (is_some_and resumed_by s.connack && (is_some_and (λ c. c.clean_start) s.connect || not s.was_alive))) sent.1 in
    let other = not-connect p.fields (harmless-ordinary Client most p.fields t) in
    λ i. not-foreign Client most p.fields t i || ((not (other i) && not (sent.0 i)) || ((other i && s.has_sent_connect) || (was-false s.has_sent_disconnect stays.0 i || false)))
any-item Server s most p on t =
    let sent = both_true s.has_sent (s.has_sent_connack && (not s.has_sent_disconnect && not s.has_sent_refusal)) on in
    let answered = both_true s.has_sent_connack (not s.has_sent_disconnect && not s.has_sent_refusal) sent.1 in
    let stays = both_true (not s.has_sent_disconnect) (not s.has_sent_refusal) answered.1 in
    let other = not-connack p.fields (harmless-ordinary Server most p.fields t) in
    λ i. not-foreign Server most p.fields t i || ((other i && not s.has_received_connect) || ((not (other i || not-auth Server most p.fields t i) && not (answered.0 i)) || ((other i && s.has_sent_connack)
    || (was-false s.has_sent_disconnect stays.0 i || (was-false s.has_sent_refusal stays.1 i || false)))))

any-packet : (role : Role) (s : ConnectionState) (most : ℕ) (p : PacketNote) → nat_lt p.size (size_bound role s) ≡ true → (p.has_reason_string || p.has_user_property) ≡ false → is_harmless_in role most p.fields ≡ true
    → is_any_broken (packet_verdicts role s (Some p)) ≡ false
any-packet Client s most p below unexplained t =
    let sent = both_true s.has_sent (not s.has_sent_disconnect && not (is_some_and resumed_by s.connack && (is_some_and (λ c. c.clean_start) s.connect || not s.was_alive))) (goes-on Client s p.size below) in
    let stays = both_true (not s.has_sent_disconnect) (not (is_some_and resumed_by s.connack && (is_some_and (λ c. c.clean_start) s.connect || not s.was_alive))) sent.1 in
    let none = no-disconnect p.fields (harmless-ordinary Client most p.fields t) in
    λ i. (not (is_some (none i)) && was-false (is_some_and resumed_by s.connack && (is_some_and (λ c. c.clean_start) s.connect || not s.was_alive)) stays.1 i) || (not-larger Client s p.size below i || false)
any-packet Server s most p below unexplained t =
    λ i. not-larger Server s p.size below i || (((unexplained i && not (may_explain p.fields)) && is_some_and (λ c. is_id 0 c.request_problem_information) s.connect) || false)

only-none : (b : Bool) → only {A = ℕ} b None ≡ None
only-none true = refl
only-none false = refl

not-above : (s : ConnectionState) (qos : ℕ) → nat_le qos (qos_bound Client s) ≡ true → nat_lt (qos_limit s) qos ≡ false
not-above s qos t = grind (arith, nat_tests)

record Plain (most : ℕ) (p : PublishNote) : Type 0 where
  alias : p.topic_alias ≡ None
  subscription : p.has_subscription_identifier ≡ false
  allowed : nat_le (qos_number p.qos) most ≡ true

plain : (role : Role) (most : ℕ) (p : PublishNote) → is_harmless_in role most (Publish p) ≡ true → Plain most p
plain role most p t =
    let first = both_true (is_none p.topic_alias) (not p.has_subscription_identifier && nat_le (qos_number p.qos) most) t in
    let second = both_true (not p.has_subscription_identifier) (nat_le (qos_number p.qos) most) first.1 in
    record { alias = was-none p.topic_alias first.0; subscription = was-false p.has_subscription_identifier second.0; allowed = second.1 }

unlimited : (role : Role) (s : ConnectionState) (most : ℕ) (p : PublishNote) → Plain most p → (may_look role s && is_some_and (λ alias. nat_lt (alias_limit role s) alias) p.topic_alias) ≡ false
unlimited role s most p is = ap (λ o. may_look role s && is_some_and (λ alias. nat_lt (alias_limit role s) alias) o) is.alias ∙ and_false (may_look role s)

unused : (aliases : ℕ → Bool) (most : ℕ) (p : PublishNote) → Plain most p → is_some_and (λ alias. not (aliases alias)) (only (length p.topic == 0) p.topic_alias) ≡ false
unused aliases most p is = ap (λ o. is_some_and (λ alias. not (aliases alias)) (only (length p.topic == 0) o)) is.alias ∙ ap (is_some_and (λ alias. not (aliases alias))) (only-none (length p.topic == 0))

any-publish : (role : Role) (s : ConnectionState) (aliases : ℕ → Bool) (p : PublishNote) → Plain (qos_bound role s) p → is_any_broken (publish_verdicts role s aliases (Some p)) ≡ false
any-publish Client s aliases p is = λ i. unlimited Client s (qos_bound Client s) p is i || (unused aliases (qos_bound Client s) p is i || (not-above s (qos_number p.qos) is.allowed i || (is.subscription i || false)))
any-publish Server s aliases p is = λ i. unlimited Server s (qos_bound Server s) p is i || (unused aliases (qos_bound Server s) p is i || false)

judges-publish : (role : Role) (s : ConnectionState) (aliases : ℕ → Bool) (f : PacketFields) (place : Place3) (faults : FaultMap) → is_harmless_in role (qos_bound role s) f ≡ true
    → Judges (is_among (publish_verdicts role s aliases (publish_in f))) place faults faults
judges-publish role s aliases (Publish p) place faults t = judges-unbroken (publish_verdicts role s aliases (Some p)) place faults (any-publish role s aliases p (plain role (qos_bound role s) p t))
judges-publish role s aliases (Puback identifier code) place faults t = no_publish role s aliases place faults
judges-publish role s aliases (Pubrec identifier code) place faults t = no_publish role s aliases place faults
judges-publish role s aliases (Pubrel identifier code) place faults t = no_publish role s aliases place faults
judges-publish role s aliases (Pubcomp identifier code) place faults t = no_publish role s aliases place faults
judges-publish role s aliases Pingreq place faults t = no_publish role s aliases place faults
judges-publish role s aliases Pingresp place faults t = no_publish role s aliases place faults
judges-publish Client s aliases _ place faults t = absurd (cc)
judges-publish Server s aliases _ place faults t = absurd (cc)

-- ---- what is found of a harmless event

rests-not : (role : Role) (s : ConnectionState) (place : Place3) (faults : FaultMap) → Judges (is_among (rest_verdicts role s false)) place faults faults
rests-not role s place faults = judges-none place faults

-- what is known of a harmless packet that is sent
pub record Sends (role : Role) (s : ConnectionState) (p : PacketNote) : Type 0 where
  pub below : nat_lt p.size (size_bound role s) ≡ true
  pub unexplained : (p.has_reason_string || p.has_user_property) ≡ false
  pub inside : is_harmless_in role (qos_bound role s) p.fields ≡ true

pub sends : (role : Role) (s : ConnectionState) (p : PacketNote) → is_harmless (send_bounds role s) (notes.Sent (items.Packet p)) ≡ true → Sends role s p
sends role s p t =
    let first = both_true (nat_lt p.size (size_bound role s)) (not (p.has_reason_string || p.has_user_property) && is_harmless_in role (qos_bound role s) p.fields) t in
    let second = both_true (not (p.has_reason_string || p.has_user_property)) (is_harmless_in role (qos_bound role s) p.fields) first.1 in
    record { below = first.0; unexplained = was-false (p.has_reason_string || p.has_user_property) second.0; inside = second.1 }

sent-found : (role : Role) (s : ConnectionState) (aliases : ℕ → Bool) (p : PacketNote) (place : Place3) (faults : FaultMap) → Sends role s p
    → Judges (is_found role s aliases (notes.Sent (items.Packet p))) place faults faults
sent-found role s aliases p place faults is =
    let u = harmless-ordinary role (qos_bound role s) p.fields is.inside in
    judged-all role s aliases (notes.Sent (items.Packet p)) place faults faults faults faults faults faults faults
    (judges-unbroken (item_verdicts role s (Some (items.Packet p))) place faults (any-item role s (qos_bound role s) p (goes-on role s p.size is.below) is.inside))
    (judges-unbroken (packet_verdicts role s (Some p)) place faults (any-packet role s (qos_bound role s) p is.below is.unexplained is.inside))
    (judges-publish role s aliases p.fields place faults is.inside)
    (subst (λ (o : Option ConnackNote). Judges (is_among (connack_verdicts role s o)) place faults faults) (sym (no-connack p.fields u)) (no_connack role s place faults))
    (subst (λ (o : Option DisconnectNote). Judges (is_among (disconnect_verdicts role s o)) place faults faults) (sym (no-disconnect p.fields u)) (no_disconnect role s place faults))
    (rests-not role s place faults)

received-found : (role : Role) (s : ConnectionState) (aliases : ℕ → Bool) (p : PacketNote) (place : Place3) (faults : FaultMap) → Judges (is_found role s aliases (notes.Recv (items.Packet p))) place faults faults
received-found role s aliases p place faults =
    judged-all role s aliases (notes.Recv (items.Packet p)) place faults faults faults faults faults faults faults
    (no_item role s place faults) (no_packet role s place faults) (no_publish role s aliases place faults) (no_connack role s place faults) (no_disconnect role s place faults) (rests-not role s place faults)

harmless-found : (role : Role) (s : ConnectionState) (aliases : ℕ → Bool) (n : Note) (place : Place3) (faults : FaultMap) → is_harmless (send_bounds role s) n ≡ true
    → Judges (is_found role s aliases n) place faults faults
harmless-found role s aliases (notes.Sent (items.Packet p)) place faults t = sent-found role s aliases p place faults (sends role s p t)
harmless-found role s aliases (notes.Recv (items.Packet p)) place faults t = received-found role s aliases p place faults
harmless-found role s aliases _ place faults t = absurd (cc)

-- ---- what a harmless event leaves as it is

begun-to-send : (role : Role) (s : ConnectionState) → may_go_on role s ≡ true → s.has_sent ≡ true
begun-to-send Client s on = (both_true s.has_sent (not s.has_sent_disconnect && not (is_some_and resumed_by s.connack && (is_some_and (λ c. c.clean_start) s.connect || not s.was_alive))) on).0
begun-to-send Server s on = (both_true s.has_sent (s.has_sent_connack && (not s.has_sent_disconnect && not s.has_sent_refusal)) on).0

pub harmless-state : (role : Role) (s : ConnectionState) (n : Note) → is_harmless (send_bounds role s) n ≡ true → s ≡ connection_after role s n
harmless-state role s (notes.Sent (items.Packet p)) t =
    let is = sends role s p t in
    let known : (s.has_sent && is_ordinary (notes.Sent (items.Packet p))) ≡ true =
    λ i. begun-to-send role s (goes-on role s p.size is.below) i && (harmless-ordinary role (qos_bound role s) p.fields is.inside i || false) in
    unchanged role s (notes.Sent (items.Packet p)) known
harmless-state role s (notes.Recv (items.Packet p)) t =
    let both = both_true (nat_lt 0 (size_bound role s)) (is_ordinary_in p.fields) t in
    let known : (s.has_sent && is_ordinary (notes.Recv (items.Packet p))) ≡ true = λ i. begun-to-send role s (goes-on role s 0 both.0) i && both.1 i in
    unchanged role s (notes.Recv (items.Packet p)) known
harmless-state role s _ t = absurd (cc)

sets-none : (role : Role) (most : ℕ) (f : PacketFields) → is_harmless_in role most f ≡ true → option_and_then (λ p. only (not (length p.topic == 0)) p.topic_alias) (publish_in f) ≡ None
sets-none role most (Publish p) t = ap (only (not (length p.topic == 0))) (plain role most p t).alias ∙ only-none (not (length p.topic == 0))
sets-none role most (Puback identifier code) t = refl
sets-none role most (Pubrec identifier code) t = refl
sets-none role most (Pubrel identifier code) t = refl
sets-none role most (Pubcomp identifier code) t = refl
sets-none role most Pingreq t = refl
sets-none role most Pingresp t = refl
sets-none Client most _ t = absurd (cc)
sets-none Server most _ t = absurd (cc)

-- a harmless packet has no Topic Alias
pub no-alias : (role : Role) (most : ℕ) (f : PacketFields) → is_harmless_in role most f ≡ true
    → (option_and_then (λ p. p.topic_alias) (publish_in f) ≡ None) × (option_and_then (λ p. only (length p.topic == 0) p.topic_alias) (publish_in f) ≡ None)
no-alias role most (Publish p) t =
    let none = (plain role most p t).alias in
    (none, ap (only (length p.topic == 0)) none ∙ only-none (length p.topic == 0))
no-alias role most (Puback identifier code) t = (refl, refl)
no-alias role most (Pubrec identifier code) t = (refl, refl)
no-alias role most (Pubrel identifier code) t = (refl, refl)
no-alias role most (Pubcomp identifier code) t = (refl, refl)
no-alias role most Pingreq t = (refl, refl)
no-alias role most Pingresp t = (refl, refl)
no-alias Client most _ t = absurd (cc)
no-alias Server most _ t = absurd (cc)

-- no Topic Alias is set
pub harmless-sets : (bounds : SendBounds) (n : Note) → is_harmless bounds n ≡ true → set_alias n ≡ None
harmless-sets bounds (notes.Sent (items.Packet p)) t =
    let first = both_true (nat_lt p.size bounds.size) (not (p.has_reason_string || p.has_user_property) && is_harmless_in bounds.role bounds.qos p.fields) t in
    let second = both_true (not (p.has_reason_string || p.has_user_property)) (is_harmless_in bounds.role bounds.qos p.fields) first.1 in
    sets-none bounds.role bounds.qos p.fields second.1
harmless-sets bounds (notes.Recv (items.Packet p)) t = refl
harmless-sets bounds _ t = absurd (cc)

-- it neither begins nor ends a connection
pub harmless-inside : (bounds : SendBounds) (n : Note) → is_harmless bounds n ≡ true → (is_open n ≡ false) × (is_close n ≡ false)
harmless-inside bounds (notes.Sent (items.Packet p)) t = (refl, refl)
harmless-inside bounds (notes.Recv (items.Packet p)) t = (refl, refl)
harmless-inside bounds _ t = absurd (cc)

harmless-alias : (bounds : SendBounds) (n : Note) (alias : ℕ) (b : Bool) → is_harmless bounds n ≡ true → b ≡ ((not (is_open n) && b) || is_id alias (set_alias n))
harmless-alias bounds n alias b t =
    sym ((λ i. (not ((harmless-inside bounds n t).0 i) && b) || is_id alias (harmless-sets bounds n t i)) ∙ or_false b)

-- a harmless event breaks no rule on bytes
pub harmless-unbroken : (bounds : SendBounds) (n : Note) → is_harmless bounds n ≡ true → sent_fault n ≡ None
harmless-unbroken bounds (notes.Sent (items.Packet p)) t = refl
harmless-unbroken bounds (notes.Recv (items.Packet p)) t = refl
harmless-unbroken bounds _ t = absurd (cc)

pub harmless-agrees : (conn : Conn) (tested : Tested) (e : Seen) (past : List Seen) (bounds : SendBounds) → bounds ≡ send_bounds conn.role conn.state → is_harmless bounds e.note ≡ true
    → Agrees conn tested past → Agrees conn tested (e ∷ past)
harmless-agrees conn tested e past bounds is t here =
    agrees-next conn conn tested e past here refl (harmless-state conn.role conn.state e.note (subst (λ b. is_harmless b e.note ≡ true) is t))
    (λ alias. harmless-alias bounds e.note alias (contains nat_cmp conn.aliases alias) t)

pub harmless-grows : (conn : Conn) (tested : Tested) (e : Seen) (past : List Seen) (faults : FaultMap) (bounds : SendBounds) → bounds ≡ send_bounds conn.role conn.state → is_harmless bounds e.note ≡ true
    → Agrees conn tested past → e.place.position ≡ length past + 1 → GrowsBy (is_on_past tested) tested e past faults faults
harmless-grows conn tested e past faults bounds is t here placed =
    step-grows conn tested e.place e.note past faults faults here placed
    (harmless-found conn.role conn.state (contains nat_cmp conn.aliases) e.note e.place faults (subst (λ b. is_harmless b e.note ≡ true) is t))

-- The same of a watcher.
pub harmless-skips : (conn : Conn) (tested : Tested) (taken : Option Fate) (e : Seen) (past : List Seen) → Follows tested e past → IsOnConnection e past → is_harmless (send_bounds conn.role conn.state) e.note ≡ true
    → IsConn conn tested taken past → Skips (IsConn conn tested) (λ k r. is_on_past tested r && turns tested e past k r) tested e past
harmless-skips conn tested taken e past follows on t here = record {
  stays = conn-next conn conn tested taken (latest_fate tested.role (e ∷ past)) e past on here refl (harmless-state conn.role conn.state e.note t) here.same_bounds aliases as_many;
  shows = λ m. conn-gains conn tested taken e past m m follows on here (harmless-found conn.role conn.state (contains nat_cmp conn.aliases) e.note e.place m t);
}
  where
    none : set_alias e.note ≡ None
    none = harmless-sets (send_bounds conn.role conn.state) e.note t

    inside : (is_open e.note ≡ false) × (is_close e.note ≡ false)
    inside = harmless-inside (send_bounds conn.role conn.state) e.note t

    aliases : (alias : ℕ) → contains nat_cmp conn.aliases alias ≡ (not (is_close e.note) && ((not (is_open e.note) && contains nat_cmp conn.aliases alias) || is_id alias (set_alias e.note)))
    aliases alias =
        harmless-alias (send_bounds conn.role conn.state) e.note alias (contains nat_cmp conn.aliases alias) t
        ∙ ap (λ b. not b && ((not (is_open e.note) && contains nat_cmp conn.aliases alias) || is_id alias (set_alias e.note))) (sym inside.1)

    as_many : btree_set_len conn.aliases ≡ cond (is_close e.note) 0 (cond (is_another (λ alias. not (is_open e.note) && contains nat_cmp conn.aliases alias) (set_alias e.note)) 1 0 + cond (is_open e.note) 0 (btree_set_len conn.aliases))
    as_many = (let none_more : btree_set_len conn.aliases ≡ 0 + btree_set_len conn.aliases = omega arith in none_more)
        ∙ sym (λ i. cond (inside.1 i) 0 (cond (is_another (λ alias. not (is_open e.note) && contains nat_cmp conn.aliases alias) (none i)) 1 0 + cond (inside.0 i) 0 (btree_set_len conn.aliases)))
