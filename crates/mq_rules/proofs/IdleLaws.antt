-- An event that leaves what is kept of a connection as it is.
use Rattle.std.proofs.Common.{◌≡◌, Bool, true, false, cond, ◌&&◌, ◌||◌, Option, Some, None, is_some, refl, ap, sym, ◌∙◌}
use Rattle.std.specs.Prelude.{option_map}
use Rattle.std.specs.Option.{option_or}
use Rattle.mq_packet.specs.Canonical.{type_number}
use Rattle.mq_packet.specs.declared.packet.PacketType.TheVariants as types
use Rattle.mq_rules.specs.declared.role.Role.{Role}
use Rattle.mq_rules.specs.declared.role.Role.TheVariants.{Client, Server}
use Rattle.mq_rules.specs.declared.fate.Fate.TheVariants.{Void}
use Rattle.mq_rules.specs.declared.note.Note.{Note}
use Rattle.mq_rules.specs.declared.note.Note.TheVariants as notes
use Rattle.mq_rules.specs.declared.note.ItemNote.TheVariants as items
use Rattle.mq_rules.specs.declared.packet_note.ConnackNote.{ConnackNote}
use Rattle.mq_rules.specs.declared.packet_note.DisconnectNote.{DisconnectNote}
use Rattle.mq_rules.specs.declared.packet_note.PacketFields.{PacketFields}
use Rattle.mq_rules.specs.declared.packet_note.PacketFields.TheVariants.{Connect, Connack, Disconnect}
use Rattle.mq_rules.specs.declared.connection_state.ConnectionState.{ConnectionState}
use Rattle.mq_rules.specs.Words.{is_id, is_some_and}
use Rattle.mq_rules.specs.Notes.{is_open, is_close, is_rest, is_release, is_typed, fields_type, sent_item, sent_connack, sent_disconnect, connect_in, connack_in, disconnect_in, connect_of, connack_of, client_disconnect, fate_by, decides, refuses, sends_type, receives_type, is_session_packet, needs_session}
use Rattle.mq_rules.specs.Pasts.{is_sent_disconnect, is_sent_refusal}
use Rattle.mq_rules.specs.Keeping.{begun_if, followed, connection_after, is_ordinary_in, is_ordinary}
use Rattle.mq_rules.proofs.BoolLaws.{both_true, or_false, or_left, option_or-none}

-- ---- what an ordinary packet is not

no-connect : (f : PacketFields) → is_ordinary_in f ≡ true → connect_in f ≡ None
no-connect (Connect c method) t = absurd (cc)
no-connect _ t = refl

pub no-connack : (f : PacketFields) → is_ordinary_in f ≡ true → connack_in f ≡ None
no-connack (Connack c method) t = absurd (cc)
no-connack _ t = refl

pub no-disconnect : (f : PacketFields) → is_ordinary_in f ≡ true → disconnect_in f ≡ None
no-disconnect (Disconnect d) t = absurd (cc)
no-disconnect _ t = refl

pub not-connect : (f : PacketFields) → is_ordinary_in f ≡ true → is_id (type_number types.Connect) (Some (type_number (fields_type f))) ≡ false
not-connect (Connect c method) t = absurd (cc)
not-connect _ t = refl

pub not-connack : (f : PacketFields) → is_ordinary_in f ≡ true → is_id (type_number types.Connack) (Some (type_number (fields_type f))) ≡ false
not-connack (Connack c method) t = absurd (cc)
not-connack _ t = refl

-- ---- what is kept

keeps : {A : Type 0} (o x : Option A) → x ≡ None → option_or o x ≡ o
keeps o x e = ap (option_or o) e ∙ option_or-none o

stays : (b x : Bool) → x ≡ false → (b || x) ≡ b
stays b x e = ap (λ y. b || y) e ∙ or_false b

known : (b x : Bool) → b ≡ true → (b || x) ≡ b
known true x h = refl
known false x h = absurd (cc)

decides-none : (role : Role) (n : Note) → is_close n ≡ false → connack_of role n ≡ None → decides role n ≡ None
decides-none role n close none = ap (λ b. cond b (Some Void) (option_map fate_by (connack_of role n))) close ∙ ap (λ (o : Option ConnackNote). option_map fate_by o) none

-- an event that says nothing new
settled : (role : Role) (s : ConnectionState) (n : Note) → (s.has_sent || is_some_and is_typed (sent_item n)) ≡ s.has_sent → is_open n ≡ false → is_close n ≡ false
    → connect_of role n ≡ None → connack_of role n ≡ None → client_disconnect role n ≡ None
    → sends_type types.Connect n ≡ false → sends_type types.Connack n ≡ false → receives_type types.Connect n ≡ false
    → sent_disconnect n ≡ None → sent_connack n ≡ None → s ≡ connection_after role s n
settled role s n sent open_not close_not connect connack disconnect s_connect s_connack r_connect s_disconnect refusal =
    sym (ap (λ b. followed role (begun_if b s) n) open_not
    ∙ (λ i. record {
      has_begun = s.has_begun;
      was_alive = s.was_alive;
      fate = keeps s.fate (decides role n) (decides-none role n close_not connack) i;
      connect = keeps s.connect (connect_of role n) connect i;
      connack = keeps s.connack (connack_of role n) connack i;
      disconnect = keeps s.disconnect (client_disconnect role n) disconnect i;
      has_sent = sent i;
      has_sent_connect = stays s.has_sent_connect (sends_type types.Connect n) s_connect i;
      has_sent_connack = stays s.has_sent_connack (sends_type types.Connack n) s_connack i;
      has_received_connect = stays s.has_received_connect (receives_type types.Connect n) r_connect i;
      has_sent_disconnect = stays s.has_sent_disconnect (is_sent_disconnect n) (ap (λ (o : Option DisconnectNote). is_some o) s_disconnect) i;
      has_sent_refusal = stays s.has_sent_refusal (is_sent_refusal n) (ap (λ (o : Option ConnackNote). is_some_and (λ c. refuses c.code) o) refusal) i;
    }))

ordinary : (role : Role) (s : ConnectionState) (n : Note) → s.has_sent ≡ true → is_ordinary n ≡ true → s ≡ connection_after role s n
ordinary Client s (notes.Sent (items.Packet p)) h t =
    let u : is_ordinary_in p.fields ≡ true = sym (or_false (is_ordinary_in p.fields)) ∙ t in
    settled Client s (notes.Sent (items.Packet p)) (known s.has_sent _ h) refl refl (no-connect p.fields u) refl (no-disconnect p.fields u)
    (not-connect p.fields u) (not-connack p.fields u) refl (no-disconnect p.fields u) (no-connack p.fields u)
ordinary Server s (notes.Sent (items.Packet p)) h t =
    let u : is_ordinary_in p.fields ≡ true = sym (or_false (is_ordinary_in p.fields)) ∙ t in
    settled Server s (notes.Sent (items.Packet p)) (known s.has_sent _ h) refl refl refl (no-connack p.fields u) refl
    (not-connect p.fields u) (not-connack p.fields u) refl (no-disconnect p.fields u) (no-connack p.fields u)
ordinary Client s (notes.Recv (items.Packet p)) h t =
    settled Client s (notes.Recv (items.Packet p)) (known s.has_sent _ h) refl refl refl (no-connack p.fields t) refl
    refl refl (not-connect p.fields t) refl refl
ordinary Server s (notes.Recv (items.Packet p)) h t =
    settled Server s (notes.Recv (items.Packet p)) (known s.has_sent _ h) refl refl (no-connect p.fields t) refl (no-disconnect p.fields t)
    refl refl (not-connect p.fields t) refl refl
ordinary role s _ h t = absurd (cc)

-- neither does a REST or a RELEASE
silent : (role : Role) (s : ConnectionState) (n : Note) → (is_rest n || is_release n) ≡ true → s ≡ connection_after role s n
silent Client s notes.Rest t = settled Client s notes.Rest (or_false s.has_sent) refl refl refl refl refl refl refl refl refl refl
silent Server s notes.Rest t = settled Server s notes.Rest (or_false s.has_sent) refl refl refl refl refl refl refl refl refl refl
silent Client s (notes.Release i) t = settled Client s (notes.Release i) (or_false s.has_sent) refl refl refl refl refl refl refl refl refl refl
silent Server s (notes.Release i) t = settled Server s (notes.Release i) (or_false s.has_sent) refl refl refl refl refl refl refl refl refl refl
silent role s _ t = absurd (cc)

-- an ordinary packet begins, ends and decides no connection
pub record IsQuiet (role : Role) (n : Note) : Type 0 where
  pub opens : is_open n ≡ false
  pub closes : is_close n ≡ false
  pub decides_not : decides role n ≡ None

pub ordinary-quiet : (role : Role) (n : Note) → is_ordinary n ≡ true → IsQuiet role n
ordinary-quiet Client (notes.Sent (items.Packet p)) t = record { opens = refl; closes = refl; decides_not = refl }
ordinary-quiet Server (notes.Sent (items.Packet p)) t =
    let u : is_ordinary_in p.fields ≡ true = sym (or_false (is_ordinary_in p.fields)) ∙ t in
    record { opens = refl; closes = refl; decides_not = ap (λ (o : Option ConnackNote). option_map fate_by o) (no-connack p.fields u) }
ordinary-quiet Client (notes.Recv (items.Packet p)) t =
    record { opens = refl; closes = refl; decides_not = ap (λ (o : Option ConnackNote). option_map fate_by o) (no-connack p.fields t) }
ordinary-quiet Server (notes.Recv (items.Packet p)) t = record { opens = refl; closes = refl; decides_not = refl }
ordinary-quiet role _ t = absurd (cc)

-- what needs a session begins no connection, and decides none
session-ordinary : (fields : PacketFields) → is_session_packet fields ≡ true → is_ordinary_in fields ≡ true
session-ordinary (Connect c method) h = absurd (cc)
session-ordinary (Connack c method) h = absurd (cc)
session-ordinary (Disconnect d) h = absurd (cc)
session-ordinary _ h = refl

pub session-quiet : (role : Role) (n : Note) → needs_session n ≡ true → IsQuiet role n
session-quiet Client (notes.Release i) h = record { opens = refl; closes = refl; decides_not = refl }
session-quiet Server (notes.Release i) h = record { opens = refl; closes = refl; decides_not = refl }
session-quiet role (notes.Sent (items.Packet p)) h =
    ordinary-quiet role (notes.Sent (items.Packet p)) (or_left (is_ordinary_in p.fields) false (session-ordinary p.fields (sym (or_false (is_session_packet p.fields)) ∙ h)))
session-quiet role (notes.Recv (items.Packet p)) h = ordinary-quiet role (notes.Recv (items.Packet p)) (session-ordinary p.fields h)
session-quiet role _ h = absurd (cc)

-- once the tested end has sent, an ordinary packet changes nothing
pub unchanged : (role : Role) (s : ConnectionState) (n : Note) → (s.has_sent && is_ordinary n) ≡ true → s ≡ connection_after role s n
unchanged role s n t =
    let both : (s.has_sent ≡ true) × (is_ordinary n ≡ true) = both_true s.has_sent (is_ordinary n) t in
    ordinary role s n both.0 both.1

-- a REST, a RELEASE, or such a packet
pub untouched : (role : Role) (s : ConnectionState) (n : Note) → ((is_rest n || is_release n) || (s.has_sent && is_ordinary n)) ≡ true → s ≡ connection_after role s n
untouched role s n t = go (is_rest n || is_release n) refl t
  where
    go : (b : Bool) → (is_rest n || is_release n) ≡ b → (b || (s.has_sent && is_ordinary n)) ≡ true → s ≡ connection_after role s n
    go true e t = silent role s n e
    go false e t = unchanged role s n t
