-- What may concern a group of watchers is all that concerns one of them.
use Rattle.std.proofs.Common.{◌≡◌, ℕ, Bool, false, ◌||◌, refl}
use Rattle.mq_packet.specs.declared.packet.Qos.{Qos}
use Rattle.mq_packet.specs.declared.packet.Qos.TheVariants as quality
use Rattle.mq_rules.specs.declared.note.Note.{Note}
use Rattle.mq_rules.specs.declared.note.Note.TheVariants as notes
use Rattle.mq_rules.specs.declared.note.ItemNote.TheVariants as items
use Rattle.mq_rules.specs.declared.packet_note.PacketFields.{PacketFields}
use Rattle.mq_rules.specs.declared.packet_note.PacketFields.TheVariants.{Connect, Connack, Publish, Puback, Pubrec, Pubrel, Pubcomp, Subscribe, Suback, Unsubscribe, Unsuback, Pingreq, Pingresp, Disconnect, Auth}
use Rattle.mq_rules.specs.declared.packet_note.PublishNote.{PublishNote}
use Rattle.mq_log.specs.declared.kind.Direction.{Direction}
use Rattle.mq_log.specs.declared.kind.Direction.TheVariants.{Sent, Recv}
use Rattle.mq_rules.specs.declared.bare.Bare.{Bare}
use Rattle.mq_rules.specs.declared.bare.BareFields.{BareFields}
use Rattle.mq_rules.specs.declared.bare.BareFields.TheVariants as bares
use Rattle.mq_rules.specs.Notes.{bare_note, bare_fields, note_of_bare, is_acknowledged}
use Rattle.mq_rules.specs.Exchanges.{Exchange, publish_puback, publish_pubrec, pubrec_pubrel, pubrel_pubcomp, subscribe_suback, unsubscribe_unsuback}
use Rattle.mq_exchanges.specs.Concerns.{concerns_asked, concerns_owed, concerns_releases, concerns_pings}
use Rattle.mq_fates.specs.Selecting.{may_concern_messages, answers_message, asks_by_message, may_concern_requests, answers_request, asks_by_request, may_concern_releases, ends_release, brings_message, may_concern_pings, answers_ping, pings}
use Rattle.mq_fates.proofs.Exports.{at_qos, received, sent}

-- ---- an exchange

abbrev exchange_concerns : Exchange → Note → Bool
exchange_concerns x n = concerns_asked x n || concerns_owed x n

messages-sent : (size : ℕ) (a b : Bool) (fields : PacketFields) → answers_message fields ≡ false → ((exchange_concerns publish_puback (sent size a b fields) || exchange_concerns publish_pubrec (sent size a b fields)) || (exchange_concerns pubrec_pubrel (sent size a b fields) || exchange_concerns pubrel_pubcomp (sent size a b fields))) ≡ false
messages-sent size a b (Connect note method) h = refl
messages-sent size a b (Connack note method) h = refl
messages-sent size a b (Publish p) h = refl
messages-sent size a b (Puback i c) h = absurd (cc)
messages-sent size a b (Pubrec i c) h = absurd (cc)
messages-sent size a b (Pubrel i c) h = absurd (cc)
messages-sent size a b (Pubcomp i c) h = absurd (cc)
messages-sent size a b (Subscribe i fs ws) h = refl
messages-sent size a b (Suback i cs) h = refl
messages-sent size a b (Unsubscribe i c) h = refl
messages-sent size a b (Unsuback i c) h = refl
messages-sent size a b Pingreq h = refl
messages-sent size a b Pingresp h = refl
messages-sent size a b (Disconnect note) h = absurd (cc)
messages-sent size a b (Auth method) h = refl

messages-received-publish : (size : ℕ) (a b : Bool) (p : PublishNote) (q : Qos) → is_acknowledged q ≡ false → ((exchange_concerns publish_puback (received size a b (at_qos p q)) || exchange_concerns publish_pubrec (received size a b (at_qos p q))) || (exchange_concerns pubrec_pubrel (received size a b (at_qos p q)) || exchange_concerns pubrel_pubcomp (received size a b (at_qos p q)))) ≡ false
messages-received-publish size a b p quality.AtMostOnce h = refl
messages-received-publish size a b p quality.AtLeastOnce h = absurd (cc)
messages-received-publish size a b p quality.ExactlyOnce h = absurd (cc)

messages-received : (size : ℕ) (a b : Bool) (fields : PacketFields) → asks_by_message fields ≡ false → ((exchange_concerns publish_puback (received size a b fields) || exchange_concerns publish_pubrec (received size a b fields)) || (exchange_concerns pubrec_pubrel (received size a b fields) || exchange_concerns pubrel_pubcomp (received size a b fields))) ≡ false
messages-received size a b (Connect note method) h = refl
messages-received size a b (Connack note method) h = refl
messages-received size a b (Publish p) h = messages-received-publish size a b p p.qos h
messages-received size a b (Puback i c) h = refl
messages-received size a b (Pubrec i c) h = absurd (cc)
messages-received size a b (Pubrel i c) h = absurd (cc)
messages-received size a b (Pubcomp i c) h = refl
messages-received size a b (Subscribe i fs ws) h = refl
messages-received size a b (Suback i cs) h = refl
messages-received size a b (Unsubscribe i c) h = refl
messages-received size a b (Unsuback i c) h = refl
messages-received size a b Pingreq h = refl
messages-received size a b Pingresp h = refl
messages-received size a b (Disconnect note) h = absurd (cc)
messages-received size a b (Auth method) h = refl

pub messages-unconcerned : (n : Note) → may_concern_messages n ≡ false → ((exchange_concerns publish_puback n || exchange_concerns publish_pubrec n) || (exchange_concerns pubrec_pubrel n || exchange_concerns pubrel_pubcomp n)) ≡ false
messages-unconcerned notes.Open h = absurd (cc)
messages-unconcerned (notes.Close cuts part) h = refl
messages-unconcerned notes.Rest h = absurd (cc)
messages-unconcerned (notes.Release i) h = refl
messages-unconcerned (notes.Sent (items.Packet p)) h = messages-sent p.size p.has_reason_string p.has_user_property p.fields h
messages-unconcerned (notes.Sent (items.Bad first rule at large)) h = absurd (cc)
messages-unconcerned (notes.Sent items.Lost) h = absurd (cc)
messages-unconcerned (notes.Recv (items.Packet p)) h = messages-received p.size p.has_reason_string p.has_user_property p.fields h
messages-unconcerned (notes.Recv (items.Bad first rule at large)) h = absurd (cc)
messages-unconcerned (notes.Recv items.Lost) h = absurd (cc)

-- ---- requests

requests-sent : (size : ℕ) (a b : Bool) (fields : PacketFields) → answers_request fields ≡ false → (exchange_concerns subscribe_suback (sent size a b fields) || exchange_concerns unsubscribe_unsuback (sent size a b fields)) ≡ false
requests-sent size a b (Connect note method) h = refl
requests-sent size a b (Connack note method) h = refl
requests-sent size a b (Publish p) h = refl
requests-sent size a b (Puback i c) h = refl
requests-sent size a b (Pubrec i c) h = refl
requests-sent size a b (Pubrel i c) h = refl
requests-sent size a b (Pubcomp i c) h = refl
requests-sent size a b (Subscribe i fs ws) h = refl
requests-sent size a b (Suback i cs) h = absurd (cc)
requests-sent size a b (Unsubscribe i c) h = refl
requests-sent size a b (Unsuback i c) h = absurd (cc)
requests-sent size a b Pingreq h = refl
requests-sent size a b Pingresp h = refl
requests-sent size a b (Disconnect note) h = absurd (cc)
requests-sent size a b (Auth method) h = refl

requests-received : (size : ℕ) (a b : Bool) (fields : PacketFields) → asks_by_request fields ≡ false → (exchange_concerns subscribe_suback (received size a b fields) || exchange_concerns unsubscribe_unsuback (received size a b fields)) ≡ false
requests-received size a b (Connect note method) h = refl
requests-received size a b (Connack note method) h = refl
requests-received size a b (Publish p) h = refl
requests-received size a b (Puback i c) h = refl
requests-received size a b (Pubrec i c) h = refl
requests-received size a b (Pubrel i c) h = refl
requests-received size a b (Pubcomp i c) h = refl
requests-received size a b (Subscribe i fs ws) h = absurd (cc)
requests-received size a b (Suback i cs) h = refl
requests-received size a b (Unsubscribe i c) h = absurd (cc)
requests-received size a b (Unsuback i c) h = refl
requests-received size a b Pingreq h = refl
requests-received size a b Pingresp h = refl
requests-received size a b (Disconnect note) h = absurd (cc)
requests-received size a b (Auth method) h = refl

pub requests-unconcerned : (n : Note) → may_concern_requests n ≡ false → (exchange_concerns subscribe_suback n || exchange_concerns unsubscribe_unsuback n) ≡ false
requests-unconcerned notes.Open h = absurd (cc)
requests-unconcerned (notes.Close cuts part) h = refl
requests-unconcerned notes.Rest h = absurd (cc)
requests-unconcerned (notes.Release i) h = refl
requests-unconcerned (notes.Sent (items.Packet p)) h = requests-sent p.size p.has_reason_string p.has_user_property p.fields h
requests-unconcerned (notes.Sent (items.Bad first rule at large)) h = absurd (cc)
requests-unconcerned (notes.Sent items.Lost) h = absurd (cc)
requests-unconcerned (notes.Recv (items.Packet p)) h = requests-received p.size p.has_reason_string p.has_user_property p.fields h
requests-unconcerned (notes.Recv (items.Bad first rule at large)) h = absurd (cc)
requests-unconcerned (notes.Recv items.Lost) h = absurd (cc)

-- a bare packet is no request, and answers none
requests-bare : (direction : Direction) (size : ℕ) (fields : BareFields) → may_concern_requests (bare_note direction size (bare_fields direction fields)) ≡ false
requests-bare Sent size (bares.Publish identifier qos duplicate topic) = refl
requests-bare Sent size (bares.Puback identifier code) = refl
requests-bare Sent size (bares.Pubrec identifier code) = refl
requests-bare Sent size (bares.Pubrel identifier code) = refl
requests-bare Sent size (bares.Pubcomp identifier code) = refl
requests-bare Sent size bares.Pingreq = refl
requests-bare Sent size bares.Pingresp = refl
requests-bare Recv size (bares.Publish identifier qos duplicate topic) = refl
requests-bare Recv size (bares.Puback identifier code) = refl
requests-bare Recv size (bares.Pubrec identifier code) = refl
requests-bare Recv size (bares.Pubrel identifier code) = refl
requests-bare Recv size (bares.Pubcomp identifier code) = refl
requests-bare Recv size bares.Pingreq = refl
requests-bare Recv size bares.Pingresp = refl

pub requests-unconcerned_bare : (b : Bare) → (exchange_concerns subscribe_suback (note_of_bare b) || exchange_concerns unsubscribe_unsuback (note_of_bare b)) ≡ false
unfolding note_of_bare
requests-unconcerned_bare b = requests-unconcerned (bare_note b.direction b.size (bare_fields b.direction b.fields)) (requests-bare b.direction b.size b.fields)

-- ---- releases

releases-sent : (size : ℕ) (a b : Bool) (fields : PacketFields) → ends_release fields ≡ false → concerns_releases (sent size a b fields) ≡ false
releases-sent size a b (Connect note method) h = refl
releases-sent size a b (Connack note method) h = refl
releases-sent size a b (Publish p) h = refl
releases-sent size a b (Puback i c) h = refl
releases-sent size a b (Pubrec i c) h = absurd (cc)
releases-sent size a b (Pubrel i c) h = refl
releases-sent size a b (Pubcomp i c) h = absurd (cc)
releases-sent size a b (Subscribe i fs ws) h = refl
releases-sent size a b (Suback i cs) h = refl
releases-sent size a b (Unsubscribe i c) h = refl
releases-sent size a b (Unsuback i c) h = refl
releases-sent size a b Pingreq h = refl
releases-sent size a b Pingresp h = refl
releases-sent size a b (Disconnect note) h = refl
releases-sent size a b (Auth method) h = refl

releases-received-publish : (size : ℕ) (a b : Bool) (p : PublishNote) (q : Qos) → is_acknowledged q ≡ false → concerns_releases (received size a b (at_qos p q)) ≡ false
releases-received-publish size a b p quality.AtMostOnce h = refl
releases-received-publish size a b p quality.AtLeastOnce h = absurd (cc)
releases-received-publish size a b p quality.ExactlyOnce h = absurd (cc)

releases-received : (size : ℕ) (a b : Bool) (fields : PacketFields) → brings_message fields ≡ false → concerns_releases (received size a b fields) ≡ false
releases-received size a b (Connect note method) h = refl
releases-received size a b (Connack note method) h = refl
releases-received size a b (Publish p) h = releases-received-publish size a b p p.qos h
releases-received size a b (Puback i c) h = refl
releases-received size a b (Pubrec i c) h = refl
releases-received size a b (Pubrel i c) h = refl
releases-received size a b (Pubcomp i c) h = refl
releases-received size a b (Subscribe i fs ws) h = refl
releases-received size a b (Suback i cs) h = refl
releases-received size a b (Unsubscribe i c) h = refl
releases-received size a b (Unsuback i c) h = refl
releases-received size a b Pingreq h = refl
releases-received size a b Pingresp h = refl
releases-received size a b (Disconnect note) h = refl
releases-received size a b (Auth method) h = refl

pub releases-unconcerned : (n : Note) → may_concern_releases n ≡ false → concerns_releases n ≡ false
releases-unconcerned notes.Open h = absurd (cc)
releases-unconcerned (notes.Close cuts part) h = refl
releases-unconcerned notes.Rest h = refl
releases-unconcerned (notes.Release i) h = absurd (cc)
releases-unconcerned (notes.Sent (items.Packet p)) h = releases-sent p.size p.has_reason_string p.has_user_property p.fields h
releases-unconcerned (notes.Sent (items.Bad first rule at large)) h = refl
releases-unconcerned (notes.Sent items.Lost) h = refl
releases-unconcerned (notes.Recv (items.Packet p)) h = releases-received p.size p.has_reason_string p.has_user_property p.fields h
releases-unconcerned (notes.Recv (items.Bad first rule at large)) h = refl
releases-unconcerned (notes.Recv items.Lost) h = refl

-- ---- pings

pings-sent : (size : ℕ) (a b : Bool) (fields : PacketFields) → answers_ping fields ≡ false → concerns_pings (sent size a b fields) ≡ false
pings-sent size a b (Connect note method) h = refl
pings-sent size a b (Connack note method) h = refl
pings-sent size a b (Publish p) h = refl
pings-sent size a b (Puback i c) h = refl
pings-sent size a b (Pubrec i c) h = refl
pings-sent size a b (Pubrel i c) h = refl
pings-sent size a b (Pubcomp i c) h = refl
pings-sent size a b (Subscribe i fs ws) h = refl
pings-sent size a b (Suback i cs) h = refl
pings-sent size a b (Unsubscribe i c) h = refl
pings-sent size a b (Unsuback i c) h = refl
pings-sent size a b Pingreq h = refl
pings-sent size a b Pingresp h = absurd (cc)
pings-sent size a b (Disconnect note) h = absurd (cc)
pings-sent size a b (Auth method) h = refl

pings-received : (size : ℕ) (a b : Bool) (fields : PacketFields) → pings fields ≡ false → concerns_pings (received size a b fields) ≡ false
pings-received size a b (Connect note method) h = refl
pings-received size a b (Connack note method) h = refl
pings-received size a b (Publish p) h = refl
pings-received size a b (Puback i c) h = refl
pings-received size a b (Pubrec i c) h = refl
pings-received size a b (Pubrel i c) h = refl
pings-received size a b (Pubcomp i c) h = refl
pings-received size a b (Subscribe i fs ws) h = refl
pings-received size a b (Suback i cs) h = refl
pings-received size a b (Unsubscribe i c) h = refl
pings-received size a b (Unsuback i c) h = refl
pings-received size a b Pingreq h = absurd (cc)
pings-received size a b Pingresp h = refl
pings-received size a b (Disconnect note) h = absurd (cc)
pings-received size a b (Auth method) h = refl

pub pings-unconcerned : (n : Note) → may_concern_pings n ≡ false → concerns_pings n ≡ false
pings-unconcerned notes.Open h = absurd (cc)
pings-unconcerned (notes.Close cuts part) h = refl
pings-unconcerned notes.Rest h = absurd (cc)
pings-unconcerned (notes.Release i) h = refl
pings-unconcerned (notes.Sent (items.Packet p)) h = pings-sent p.size p.has_reason_string p.has_user_property p.fields h
pings-unconcerned (notes.Sent (items.Bad first rule at large)) h = absurd (cc)
pings-unconcerned (notes.Sent items.Lost) h = absurd (cc)
pings-unconcerned (notes.Recv (items.Packet p)) h = pings-received p.size p.has_reason_string p.has_user_property p.fields h
pings-unconcerned (notes.Recv (items.Bad first rule at large)) h = absurd (cc)
pings-unconcerned (notes.Recv items.Lost) h = absurd (cc)
