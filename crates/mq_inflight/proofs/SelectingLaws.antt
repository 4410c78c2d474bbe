-- What may concern a group of watchers is all that concerns one of them.
use Rattle.std.proofs.Common.{◌≡◌, ℕ, Bool, true, false, ◌||◌, not, None, refl, ap}
use Rattle.std.specs.Prelude.{is_some}
use Rattle.mq_packet.specs.declared.packet.Qos.{Qos}
use Rattle.mq_packet.specs.declared.packet.Qos.TheVariants as quality
use Rattle.mq_rules.specs.declared.role.Role.{Role}
use Rattle.mq_rules.specs.declared.role.Role.TheVariants as roles
use Rattle.mq_rules.specs.declared.role.Further.{Further}
use Rattle.mq_rules.specs.declared.note.Note.{Note}
use Rattle.mq_rules.specs.declared.note.Note.TheVariants as notes
use Rattle.mq_rules.specs.declared.note.ItemNote.TheVariants as items
use Rattle.mq_rules.specs.declared.packet_note.PacketFields.{PacketFields}
use Rattle.mq_rules.specs.declared.packet_note.PacketFields.TheVariants.{Connect, Connack, Publish, Puback, Pubrec, Pubrel, Pubcomp, Subscribe, Suback, Unsubscribe, Unsuback, Pingreq, Pingresp, Disconnect, Auth}
use Rattle.mq_rules.specs.declared.packet_note.PublishNote.{PublishNote}
use Rattle.mq_rules.specs.Words.{only}
use Rattle.mq_log.specs.declared.kind.Direction.TheVariants.{Sent, Recv}
use Rattle.mq_rules.specs.Notes.{is_acknowledged}
use Rattle.mq_inflight.specs.Concerns.{concerns_quota, concerns_flight}
use Rattle.mq_fates.specs.Selecting.{may_concern_identifiers, uses_identifier, frees_identifier, may_concern_quota, takes_quota, gives_quota}
use Rattle.mq_fates.proofs.Exports.{at_qos, received, sent}

-- ---- the send quota, for each role

quota-sent-publish : (role : Role) (releases : Bool) (further : Further) (size : ℕ) (a b : Bool) (p : PublishNote) (q : Qos) → is_acknowledged q ≡ false → concerns_quota (record { role = role; releases = releases; further = further }) (sent size a b (at_qos p q)) ≡ false
quota-sent-publish roles.Client releases further size a b p quality.AtMostOnce h = refl
quota-sent-publish roles.Server releases further size a b p quality.AtMostOnce h = refl
quota-sent-publish role releases further size a b p quality.AtLeastOnce h = absurd (cc)
quota-sent-publish role releases further size a b p quality.ExactlyOnce h = absurd (cc)

quota-sent : (role : Role) (releases : Bool) (further : Further) (size : ℕ) (a b : Bool) (fields : PacketFields) → takes_quota fields ≡ false → concerns_quota (record { role = role; releases = releases; further = further }) (sent size a b fields) ≡ false
quota-sent roles.Client releases further size a b (Connect note method) h = refl
quota-sent roles.Server releases further size a b (Connect note method) h = refl
quota-sent roles.Client releases further size a b (Connack note method) h = refl
quota-sent roles.Server releases further size a b (Connack note method) h = refl
quota-sent role releases further size a b (Publish p) h = quota-sent-publish role releases further size a b p p.qos h
quota-sent roles.Client releases further size a b (Puback i c) h = refl
quota-sent roles.Server releases further size a b (Puback i c) h = refl
quota-sent roles.Client releases further size a b (Pubrec i c) h = refl
quota-sent roles.Server releases further size a b (Pubrec i c) h = refl
quota-sent roles.Client releases further size a b (Pubrel i c) h = refl
quota-sent roles.Server releases further size a b (Pubrel i c) h = refl
quota-sent roles.Client releases further size a b (Pubcomp i c) h = refl
quota-sent roles.Server releases further size a b (Pubcomp i c) h = refl
quota-sent roles.Client releases further size a b (Subscribe i fs ws) h = refl
quota-sent roles.Server releases further size a b (Subscribe i fs ws) h = refl
quota-sent roles.Client releases further size a b (Suback i cs) h = refl
quota-sent roles.Server releases further size a b (Suback i cs) h = refl
quota-sent roles.Client releases further size a b (Unsubscribe i c) h = refl
quota-sent roles.Server releases further size a b (Unsubscribe i c) h = refl
quota-sent roles.Client releases further size a b (Unsuback i c) h = refl
quota-sent roles.Server releases further size a b (Unsuback i c) h = refl
quota-sent roles.Client releases further size a b Pingreq h = refl
quota-sent roles.Server releases further size a b Pingreq h = refl
quota-sent roles.Client releases further size a b Pingresp h = refl
quota-sent roles.Server releases further size a b Pingresp h = refl
quota-sent roles.Client releases further size a b (Disconnect note) h = refl
quota-sent roles.Server releases further size a b (Disconnect note) h = refl
quota-sent roles.Client releases further size a b (Auth method) h = refl
quota-sent roles.Server releases further size a b (Auth method) h = refl

quota-received : (role : Role) (releases : Bool) (further : Further) (size : ℕ) (a b : Bool) (fields : PacketFields) → gives_quota fields ≡ false → concerns_quota (record { role = role; releases = releases; further = further }) (received size a b fields) ≡ false
quota-received role releases further size a b (Connect note method) h = absurd (cc)
quota-received role releases further size a b (Connack note method) h = absurd (cc)
quota-received roles.Client releases further size a b (Publish p) h = refl
quota-received roles.Server releases further size a b (Publish p) h = refl
quota-received role releases further size a b (Puback i c) h = absurd (cc)
quota-received role releases further size a b (Pubrec i c) h = absurd (cc)
quota-received roles.Client releases further size a b (Pubrel i c) h = refl
quota-received roles.Server releases further size a b (Pubrel i c) h = refl
quota-received role releases further size a b (Pubcomp i c) h = absurd (cc)
quota-received roles.Client releases further size a b (Subscribe i fs ws) h = refl
quota-received roles.Server releases further size a b (Subscribe i fs ws) h = refl
quota-received roles.Client releases further size a b (Suback i cs) h = refl
quota-received roles.Server releases further size a b (Suback i cs) h = refl
quota-received roles.Client releases further size a b (Unsubscribe i c) h = refl
quota-received roles.Server releases further size a b (Unsubscribe i c) h = refl
quota-received roles.Client releases further size a b (Unsuback i c) h = refl
quota-received roles.Server releases further size a b (Unsuback i c) h = refl
quota-received roles.Client releases further size a b Pingreq h = refl
quota-received roles.Server releases further size a b Pingreq h = refl
quota-received roles.Client releases further size a b Pingresp h = refl
quota-received roles.Server releases further size a b Pingresp h = refl
quota-received roles.Client releases further size a b (Disconnect note) h = refl
quota-received roles.Server releases further size a b (Disconnect note) h = refl
quota-received roles.Client releases further size a b (Auth method) h = refl
quota-received roles.Server releases further size a b (Auth method) h = refl

pub quota-unconcerned : (role : Role) (releases : Bool) (further : Further) (n : Note) → may_concern_quota n ≡ false → concerns_quota (record { role = role; releases = releases; further = further }) n ≡ false
quota-unconcerned role releases further notes.Open h = absurd (cc)
quota-unconcerned roles.Client releases further (notes.Close cuts part) h = refl
quota-unconcerned roles.Server releases further (notes.Close cuts part) h = refl
quota-unconcerned roles.Client releases further notes.Rest h = refl
quota-unconcerned roles.Server releases further notes.Rest h = refl
quota-unconcerned roles.Client releases further (notes.Release i) h = refl
quota-unconcerned roles.Server releases further (notes.Release i) h = refl
quota-unconcerned role releases further (notes.Sent (items.Packet p)) h = quota-sent role releases further p.size p.has_reason_string p.has_user_property p.fields h
quota-unconcerned roles.Client releases further (notes.Sent (items.Bad first rule at large)) h = refl
quota-unconcerned roles.Server releases further (notes.Sent (items.Bad first rule at large)) h = refl
quota-unconcerned roles.Client releases further (notes.Sent items.Lost) h = refl
quota-unconcerned roles.Server releases further (notes.Sent items.Lost) h = refl
quota-unconcerned role releases further (notes.Recv (items.Packet p)) h = quota-received role releases further p.size p.has_reason_string p.has_user_property p.fields h
quota-unconcerned roles.Client releases further (notes.Recv (items.Bad first rule at large)) h = refl
quota-unconcerned roles.Server releases further (notes.Recv (items.Bad first rule at large)) h = refl
quota-unconcerned roles.Client releases further (notes.Recv items.Lost) h = refl
quota-unconcerned roles.Server releases further (notes.Recv items.Lost) h = refl

-- ---- Packet Identifiers in use, for each role

-- a PUBLISH that has no identifier opens none, and none is sent again
unnamed : (d : Bool) → (is_some (only {A = ℕ} (not d) None) || is_some (only {A = ℕ} d None)) ≡ false
unnamed true = refl
unnamed false = refl

identifiers-sent-publish : (role : Role) (releases : Bool) (further : Further) (size : ℕ) (a b : Bool) (p : PublishNote) (q : Qos) → is_acknowledged q ≡ false → concerns_flight (record { role = role; releases = releases; further = further }) (sent size a b (at_qos p q)) ≡ false
identifiers-sent-publish roles.Client releases further size a b p quality.AtMostOnce h = ap (λ t. (t || false) || false) (unnamed p.duplicate)
identifiers-sent-publish roles.Server releases further size a b p quality.AtMostOnce h = ap (λ t. (t || false) || false) (unnamed p.duplicate)
identifiers-sent-publish role releases further size a b p quality.AtLeastOnce h = absurd (cc)
identifiers-sent-publish role releases further size a b p quality.ExactlyOnce h = absurd (cc)

identifiers-sent : (role : Role) (releases : Bool) (further : Further) (size : ℕ) (a b : Bool) (fields : PacketFields) → uses_identifier fields ≡ false → concerns_flight (record { role = role; releases = releases; further = further }) (sent size a b fields) ≡ false
identifiers-sent roles.Client releases further size a b (Connect note method) h = refl
identifiers-sent roles.Server releases further size a b (Connect note method) h = refl
identifiers-sent roles.Client releases further size a b (Connack note method) h = refl
identifiers-sent roles.Server releases further size a b (Connack note method) h = refl
identifiers-sent role releases further size a b (Publish p) h = identifiers-sent-publish role releases further size a b p p.qos h
identifiers-sent roles.Client releases further size a b (Puback i c) h = refl
identifiers-sent roles.Server releases further size a b (Puback i c) h = refl
identifiers-sent roles.Client releases further size a b (Pubrec i c) h = refl
identifiers-sent roles.Server releases further size a b (Pubrec i c) h = refl
identifiers-sent role releases further size a b (Pubrel i c) h = absurd (cc)
identifiers-sent roles.Client releases further size a b (Pubcomp i c) h = refl
identifiers-sent roles.Server releases further size a b (Pubcomp i c) h = refl
identifiers-sent role releases further size a b (Subscribe i fs ws) h = absurd (cc)
identifiers-sent roles.Client releases further size a b (Suback i cs) h = refl
identifiers-sent roles.Server releases further size a b (Suback i cs) h = refl
identifiers-sent role releases further size a b (Unsubscribe i c) h = absurd (cc)
identifiers-sent roles.Client releases further size a b (Unsuback i c) h = refl
identifiers-sent roles.Server releases further size a b (Unsuback i c) h = refl
identifiers-sent roles.Client releases further size a b Pingreq h = refl
identifiers-sent roles.Server releases further size a b Pingreq h = refl
identifiers-sent roles.Client releases further size a b Pingresp h = refl
identifiers-sent roles.Server releases further size a b Pingresp h = refl
identifiers-sent role releases further size a b (Disconnect note) h = absurd (cc)
identifiers-sent roles.Client releases further size a b (Auth method) h = refl
identifiers-sent roles.Server releases further size a b (Auth method) h = refl

identifiers-received : (role : Role) (releases : Bool) (further : Further) (size : ℕ) (a b : Bool) (fields : PacketFields) → frees_identifier fields ≡ false → concerns_flight (record { role = role; releases = releases; further = further }) (received size a b fields) ≡ false
identifiers-received role releases further size a b (Connect note method) h = absurd (cc)
identifiers-received role releases further size a b (Connack note method) h = absurd (cc)
identifiers-received roles.Client releases further size a b (Publish p) h = refl
identifiers-received roles.Server releases further size a b (Publish p) h = refl
identifiers-received role releases further size a b (Puback i c) h = absurd (cc)
identifiers-received role releases further size a b (Pubrec i c) h = absurd (cc)
identifiers-received roles.Client releases further size a b (Pubrel i c) h = refl
identifiers-received roles.Server releases further size a b (Pubrel i c) h = refl
identifiers-received role releases further size a b (Pubcomp i c) h = absurd (cc)
identifiers-received roles.Client releases further size a b (Subscribe i fs ws) h = refl
identifiers-received roles.Server releases further size a b (Subscribe i fs ws) h = refl
identifiers-received role releases further size a b (Suback i cs) h = absurd (cc)
identifiers-received roles.Client releases further size a b (Unsubscribe i c) h = refl
identifiers-received roles.Server releases further size a b (Unsubscribe i c) h = refl
identifiers-received role releases further size a b (Unsuback i c) h = absurd (cc)
identifiers-received roles.Client releases further size a b Pingreq h = refl
identifiers-received roles.Server releases further size a b Pingreq h = refl
identifiers-received roles.Client releases further size a b Pingresp h = refl
identifiers-received roles.Server releases further size a b Pingresp h = refl
identifiers-received role releases further size a b (Disconnect note) h = absurd (cc)
identifiers-received roles.Client releases further size a b (Auth method) h = refl
identifiers-received roles.Server releases further size a b (Auth method) h = refl

pub identifiers-unconcerned : (role : Role) (releases : Bool) (further : Further) (n : Note) → may_concern_identifiers n ≡ false → concerns_flight (record { role = role; releases = releases; further = further }) n ≡ false
identifiers-unconcerned role releases further notes.Open h = absurd (cc)
identifiers-unconcerned role releases further (notes.Close cuts part) h = absurd (cc)
identifiers-unconcerned role releases further notes.Rest h = absurd (cc)
identifiers-unconcerned roles.Client releases further (notes.Release i) h = refl
identifiers-unconcerned roles.Server releases further (notes.Release i) h = refl
identifiers-unconcerned role releases further (notes.Sent (items.Packet p)) h = identifiers-sent role releases further p.size p.has_reason_string p.has_user_property p.fields h
identifiers-unconcerned role releases further (notes.Sent (items.Bad first rule at large)) h = absurd (cc)
identifiers-unconcerned role releases further (notes.Sent items.Lost) h = absurd (cc)
identifiers-unconcerned role releases further (notes.Recv (items.Packet p)) h = identifiers-received role releases further p.size p.has_reason_string p.has_user_property p.fields h
identifiers-unconcerned role releases further (notes.Recv (items.Bad first rule at large)) h = absurd (cc)
identifiers-unconcerned role releases further (notes.Recv items.Lost) h = absurd (cc)
