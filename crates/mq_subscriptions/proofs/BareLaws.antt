-- Bare packets, and deliveries.
use Rattle.std.proofs.Common.{◌≡◌, ℕ, ◌==◌, Bool, true, false, cond, not, List, ◌∷◌, length, Option, Some, None, Bor, refl, ap, ◌∙◌}
use Rattle.std.specs.Option.{option_and_then}
use Rattle.mq_packet.specs.declared.packet.Qos.{Qos}
use Rattle.mq_log.specs.declared.kind.Direction.TheVariants.{Sent, Recv}
use Rattle.mq_rules.specs.declared.bare.Bare.{Bare}
use Rattle.mq_rules.specs.declared.bare.BareFields.{BareFields}
use Rattle.mq_rules.specs.declared.bare.BareFields.TheVariants as bares
use Rattle.mq_rules.specs.declared.role.Tested.{Tested}
use Rattle.mq_rules.specs.declared.fate.Fate.{Fate}
use Rattle.mq_rules.specs.declared.note.Note.{Note}
use Rattle.mq_rules.specs.declared.note.Note.TheVariants as notes
use Rattle.mq_rules.specs.declared.note.ItemNote.TheVariants as items
use Rattle.mq_rules.specs.declared.note.Seen.{Seen}
use Rattle.mq_rules.specs.declared.packet_note.PacketFields.{PacketFields}
use Rattle.mq_rules.specs.declared.packet_note.PacketFields.TheVariants.{Suback}
use Rattle.mq_rules.specs.declared.packet_note.PublishNote.{PublishNote}
use Rattle.mq_rules.specs.Words.{is_some_and, only}
use Rattle.mq_rules.specs.Notes.{bare_note, bare_fields, bare_publish_note, kept_topic, note_of_bare, is_boundary, publish_in, sent_publish, grant_in, sent_grant, received_subscription}
use Rattle.mq_rules.specs.Pasts.{set_alias}
use Rattle.mq_rules.specs.Subscriptions.{Standing}
use Rattle.mq_rules.specs.Under.{IsUnder, fate_before}
use Rattle.mq_subscriptions.specs.Concerns.{concerns_deliveries}
use Rattle.mq_subscriptions.specs.Standings.{Waits, IsStanding, topic_kept, judged_topic, named_topic, delivers_so, IsDelivery}
use Rattle.mq_fates.proofs.Exports.{only-none}
use Rattle.mq_subscriptions.proofs.ConcernLaws.{standing-stays}

ungranted : (fields : PacketFields) (p : PublishNote) → publish_in fields ≡ Some p → grant_in fields ≡ None
ungranted (Suback identifier codes) p h = absurd (cc)
ungranted _ p h = refl

-- a PUBLISH that is sent begins or ends no connection, and is no SUBSCRIBE or SUBACK
publish-alone : (n : Note) (p : PublishNote) → sent_publish n ≡ Some p → (is_boundary n ≡ false) × (received_subscription n ≡ None) × (sent_grant n ≡ None)
publish-alone (notes.Sent (items.Packet packet)) p h = (refl, refl, ungranted packet.fields p h)
publish-alone (notes.Sent (items.Bad first rule at large)) p h = absurd (cc)
publish-alone (notes.Sent items.Lost) p h = absurd (cc)
publish-alone _ p h = absurd (cc)

-- one without a Topic Alias changes nothing that is kept
pub delivery-stays : (tested : Tested) (fate f : Fate) (settled : List Standing) (waiting : List Waits) (sharing : Bool) (topics : ℕ → Option (List ℕ)) (at : ℕ) (e : Seen) (past : List Seen) (topic : List ℕ) (qos : Qos) (duplicate : Bool)
    → IsDelivery e.note topic qos duplicate → IsUnder tested f at e past → IsStanding fate settled waiting sharing topics tested (fate_before tested f e past) past → IsStanding fate settled waiting sharing topics tested (Some f) (e ∷ past)
delivery-stays tested fate f settled waiting sharing topics at e past topic qos duplicate d under before =
    let alone = publish-alone e.note d.publish d.is_sent in
    standing-stays tested fate f settled waiting sharing topics at e past alone.0 alone.1 alone.2 sets under before
  where
    sets : set_alias e.note ≡ None
    sets =
        ap (λ o. option_and_then (λ (p : PublishNote). only (not (length p.topic == 0)) p.topic_alias) o) d.is_sent
        ∙ ap (λ o. only (not (length d.publish.topic == 0)) o) d.no_alias
        ∙ only-none {A = ℕ} (not (length d.publish.topic == 0))

-- a delivery passes a test if its topic does
pub delivers-named : (n : Note) (topic : List ℕ) (qos : Qos) (duplicate sharing : Bool) (topics : ℕ → Option (List ℕ)) (test : Qos → List ℕ → Bool) → IsDelivery n topic qos duplicate
    → delivers_so n sharing topics (λ p. test p.qos) ≡ is_some_and (test qos) (named_topic sharing duplicate topic)
delivers-named n topic qos duplicate sharing topics test d =
    ap (λ o. is_some_and (λ (p : PublishNote). is_some_and (test p.qos) (judged_topic sharing topics p)) o) d.is_sent
    ∙ ap (λ q. is_some_and (test q) (judged_topic sharing topics d.publish)) d.same_qos
    ∙ ap (λ b. is_some_and (test qos) (only (not b) (only (not sharing) (topic_kept topics d.publish)))) d.same_dup
    ∙ ap (λ o. is_some_and (test qos) (only (not duplicate) (only (not sharing) (cond (length d.publish.topic == 0) (option_and_then topics o) (Some d.publish.topic))))) d.no_alias
    ∙ ap (λ t. is_some_and (test qos) (only (not duplicate) (only (not sharing) (cond (length t == 0) None (Some t))))) d.same_topic
    ∙ ap (λ o. is_some_and (test qos) (only (not duplicate) (only (not sharing) o))) (go (length topic == 0))
  where
    go : (b : Bool) → cond b None (Some topic) ≡ only (not b) (Some topic)
    go true = refl
    go false = refl

-- which a bare packet is, if it is a PUBLISH that is sent
pub bare-delivers : (b : Bare) (identifier : Option ℕ) (qos : Qos) (duplicate : Bool) (topic : Bor (List ℕ)) → b.direction ≡ Sent → b.fields ≡ bares.Publish identifier qos duplicate topic → IsDelivery (note_of_bare b) (kept_topic topic.now) qos duplicate
unfolding note_of_bare
bare-delivers b identifier qos duplicate topic way is = record {
  publish = bare_publish_note Sent identifier qos duplicate (kept_topic topic.now);
  is_sent = ap (λ d. sent_publish (bare_note d b.size (bare_fields d b.fields))) way ∙ ap (λ f. sent_publish (bare_note Sent b.size (bare_fields Sent f))) is;
  same_topic = refl;
  same_qos = refl;
  same_dup = refl;
  no_alias = refl;
}

delivers-none : (tested : Tested) (size : ℕ) (fields : BareFields) → concerns_deliveries tested (bare_note Recv size (bare_fields Recv fields)) ≡ false
delivers-none tested size (bares.Publish identifier qos duplicate topic) = refl
delivers-none tested size (bares.Puback identifier code) = refl
delivers-none tested size (bares.Pubrec identifier code) = refl
delivers-none tested size (bares.Pubrel identifier code) = refl
delivers-none tested size (bares.Pubcomp identifier code) = refl
delivers-none tested size bares.Pingreq = refl
delivers-none tested size bares.Pingresp = refl

pub received-undelivered : (b : Bare) → b.direction ≡ Recv → (tested : Tested) → concerns_deliveries tested (note_of_bare b) ≡ false
unfolding note_of_bare
received-undelivered b way tested = ap (λ d. concerns_deliveries tested (bare_note d b.size (bare_fields d b.fields))) way ∙ delivers-none tested b.size b.fields
