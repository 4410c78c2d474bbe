-- In an exchange the cause is received, and the answer is sent.
use Rattle.std.specs.Prelude.{ℕ, ◌≡◌, true, false, ◌||◌, Option, None, Some, is_some, refl}
use Rattle.std.proofs.Common.{ap, subst}
use Rattle.mq_rules.specs.declared.role.Role.{Role}
use Rattle.mq_rules.specs.declared.rule.Rule.{Rule}
use Rattle.mq_rules.specs.declared.note.Note.{Note}
use Rattle.mq_rules.specs.declared.note.Note.TheVariants.{Open, Release, Sent}
use Rattle.mq_rules.specs.declared.note.ItemNote.TheVariants as items
use Rattle.mq_rules.specs.declared.packet_note.PacketFields.{PacketFields}
use Rattle.mq_rules.specs.declared.packet_note.PacketFields.TheVariants.{Puback, Pubrec, Pubrel, Pubcomp, Suback, Unsuback}
use Rattle.mq_rules.specs.Words.{is_id}
use Rattle.mq_rules.specs.Notes.{is_open, is_release, sent_as, received_as, puback_in, pubrec_in, pubrel_in, pubcomp_in, suback_in, unsuback_in, is_session_packet, needs_session}
use Rattle.mq_rules.specs.Exchanges.{Exchange, publish_puback, publish_pubrec, applies_O, breaks_O}
use Rattle.mq_rules.specs.Occasions.{occasion}
use Rattle.mq_rules.specs.Statements.{statement, in_session}

-- Neither an OPEN nor a RELEASE is a cause or an answer, no event is both under one identifier, and an answer needs a session.
pub record IsApart (x : Exchange) : Type 0 where
  pub none : (n : Note) → (is_open n || is_release n) ≡ true → (x.cause n ≡ None) × (x.answer n ≡ None)
  pub apart : (n : Note) (i : ℕ) → is_id i (x.cause n) ≡ true → is_id i (x.answer n) ≡ false
  pub needs : (n : Note) → is_some (x.answer n) ≡ true → needs_session n ≡ true

-- a packet that is sent, and is of a type that needs a session
sent_needs : (found : PacketFields → Option ℕ) → ((p : PacketFields) → is_some (found p) ≡ true → is_session_packet p ≡ true) → (n : Note) → is_some (sent_as found n) ≡ true → needs_session n ≡ true
sent_needs found session (Sent (items.Packet p)) h = ap (λ b. b || false) (session p.fields h)
sent_needs found session _ h = absurd (cc)

puback_session : (p : PacketFields) → is_some (puback_in p) ≡ true → is_session_packet p ≡ true
puback_session (Puback identifier code) h = refl
puback_session _ h = absurd (cc)

pubrec_session : (p : PacketFields) → is_some (pubrec_in p) ≡ true → is_session_packet p ≡ true
pubrec_session (Pubrec identifier code) h = refl
pubrec_session _ h = absurd (cc)

pub pubrel_session : (p : PacketFields) → is_some (pubrel_in p) ≡ true → is_session_packet p ≡ true
pubrel_session (Pubrel identifier code) h = refl
pubrel_session _ h = absurd (cc)

pub pubcomp_session : (p : PacketFields) → is_some (pubcomp_in p) ≡ true → is_session_packet p ≡ true
pubcomp_session (Pubcomp identifier code) h = refl
pubcomp_session _ h = absurd (cc)

pub suback_session : (p : PacketFields) → is_some (suback_in p) ≡ true → is_session_packet p ≡ true
suback_session (Suback identifier codes) h = refl
suback_session _ h = absurd (cc)

pub unsuback_session : (p : PacketFields) → is_some (unsuback_in p) ≡ true → is_session_packet p ≡ true
unsuback_session (Unsuback identifier codes) h = refl
unsuback_session _ h = absurd (cc)

pub puback_apart : IsApart publish_puback
puback_apart = record { none = none; apart = apart; needs = sent_needs puback_in puback_session }
  where
    none : (n : Note) → (is_open n || is_release n) ≡ true → (publish_puback.cause n ≡ None) × (publish_puback.answer n ≡ None)
    none Open h = (refl, refl)
    none (Release identifier) h = (refl, refl)
    none _ h = absurd (cc)

    apart : (n : Note) (i : ℕ) → is_id i (publish_puback.cause n) ≡ true → is_id i (publish_puback.answer n) ≡ false
    apart (Sent item) i h = absurd (cc)
    apart _ i h = refl

pub pubrec_apart : IsApart publish_pubrec
pubrec_apart = record { none = none; apart = apart; needs = sent_needs pubrec_in pubrec_session }
  where
    none : (n : Note) → (is_open n || is_release n) ≡ true → (publish_pubrec.cause n ≡ None) × (publish_pubrec.answer n ≡ None)
    none Open h = (refl, refl)
    none (Release identifier) h = (refl, refl)
    none _ h = absurd (cc)

    apart : (n : Note) (i : ℕ) → is_id i (publish_pubrec.cause n) ≡ true → is_id i (publish_pubrec.answer n) ≡ false
    apart (Sent item) i h = absurd (cc)
    apart _ i h = refl

-- an exchange of packets of which each has an identifier
pub packets_apart : (cause answer : PacketFields → Option ℕ) → ((p : PacketFields) → is_some (answer p) ≡ true → is_session_packet p ≡ true) → IsApart (record { cause = received_as cause; answer = sent_as answer })
packets_apart cause answer session = record { none = none; apart = apart; needs = sent_needs answer session }
  where
    none : (n : Note) → (is_open n || is_release n) ≡ true → (received_as cause n ≡ None) × (sent_as answer n ≡ None)
    none Open h = (refl, refl)
    none (Release identifier) h = (refl, refl)
    none _ h = absurd (cc)

    apart : (n : Note) (i : ℕ) → is_id i (received_as cause n) ≡ true → is_id i (sent_as answer n) ≡ false
    apart (Sent item) i h = absurd (cc)
    apart _ i h = refl

-- ---- the rule on the order, if there is one

pub ordered_says : (x : Exchange) (o : Rule) → ((role : Role) → statement role o ≡ in_session (λ f. breaks_O x)) → (role : Role) (rule : Rule) → Some o ≡ Some rule → statement role rule ≡ in_session (λ f. breaks_O x)
ordered_says x o says role rule h = let same : o ≡ rule = cc in subst (λ r. statement role r ≡ in_session (λ f. breaks_O x)) same (says role)

pub no_order : (x : Exchange) (role : Role) (rule : Rule) → None ≡ Some rule → statement role rule ≡ in_session (λ f. breaks_O x)
no_order x role rule h = absurd (cc)

-- the same of where it is put to the test
pub ordered_tries : (x : Exchange) (o : Rule) → ((role : Role) → occasion role o ≡ Some (in_session (λ f. applies_O x))) → (role : Role) (rule : Rule) → Some o ≡ Some rule → occasion role rule ≡ Some (in_session (λ f. applies_O x))
ordered_tries x o tries role rule h = let same : o ≡ rule = cc in subst (λ r. occasion role r ≡ Some (in_session (λ f. applies_O x))) same (tries role)

pub no_tries : (x : Exchange) (role : Role) (rule : Rule) → None ≡ Some rule → occasion role rule ≡ Some (in_session (λ f. applies_O x))
no_tries x role rule h = absurd (cc)
