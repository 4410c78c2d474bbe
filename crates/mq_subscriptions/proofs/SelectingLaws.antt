-- What may concern a group of watchers is all that concerns one of them.
use Rattle.std.proofs.Common.{◌≡◌, ℕ, ◌==◌, Bool, true, false, ◌&&◌, ◌||◌, not, length, refl, ap, sym, ◌∙◌}
use Rattle.std.specs.Prelude.{is_some, Option, None, Some, option_map}
use Rattle.mq_rules.specs.declared.role.Tested.{Tested}
use Rattle.mq_rules.specs.declared.rule.Rule.TheVariants.{B01, B05, B06, B08}
use Rattle.mq_rules.specs.declared.note.Note.{Note}
use Rattle.mq_rules.specs.declared.note.Note.TheVariants as notes
use Rattle.mq_rules.specs.declared.note.ItemNote.TheVariants as items
use Rattle.mq_rules.specs.declared.packet_note.PacketFields.{PacketFields}
use Rattle.mq_rules.specs.declared.packet_note.PacketFields.TheVariants.{Connect, Connack, Publish, Puback, Pubrec, Pubrel, Pubcomp, Subscribe, Suback, Unsubscribe, Unsuback, Pingreq, Pingresp, Disconnect, Auth}
use Rattle.mq_rules.specs.declared.packet_note.PublishNote.{PublishNote}
use Rattle.mq_rules.specs.Words.{only}
use Rattle.mq_log.specs.declared.kind.Direction.{Direction}
use Rattle.mq_log.specs.declared.kind.Direction.TheVariants.{Sent, Recv}
use Rattle.mq_rules.specs.declared.bare.Bare.{Bare}
use Rattle.mq_rules.specs.declared.bare.BareFields.{BareFields}
use Rattle.mq_rules.specs.declared.bare.BareFields.TheVariants as bares
use Rattle.mq_rules.specs.Notes.{bare_note, bare_fields, note_of_bare, is_boundary, received_subscription, received_unsubscription, sent_grant, sent_connack, sent_deletion, sent_publish, receives_unclear}
use Rattle.mq_rules.specs.Rules.{binds}
use Rattle.mq_rules.proofs.Exports.{and_false}
use Rattle.mq_subscriptions.specs.Concerns.{concerns_count, concerns_deliveries, concerns_grants, has_request, concerns_deletions, has_delivery, concerns_matching}
use Rattle.mq_subscriptions.specs.Countings.{subscribes, unsubscribes, subscription_count, grant_count, subscribe_request, suback_reply, unsubscribe_request, unsuback_reply}
use Rattle.mq_fates.specs.Selecting.{may_concern_subscriptions, delivers_or_grants, subscribes_or_not}
use Rattle.mq_rules.specs.Pasts.{set_alias}
use Rattle.mq_fates.proofs.Exports.{neither, nothing, only-none, received, sent}
use Rattle.mq_subscriptions.proofs.VerdictLaws.{binds-B08, binds-delivery}

-- ---- subscriptions

undelivered : (tested : Tested) (bound : Bool) → bound ≡ binds B01 tested → (size : ℕ) (a b : Bool) (p : PublishNote) → delivers_or_grants bound (Publish p) ≡ false → (concerns_deliveries tested (sent size a b (Publish p)) || (concerns_count subscribes (sent size a b (Publish p)) || concerns_count unsubscribes (sent size a b (Publish p)))) ≡ false
undelivered tested bound is size a b p h =
    let parts = neither bound (is_some p.topic_alias) h in
    ap (λ o. (is_some (only (not (length p.topic == 0)) o) || binds B01 tested) || false) (nothing p.topic_alias parts.1)
    ∙ ap (λ o. (is_some o || binds B01 tested) || false) (only-none {A = ℕ} (not (length p.topic == 0)))
    ∙ ap (λ t. t || false) (sym is ∙ parts.0)

subscriptions-sent : (tested : Tested) (bound : Bool) → bound ≡ binds B01 tested → (size : ℕ) (a b : Bool) (fields : PacketFields) → delivers_or_grants bound fields ≡ false → (concerns_deliveries tested (sent size a b fields) || (concerns_count subscribes (sent size a b fields) || concerns_count unsubscribes (sent size a b fields))) ≡ false
subscriptions-sent tested bound is size a b (Connect note method) h = refl
subscriptions-sent tested bound is size a b (Connack note method) h = refl
subscriptions-sent tested bound is size a b (Publish p) h = undelivered tested bound is size a b p h
subscriptions-sent tested bound is size a b (Puback i c) h = refl
subscriptions-sent tested bound is size a b (Pubrec i c) h = refl
subscriptions-sent tested bound is size a b (Pubrel i c) h = refl
subscriptions-sent tested bound is size a b (Pubcomp i c) h = refl
subscriptions-sent tested bound is size a b (Subscribe i fs ws) h = refl
subscriptions-sent tested bound is size a b (Suback i cs) h = absurd (cc)
subscriptions-sent tested bound is size a b (Unsubscribe i c) h = refl
subscriptions-sent tested bound is size a b (Unsuback i c) h = absurd (cc)
subscriptions-sent tested bound is size a b Pingreq h = refl
subscriptions-sent tested bound is size a b Pingresp h = refl
subscriptions-sent tested bound is size a b (Disconnect note) h = refl
subscriptions-sent tested bound is size a b (Auth method) h = refl

subscriptions-received : (tested : Tested) (bound : Bool) → bound ≡ binds B01 tested → (size : ℕ) (a b : Bool) (fields : PacketFields) → subscribes_or_not fields ≡ false → (concerns_deliveries tested (received size a b fields) || (concerns_count subscribes (received size a b fields) || concerns_count unsubscribes (received size a b fields))) ≡ false
subscriptions-received tested bound is size a b (Connect note method) h = refl
subscriptions-received tested bound is size a b (Connack note method) h = refl
subscriptions-received tested bound is size a b (Publish p) h = refl
subscriptions-received tested bound is size a b (Puback i c) h = refl
subscriptions-received tested bound is size a b (Pubrec i c) h = refl
subscriptions-received tested bound is size a b (Pubrel i c) h = refl
subscriptions-received tested bound is size a b (Pubcomp i c) h = refl
subscriptions-received tested bound is size a b (Subscribe i fs ws) h = absurd (cc)
subscriptions-received tested bound is size a b (Suback i cs) h = refl
subscriptions-received tested bound is size a b (Unsubscribe i c) h = absurd (cc)
subscriptions-received tested bound is size a b (Unsuback i c) h = refl
subscriptions-received tested bound is size a b Pingreq h = refl
subscriptions-received tested bound is size a b Pingresp h = refl
subscriptions-received tested bound is size a b (Disconnect note) h = refl
subscriptions-received tested bound is size a b (Auth method) h = refl

answers-unconcerned : (tested : Tested) (bound : Bool) → bound ≡ binds B01 tested → (n : Note) → may_concern_subscriptions bound n ≡ false → (concerns_deliveries tested n || (concerns_count subscribes n || concerns_count unsubscribes n)) ≡ false
answers-unconcerned tested bound is notes.Open h = absurd (cc)
answers-unconcerned tested bound is (notes.Close cuts part) h = absurd (cc)
answers-unconcerned tested bound is notes.Rest h = refl
answers-unconcerned tested bound is (notes.Release i) h = refl
answers-unconcerned tested bound is (notes.Sent (items.Packet p)) h = subscriptions-sent tested bound is p.size p.has_reason_string p.has_user_property p.fields h
answers-unconcerned tested bound is (notes.Sent (items.Bad first rule at large)) h = refl
answers-unconcerned tested bound is (notes.Sent items.Lost) h = refl
answers-unconcerned tested bound is (notes.Recv (items.Packet p)) h = subscriptions-received tested bound is p.size p.has_reason_string p.has_user_property p.fields h
answers-unconcerned tested bound is (notes.Recv (items.Bad first rule at large)) h = refl
answers-unconcerned tested bound is (notes.Recv items.Lost) h = refl

-- neither does it concern what an UNSUBACK says, unless bytes came that may be a request
requests-unconcerned : (n : Note) → (concerns_count subscribes n || concerns_count unsubscribes n) ≡ false → receives_unclear n ≡ false → has_request n ≡ false
requests-unconcerned n h k =
    let h1 = neither (concerns_count subscribes n) (concerns_count unsubscribes n) h in
    let s1 = neither (is_boundary n) (is_some (subscribe_request n) || is_some (suback_reply n)) h1.0 in
    let s2 = neither (is_some (subscribe_request n)) (is_some (suback_reply n)) s1.1 in
    let u1 = neither (is_boundary n) (is_some (unsubscribe_request n) || is_some (unsuback_reply n)) h1.1 in
    let u2 = neither (is_some (unsubscribe_request n)) (is_some (unsuback_reply n)) u1.1 in
    ap (λ b. b || ((is_some (received_subscription n) || is_some (received_unsubscription n)) || ((is_some (sent_grant n) || is_some (sent_deletion n)) || receives_unclear n))) s1.0
    ∙ ap (λ b. (b || is_some (received_unsubscription n)) || ((is_some (sent_grant n) || is_some (sent_deletion n)) || receives_unclear n)) (mapped subscription_count (received_subscription n) ∙ s2.0)
    ∙ ap (λ b. b || ((is_some (sent_grant n) || is_some (sent_deletion n)) || receives_unclear n)) (mapped subscription_count (received_unsubscription n) ∙ u2.0)
    ∙ ap (λ b. (b || is_some (sent_deletion n)) || receives_unclear n) (mapped grant_count (sent_grant n) ∙ s2.1)
    ∙ ap (λ b. b || receives_unclear n) (mapped grant_count (sent_deletion n) ∙ u2.1)
    ∙ k
  where
    mapped : {A B : Type 0} (h : A → B) (o : Option A) → is_some o ≡ is_some (option_map h o)
    mapped h None = refl
    mapped h (Some a) = refl

requests-too : (tested : Tested) (bound deleting : Bool) → bound ≡ binds B01 tested → deleting ≡ binds B06 tested → (n : Note) → (may_concern_subscriptions bound n || (deleting && receives_unclear n)) ≡ false
    → (concerns_deliveries tested n || (concerns_count subscribes n || (concerns_count unsubscribes n || (concerns_grants tested n || concerns_deletions tested n)))) ≡ false
requests-too tested bound deleting is also n h =
    let parts = neither (may_concern_subscriptions bound n) (deleting && receives_unclear n) h in
    let answers = answers-unconcerned tested bound is n parts.0 in
    go (concerns_deliveries tested n) (concerns_count subscribes n) (concerns_count unsubscribes n) (binds B05 tested) (binds B06 tested) (has_request n) answers
    (λ judged. requests-unconcerned n (neither (concerns_deliveries tested n) (concerns_count subscribes n || concerns_count unsubscribes n) answers).1 (sym (ap (λ b. b && receives_unclear n) (also ∙ judged)) ∙ parts.1))
  where
    last : (b c r : Bool) → (c ≡ true → r ≡ false) → ((b && false) || (c && r)) ≡ false
    last true true r k = k refl
    last true false r k = refl
    last false true r k = k refl
    last false false r k = refl

    go : (d a u b c r : Bool) → (d || (a || u)) ≡ false → (c ≡ true → r ≡ false) → (d || (a || (u || ((b && a) || (c && r))))) ≡ false
    go true a u b c r h k = absurd (cc)
    go false true u b c r h k = absurd (cc)
    go false false true b c r h k = absurd (cc)
    go false false false b c r h k = last b c r k

-- neither does it concern what is delivered, unless a CONNACK is sent or such bytes came
matching-too : (tested : Tested) (n : Note) → concerns_deliveries tested n ≡ false → (binds B08 tested ≡ true → (receives_unclear n || is_some (sent_connack n)) ≡ false) → concerns_matching tested n ≡ false
matching-too tested n h told = go (binds B08 tested) refl
  where
    whole : (b : Bool) → (b && true) ≡ b
    whole true = refl
    whole false = refl

    go : (b : Bool) → binds B08 tested ≡ b → (b && has_delivery n) ≡ false
    go false is = refl
    go true is =
        let h1 = neither (is_boundary n) (is_some (received_subscription n) || (is_some (sent_grant n) || (is_some (set_alias n) || (is_some (sent_publish n) && binds B01 tested)))) h in
        let h2 = neither (is_some (received_subscription n)) (is_some (sent_grant n) || (is_some (set_alias n) || (is_some (sent_publish n) && binds B01 tested))) h1.1 in
        let h3 = neither (is_some (sent_grant n)) (is_some (set_alias n) || (is_some (sent_publish n) && binds B01 tested)) h2.1 in
        let h4 = neither (is_some (set_alias n)) (is_some (sent_publish n) && binds B01 tested) h3.1 in
        let h5 = neither (receives_unclear n) (is_some (sent_connack n)) (told is) in
        let silent : is_some (sent_publish n) ≡ false = sym (whole (is_some (sent_publish n))) ∙ ap (λ b. is_some (sent_publish n) && b) (sym (binds-delivery tested.role tested.releases tested.further is)) ∙ h4.1 in
        ap (λ b. b || ((is_some (received_subscription n) || is_some (sent_grant n)) || ((is_some (sent_publish n) || is_some (sent_connack n)) || receives_unclear n))) h1.0
        ∙ ap (λ b. (b || is_some (sent_grant n)) || ((is_some (sent_publish n) || is_some (sent_connack n)) || receives_unclear n)) h2.0
        ∙ ap (λ b. b || ((is_some (sent_publish n) || is_some (sent_connack n)) || receives_unclear n)) h3.0
        ∙ ap (λ b. (b || is_some (sent_connack n)) || receives_unclear n) silent
        ∙ ap (λ b. b || receives_unclear n) h5.1
        ∙ h5.0

pub subscriptions-unconcerned : (tested : Tested) (bound further : Bool) → bound ≡ binds B01 tested → further ≡ binds B06 tested → (n : Note) → (may_concern_subscriptions bound n || (further && (receives_unclear n || is_some (sent_connack n)))) ≡ false
    → (concerns_deliveries tested n || (concerns_count subscribes n || (concerns_count unsubscribes n || (concerns_grants tested n || (concerns_deletions tested n || concerns_matching tested n))))) ≡ false
subscriptions-unconcerned tested bound further is also n h =
    let parts = neither (may_concern_subscriptions bound n) (further && (receives_unclear n || is_some (sent_connack n))) h in
    let first = requests-too tested bound further is also n (clearer (may_concern_subscriptions bound n) further (receives_unclear n) (is_some (sent_connack n)) h) in
    let deliveries = (neither (concerns_deliveries tested n) (concerns_count subscribes n || (concerns_count unsubscribes n || (concerns_grants tested n || concerns_deletions tested n))) first).0 in
    let last = matching-too tested n deliveries (λ judged. sym (ap (λ b. b && (receives_unclear n || is_some (sent_connack n))) (also ∙ sym (binds-B08 tested.role tested.releases tested.further) ∙ judged)) ∙ parts.1) in
    add (concerns_deliveries tested n) (concerns_count subscribes n) (concerns_count unsubscribes n) (concerns_grants tested n) (concerns_deletions tested n) (concerns_matching tested n) first last
  where
    clearer : (m d r c : Bool) → (m || (d && (r || c))) ≡ false → (m || (d && r)) ≡ false
    clearer true d r c h = absurd (cc)
    clearer false false r c h = refl
    clearer false true true c h = absurd (cc)
    clearer false true false c h = refl

    add : (d a u g x m : Bool) → (d || (a || (u || (g || x)))) ≡ false → m ≡ false → (d || (a || (u || (g || (x || m))))) ≡ false
    add true a u g x m h k = absurd (cc)
    add false true u g x m h k = absurd (cc)
    add false false true g x m h k = absurd (cc)
    add false false false true x m h k = absurd (cc)
    add false false false false true m h k = absurd (cc)
    add false false false false false m h k = k

-- ---- a bare packet is no SUBSCRIBE or UNSUBSCRIBE, and answers none

counts-unconcerned-note : (direction : Direction) (size : ℕ) (fields : BareFields) → (concerns_count subscribes (bare_note direction size (bare_fields direction fields)) || concerns_count unsubscribes (bare_note direction size (bare_fields direction fields))) ≡ false
counts-unconcerned-note Sent size (bares.Publish identifier qos duplicate topic) = refl
counts-unconcerned-note Sent size (bares.Puback identifier code) = refl
counts-unconcerned-note Sent size (bares.Pubrec identifier code) = refl
counts-unconcerned-note Sent size (bares.Pubrel identifier code) = refl
counts-unconcerned-note Sent size (bares.Pubcomp identifier code) = refl
counts-unconcerned-note Sent size bares.Pingreq = refl
counts-unconcerned-note Sent size bares.Pingresp = refl
counts-unconcerned-note Recv size (bares.Publish identifier qos duplicate topic) = refl
counts-unconcerned-note Recv size (bares.Puback identifier code) = refl
counts-unconcerned-note Recv size (bares.Pubrec identifier code) = refl
counts-unconcerned-note Recv size (bares.Pubrel identifier code) = refl
counts-unconcerned-note Recv size (bares.Pubcomp identifier code) = refl
counts-unconcerned-note Recv size bares.Pingreq = refl
counts-unconcerned-note Recv size bares.Pingresp = refl

pub counts-unconcerned : (b : Bare) → (concerns_count subscribes (note_of_bare b) || concerns_count unsubscribes (note_of_bare b)) ≡ false
unfolding note_of_bare
counts-unconcerned b = counts-unconcerned-note b.direction b.size b.fields

pub asking-unconcerned : (b : Bare) → concerns_count subscribes (note_of_bare b) ≡ false
asking-unconcerned b = (neither (concerns_count subscribes (note_of_bare b)) (concerns_count unsubscribes (note_of_bare b)) (counts-unconcerned b)).0

pub grants-unconcerned : (tested : Tested) (b : Bare) → concerns_grants tested (note_of_bare b) ≡ false
grants-unconcerned tested b = ap (λ t. binds B05 tested && t) (asking-unconcerned b) ∙ and_false (binds B05 tested)

clear-note : (direction : Direction) (size : ℕ) (fields : BareFields) → receives_unclear (bare_note direction size (bare_fields direction fields)) ≡ false
clear-note Sent size fields = refl
clear-note Recv size fields = refl

clear : (b : Bare) → receives_unclear (note_of_bare b) ≡ false
unfolding note_of_bare
clear b = clear-note b.direction b.size b.fields

pub deletions-unconcerned : (tested : Tested) (b : Bare) → concerns_deletions tested (note_of_bare b) ≡ false
deletions-unconcerned tested b = ap (λ t. binds B06 tested && t) (requests-unconcerned (note_of_bare b) (counts-unconcerned b) (clear b)) ∙ and_false (binds B06 tested)

connackless-note : (direction : Direction) (size : ℕ) (fields : BareFields) → sent_connack (bare_note direction size (bare_fields direction fields)) ≡ None
connackless-note Sent size (bares.Publish identifier qos duplicate topic) = refl
connackless-note Sent size (bares.Puback identifier code) = refl
connackless-note Sent size (bares.Pubrec identifier code) = refl
connackless-note Sent size (bares.Pubrel identifier code) = refl
connackless-note Sent size (bares.Pubcomp identifier code) = refl
connackless-note Sent size bares.Pingreq = refl
connackless-note Sent size bares.Pingresp = refl
connackless-note Recv size fields = refl

-- nor bytes that may be a request, nor a CONNACK
pub bare-untold : (b : Bare) → (receives_unclear (note_of_bare b) || is_some (sent_connack (note_of_bare b))) ≡ false
unfolding note_of_bare
bare-untold b = ap (λ t. t || is_some (sent_connack (note_of_bare b))) (clear b) ∙ ap is_some (connackless-note b.direction b.size b.fields)
