-- What is kept stays as it is, where an event passes by it.
use Rattle.std.proofs.Common.{◌≡◌, ℕ, Bool, true, false, cond, ◌&&◌, ◌||◌, not, List, Option, None, Some, refl, ap, sym, ◌∙◌}
use Rattle.std.specs.Prelude.{is_some, option_map}
use Rattle.std.specs.Option.{option_and_then, option_or}
use Rattle.mq_rules.specs.ByIdentifier.{is_kept, kept}
use Rattle.mq_packet.specs.declared.packet.Qos.{Qos}
use Rattle.mq_packet.specs.declared.packet.Qos.TheVariants as quality
use Rattle.mq_packet.specs.declared.packet.PacketType.TheVariants as types
use Rattle.mq_packet.specs.Canonical.{type_number}
use Rattle.mq_rules.specs.declared.role.Role.{Role}
use Rattle.mq_rules.specs.declared.role.Role.TheVariants.{Client, Server}
use Rattle.mq_rules.specs.declared.note.Note.{Note}
use Rattle.mq_rules.specs.declared.note.Note.TheVariants as notes
use Rattle.mq_rules.specs.declared.note.ItemNote.TheVariants as items
use Rattle.mq_rules.specs.declared.packet_note.PacketFields.{PacketFields}
use Rattle.mq_rules.specs.declared.packet_note.PacketFields.TheVariants.{Connect, Connack, Publish, Puback, Pubrec, Pubrel, Pubcomp, Subscribe, Suback, Unsubscribe, Unsuback, Disconnect}
use Rattle.mq_rules.specs.Words.{is_id, is_some_and, only}
use Rattle.mq_rules.specs.Notes.{is_acknowledged, is_exactly_once, is_at_least_once, received_once_acknowledged, received_exactly_once, released_id, sent_as, received_as, accepting_pubrec_in, pubrel_in, subscribe_in, unsubscribe_in, puback_in, pubrec_in, pubcomp_in, suback_in, unsuback_in, ended_in, opener_of, delivery_of, closer_of, settled_in, opener_in, delivery_in, publish_in, sent_fields, received_fields, connect_in, connack_in, disconnect_in, fields_type, refuses, sends_type, connect_of, connack_of}
use Rattle.mq_rules.specs.Exchanges as exchanges
use Rattle.mq_rules.specs.Moments.{Moment, position, note, IsDescending}
use Rattle.mq_rules.specs.Pasts.{is_sent_disconnect, is_sent_refusal, is_last_sent}
use Rattle.mq_evidence.specs.Evidence.{refusing_pubrec_in}
use Rattle.mq_evidence.specs.declared.turn.Turn.{Turn}
use Rattle.mq_evidence.specs.declared.asked.Asked.{Asked}
use Rattle.mq_evidence.specs.declared.asked.Confirmed.{Confirmed}
use Rattle.mq_evidence.specs.declared.exchange.Exchange.{Exchange}
use Rattle.mq_evidence.specs.declared.exchange.Exchange.TheVariants.{PublishPuback, PublishPubrec, PubrecPubrel, PubrelPubcomp, SubscribeSuback, UnsubscribeUnsuback}
use Rattle.mq_evidence.specs.declared.unanswered.Unanswered.{Unanswered}
use Rattle.mq_evidence.specs.declared.requests.Request.{Request}
use Rattle.mq_evidence.specs.declared.requests.Requests.{Requests}
use Rattle.mq_evidence.specs.declared.received.Received.{Received}
use Rattle.mq_evidence.specs.declared.senders.Senders.{Senders}
use Rattle.mq_evidence.specs.declared.handshake.Handshake.{Handshake}
use Rattle.mq_evidence.specs.Stretches.{Stretches, Comes, advanced, longer, IsLatest, last_next, first_next, once_next, earlier_next}
use Rattle.mq_evidence.specs.Exchange.{exchange_of}
use Rattle.mq_evidence.specs.Asked.{IsAsked, IsConfirmed}
use Rattle.mq_evidence.specs.Unanswered.{IsUnanswered, IsInOrder, Line}
use Rattle.mq_evidence.specs.Requests.{IsRequests, request_next, request_of, filters_of, count_of}
use Rattle.mq_evidence.specs.Received.{IsReceived}
use Rattle.mq_evidence.specs.Senders.{IsSenders}
use Rattle.mq_evidence.specs.Handshakes.{IsHandshake, first_on}
use Rattle.mq_evidence.proofs.StretchLaws.{latest-kept, unended-kept, earliest-kept, earlier-kept, once-kept}
use Rattle.mq_evidence.proofs.HandshakeLaws.{first_found-kept}
use Rattle.mq_evidence.proofs.UnansweredLaws.{waits-kept}
use Rattle.mq_evidence.proofs.RequestLaws.{request-kept}
use Rattle.mq_evidence.specs.Passing.{goes_on, asks, answers, greets, is_unasked, is_unasking, is_amid}

-- ---- what such an event isn't

-- of a PUBLISH that isn't acknowledged
unacknowledged-once : (q : Qos) (i : Option ℕ) → not (is_acknowledged q) ≡ true → only (is_at_least_once q) i ≡ None
unacknowledged-once quality.AtMostOnce i h = refl
unacknowledged-once quality.AtLeastOnce i h = absurd (cc)
unacknowledged-once quality.ExactlyOnce i h = absurd (cc)

unacknowledged-twice : (q : Qos) (i : Option ℕ) → not (is_acknowledged q) ≡ true → only (is_exactly_once q) i ≡ None
unacknowledged-twice quality.AtMostOnce i h = refl
unacknowledged-twice quality.AtLeastOnce i h = absurd (cc)
unacknowledged-twice quality.ExactlyOnce i h = absurd (cc)

unacknowledged-any : (q : Qos) (i : Option ℕ) → not (is_acknowledged q) ≡ true → only (is_acknowledged q) i ≡ None
unacknowledged-any quality.AtMostOnce i h = refl
unacknowledged-any quality.AtLeastOnce i h = absurd (cc)
unacknowledged-any quality.ExactlyOnce i h = absurd (cc)

unacknowledged-new : (q : Qos) (d : Bool) (i : Option ℕ) → not (is_acknowledged q) ≡ true → only d (only (is_acknowledged q) i) ≡ None
unacknowledged-new quality.AtMostOnce true i h = refl
unacknowledged-new quality.AtMostOnce false i h = refl
unacknowledged-new quality.AtLeastOnce d i h = absurd (cc)
unacknowledged-new quality.ExactlyOnce d i h = absurd (cc)

unasking-accepting : (f : PacketFields) → not (asks f) ≡ true → accepting_pubrec_in f ≡ None
unasking-accepting (Pubrec i code) h = absurd (cc)
unasking-accepting _ h = refl

unasking-refusing : (f : PacketFields) → not (asks f) ≡ true → refusing_pubrec_in f ≡ None
unasking-refusing (Pubrec i code) h = absurd (cc)
unasking-refusing _ h = refl

unasking-pubrel : (f : PacketFields) → not (asks f) ≡ true → pubrel_in f ≡ None
unasking-pubrel (Pubrel i code) h = absurd (cc)
unasking-pubrel _ h = refl

unasking-subscribe : (f : PacketFields) → not (asks f) ≡ true → subscribe_in f ≡ None
unasking-subscribe (Subscribe i filters wishes) h = absurd (cc)
unasking-subscribe _ h = refl

unasking-unsubscribe : (f : PacketFields) → not (asks f) ≡ true → unsubscribe_in f ≡ None
unasking-unsubscribe (Unsubscribe i filters) h = absurd (cc)
unasking-unsubscribe _ h = refl

unanswering-puback : (f : PacketFields) → not (answers f) ≡ true → puback_in f ≡ None
unanswering-puback (Puback i code) h = absurd (cc)
unanswering-puback _ h = refl

unanswering-pubrec : (f : PacketFields) → not (answers f) ≡ true → pubrec_in f ≡ None
unanswering-pubrec (Pubrec i code) h = absurd (cc)
unanswering-pubrec _ h = refl

unanswering-pubrel : (f : PacketFields) → not (answers f) ≡ true → pubrel_in f ≡ None
unanswering-pubrel (Pubrel i code) h = absurd (cc)
unanswering-pubrel _ h = refl

unanswering-pubcomp : (f : PacketFields) → not (answers f) ≡ true → pubcomp_in f ≡ None
unanswering-pubcomp (Pubcomp i code) h = absurd (cc)
unanswering-pubcomp _ h = refl

unanswering-suback : (f : PacketFields) → not (answers f) ≡ true → suback_in f ≡ None
unanswering-suback (Suback i codes) h = absurd (cc)
unanswering-suback _ h = refl

unanswering-unsuback : (f : PacketFields) → not (answers f) ≡ true → unsuback_in f ≡ None
unanswering-unsuback (Unsuback i codes) h = absurd (cc)
unanswering-unsuback _ h = refl

unanswering-ended : (f : PacketFields) → not (answers f) ≡ true → ended_in f ≡ None
unanswering-ended (Pubrec i code) h = absurd (cc)
unanswering-ended (Pubcomp i code) h = absurd (cc)
unanswering-ended _ h = refl

unanswering-settled : (f : PacketFields) → not (answers f) ≡ true → settled_in f ≡ None
unanswering-settled (Puback i code) h = absurd (cc)
unanswering-settled (Pubrec i code) h = absurd (cc)
unanswering-settled (Pubcomp i code) h = absurd (cc)
unanswering-settled _ h = refl

-- of a packet by which a connection neither begins nor ends
ungreeting-connect : (f : PacketFields) → not (greets f) ≡ true → connect_in f ≡ None
ungreeting-connect (Connect c method) h = absurd (cc)
ungreeting-connect _ h = refl

ungreeting-connack : (f : PacketFields) → not (greets f) ≡ true → connack_in f ≡ None
ungreeting-connack (Connack c method) h = absurd (cc)
ungreeting-connack _ h = refl

ungreeting-disconnect : (f : PacketFields) → not (greets f) ≡ true → disconnect_in f ≡ None
ungreeting-disconnect (Disconnect d) h = absurd (cc)
ungreeting-disconnect _ h = refl

not-connect : (f : PacketFields) → not (greets f) ≡ true → is_id 1 (Some (type_number (fields_type f))) ≡ false
not-connect (Connect c method) h = absurd (cc)
not-connect _ h = refl

not-connack : (f : PacketFields) → not (greets f) ≡ true → is_id 2 (Some (type_number (fields_type f))) ≡ false
not-connack (Connack c method) h = absurd (cc)
not-connack _ h = refl

amid-sent : {A : Type 0} (word : PacketFields → Option A) → ((f : PacketFields) → not (greets f) ≡ true → word f ≡ None) → (n : Note) → is_amid n ≡ true → option_and_then word (sent_fields n) ≡ None
amid-sent word none (notes.Sent (items.Packet p)) h = none p.fields h
amid-sent word none (notes.Sent (items.Bad first rule at large)) h = refl
amid-sent word none (notes.Sent items.Lost) h = refl
amid-sent word none _ h = refl

amid-received : {A : Type 0} (word : PacketFields → Option A) → ((f : PacketFields) → not (greets f) ≡ true → word f ≡ None) → (n : Note) → is_amid n ≡ true → option_and_then word (received_fields n) ≡ None
amid-received word none (notes.Recv (items.Packet p)) h = none p.fields h
amid-received word none (notes.Recv (items.Bad first rule at large)) h = refl
amid-received word none (notes.Recv items.Lost) h = refl
amid-received word none _ h = refl

amid-connect : (role : Role) (n : Note) → is_amid n ≡ true → connect_of role n ≡ None
amid-connect Client n h = amid-sent connect_in ungreeting-connect n h
amid-connect Server n h = amid-received connect_in ungreeting-connect n h

amid-connack : (role : Role) (n : Note) → is_amid n ≡ true → connack_of role n ≡ None
amid-connack Client n h = amid-received connack_in ungreeting-connack n h
amid-connack Server n h = amid-sent connack_in ungreeting-connack n h

amid-sends_connect : (n : Note) → is_amid n ≡ true → sends_type types.Connect n ≡ false
amid-sends_connect (notes.Sent (items.Packet p)) h = not-connect p.fields h
amid-sends_connect (notes.Sent (items.Bad first rule at large)) h = absurd (cc)
amid-sends_connect (notes.Sent items.Lost) h = refl
amid-sends_connect _ h = refl

amid-sends_connack : (n : Note) → is_amid n ≡ true → sends_type types.Connack n ≡ false
amid-sends_connack (notes.Sent (items.Packet p)) h = not-connack p.fields h
amid-sends_connack (notes.Sent (items.Bad first rule at large)) h = absurd (cc)
amid-sends_connack (notes.Sent items.Lost) h = refl
amid-sends_connack _ h = refl

amid-disconnects : (n : Note) → is_amid n ≡ true → is_sent_disconnect n ≡ false
amid-disconnects n h = ap is_some (amid-sent disconnect_in ungreeting-disconnect n h)

amid-refuses : (n : Note) → is_amid n ≡ true → is_sent_refusal n ≡ false
amid-refuses n h = ap (is_some_and (λ c. refuses c.code)) (amid-sent connack_in ungreeting-connack n h)

amid-last : (role : Role) (n : Note) → is_amid n ≡ true → is_last_sent role n ≡ false
amid-last Client n h = amid-disconnects n h
amid-last Server n h = ap (λ b. b || is_sent_refusal n) (amid-disconnects n h) ∙ amid-refuses n h

-- what is found in a packet that was sent, or received
sent-none : (word : PacketFields → Option ℕ) → ((f : PacketFields) → not (answers f) ≡ true → word f ≡ None) → (n : Note) → is_unasked n ≡ true → sent_as word n ≡ None
sent-none word none (notes.Sent (items.Packet p)) h = none p.fields h
sent-none word none (notes.Sent (items.Bad first rule at large)) h = refl
sent-none word none (notes.Sent items.Lost) h = refl
sent-none word none _ h = refl

received-none : (word : PacketFields → Option ℕ) → ((f : PacketFields) → not (asks f) ≡ true → word f ≡ None) → (n : Note) → is_unasked n ≡ true → received_as word n ≡ None
received-none word none (notes.Recv (items.Packet p)) h = none p.fields h
received-none word none (notes.Recv (items.Bad first rule at large)) h = refl
received-none word none (notes.Recv items.Lost) h = refl
received-none word none _ h = refl

asking-none : (word : PacketFields → Option ℕ) → ((f : PacketFields) → not (asks f) ≡ true → word f ≡ None) → (n : Note) → is_unasking n ≡ true → sent_as word n ≡ None
asking-none word none (notes.Sent (items.Packet p)) h = none p.fields h
asking-none word none (notes.Sent (items.Bad first rule at large)) h = refl
asking-none word none (notes.Sent items.Lost) h = refl
asking-none word none _ h = refl

answered-none : (word : PacketFields → Option ℕ) → ((f : PacketFields) → not (answers f) ≡ true → word f ≡ None) → (n : Note) → is_unasking n ≡ true → received_as word n ≡ None
answered-none word none (notes.Recv (items.Packet p)) h = none p.fields h
answered-none word none (notes.Recv (items.Bad first rule at large)) h = refl
answered-none word none (notes.Recv items.Lost) h = refl
answered-none word none _ h = refl

unasking-once : (f : PacketFields) → not (asks f) ≡ true → option_and_then (λ p. only (is_at_least_once p.qos) p.identifier) (publish_in f) ≡ None
unasking-once (Publish p) h = unacknowledged-once p.qos p.identifier h
unasking-once _ h = refl

unasked-once : (n : Note) → is_unasked n ≡ true → received_once_acknowledged n ≡ None
unasked-once (notes.Recv (items.Packet p)) h = unasking-once p.fields h
unasked-once (notes.Recv (items.Bad first rule at large)) h = refl
unasked-once (notes.Recv items.Lost) h = refl
unasked-once _ h = refl

unasking-twice : (f : PacketFields) → not (asks f) ≡ true → option_and_then (λ p. only (is_exactly_once p.qos) p.identifier) (publish_in f) ≡ None
unasking-twice (Publish p) h = unacknowledged-twice p.qos p.identifier h
unasking-twice _ h = refl

unasked-twice : (n : Note) → is_unasked n ≡ true → received_exactly_once n ≡ None
unasked-twice (notes.Recv (items.Packet p)) h = unasking-twice p.fields h
unasked-twice (notes.Recv (items.Bad first rule at large)) h = refl
unasked-twice (notes.Recv items.Lost) h = refl
unasked-twice _ h = refl

unasking-new : (f : PacketFields) → not (asks f) ≡ true → option_and_then (λ p. opener_in p) (publish_in f) ≡ None
unasking-new (Publish p) h = unacknowledged-new p.qos (not p.duplicate) p.identifier h
unasking-new _ h = refl

unasking-opener : (n : Note) → is_unasking n ≡ true → opener_of n ≡ None
unasking-opener (notes.Sent (items.Packet p)) h = unasking-new p.fields h
unasking-opener (notes.Sent (items.Bad first rule at large)) h = refl
unasking-opener (notes.Sent items.Lost) h = refl
unasking-opener _ h = refl

unasking-any : (f : PacketFields) → not (asks f) ≡ true → option_and_then (λ p. delivery_in p) (publish_in f) ≡ None
unasking-any (Publish p) h = unacknowledged-any p.qos p.identifier h
unasking-any _ h = refl

unasking-delivery : (n : Note) → is_unasking n ≡ true → delivery_of n ≡ None
unasking-delivery (notes.Sent (items.Packet p)) h = unasking-any p.fields h
unasking-delivery (notes.Sent (items.Bad first rule at large)) h = refl
unasking-delivery (notes.Sent items.Lost) h = refl
unasking-delivery _ h = refl

unasked-released : (n : Note) → is_unasked n ≡ true → released_id n ≡ None
unasked-released (notes.Release identifier) h = absurd (cc)
unasked-released _ h = refl

unasked-cause : (x : Exchange) (n : Note) → is_unasked n ≡ true → (exchange_of x).cause n ≡ None
unasked-cause PublishPuback n h = unasked-once n h
unasked-cause PublishPubrec n h = unasked-twice n h
unasked-cause PubrecPubrel n h = received-none accepting_pubrec_in unasking-accepting n h
unasked-cause PubrelPubcomp n h = received-none pubrel_in unasking-pubrel n h
unasked-cause SubscribeSuback n h = received-none subscribe_in unasking-subscribe n h
unasked-cause UnsubscribeUnsuback n h = received-none unsubscribe_in unasking-unsubscribe n h

unasked-answer : (x : Exchange) (n : Note) → is_unasked n ≡ true → (exchange_of x).answer n ≡ None
unasked-answer PublishPuback n h = sent-none puback_in unanswering-puback n h
unasked-answer PublishPubrec n h = sent-none pubrec_in unanswering-pubrec n h
unasked-answer PubrecPubrel n h = sent-none pubrel_in unanswering-pubrel n h
unasked-answer PubrelPubcomp n h = sent-none pubcomp_in unanswering-pubcomp n h
unasked-answer SubscribeSuback n h = sent-none suback_in unanswering-suback n h
unasked-answer UnsubscribeUnsuback n h = sent-none unsuback_in unanswering-unsuback n h

-- ---- what is kept stays

begins-not : (t : Turn) (b : Bool) → (goes_on t && b) ≡ true → t.begins ≡ false
begins-not t b h = go t.begins t.opens h
  where
    go : (begins opens : Bool) → ((not begins && not opens) && b) ≡ true → begins ≡ false
    go false opens h = refl
    go true opens h = absurd (cc)

opens-not : (t : Turn) (b : Bool) → (goes_on t && b) ≡ true → t.opens ≡ false
opens-not t b h = go t.begins t.opens h
  where
    go : (begins opens : Bool) → ((not begins && not opens) && b) ≡ true → opens ≡ false
    go begins false h = refl
    go true true h = absurd (cc)
    go false true h = absurd (cc)

passes-then : (t : Turn) (b : Bool) → (goes_on t && b) ≡ true → b ≡ true
passes-then t b h = go (goes_on t) h
  where
    go : (a : Bool) → (a && b) ≡ true → b ≡ true
    go true h = h
    go false h = absurd (cc)

last-stays : (over inside : Bool) (gained lost : Option ℕ) (p i : ℕ) (old : Option ℕ) → over ≡ false → gained ≡ None → lost ≡ None → old ≡ last_next over inside (is_id i gained) (is_id i lost) p old
last-stays true inside gained lost p i old o g l = absurd (cc)
last-stays false inside (Some a) lost p i old o g l = absurd (cc)
last-stays false inside None (Some b) p i old o g l = absurd (cc)
last-stays false true None None p i old o g l = refl
last-stays false false None None p i old o g l = refl

first-stays : (over inside : Bool) (gained lost : Option ℕ) (p i : ℕ) (old : Option ℕ) → over ≡ false → gained ≡ None → lost ≡ None → old ≡ first_next over inside (is_id i gained) (is_id i lost) p old
first-stays true inside gained lost p i old o g l = absurd (cc)
first-stays false inside (Some a) lost p i old o g l = absurd (cc)
first-stays false inside None (Some b) p i old o g l = absurd (cc)
first-stays false true None None p i None o g l = refl
first-stays false true None None p i (Some q) o g l = refl
first-stays false false None None p i old o g l = refl

earlier-stays : (begins b old : Bool) → begins ≡ false → old ≡ earlier_next begins b old
earlier-stays true b old h = absurd (cc)
earlier-stays false b old h = refl

-- what the tested end was asked for
pub asked-stays : (x : exchanges.Exchange) (a : Asked) (t : Turn) (n : Note) (m : Moment) (s : Stretches) → (goes_on t && is_unasked n) ≡ true → Comes t n m → IsAsked x a s → IsAsked x a (advanced t m s)
asked-stays x a t n m s passes comes before = record {
  about = before.about;
  causes_are = latest-kept t.begins t.inside t.position n m s.session comes.at comes.same x.cause (kept a.causes) (kept a.causes) before.causes_are
      (λ i. last-stays t.begins t.inside (x.cause n) None t.position i (kept a.causes i) starts (sym (ap (λ y. y.cause n) before.about) ∙ unasked-cause a.exchange n quiet) refl);
  answers_are = latest-kept t.opens true t.position n m s.connection comes.at comes.same x.answer (kept a.answers) (kept a.answers) before.answers_are
      (λ i. last-stays t.opens true (x.answer n) None t.position i (kept a.answers i) (opens-not t (is_unasked n) passes) (sym (ap (λ y. y.answer n) before.about) ∙ unasked-answer a.exchange n quiet) refl);
  earlier_are = earlier-kept t.begins x.cause (kept a.causes) (is_kept a.earlier) (is_kept a.earlier) s.session s.earlier before.causes_are before.earlier_are
      (λ i. earlier-stays t.begins (is_some (kept a.causes i)) (is_kept a.earlier i) starts);
}
  where
    starts : t.begins ≡ false
    starts = begins-not t (is_unasked n) passes

    quiet : is_unasked n ≡ true
    quiet = passes-then t (is_unasked n) passes

pub confirmed-stays : (a : Confirmed) (t : Turn) (n : Note) (m : Moment) (s : Stretches) → (goes_on t && is_unasked n) ≡ true → Comes t n m → IsConfirmed a s → IsConfirmed a (advanced t m s)
confirmed-stays a t n m s passes comes before = record {
  asked_is = asked-stays exchanges.pubrec_pubrel a.asked t n m s passes comes before.asked_is;
  refusals_are = latest-kept t.begins t.inside t.position n m s.session comes.at comes.same (received_as refusing_pubrec_in) (kept a.refusals) (kept a.refusals) before.refusals_are
      (λ i. last-stays t.begins t.inside (received_as refusing_pubrec_in n) None t.position i (kept a.refusals i) (begins-not t (is_unasked n) passes)
      (received-none refusing_pubrec_in unasking-refusing n (passes-then t (is_unasked n) passes)) refl);
}

-- what waits for its answer
waits-on : (x : exchanges.Exchange) (opens : Bool) (m : Moment) (ms : List Moment) (at : ℕ → Option ℕ) (es : Line) (p : ℕ) → opens ≡ false → position m ≡ p → x.answer (note m) ≡ None → x.cause (note m) ≡ None
    → (IsDescending ms → IsInOrder x at es ms) → IsDescending (longer opens true m ms) → IsInOrder x at es (longer opens true m ms)
waits-on x true m ms at es p o is answer cause before = absurd (cc)
waits-on x false m ms at es p o is answer cause before = waits-kept x false m ms at at at at es es es es None None p is answer cause before (λ i. refl) refl (λ i. refl) refl (λ i. go (at i)) refl
  where
    go : (o : Option ℕ) → o ≡ option_or o None
    go None = refl
    go (Some q) = refl

pub unanswered-stays : (x : exchanges.Exchange) (a : Unanswered) (t : Turn) (n : Note) (m : Moment) (s : Stretches) → (goes_on t && is_unasked n) ≡ true → Comes t n m → IsUnanswered x a s → IsUnanswered x a (advanced t m s)
unanswered-stays x a t n m s passes comes before = record {
  about = before.about;
  in_order = waits-on x t.opens m s.connection (kept a.firsts) a.order.entries t.position (opens-not t (is_unasked n) passes) comes.at
      (ap x.answer comes.same ∙ sym (ap (λ y. y.answer n) before.about) ∙ unasked-answer a.exchange n quiet)
      (ap x.cause comes.same ∙ sym (ap (λ y. y.cause n) before.about) ∙ unasked-cause a.exchange n quiet)
      before.in_order;
}
  where
    quiet : is_unasked n ≡ true
    quiet = passes-then t (is_unasked n) passes

request-stays : (over : Bool) (r : Request) (i : ℕ) (old : Option Request) → over ≡ false → old ≡ request_next over (is_id i None) (is_id i None) r old
request-stays true r i old o = absurd (cc)
request-stays false r i None o = refl
request-stays false r i (Some q) o = refl

pub requests-stay : (a : Requests) (t : Turn) (n : Note) (m : Moment) (s : Stretches) → (goes_on t && is_unasked n) ≡ true → Comes t n m → IsRequests a s → IsRequests a (advanced t m s)
requests-stay a t n m s passes comes before = record {
  subscribes_are = request-kept filters_of (received_as subscribe_in) (sent_as suback_in) t.opens n (request_of filters_of m) None None m s.connection (kept a.subscribes) (kept a.subscribes) comes.same refl
      (sym (unasked-cause SubscribeSuback n quiet)) (sym (unasked-answer SubscribeSuback n quiet)) before.subscribes_are (λ i. request-stays t.opens (request_of filters_of m) i (kept a.subscribes i) opens);
  unsubscribes_are = request-kept count_of (received_as unsubscribe_in) (sent_as unsuback_in) t.opens n (request_of count_of m) None None m s.connection (kept a.unsubscribes) (kept a.unsubscribes) comes.same refl
      (sym (unasked-cause UnsubscribeUnsuback n quiet)) (sym (unasked-answer UnsubscribeUnsuback n quiet)) before.unsubscribes_are (λ i. request-stays t.opens (request_of count_of m) i (kept a.unsubscribes i) opens);
}
  where
    quiet : is_unasked n ≡ true
    quiet = passes-then t (is_unasked n) passes

    opens : t.opens ≡ false
    opens = opens-not t (is_unasked n) passes

-- what was received
pub received-stays : (a : Received) (t : Turn) (n : Note) (m : Moment) (s : Stretches) → (goes_on t && is_unasked n) ≡ true → Comes t n m → IsReceived a s → IsReceived a (advanced t m s)
received-stays a t n m s passes comes before = record {
  in_session = record {
    brought_are = still received_exactly_once (kept a.in_session.brought) before.in_session.brought_are (unasked-twice n quiet);
    firsts_are = earliest-kept t.begins t.inside t.position n m s.session comes.at comes.same received_exactly_once (sent_as ended_in) (kept a.in_session.firsts) (kept a.in_session.firsts) before.in_session.firsts_are
        (λ i. first-stays t.begins t.inside (received_exactly_once n) (sent_as ended_in n) t.position i (kept a.in_session.firsts i) starts (unasked-twice n quiet) (sent-none ended_in unanswering-ended n quiet));
    enders_are = still (sent_as ended_in) (kept a.in_session.enders) before.in_session.enders_are (sent-none ended_in unanswering-ended n quiet);
    releases_are = still released_id (kept a.in_session.releases) before.in_session.releases_are (unasked-released n quiet);
  };
  earlier_are = earlier-kept t.begins received_exactly_once (kept a.in_session.brought) (is_kept a.earlier) (is_kept a.earlier) s.session s.earlier before.in_session.brought_are before.earlier_are
      (λ i. earlier-stays t.begins (is_some (kept a.in_session.brought i)) (is_kept a.earlier i) starts);
}
  where
    starts : t.begins ≡ false
    starts = begins-not t (is_unasked n) passes

    quiet : is_unasked n ≡ true
    quiet = passes-then t (is_unasked n) passes

    still : (found : Note → Option ℕ) (at : ℕ → Option ℕ) → IsLatest at found s.session → found n ≡ None → IsLatest at found (longer t.begins t.inside m s.session)
    still found at are none = latest-kept t.begins t.inside t.position n m s.session comes.at comes.same found at at are (λ i. last-stays t.begins t.inside (found n) None t.position i (at i) starts none refl)

-- what the tested end asks for
pub senders-stay : (a : Senders) (t : Turn) (n : Note) (m : Moment) (s : Stretches) → (goes_on t && is_unasking n) ≡ true → Comes t n m → IsSenders a s → IsSenders a (advanced t m s)
senders-stay a t n m s passes comes before = record {
  in_session = record {
    openers_are = latest-kept t.begins t.inside t.position n m s.session comes.at comes.same opener_of (kept a.in_session.openers) (kept a.in_session.openers) before.in_session.openers_are
        (λ i. last-stays t.begins t.inside (opener_of n) None t.position i (kept a.in_session.openers i) starts opener refl);
    held_are = unended-kept t.begins t.inside t.position n m s.session comes.at comes.same opener_of closer_of (kept a.in_session.held) (kept a.in_session.held) before.in_session.held_are
        (λ i. last-stays t.begins t.inside (opener_of n) (closer_of n) t.position i (kept a.in_session.held i) starts opener closer);
    closers_are = latest-kept t.begins t.inside t.position n m s.session comes.at comes.same closer_of (kept a.in_session.closers) (kept a.in_session.closers) before.in_session.closers_are
        (λ i. last-stays t.begins t.inside (closer_of n) None t.position i (kept a.in_session.closers i) starts closer refl);
    pubrels_are = latest-kept t.begins t.inside t.position n m s.session comes.at comes.same (sent_as pubrel_in) (kept a.in_session.pubrels) (kept a.in_session.pubrels) before.in_session.pubrels_are
        (λ i. last-stays t.begins t.inside (sent_as pubrel_in n) None t.position i (kept a.in_session.pubrels i) starts (asking-none pubrel_in unasking-pubrel n quiet) refl);
  };
  on_connection = record {
    deliveries_are = latest-kept t.opens true t.position n m s.connection comes.at comes.same delivery_of (kept a.on_connection.deliveries) (kept a.on_connection.deliveries) before.on_connection.deliveries_are
        (λ i. last-stays t.opens true (delivery_of n) None t.position i (kept a.on_connection.deliveries i) opens (unasking-delivery n quiet) refl);
    subscribes_are = unended-kept t.opens true t.position n m s.connection comes.at comes.same (sent_as subscribe_in) (received_as suback_in) (kept a.on_connection.subscribes) (kept a.on_connection.subscribes) before.on_connection.subscribes_are
        (λ i. last-stays t.opens true (sent_as subscribe_in n) (received_as suback_in n) t.position i (kept a.on_connection.subscribes i) opens (asking-none subscribe_in unasking-subscribe n quiet)
        (answered-none suback_in unanswering-suback n quiet));
    unsubscribes_are = unended-kept t.opens true t.position n m s.connection comes.at comes.same (sent_as unsubscribe_in) (received_as unsuback_in) (kept a.on_connection.unsubscribes) (kept a.on_connection.unsubscribes) before.on_connection.unsubscribes_are
        (λ i. last-stays t.opens true (sent_as unsubscribe_in n) (received_as unsuback_in n) t.position i (kept a.on_connection.unsubscribes i) opens (asking-none unsubscribe_in unasking-unsubscribe n quiet)
        (answered-none unsuback_in unanswering-unsuback n quiet));
  };
  earlier_are = earlier-kept t.begins opener_of (kept a.in_session.openers) (is_kept a.earlier) (is_kept a.earlier) s.session s.earlier before.in_session.openers_are before.earlier_are
      (λ i. earlier-stays t.begins (is_some (kept a.in_session.openers i)) (is_kept a.earlier i) starts);
}
  where
    starts : t.begins ≡ false
    starts = begins-not t (is_unasking n) passes

    opens : t.opens ≡ false
    opens = opens-not t (is_unasking n) passes

    quiet : is_unasking n ≡ true
    quiet = passes-then t (is_unasking n) passes

    opener : opener_of n ≡ None
    opener = unasking-opener n quiet

    closer : closer_of n ≡ None
    closer = answered-none settled_in unanswering-settled n quiet

-- how a connection begins and ends
once-stays : (over passes : Bool) (p : ℕ) (old : Option ℕ) → over ≡ false → passes ≡ false → old ≡ once_next over true passes p old
once-stays true passes p old o h = absurd (cc)
once-stays false true p old o h = absurd (cc)
once-stays false false p None o h = refl
once-stays false false p (Some q) o h = refl

found-stays : {A : Type 0} (over : Bool) (old found : Option A) → over ≡ false → found ≡ None → old ≡ option_or (cond over None old) found
found-stays true old found o h = absurd (cc)
found-stays false old (Some a) o h = absurd (cc)
found-stays false None None o h = refl
found-stays false (Some a) None o h = refl

pub handshake-stays : (a : Handshake) (role : Role) (t : Turn) (n : Note) (m : Moment) (s : Stretches) → (goes_on t && is_amid n) ≡ true → Comes t n m → IsHandshake a role s → IsHandshake a role (advanced t m s)
handshake-stays a role t n m s passes comes before = record {
  same_role = before.same_role;
  sent_is = record {
    connect_is = kept (sends_type types.Connect) a.sent.connect before.sent_is.connect_is (amid-sends_connect n quiet);
    connack_is = kept (sends_type types.Connack) a.sent.connack before.sent_is.connack_is (amid-sends_connack n quiet);
    disconnect_is = kept is_sent_disconnect a.sent.disconnect before.sent_is.disconnect_is (amid-disconnects n quiet);
    refusal_is = kept is_sent_refusal a.sent.refusal before.sent_is.refusal_is (amid-refuses n quiet);
    last_is = kept (is_last_sent role) a.sent.last before.sent_is.last_is (amid-last role n quiet);
  };
  greetings_are = record {
    connect_at = kept (λ x. is_some (connect_of role x)) a.greetings.connect_at before.greetings_are.connect_at (ap is_some (amid-connect role n quiet));
    connect_is = first_found-kept (connect_of role) t.opens n a.greetings.connect a.greetings.connect m s.connection comes.same before.greetings_are.connect_is
        (found-stays t.opens a.greetings.connect (connect_of role n) opens (amid-connect role n quiet));
    connack_at = kept (λ x. is_some (connack_of role x)) a.greetings.connack_at before.greetings_are.connack_at (ap is_some (amid-connack role n quiet));
    connack_is = first_found-kept (connack_of role) t.opens n a.greetings.connack a.greetings.connack m s.connection comes.same before.greetings_are.connack_is
        (found-stays t.opens a.greetings.connack (connack_of role n) opens (amid-connack role n quiet));
  };
}
  where
    opens : t.opens ≡ false
    opens = opens-not t (is_amid n) passes

    quiet : is_amid n ≡ true
    quiet = passes-then t (is_amid n) passes

    kept : (test : Note → Bool) (at : Option ℕ) → at ≡ option_map position (first_on test s.connection) → test n ≡ false → at ≡ option_map position (first_on test (longer t.opens true m s.connection))
    kept test at is none = once-kept (λ o. test (note o)) t.opens true (test n) t.position at at m s.connection comes.at (ap test comes.same) is (once-stays t.opens (test n) t.position at opens none)
