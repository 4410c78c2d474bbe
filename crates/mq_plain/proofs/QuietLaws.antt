-- At a quiet event no statement on a session turns out false, nor at a REST before which nothing asks.
use Rattle.std.proofs.Common.{◌≡◌, ℕ, ◌+◌, Bool, true, false, cond, ◌&&◌, ◌||◌, not, nat_lt, List, [], ◌∷◌, length, Option, Some, None, refl, ap, sym, ◌∙◌, arith, ◌==◌, ◌⊎◌, inl, inr}
use Rattle.std.specs.Prelude.{is_some}
use Rattle.std.specs.Option.{option_and_then, option_or}
use Rattle.std.proofs.lemmas.Bool.Decides.{nat_tests}
use Rattle.mq_rules.specs.declared.role.Role.{Role}
use Rattle.mq_rules.specs.declared.role.Role.TheVariants.{Client, Server}
use Rattle.mq_rules.specs.declared.role.Further.{Further}
use Rattle.mq_rules.specs.declared.role.Tested.{Tested}
use Rattle.mq_rules.specs.declared.fate.Fate.{Fate}
use Rattle.mq_rules.specs.declared.rule.Rule.{Rule}
use Rattle.mq_rules.specs.declared.rule.Rule.TheVariants.{S01, S02, S03, S04, S05, S06, S07, E1A, E1R, E1O, E2A, E2R, E2O, E3A, E3R, E3O, E4A, E4R, E5A, E5R, E6A, E6R, E7R, L1, L2, L3, B01, B02, B03, B04, B05, B06, B07, B08, B09, P01, P02, R01, R02}
use Rattle.mq_rules.specs.declared.note.Note.{Note}
use Rattle.mq_rules.specs.declared.note.Note.TheVariants as notes
use Rattle.mq_rules.specs.declared.note.ItemNote.TheVariants as items
use Rattle.mq_rules.specs.declared.note.Seen.{Seen}
use Rattle.mq_rules.specs.declared.packet_note.PacketFields.{PacketFields}
use Rattle.mq_rules.specs.declared.packet_note.PacketFields.TheVariants.{Publish, Puback, Pubrec, Pubrel, Pubcomp, Subscribe, Suback, Unsubscribe, Unsuback}
use Rattle.mq_rules.specs.declared.packet_note.PublishNote.{PublishNote}
use Rattle.mq_rules.specs.declared.text.NotedFilter.{NotedFilter}
use Rattle.mq_rules.specs.Words.{is_some_and, only}
use Rattle.mq_rules.specs.declared.packet_note.PacketFields.TheVariants as fields
use Rattle.mq_packet.specs.declared.packet.Qos.{Qos}
use Rattle.mq_packet.specs.declared.packet.Qos.TheVariants as quality
use Rattle.mq_rules.specs.Notes.{is_open, is_rest, released_id, sent_fields, received_fields, publish_in, is_acknowledged, is_at_least_once, is_exactly_once, received_once_acknowledged, received_exactly_once, received_as, accepting_pubrec_in, opener_of, is_pingreq, is_received_pingreq, is_sent_pingresp, delivery_in, opener_in, resend_in, puback_in, pubrec_in, pubrel_in, pubcomp_in, subscribe_in, suback_in, unsubscribe_in, unsuback_in, success_pubcomp_in, grant_in, deletion_in}
use Rattle.mq_rules.specs.Moments.{Moment, newest, note, moment, moments, some, those, count, is_next}
use Rattle.mq_rules.specs.Connections.{latest_fate, accepts, resumed, connection, begun, number, is_binding}
use Rattle.mq_rules.specs.Rules.{binds, found_line, lines, line_of}
use Rattle.mq_rules.specs.Statements.{Statement, on_bytes, on_past, in_session, at_release, at_rest, by_later, statement}
use Rattle.mq_rules.specs.Under.{is_by_session, shows_with, turns_with}
use Rattle.mq_rules.specs.Identifiers.{taken_by, breaks_S01, breaks_S02, breaks_S03, breaks_S04, breaks_S05, breaks_S07, is_waiting, shows_S06}
use Rattle.mq_rules.specs.Exchanges.{breaks_A, breaks_O, breaks_E7R, shows_R}
use Rattle.mq_rules.specs.Releases.{breaks_L1, breaks_L2, breaks_L3}
use Rattle.mq_rules.specs.Subscriptions.{breaks_B01, breaks_B02, breaks_B03, breaks_B04, breaks_B05}
use Rattle.mq_rules.specs.FurtherSubscriptions.{is_clear_before, is_unsubscribed_so, breaks_B06, breaks_B07}
use Rattle.mq_rules.specs.MatchingSubscriptions.{breaks_B08, breaks_B09, breaks_P01, breaks_P02, breaks_R01, breaks_R02}
use Rattle.mq_rules.specs.FaultKeys.{FaultMap}
use Rattle.mq_rules.specs.Growing.{Gains}
use Rattle.mq_rules.proofs.Exports.{and_false, or_false, both_true, gains_nothing}
use Rattle.mq_plain.specs.Chosen.{is_plain_se, is_plain_lb, is_plain_rule, is_plain_subscription}
use Rattle.mq_plain.specs.Events.{is_client, is_spoken_of, is_quiet, is_asking, asks, some_asks, is_unacknowledged, is_idle, AreSilent}
use Rattle.mq_plain.specs.Waiting.{AreOnSessions}

-- ---- what a quiet event is not

-- what the statements look at of a packet that is sent
record IsUnspoken (role : Role) (fields : Option PacketFields) : Type 0 where
  pub taken : option_or (option_and_then opener_in (option_and_then publish_in fields)) (option_or (option_and_then subscribe_in fields) (option_and_then unsubscribe_in fields)) ≡ None
  pub opener : option_and_then opener_in (option_and_then publish_in fields) ≡ None
  pub resend : option_and_then resend_in (option_and_then publish_in fields) ≡ None
  pub delivery : option_and_then delivery_in (option_and_then publish_in fields) ≡ None
  pub publish : is_client role ≡ false → option_and_then publish_in fields ≡ None
  pub puback : option_and_then puback_in fields ≡ None
  pub pubrec : option_and_then pubrec_in fields ≡ None
  pub pubrel : option_and_then pubrel_in fields ≡ None
  pub pubcomp : option_and_then pubcomp_in fields ≡ None
  pub suback : option_and_then suback_in fields ≡ None
  pub unsuback : option_and_then unsuback_in fields ≡ None
  pub success : option_and_then success_pubcomp_in fields ≡ None
  pub grant : option_and_then grant_in fields ≡ None
  pub deletion : option_and_then deletion_in fields ≡ None

nothing-sent : (role : Role) → IsUnspoken role None
nothing-sent role = record { taken = refl; opener = refl; resend = refl; delivery = refl; publish = λ server. refl; puback = refl; pubrec = refl; pubrel = refl; pubcomp = refl; suback = refl; unsuback = refl; success = refl; grant = refl; deletion = refl }

only-none : (b : Bool) → ◌≡◌ {A = Option ℕ} (only b None) None
only-none true = refl
only-none false = refl

-- a client's PUBLISH of QoS 0
unacknowledged : (p : PublishNote) → is_acknowledged p.qos ≡ false → IsUnspoken Client (Some (Publish p))
unacknowledged p h =
    let delivery : delivery_in p ≡ None = ap (λ b. only b p.identifier) h in
    let opener : opener_in p ≡ None = ap (only (not p.duplicate)) delivery ∙ only-none (not p.duplicate) in
    record {
      taken = ap (λ o. option_or o None) opener;
      opener = opener;
      resend = ap (only p.duplicate) delivery ∙ only-none p.duplicate;
      delivery = delivery;
      publish = λ server. absurd (cc);
      puback = refl;
      pubrec = refl;
      pubrel = refl;
      pubcomp = refl;
      suback = refl;
      unsuback = refl;
      success = refl;
      grant = refl;
      deletion = refl;
    }

not-true : (b : Bool) → not b ≡ true → b ≡ false
not-true true h = absurd (cc)
not-true false h = refl

not-twice : (b : Bool) → not (not b) ≡ false → b ≡ false
not-twice true h = absurd (cc)
not-twice false h = refl

unspoken : (role : Role) (fields : PacketFields) → is_spoken_of role fields ≡ false → IsUnspoken role (Some fields)
unspoken Client (Publish p) h = unacknowledged p (not-twice (is_acknowledged p.qos) h)
unspoken Server (Publish p) h = absurd (cc)
unspoken role (Puback identifier code) h = absurd (cc)
unspoken role (Pubrec identifier code) h = absurd (cc)
unspoken role (Pubrel identifier code) h = absurd (cc)
unspoken role (Pubcomp identifier code) h = absurd (cc)
unspoken role (Subscribe identifier filters wishes) h = absurd (cc)
unspoken role (Suback identifier codes) h = absurd (cc)
unspoken role (Unsubscribe identifier filters) h = absurd (cc)
unspoken role (Unsuback identifier codes) h = absurd (cc)
unspoken role _ h = record { taken = refl; opener = refl; resend = refl; delivery = refl; publish = λ server. refl; puback = refl; pubrec = refl; pubrel = refl; pubcomp = refl; suback = refl; unsuback = refl; success = refl; grant = refl; deletion = refl }

quiet-sent : (role : Role) (n : Note) → is_quiet role n ≡ true → IsUnspoken role (sent_fields n)
quiet-sent role (notes.Sent (items.Packet p)) h = unspoken role p.fields (not-true (is_spoken_of role p.fields) h)
quiet-sent role _ h = nothing-sent role

quiet-rest : (role : Role) (n : Note) → is_quiet role n ≡ true → is_rest n ≡ false
quiet-rest role notes.Rest h = absurd (cc)
quiet-rest role _ h = refl

quiet-release : (role : Role) (n : Note) → is_quiet role n ≡ true → released_id n ≡ None
quiet-release role (notes.Release identifier) h = absurd (cc)
quiet-release role _ h = refl

-- ---- what an event isn't that doesn't ask

record IsUnasking (n : Note) : Type 0 where
  pub once : received_once_acknowledged n ≡ None
  pub exactly : received_exactly_once n ≡ None
  pub pubrec : received_as accepting_pubrec_in n ≡ None
  pub pubrel : received_as pubrel_in n ≡ None
  pub subscribe : received_as subscribe_in n ≡ None
  pub unsubscribe : received_as unsubscribe_in n ≡ None
  pub opener : opener_of n ≡ None
  pub ping : is_received_pingreq n ≡ false

unasking-neither : (n : Note) → received_fields n ≡ None → sent_fields n ≡ None → IsUnasking n
unasking-neither n received sent = record {
  once = ap (λ o. option_and_then (λ p. only (is_at_least_once p.qos) p.identifier) (option_and_then publish_in o)) received;
  exactly = ap (λ o. option_and_then (λ p. only (is_exactly_once p.qos) p.identifier) (option_and_then publish_in o)) received;
  pubrec = ap (option_and_then accepting_pubrec_in) received;
  pubrel = ap (option_and_then pubrel_in) received;
  subscribe = ap (option_and_then subscribe_in) received;
  unsubscribe = ap (option_and_then unsubscribe_in) received;
  opener = ap (λ o. option_and_then opener_in (option_and_then publish_in o)) sent;
  ping = ap (is_some_and is_pingreq) received;
}

unacknowledged-once : (q : Qos) (o : Option ℕ) → not (not (is_acknowledged q)) ≡ false → only (is_at_least_once q) o ≡ None
unacknowledged-once quality.AtMostOnce o h = refl
unacknowledged-once quality.AtLeastOnce o h = absurd (cc)
unacknowledged-once quality.ExactlyOnce o h = absurd (cc)

unacknowledged-exactly : (q : Qos) (o : Option ℕ) → not (not (is_acknowledged q)) ≡ false → only (is_exactly_once q) o ≡ None
unacknowledged-exactly quality.AtMostOnce o h = refl
unacknowledged-exactly quality.AtLeastOnce o h = absurd (cc)
unacknowledged-exactly quality.ExactlyOnce o h = absurd (cc)

unacknowledged-opener : (d : Bool) (q : Qos) (o : Option ℕ) → not (not (is_acknowledged q)) ≡ false → only (not d) (only (is_acknowledged q) o) ≡ None
unacknowledged-opener d quality.AtMostOnce o h = only-none (not d)
unacknowledged-opener d quality.AtLeastOnce o h = absurd (cc)
unacknowledged-opener d quality.ExactlyOnce o h = absurd (cc)

neither-asks : (a b : Bool) → (a || b) ≡ false → (a ≡ false) × (b ≡ false)
neither-asks true b h = absurd (cc)
neither-asks false b h = (refl, h)

-- what is said of the packet that is received
record IsUnanswered (o : Option PacketFields) : Type 0 where
  pub once : option_and_then (λ p. only (is_at_least_once p.qos) p.identifier) (option_and_then publish_in o) ≡ None
  pub exactly : option_and_then (λ p. only (is_exactly_once p.qos) p.identifier) (option_and_then publish_in o) ≡ None
  pub pubrec : option_and_then accepting_pubrec_in o ≡ None
  pub pubrel : option_and_then pubrel_in o ≡ None
  pub subscribe : option_and_then subscribe_in o ≡ None
  pub unsubscribe : option_and_then unsubscribe_in o ≡ None
  pub opener : option_and_then opener_in (option_and_then publish_in o) ≡ None
  pub ping : is_some_and is_pingreq o ≡ false

unasked : (f : PacketFields) → is_asking f ≡ false → IsUnanswered (Some f)
unasked (fields.Publish p) h = record { once = unacknowledged-once p.qos p.identifier h; exactly = unacknowledged-exactly p.qos p.identifier h; pubrec = refl; pubrel = refl; subscribe = refl; unsubscribe = refl; opener = unacknowledged-opener p.duplicate p.qos p.identifier h; ping = refl }
unasked (fields.Puback identifier code) h = absurd (cc)
unasked (fields.Pubrec identifier code) h = absurd (cc)
unasked (fields.Pubrel identifier code) h = absurd (cc)
unasked (fields.Pubcomp identifier code) h = absurd (cc)
unasked (fields.Subscribe identifier filters wishes) h = absurd (cc)
unasked (fields.Suback identifier codes) h = absurd (cc)
unasked (fields.Unsubscribe identifier filters) h = absurd (cc)
unasked (fields.Unsuback identifier codes) h = absurd (cc)
unasked fields.Pingreq h = absurd (cc)
unasked _ h = record { once = refl; exactly = refl; pubrec = refl; pubrel = refl; subscribe = refl; unsubscribe = refl; opener = refl; ping = refl }

unasking : (n : Note) → asks n ≡ false → IsUnasking n
unasking (notes.Sent (items.Packet p)) h =
    let u = unasked p.fields (neither-asks (is_asking p.fields) false h).0 in
    record { once = refl; exactly = refl; pubrec = refl; pubrel = refl; subscribe = refl; unsubscribe = refl; opener = u.opener; ping = refl }
unasking (notes.Recv (items.Packet p)) h =
    let u = unasked p.fields h in
    record { once = u.once; exactly = u.exactly; pubrec = u.pubrec; pubrel = u.pubrel; subscribe = u.subscribe; unsubscribe = u.unsubscribe; opener = refl; ping = u.ping }
unasking (notes.Sent (items.Bad first rule at large)) h = unasking-neither _ refl refl
unasking (notes.Sent items.Lost) h = unasking-neither _ refl refl
unasking (notes.Recv (items.Bad first rule at large)) h = unasking-neither _ refl refl
unasking (notes.Recv items.Lost) h = unasking-neither _ refl refl
unasking notes.Open h = unasking-neither _ refl refl
unasking (notes.Close cuts part) h = unasking-neither _ refl refl
unasking notes.Rest h = unasking-neither _ refl refl
unasking (notes.Release identifier) h = unasking-neither _ refl refl

-- ---- each statement at such an event

-- The event sends nothing that a statement looks at, releases nothing, and shows no PINGREQ without its PINGRESP.
record IsIdle (role : Role) (e : Seen) (past : List Seen) : Type 0 where
  pub unspoken : IsUnspoken role (sent_fields e.note)
  pub unreleased : released_id e.note ≡ None
  pub unpinged : breaks_E7R role (newest e past) ≡ false

-- The statement is one on sessions. If it binds the tested end it isn't false at the moment, and the moment shows it at none that doesn't ask.
abbrev IsNever : Bool → Statement → Moment → Type 0
IsNever bound (on_bytes bytes) m = ⊥
IsNever bound (on_past breaks) m = ⊥
IsNever bound (by_later shows_it) m = ⊥
IsNever bound (in_session breaks) m = bound ≡ true → (f : Fate) → breaks f m ≡ false
IsNever bound (at_release breaks) m = bound ≡ true → (f : Fate) → breaks f m ≡ false
IsNever bound (at_rest shows_it) m = (k : Moment) → asks (note k) ≡ false → shows_it m k ≡ false

none-passes : {A : Type 0} (test : A → Bool) (o : Option A) → o ≡ None → is_some_and test o ≡ false
none-passes test None h = refl
none-passes test (Some a) h = absurd (cc)

and-first : (a b : Bool) → a ≡ false → (a && b) ≡ false
and-first true b h = absurd (cc)
and-first false b h = refl

unbinding : (role : Role) (e : Seen) (past : List Seen) → is_rest e.note ≡ false → is_binding role (newest e past) ≡ false
unfolding is_binding
unbinding role e past h = and-first (is_rest e.note) _ h

untaken : (role : Role) (n : Note) → IsUnspoken role (sent_fields n) → taken_by role n ≡ None
untaken Client n u = u.taken
untaken Server n u = u.opener

-- of a PUBLISH of QoS 0 only a server is asked
only-servers-B01 : (role : Role) (releases : Bool) (further : Further) → binds B01 (record { role = role; releases = releases; further = further }) ≡ true → is_client role ≡ false
unfolding found_line lines line_of
only-servers-B01 Client releases further h = absurd (cc)
only-servers-B01 Server releases further h = refl

only-servers-B02 : (role : Role) (releases : Bool) (further : Further) → binds B02 (record { role = role; releases = releases; further = further }) ≡ true → is_client role ≡ false
unfolding found_line lines line_of
only-servers-B02 Client releases further h = absurd (cc)
only-servers-B02 Server releases further h = refl

only-servers-B08 : (role : Role) (releases : Bool) (further : Further) → binds B08 (record { role = role; releases = releases; further = further }) ≡ true → is_client role ≡ false
unfolding found_line lines line_of
only-servers-B08 Client releases further h = absurd (cc)
only-servers-B08 Server releases further h = refl

only-servers-B09 : (role : Role) (releases : Bool) (further : Further) → binds B09 (record { role = role; releases = releases; further = further }) ≡ true → is_client role ≡ false
unfolding found_line lines line_of
only-servers-B09 Client releases further h = absurd (cc)
only-servers-B09 Server releases further h = refl

only-servers-P01 : (role : Role) (releases : Bool) (further : Further) → binds P01 (record { role = role; releases = releases; further = further }) ≡ true → is_client role ≡ false
unfolding found_line lines line_of
only-servers-P01 Client releases further h = absurd (cc)
only-servers-P01 Server releases further h = refl

only-servers-P02 : (role : Role) (releases : Bool) (further : Further) → binds P02 (record { role = role; releases = releases; further = further }) ≡ true → is_client role ≡ false
unfolding found_line lines line_of
only-servers-P02 Client releases further h = absurd (cc)
only-servers-P02 Server releases further h = refl

only-servers-R01 : (role : Role) (releases : Bool) (further : Further) → binds R01 (record { role = role; releases = releases; further = further }) ≡ true → is_client role ≡ false
unfolding found_line lines line_of
only-servers-R01 Client releases further h = absurd (cc)
only-servers-R01 Server releases further h = refl

only-servers-R02 : (role : Role) (releases : Bool) (further : Further) → binds R02 (record { role = role; releases = releases; further = further }) ≡ true → is_client role ≡ false
unfolding found_line lines line_of
only-servers-R02 Client releases further h = absurd (cc)
only-servers-R02 Server releases further h = refl

-- what doesn't answer an UNSUBSCRIBE says nothing of subscriptions
undeleted : (role : Role) (f : Fate) (e : Seen) (past : List Seen) (test : Moment → List NotedFilter → List ℕ → Bool) → option_and_then deletion_in (sent_fields e.note) ≡ None → is_unsubscribed_so role f (newest e past) test ≡ false
undeleted role f e past test none = ap (λ b. is_clear_before role f (newest e past) && b) (none-passes _ _ none) ∙ and_false (is_clear_before role f (newest e past))

and-second : (a b : Bool) → b ≡ false → (a && b) ≡ false
and-second a b h = ap (λ t. a && t) h ∙ and_false a

-- the statements on sessions
abbrev is_plain_session : Rule → Bool
is_plain_session rule = is_plain_rule rule || is_plain_subscription rule

never : (role : Role) (releases : Bool) (further : Further) (rule : Rule) (e : Seen) (past : List Seen) → is_plain_session rule ≡ true → IsIdle role e past
    → IsNever (binds rule (record { role = role; releases = releases; further = further })) (statement role rule) (newest e past)
unfolding breaks_S01 breaks_S02 breaks_S03 breaks_S04 breaks_S05 breaks_S07 breaks_A breaks_O breaks_L1 breaks_L2 breaks_L3 breaks_B01 breaks_B02 breaks_B03 breaks_B04 breaks_B05 breaks_B06 breaks_B07 breaks_B08 breaks_B09 breaks_P01 breaks_P02 breaks_R01 breaks_R02 shows_R shows_S06
never role releases further S01 e past chosen idle = λ bound f. and-first _ _ (none-passes _ _ (untaken role e.note idle.unspoken))
never role releases further S02 e past chosen idle = λ bound f. and-first _ _ (none-passes _ _ idle.unspoken.resend)
never role releases further S03 e past chosen idle = λ bound f. none-passes _ _ idle.unspoken.resend
never role releases further S04 e past chosen idle = λ bound f. none-passes _ _ idle.unspoken.resend
never role releases further S05 e past chosen idle = λ bound f. none-passes _ _ idle.unspoken.resend
never role releases further S06 e past chosen idle = λ k unasks.
    ap (λ b. resumed (latest_fate role past) && (not (is_waiting (newest e past)) && b)) (none-passes _ _ (unasking (note k) unasks).opener)
    ∙ ap (λ b. resumed (latest_fate role past) && b) (and_false (not (is_waiting (newest e past)))) ∙ and_false (resumed (latest_fate role past))
never role releases further S07 e past chosen idle = λ bound f. and-first _ _ (ap is_some idle.unspoken.delivery)
never role releases further E1A e past chosen idle = λ bound f. and-first _ _ (none-passes _ _ idle.unspoken.puback)
never role releases further E1R e past chosen idle = λ k unasks. none-passes _ _ (unasking (note k) unasks).once
never role releases further E1O e past chosen idle = λ bound f. none-passes _ _ idle.unspoken.puback
never role releases further E2A e past chosen idle = λ bound f. and-first _ _ (none-passes _ _ idle.unspoken.pubrec)
never role releases further E2R e past chosen idle = λ k unasks. none-passes _ _ (unasking (note k) unasks).exactly
never role releases further E2O e past chosen idle = λ bound f. none-passes _ _ idle.unspoken.pubrec
never role releases further E3A e past chosen idle = λ bound f. and-first _ _ (none-passes _ _ idle.unspoken.pubrel)
never role releases further E3R e past chosen idle = λ k unasks. none-passes _ _ (unasking (note k) unasks).pubrec
never role releases further E3O e past chosen idle = λ bound f. none-passes _ _ idle.unspoken.pubrel
never role releases further E4A e past chosen idle = λ bound f. none-passes _ _ idle.unspoken.pubcomp
never role releases further E4R e past chosen idle = λ k unasks. none-passes _ _ (unasking (note k) unasks).pubrel
never role releases further E5A e past chosen idle = λ bound f. none-passes _ _ idle.unspoken.suback
never role releases further E5R e past chosen idle = λ k unasks. none-passes _ _ (unasking (note k) unasks).subscribe
never role releases further E6A e past chosen idle = λ bound f. none-passes _ _ idle.unspoken.unsuback
never role releases further E6R e past chosen idle = λ k unasks. none-passes _ _ (unasking (note k) unasks).unsubscribe
never role releases further E7R e past chosen idle = λ bound f. idle.unpinged
never role releases further L1 e past chosen idle = λ bound f. and-first _ _ (none-passes _ _ idle.unreleased)
never role releases further L2 e past chosen idle = λ bound f. and-first _ _ (none-passes _ _ idle.unreleased)
never role releases further L3 e past chosen idle = λ bound f. none-passes _ _ idle.unspoken.success
never role releases further B01 e past chosen idle = λ bound f. none-passes _ _ (idle.unspoken.publish (only-servers-B01 role releases further bound))
never role releases further B02 e past chosen idle = λ bound f. none-passes _ _ (idle.unspoken.publish (only-servers-B02 role releases further bound))
never role releases further B03 e past chosen idle = λ bound f. none-passes _ _ idle.unspoken.grant
never role releases further B04 e past chosen idle = λ bound f. none-passes _ _ idle.unspoken.deletion
never role releases further B05 e past chosen idle = λ bound f. none-passes _ _ idle.unspoken.grant
never role releases further B06 e past chosen idle = λ bound f. undeleted role f e past _ idle.unspoken.deletion
never role releases further B07 e past chosen idle = λ bound f. undeleted role f e past _ idle.unspoken.deletion
never role releases further B08 e past chosen idle = λ bound f. and-second _ _ (none-passes _ _ (idle.unspoken.publish (only-servers-B08 role releases further bound)))
never role releases further B09 e past chosen idle = λ bound f. and-second _ _ (none-passes _ _ (idle.unspoken.publish (only-servers-B09 role releases further bound)))
never role releases further P01 e past chosen idle = λ bound f. and-second _ _ (none-passes _ _ (idle.unspoken.publish (only-servers-P01 role releases further bound)))
never role releases further P02 e past chosen idle = λ bound f. and-second _ _ (none-passes _ _ (idle.unspoken.publish (only-servers-P02 role releases further bound)))
never role releases further R01 e past chosen idle = λ bound f. and-second _ _ (none-passes _ _ (idle.unspoken.publish (only-servers-R01 role releases further bound)))
never role releases further R02 e past chosen idle = λ bound f. and-second _ _ (none-passes _ _ (idle.unspoken.publish (only-servers-R02 role releases further bound)))
never role releases further _ e past chosen idle = absurd (cc)

-- ---- with a quiet event

nowhere : (b n : Bool) (test : Bool) → (b ≡ true → test ≡ false) → (b && (n && test)) ≡ false
nowhere false n test h = refl
nowhere true n test h = ap (λ t. n && t) (h refl) ∙ and_false n

-- what a REST shows of a log of which no event asks
unshown : (test : Moment → Bool) (past : List Seen) (k : ℕ) → ((m : Moment) → asks (note m) ≡ false → test m ≡ false) → some_asks past ≡ false → is_some_and test (moment past k) ≡ false
unshown test [] k fails h = refl
unshown test (e ∷ past) k fails h =
    let both = neither-asks (asks e.note) (some_asks past) h in
    go (k == length past + 1) (fails (newest e past) both.0) (unshown test past k fails both.1)
  where
    go : (b : Bool) → test (newest e past) ≡ false → is_some_and test (moment past k) ≡ false → is_some_and test (cond b (Some (newest e past)) (moment past k)) ≡ false
    go true newest_so past_so = newest_so
    go false newest_so past_so = past_so

-- The event isn't a REST that binds, or none of those before it asks.
abbrev ShowsNothing : Role → Seen → List Seen → Type 0
ShowsNothing role e past = (is_binding role (newest e past) ≡ false) ⊎ (some_asks past ≡ false)

nothing-shown : (role : Role) (e : Seen) (past : List Seen) (k : ℕ) (test : Moment → Bool) → ((m : Moment) → asks (note m) ≡ false → test m ≡ false) → ShowsNothing role e past
    → (is_binding role (newest e past) && is_some_and test (moment past k)) ≡ false
nothing-shown role e past k test fails (inl unbound) = and-first _ _ unbound
nothing-shown role e past k test fails (inr unasked) = ap (λ b. is_binding role (newest e past) && b) (unshown test past k fails unasked) ∙ and_false (is_binding role (newest e past))

never-turns : (tested : Tested) (rule : Rule) (s : Statement) (f : Fate) (e : Seen) (past : List Seen) (k : ℕ) → statement tested.role rule ≡ s → ShowsNothing tested.role e past
    → IsNever (binds rule tested) s (newest e past) → turns_with tested f e past k rule ≡ false
unfolding turns_with
never-turns tested rule (on_bytes bytes) f e past k says quiet h = absurd h
never-turns tested rule (on_past breaks) f e past k says quiet h = absurd h
never-turns tested rule (by_later shows_it) f e past k says quiet h = absurd h
never-turns tested rule (in_session breaks) f e past k says quiet h =
    ap (λ s. binds rule tested && shows_with tested.role f s e past k) says
    ∙ nowhere (binds rule tested) (is_next past k) (accepts f && breaks f (newest e past)) (λ bound. ap (λ b. accepts f && b) (h bound f) ∙ and_false (accepts f))
never-turns tested rule (at_release breaks) f e past k says quiet h =
    ap (λ s. binds rule tested && shows_with tested.role f s e past k) says
    ∙ nowhere (binds rule tested) (is_next past k) (breaks f (newest e past)) (λ bound. h bound f)
never-turns tested rule (at_rest shows_it) f e past k says quiet h =
    ap (λ s. binds rule tested && shows_with tested.role f s e past k) says
    ∙ ap (λ b. binds rule tested && b) (nothing-shown tested.role e past k (shows_it (newest e past)) h quiet)
    ∙ and_false (binds rule tested)

quiet-idle : (role : Role) (e : Seen) (past : List Seen) → is_quiet role e.note ≡ true → IsIdle role e past
unfolding breaks_E7R
quiet-idle role e past quiet = record {
  unspoken = quiet-sent role e.note quiet;
  unreleased = quiet-release role e.note quiet;
  unpinged = and-first _ _ (unbinding role e past (quiet-rest role e.note quiet));
}

silent : (tested : Tested) (f : Fate) (e : Seen) (past : List Seen) (k : ℕ) (rule : Rule) → is_plain_session rule ≡ true → is_quiet tested.role e.note ≡ true → turns_with tested f e past k rule ≡ false
silent tested f e past k rule chosen quiet =
    never-turns tested rule (statement tested.role rule) f e past k refl (inl (unbinding tested.role e past (quiet-rest tested.role e.note quiet)))
    (never tested.role tested.releases tested.further rule e past chosen (quiet-idle tested.role e past quiet))

-- ---- with a REST before which nothing asks

uncounted : (chosen test : Moment → Bool) (ms : List Moment) → ((m : Moment) → asks (note m) ≡ false → test m ≡ false) → some (λ m. asks (note m)) ms ≡ false → count test (those chosen ms) ≡ 0
uncounted chosen test [] fails h = refl
uncounted chosen test (m ∷ ms) fails h =
    let both = neither-asks (asks (note m)) (some (λ m. asks (note m)) ms) h in
    go (chosen m) (fails m both.0) (uncounted chosen test ms fails both.1)
  where
    go : (b : Bool) → test m ≡ false → count test (those chosen ms) ≡ 0 → count test (cond b (m ∷ those chosen ms) (those chosen ms)) ≡ 0
    go true newest_so past_so = let none : cond {A = ℕ} (test m) 1 0 ≡ 0 = ap (λ b. cond {A = ℕ} b 1 0) newest_so in omega arith
    go false newest_so past_so = past_so

below-none : (n : ℕ) → nat_lt n 0 ≡ false
below-none n = grind (arith, nat_tests)

unpinged : (role : Role) (e : Seen) (past : List Seen) → some_asks past ≡ false → breaks_E7R role (newest e past) ≡ false
unfolding breaks_E7R
unpinged role e past unasked =
    ap (λ n. is_binding role (newest e past) && nat_lt (count (λ m. is_sent_pingresp (note m)) (connection past)) n)
    (uncounted (λ m. number m == begun past) (λ m. is_received_pingreq (note m)) (moments past) (λ m unasks. (unasking (note m) unasks).ping) unasked)
    ∙ ap (λ b. is_binding role (newest e past) && b) (below-none (count (λ m. is_sent_pingresp (note m)) (connection past)))
    ∙ and_false (is_binding role (newest e past))

resting-sent : (role : Role) (n : Note) → is_rest n ≡ true → IsUnspoken role (sent_fields n)
resting-sent role notes.Rest h = nothing-sent role
resting-sent role _ h = absurd (cc)

resting-release : (n : Note) → is_rest n ≡ true → released_id n ≡ None
resting-release notes.Rest h = refl
resting-release _ h = absurd (cc)

resting : (tested : Tested) (f : Fate) (e : Seen) (past : List Seen) (k : ℕ) (rule : Rule) → is_plain_session rule ≡ true → is_rest e.note ≡ true → some_asks past ≡ false → turns_with tested f e past k rule ≡ false
resting tested f e past k rule chosen rest unasked =
    never-turns tested rule (statement tested.role rule) f e past k refl (inr unasked)
    (never tested.role tested.releases tested.further rule e past chosen
    (record { unspoken = resting-sent tested.role e.note rest; unreleased = resting-release e.note rest; unpinged = unpinged tested.role e past unasked }))

one-of : (a b : Bool) → a ≡ true → (a || b) ≡ true
one-of true b h = refl
one-of false b h = absurd (cc)

other-of : (a b : Bool) → b ≡ true → (a || b) ≡ true
other-of true b h = refl
other-of false b h = h

-- all of these statements are silent, and on sessions
part-silent : (chosen : Rule → Bool) → ((rule : Rule) → chosen rule ≡ true → is_plain_session rule ≡ true) → AreSilent chosen
part-silent chosen part = record {
  quiet = λ tested f e past k rule is. silent tested f e past k rule (part rule is);
  resting = λ tested f e past k rule is. resting tested f e past k rule (part rule is);
}

none-apart : (role : Role) (rule : Rule) → (is_plain_session rule && not (is_by_session (statement role rule))) ≡ false
none-apart role S01 = refl
none-apart role _ = refl

sessions-of : (role : Role) (rule : Rule) → is_plain_session rule ≡ true → is_by_session (statement role rule) ≡ true
sessions-of role rule chosen = go (is_plain_session rule) (is_by_session (statement role rule)) (none-apart role rule) chosen
  where
    go : (a b : Bool) → (a && not b) ≡ false → a ≡ true → b ≡ true
    go true true h t = refl
    go true false h t = absurd (cc)
    go false b h t = absurd (cc)

part-sessions : (chosen : Rule → Bool) → ((rule : Rule) → chosen rule ≡ true → is_plain_session rule ≡ true) → AreOnSessions chosen
part-sessions chosen part = record { each = λ tested rule is. sessions-of tested.role rule (part rule is) }

-- their parts
plain-part : (rule : Rule) → is_plain_rule rule ≡ true → is_plain_session rule ≡ true
plain-part rule is = one-of (is_plain_rule rule) (is_plain_subscription rule) is

se-part : (rule : Rule) → is_plain_se rule ≡ true → is_plain_session rule ≡ true
se-part rule is = plain-part rule (one-of (is_plain_se rule) (is_plain_lb rule) is)

lb-part : (rule : Rule) → is_plain_lb rule ≡ true → is_plain_session rule ≡ true
lb-part rule is = plain-part rule (other-of (is_plain_se rule) (is_plain_lb rule) is)

subscription-part : (rule : Rule) → is_plain_subscription rule ≡ true → is_plain_session rule ≡ true
subscription-part rule is = other-of (is_plain_rule rule) (is_plain_subscription rule) is

pub silent_plain : AreSilent is_plain_rule
silent_plain = part-silent is_plain_rule (λ rule is. plain-part rule is)

pub silent_se : AreSilent is_plain_se
silent_se = part-silent is_plain_se (λ rule is. se-part rule is)

pub silent_lb : AreSilent is_plain_lb
silent_lb = part-silent is_plain_lb (λ rule is. lb-part rule is)

pub silent_subscription : AreSilent is_plain_subscription
silent_subscription = part-silent is_plain_subscription (λ rule is. subscription-part rule is)

pub sessions_plain : AreOnSessions is_plain_rule
sessions_plain = part-sessions is_plain_rule (λ rule is. plain-part rule is)

pub sessions_se : AreOnSessions is_plain_se
sessions_se = part-sessions is_plain_se (λ rule is. se-part rule is)

pub sessions_lb : AreOnSessions is_plain_lb
sessions_lb = part-sessions is_plain_lb (λ rule is. lb-part rule is)

pub sessions_subscription : AreOnSessions is_plain_subscription
sessions_subscription = part-sessions is_plain_subscription (λ rule is. subscription-part rule is)

-- Where no statement turns out false under the fate, nothing is added.
gains-none : (chosen : Rule → Bool) (tested : Tested) (f : Fate) (e : Seen) (past : List Seen) (at : ℕ) (faults : FaultMap) → ((k : ℕ) (r : Rule) → chosen r ≡ true → turns_with tested f e past k r ≡ false)
    → Gains (λ k r. chosen r && turns_with tested f e past k r) tested (e ∷ past) at faults faults
gains-none chosen tested f e past at faults never = gains_nothing (λ k r. chosen r && turns_with tested f e past k r) tested (e ∷ past) at faults (λ k r. go k r (chosen r) refl)
  where
    go : (k : ℕ) (r : Rule) (c : Bool) → chosen r ≡ c → (c && turns_with tested f e past k r) ≡ false
    go k r true is = never k r is
    go k r false is = refl

pub quiet-gains : (chosen : Rule → Bool) (tested : Tested) (f : Fate) (e : Seen) (past : List Seen) (at : ℕ) (faults : FaultMap) → AreSilent chosen → is_quiet tested.role e.note ≡ true
    → Gains (λ k r. chosen r && turns_with tested f e past k r) tested (e ∷ past) at faults faults
quiet-gains chosen tested f e past at faults silent quiet = gains-none chosen tested f e past at faults (λ k r is. silent.quiet tested f e past k r is quiet)

pub resting-gains : (chosen : Rule → Bool) (tested : Tested) (f : Fate) (e : Seen) (past : List Seen) (at : ℕ) (faults : FaultMap) (asked : Bool) → AreSilent chosen → (is_rest e.note && not asked) ≡ true
    → (asked ≡ false → some_asks past ≡ false) → Gains (λ k r. chosen r && turns_with tested f e past k r) tested (e ∷ past) at faults faults
resting-gains chosen tested f e past at faults asked silent finds so =
    let both = both_true (is_rest e.note) (not asked) finds in
    gains-none chosen tested f e past at faults (λ k r is. silent.resting tested f e past k r is both.0 (so (not-true asked both.1)))

-- ---- an idle event

pub record Idles (role : Role) (n : Note) : Type 0 where
  pub quiet : is_quiet role n ≡ true
  pub unasked : asks n ≡ false
  pub goes_on : is_open n ≡ false

idle-sent : (role : Role) (f : PacketFields) → ((is_client role && is_unacknowledged f) || false) ≡ true → (is_spoken_of role f ≡ false) × (is_asking f ≡ false)
idle-sent Client (Publish p) h = let t = sym (or_false (not (is_acknowledged p.qos))) ∙ h in (λ i. not (t i), λ i. not (t i))
idle-sent role _ h = absurd (cc)

idle-received : (f : PacketFields) → is_unacknowledged f ≡ true → is_asking f ≡ false
idle-received (Publish p) h = λ i. not (h i)
idle-received _ h = absurd (cc)

pub idle-idles : (role : Role) (n : Note) → is_idle role n ≡ true → Idles role n
idle-idles role (notes.Sent (items.Packet p)) h = let both = idle-sent role p.fields h in record { quiet = ap not both.0; unasked = ap (λ b. b || false) both.1; goes_on = refl }
idle-idles role (notes.Recv (items.Packet p)) h = record { quiet = refl; unasked = idle-received p.fields h; goes_on = refl }
idle-idles role _ h = absurd (cc)
