-- What is kept beside the subscriptions, with one event more; and events that say nothing of deliveries.
use Rattle.std.proofs.Common.{◌≡◌, ℕ, ◌+◌, ◌*◌, ◌≤◌, ◌==◌, arith, nat_eq, Bool, true, false, cond, ◌&&◌, ◌||◌, not, List, [], ◌∷◌, length, Option, Some, None, refl, ap, sym, ◌∙◌}
use Rattle.std.specs.Prelude.{is_some, option_map, unwrap_or}
use Rattle.std.specs.Option.{option_or}
use Rattle.std.specs.List.{list_any}
use Rattle.std.specs.Map.{lookup}
use Rattle.mq_rules.specs.declared.role.Role.TheVariants.{Server}
use Rattle.mq_rules.specs.declared.role.Tested.{Tested}
use Rattle.mq_rules.specs.declared.fate.Fate.{Fate}
use Rattle.mq_rules.specs.declared.rule.Rule.TheVariants.{B08}
use Rattle.mq_rules.specs.declared.note.Note.{Note}
use Rattle.mq_rules.specs.declared.note.Note.TheVariants as notes
use Rattle.mq_rules.specs.declared.note.Seen.{Seen}
use Rattle.mq_rules.specs.declared.packet_note.ConnackNote.{ConnackNote}
use Rattle.mq_rules.specs.declared.packet_note.PublishNote.{PublishNote}
use Rattle.mq_rules.specs.Words.{is_some_and, is_id, only}
use Rattle.mq_rules.specs.Notes.{connack_of, is_boundary, is_close, is_open, received_subscription, receives_unclear, sent_connack, sent_grant, sent_publish}
use Rattle.mq_rules.specs.Moments.{Moment, newest}
use Rattle.mq_rules.specs.Connections.{accepts, begins, first_connack, on_open, IsOnConnection}
use Rattle.mq_rules.specs.Pasts.{set_alias}
use Rattle.mq_rules.specs.Subscriptions.{is_shared}
use Rattle.mq_rules.specs.Rules.{binds}
use Rattle.mq_rules.specs.Under.{fate_before}
use Rattle.mq_rules.proofs.Exports.{and_false, has_item, on_open-fold, option_or-none, or_false}
use Rattle.mq_filters.specs.Standings.{allows}
use Rattle.mq_fates.proofs.Exports.{neither, nothing as nothing-there, only-none}
use Rattle.mq_subscriptions.specs.declared.subscribed.Subscriptions.{Subscriptions}
use Rattle.mq_subscriptions.specs.declared.matching.verdicts.Verdicts.{Verdicts}
use Rattle.mq_subscriptions.specs.Burden.{subscribed_count, identified_count, asked_filters, aliased_ids, matching_burden}
use Rattle.mq_subscriptions.specs.Concerns.{has_delivery, concerns_matching}
use Rattle.mq_subscriptions.specs.Matchings.{serves, some_waits, settled_asked, settled_granted, identifier_in, waiting_packet, asks_in}
use Rattle.mq_subscriptions.specs.Firsts.{first_next}
use Rattle.mq_subscriptions.specs.Standings.{goes_on, sharing_next, topic_next}
use Rattle.mq_subscriptions.specs.Deletings.{unclear_next, requests_under, answers_under}
use Rattle.mq_subscriptions.specs.Subscribings.{set_of, TakesInEvent}
use Rattle.mq_subscriptions.specs.Verdicts.{nothing, of_event, of_note, of_publish, refuses_identifiers, refusing_next, IsBeside, TakesBeside}
use Rattle.mq_subscriptions.proofs.DeletionLaws.{unclear-step}
use Rattle.mq_subscriptions.proofs.StandingLaws.{sharing-is, topic-is}

-- ---- one event more

-- what the first CONNACK of the open connection says of Subscription Identifiers
refusing-is : (e : Seen) (past : List Seen) → IsOnConnection e past → option_map refuses_identifiers (first_connack Server (on_open (e ∷ past))) ≡ refusing_next e.note (option_map refuses_identifiers (first_connack Server (on_open past)))
refusing-is e past on = on_open-fold said (λ o. option_or o (option_map refuses_identifiers (connack_of Server e.note))) e past (λ ms. mapped (first_connack Server ms) (connack_of Server e.note)) (idle e.note) on
  where
    said : List Moment → Option Bool
    said ms = option_map refuses_identifiers (first_connack Server ms)

    mapped : (a b : Option ConnackNote) → option_map refuses_identifiers (option_or a b) ≡ option_or (option_map refuses_identifiers a) (option_map refuses_identifiers b)
    mapped None b = refl
    mapped (Some a) b = refl

    idle : (n : Note) → has_item n ≡ false → option_or None (option_map refuses_identifiers (connack_of Server n)) ≡ None
    idle (notes.Sent item) h = absurd (cc)
    idle (notes.Recv item) h = absurd (cc)
    idle _ h = refl

pub beside-next : (tested : Tested) (fate : Fate) (e : Seen) (past : List Seen) → IsOnConnection e past → (sharing shares unclear next : Bool) (refusing refuses : Option Bool) (topics known : ℕ → Option (List ℕ))
    → TakesBeside fate e.note sharing shares unclear next refusing refuses topics known → IsBeside sharing unclear refusing topics tested (fate_before tested fate e past) past
    → IsBeside shares next refuses known tested (Some fate) (e ∷ past)
beside-next tested fate e past on sharing shares unclear next refusing refuses topics known t s = record {
  sharing_is = t.sharing_is ∙ ap (sharing_next fate e.note) s.sharing_is ∙ sym (sharing-is tested fate e past on);
  unclear_is = t.unclear_is ∙ ap (unclear_next fate e.note) s.unclear_is ∙ sym (unclear-step tested fate e past on);
  refusing_is = t.refusing_is ∙ ap (refusing_next e.note) s.refusing_is ∙ sym (refusing-is e past on);
  topics_are = λ alias. t.topics_are alias ∙ ap (topic_next e.note alias) (s.topics_are alias) ∙ sym (topic-is alias e past on);
}

-- ---- an event that says nothing of deliveries

-- no SUBSCRIBE and no SUBACK, no PUBLISH and no CONNACK that is sent, and no bytes that may be a request
pub record IsIdle (n : Note) : Type 0 where
  pub inside : is_boundary n ≡ false
  pub subscribe : received_subscription n ≡ None
  pub grant : sent_grant n ≡ None
  pub publish : sent_publish n ≡ None
  pub connack : sent_connack n ≡ None
  pub clear : receives_unclear n ≡ false

idle-if : (n : Note) → has_delivery n ≡ false → IsIdle n
idle-if n h =
    let h1 = neither (is_boundary n) ((is_some (received_subscription n) || is_some (sent_grant n)) || ((is_some (sent_publish n) || is_some (sent_connack n)) || receives_unclear n)) h in
    let h2 = neither (is_some (received_subscription n) || is_some (sent_grant n)) ((is_some (sent_publish n) || is_some (sent_connack n)) || receives_unclear n) h1.1 in
    let h3 = neither (is_some (received_subscription n)) (is_some (sent_grant n)) h2.0 in
    let h4 = neither (is_some (sent_publish n) || is_some (sent_connack n)) (receives_unclear n) h2.1 in
    let h5 = neither (is_some (sent_publish n)) (is_some (sent_connack n)) h4.0 in
    record { inside = h1.0; subscribe = nothing-there (received_subscription n) h3.0; grant = nothing-there (sent_grant n) h3.1; publish = nothing-there (sent_publish n) h5.0; connack = nothing-there (sent_connack n) h5.1; clear = h4.1 }

pub idle-judged : (tested : Tested) (n : Note) (bound : Bool) → concerns_matching tested n ≡ false → bound ≡ binds B08 tested → bound ≡ true → IsIdle n
idle-judged tested n bound h judged is = idle-if n (ap (λ b. b && has_delivery n) (sym is ∙ judged) ∙ h)

unopened : (n : Note) → IsIdle n → is_open n ≡ false
unopened n q = (neither (is_open n) (is_close n) q.inside).0

-- it leaves all as it is
pub idle-beside : (f : Fate) (n : Note) → IsIdle n → (sharing unclear : Bool) (refusing : Option Bool) (topics : ℕ → Option (List ℕ)) → TakesBeside f n sharing sharing unclear unclear refusing refusing topics topics
idle-beside f n q sharing unclear refusing topics = record {
  sharing_is = sym (
      ap (λ o. (accepts f && is_some_and (λ s. list_any is_shared s.filters) o) || (goes_on f n && sharing)) q.subscribe
      ∙ ap (λ b. b || (goes_on f n && sharing)) (and_false (accepts f))
      ∙ ap (λ b. not (b && begins (Some f)) && sharing) (unopened n q));
  unclear_is = sym (ap (λ b. b || (goes_on f n && unclear)) q.clear ∙ ap (λ b. not (b && begins (Some f)) && unclear) (unopened n q));
  refusing_is = sym (
      ap (λ o. option_or (cond (is_boundary n) None refusing) (option_map refuses_identifiers o)) q.connack
      ∙ ap (λ b. option_or (cond b None refusing) None) q.inside
      ∙ option_or-none refusing);
  topics_are = λ alias. sym (
      ap (λ o. option_or (only (is_id alias (set_alias n)) (option_map (λ (p : PublishNote). p.topic) o)) (cond (is_boundary n) None (topics alias))) q.publish
      ∙ ap (λ o. option_or o (cond (is_boundary n) None (topics alias))) (only-none {A = List ℕ} (is_id alias (set_alias n)))
      ∙ ap (λ b. cond b None (topics alias)) q.inside);
}

pub idle-takes : (f : Fate) (n : Note) → IsIdle n → (s : Subscriptions) → TakesInEvent f n s s
idle-takes f n q s = record {
  sets_next = λ kind among qos.
      let old = list_any (allows among qos) (set_of s.settled kind) in
      let test = serves kind among qos in
      sym (
      ap (λ b. cond b (goes_on f n && (old || some_waits test s.waiting.entries)) (cond (accepts f) (old || (settled_asked test s.waiting.entries (identifier_in n) (received_subscription n) || settled_granted test s.waiting.entries (sent_grant n))) old)) q.inside
      ∙ ap (λ o. cond (accepts f) (old || (settled_asked test s.waiting.entries (identifier_in n) o || settled_granted test s.waiting.entries (sent_grant n))) old) q.subscribe
      ∙ ap (λ o. cond (accepts f) (old || settled_granted test s.waiting.entries o) old) q.grant
      ∙ ap (λ b. cond (accepts f) b old) (or_false old)
      ∙ either (accepts f) old);
  waiting_next_is = λ i.
      let old = lookup (nat_eq i) s.waiting.entries in
      sym (
      ap (λ b. cond b None (cond (accepts f) (waiting_packet n i old) old)) q.inside
      ∙ ap (λ o. cond (accepts f) (first_next false (requests_under i o) (answers_under i (sent_grant n)) (asks_in n) old) old) q.subscribe
      ∙ ap (λ o. cond (accepts f) (first_next false false (answers_under i o) (asks_in n) old) old) q.grant
      ∙ ap (λ o. cond (accepts f) o old) (option_or-none old)
      ∙ either (accepts f) old);
  distinct = λ boundary goes. absurd (let inside = q.inside in cc);
}
  where
    either : {A : Type 0} (b : Bool) (a : A) → cond b a a ≡ a
    either true a = refl
    either false a = refl

-- it says nothing that is judged
pub idle-event : (bound : Bool) (f : Fate) (unclear : Bool) (say : PublishNote → List ℕ → Verdicts) (topics : ℕ → Option (List ℕ)) (n : Note) → (bound ≡ true → IsIdle n) → nothing ≡ of_event bound f unclear say topics n
idle-event false f unclear say topics n q = refl
idle-event true f unclear say topics n q = sym (ap (λ v. cond (accepts f) (cond unclear nothing v) nothing) none ∙ by (accepts f) unclear)
  where
    none : of_note say topics n ≡ nothing
    none = ap (λ o. unwrap_or (option_map (of_publish say topics) o) nothing) (q refl).publish

    by : (a u : Bool) → cond a (cond u nothing nothing) nothing ≡ nothing
    by true true = refl
    by true false = refl
    by false u = refl

-- ---- how much is kept

pub matching-within : (tested : Tested) (bound : Bool) (taken : Option Fate) (past : List Seen) (weighs kept topics : ℕ) → bound ≡ binds B08 tested → (bound ≡ false → weighs ≡ 0) → weighs ≡ kept + topics
    → (bound ≡ true → kept ≤ 4 * subscribed_count tested.role taken past + identified_count tested.role taken past + asked_filters past) → (bound ≡ true → topics ≤ aliased_ids past) → weighs ≤ 4 * matching_burden tested taken past
matching-within tested true taken past weighs kept topics is none sum a b =
    let burden : matching_burden tested taken past ≡ subscribed_count tested.role taken past + identified_count tested.role taken past + asked_filters past + aliased_ids past = ap (λ b. cond b (subscribed_count tested.role taken past + identified_count tested.role taken past + asked_filters past + aliased_ids past) 0) (sym is) in
    let x = a refl in let y = b refl in
    omega (arith, burden, sum, x, y)
matching-within tested false taken past weighs kept topics is none sum a b = let zero = none refl in omega (arith, zero)
