-- Identifiers that are open in a session.
use Rattle.std.proofs.Common.{◌≡◌, ℕ, ◌<◌, nat_lt, arith, Bool, true, false, cond, ◌&&◌, ◌||◌, not, List, [], ◌∷◌, Option, Some, None, refl, ap, sym, ◌∙◌, subst, inl, inr}
use Rattle.std.specs.Prelude.{is_some}
use Rattle.std.specs.Option.{option_and_then}
use Rattle.std.proofs.lemmas.Bool.{eq-eqb}
use Rattle.mq_rules.specs.declared.role.Role.{Role}
use Rattle.mq_rules.specs.declared.role.Tested.{Tested}
use Rattle.mq_rules.specs.declared.fate.Fate.{Fate}
use Rattle.mq_rules.specs.declared.note.Note.{Note}
use Rattle.mq_rules.specs.declared.note.Note.TheVariants as notes
use Rattle.mq_rules.specs.declared.note.ItemNote.TheVariants as items
use Rattle.mq_rules.specs.declared.note.Seen.{Seen}
use Rattle.mq_rules.specs.declared.packet_note.PacketFields.{PacketFields}
use Rattle.mq_rules.specs.declared.packet_note.PacketFields.TheVariants.{Publish}
use Rattle.mq_rules.specs.declared.packet_note.PublishNote.{PublishNote}
use Rattle.mq_rules.specs.Words.{is_id, only}
use Rattle.mq_rules.specs.Notes.{is_open, is_release, opener_of, delivery_of, opener_in, delivery_in, publish_in, pubrel_in, accepting_pubrec_in, sent_as, received_as}
use Rattle.mq_rules.specs.Moments.{Moment, note, position, is_same, since, latest, Among, IsDescending}
use Rattle.mq_rules.specs.Connections.{latest_fate, accepts, begins, voided, any_accepted, has_session, session}
use Rattle.mq_rules.specs.Folds.{where_in}
use Rattle.mq_rules.specs.Identifiers.{opens_id, closes_id, delivers, sends_pubrel, sends_again}
use Rattle.mq_inflight.specs.Resending.{bounded_at}
use Rattle.mq_rules.proofs.Exports.{differ, or_left, under-next}
use Rattle.mq_inflight.specs.declared.inflight.entry.Entry.{Entry}
use Rattle.mq_rules.specs.Under.{fate_before}
use Rattle.mq_inflight.specs.Opened.{opened_by, sent_if, released_if, confirmed_if, closed_if, opened_if, sends_exactly_once, sends_retained, confirms, moves, entry_after, entry_in, entry_next}

-- ---- one event

-- an OPEN and a RELEASE change nothing
idle : (bounded i : ℕ) (n : Note) (old : Option Entry) (e : Seen) → (is_open n || is_release n) ≡ true → entry_after bounded i n e.place old ≡ old
idle bounded i notes.Open None e h = refl
idle bounded i notes.Open (Some o) e h = refl
idle bounded i (notes.Release identifier) None e h = refl
idle bounded i (notes.Release identifier) (Some o) e h = refl
idle bounded i (notes.Close cuts part) old e h = absurd (cc)
idle bounded i notes.Rest old e h = absurd (cc)
idle bounded i (notes.Sent item) old e h = absurd (cc)
idle bounded i (notes.Recv item) old e h = absurd (cc)

only-is : (i : ℕ) (b : Bool) (o : Option ℕ) → is_id i (only b o) ≡ true → is_id i o ≡ true
only-is i true o h = h
only-is i false o h = absurd (cc)

-- an opener is a PUBLISH
pub opener-delivers : (i : ℕ) (n : Note) → is_id i (opener_of n) ≡ true → is_id i (delivery_of n) ≡ true
opener-delivers i notes.Open h = absurd (cc)
opener-delivers i (notes.Close cuts part) h = absurd (cc)
opener-delivers i notes.Rest h = absurd (cc)
opener-delivers i (notes.Release identifier) h = absurd (cc)
opener-delivers i (notes.Recv item) h = absurd (cc)
opener-delivers i (notes.Sent (items.Bad first rule at large)) h = absurd (cc)
opener-delivers i (notes.Sent items.Lost) h = absurd (cc)
opener-delivers i (notes.Sent (items.Packet p)) h = go (publish_in p.fields) h
  where
    go : (o : Option PublishNote) → is_id i (option_and_then opener_in o) ≡ true → is_id i (option_and_then delivery_in o) ≡ true
    go None h = absurd (cc)
    go (Some q) h = only-is i (not q.duplicate) (delivery_in q) h

-- and no PUBREL
opener-releases : (i : ℕ) (n : Note) → is_id i (opener_of n) ≡ true → is_id i (sent_as pubrel_in n) ≡ false
opener-releases i notes.Open h = refl
opener-releases i (notes.Close cuts part) h = refl
opener-releases i notes.Rest h = refl
opener-releases i (notes.Release identifier) h = refl
opener-releases i (notes.Recv item) h = refl
opener-releases i (notes.Sent (items.Bad first rule at large)) h = refl
opener-releases i (notes.Sent items.Lost) h = refl
opener-releases i (notes.Sent (items.Packet p)) h = go p.fields h
  where
    go : (x : PacketFields) → is_id i (option_and_then opener_in (publish_in x)) ≡ true → is_id i (pubrel_in x) ≡ false
    go (Publish q) h = refl
    go _ h = absurd (cc)

-- nor a PUBREC
opener-confirms : (i : ℕ) (n : Note) → is_id i (opener_of n) ≡ true → is_id i (received_as accepting_pubrec_in n) ≡ false
opener-confirms i (notes.Recv item) h = absurd (cc)
opener-confirms i _ h = refl

-- ---- what is kept, with one event more

pub entry-under : (tested : Tested) (f : Fate) (i : ℕ) (old : Option Entry) (e : Seen) (past : List Seen) → old ≡ entry_in tested.role i (session tested.role (fate_before tested f e past) past)
    → entry_next f e.note (bounded_at tested.role past) e.place i old ≡ entry_in tested.role i (session tested.role (Some f) (e ∷ past))
entry-under tested f i old e past h = sym (under-next (λ (m : Moment) (o : Option Entry). entry_after (bounded_at tested.role m.past) i (note m) m.event.place o) None tested.role (Some f) e past ∙ go (is_open e.note) refl h)
  where
    then : Option Fate → Option Entry
    then o = entry_in tested.role i (session tested.role o past)

    kept : (b : Bool) (x : Option Entry) → (is_open e.note || is_release e.note) ≡ true → where_in b (entry_after (bounded_at tested.role past) i e.note e.place) x ≡ x
    kept true x n = idle (bounded_at tested.role past) i e.note x e n
    kept false x n = refl

    or_true : (b : Bool) → (b || true) ≡ true
    or_true true = refl
    or_true false = refl

    apart : (a r y : Bool) (x : Option Entry) → is_release e.note ≡ r → where_in (a || (r && y)) (entry_after (bounded_at tested.role past) i e.note e.place) x ≡ where_in a (entry_after (bounded_at tested.role past) i e.note e.place) x
    apart true r y x n = refl
    apart false true true x n = idle (bounded_at tested.role past) i e.note x e (ap (λ b. is_open e.note || b) n ∙ or_true (is_open e.note))
    apart false true false x n = refl
    apart false false y x n = refl

    taken : (a : Bool) → old ≡ then (Some f) → where_in a (entry_after (bounded_at tested.role past) i e.note e.place) (then (Some f)) ≡ cond a (entry_after (bounded_at tested.role past) i e.note e.place old) old
    taken true h = ap (entry_after (bounded_at tested.role past) i e.note e.place) (sym h)
    taken false h = sym h

    go : (b : Bool) → is_open e.note ≡ b → old ≡ then (cond b (latest_fate tested.role past) (Some f))
        → where_in (has_session tested.role (Some f) e past) (entry_after (bounded_at tested.role past) i e.note e.place) (cond b (cond (begins (Some f)) None (then (latest_fate tested.role past))) (then (Some f)))
        ≡ cond b (cond (begins (Some f)) None old) (cond (accepts f) (entry_after (bounded_at tested.role past) i e.note e.place old) old)
    go true n h = kept (has_session tested.role (Some f) e past) (cond (begins (Some f)) None (then (latest_fate tested.role past))) (ap (λ b. b || is_release e.note) n) ∙ ap (cond (begins (Some f)) None) (sym h)
    go false n h = apart (accepts f) (is_release e.note) (voided (Some f) && any_accepted tested.role (Some f) past) (then (Some f)) refl ∙ taken (accepts f) h

-- ---- what is kept says what came before

still : (a b c : Bool) (bounded at : ℕ) (x : Option Entry) → is_some (confirmed_if a (released_if b bounded at (sent_if c bounded at x))) ≡ is_some x
still a b c bounded at None = refl
still a b c bounded at (Some o) = refl

-- something is kept exactly if the identifier is open
pub entry-there : (role : Role) (i : ℕ) (ms : List Moment) → is_some (entry_in role i ms) ≡ since (opens_id i) (closes_id i) ms
entry-there role i [] = refl
entry-there role i (m ∷ ms) = go (opens_id i m) (closes_id i m) (entry-there role i ms)
  where
    touched : Option Entry
    touched = confirmed_if (confirms i m) (released_if (sends_pubrel i m) (bounded_at role m.past) m.event.place.position (sent_if (delivers i m) (bounded_at role m.past) m.event.place.position (entry_in role i ms)))

    go : (b c : Bool) → is_some (entry_in role i ms) ≡ since (opens_id i) (closes_id i) ms → is_some (opened_if b (sends_exactly_once (note m)) (sends_retained (note m)) m.event.place (closed_if c touched)) ≡ (b || (not c && since (opens_id i) (closes_id i) ms))
    go true c rest = refl
    go false true rest = refl
    go false false rest = still (confirms i m) (sends_pubrel i m) (delivers i m) (bounded_at role m.past) m.event.place.position (entry_in role i ms) ∙ rest

-- what is kept of an identifier that is open after these moments of its session
pub record IsEntry (i : ℕ) (ms : List Moment) (o : Entry) : Type 0 where
  pub opener : Moment
  pub there : Among opener ms
  pub begins_it : opens_id i opener ≡ true
  pub is_latest : latest (opens_id i) ms ≡ Some opener
  pub unmoved : since (is_same opener) (moves i) ms ≡ true
  pub same_place : o.place ≡ opener.event.place
  pub same_quality : o.exactly_once ≡ sends_exactly_once (note opener)
  pub same_retained : o.retained ≡ sends_retained (note opener)
  pub is_released : o.released ≡ since (sends_pubrel i) (opens_id i) ms
  pub since_confirmed : o.confirmed ≡ since (confirms i) (opens_id i) ms
  pub is_confirmed : not o.confirmed ≡ since (is_same opener) (confirms i) ms
  pub is_sent : (s : Moment) × (latest (sends_again i) ms ≡ Some s) × (o.sent ≡ s.event.place.position)

pub entry-is : (role : Role) (i : ℕ) (ms : List Moment) (o : Entry) → IsDescending ms → entry_in role i ms ≡ Some o → IsEntry i ms o
entry-is role i [] o d h = absurd (cc)
entry-is role i (m ∷ ms) o d h = go (opens_id i m) refl (closes_id i m) refl (entry_in role i ms) (λ x is. entry-is role i ms x d.1 is) h
  where
    touched : Option Entry → Option Entry
    touched x = confirmed_if (confirms i m) (released_if (sends_pubrel i m) (bounded_at role m.past) m.event.place.position (sent_if (delivers i m) (bounded_at role m.past) m.event.place.position x))

    new : opens_id i m ≡ true → IsEntry i (m ∷ ms) (opened_by (sends_exactly_once (note m)) (sends_retained (note m)) m.event.place)
    new t = record {
      opener = m;
      there = inl refl;
      begins_it = t;
      is_latest = ap (λ b. cond b (Some m) (latest (opens_id i) ms)) t;
      unmoved = or_left (is_same m m) (not (moves i m) && since (is_same m) (moves i) ms) (eq-eqb (position m) (position m) refl);
      same_place = refl;
      same_quality = refl;
      same_retained = refl;
      is_released = sym (ap (λ b. sends_pubrel i m || (not b && since (sends_pubrel i) (opens_id i) ms)) t ∙ ap (λ b. b || false) (opener-releases i (note m) t));
      since_confirmed = sym (ap (λ b. confirms i m || (not b && since (confirms i) (opens_id i) ms)) t ∙ ap (λ b. b || false) (opener-confirms i (note m) t));
      is_confirmed = sym (or_left (is_same m m) (not (confirms i m) && since (is_same m) (confirms i) ms) (eq-eqb (position m) (position m) refl));
      is_sent = (m, ap (λ b. cond b (Some m) (latest (sends_again i) ms)) (or_left (delivers i m) (sends_pubrel i m) (opener-delivers i (note m) t)), refl);
    }

    sender : (p : Entry) (a b : Bool) (s : Moment) → latest (sends_again i) ms ≡ Some s → p.sent ≡ s.event.place.position
        → (x : Moment) × (cond (a || b) (Some m) (latest (sends_again i) ms) ≡ Some x) × (cond b m.event.place.position (cond a m.event.place.position p.sent) ≡ x.event.place.position)
    sender p true true s l q = (m, refl, refl)
    sender p true false s l q = (m, refl, refl)
    sender p false true s l q = (m, refl, refl)
    sender p false false s l q = (s, l, q)

    unsure : (c q : Bool) (s : Bool) → not q ≡ s → not (c || q) ≡ (not c && s)
    unsure true q s h = refl
    unsure false q s h = h

    older : (p : Entry) → opens_id i m ≡ false → closes_id i m ≡ false → IsEntry i ms p
        → IsEntry i (m ∷ ms) (record { place = p.place; exactly_once = p.exactly_once; retained = p.retained; confirmed = confirms i m || p.confirmed; released = sends_pubrel i m || p.released; passed = (sends_pubrel i m && nat_lt (cond (delivers i m) m.event.place.position p.sent) (bounded_at role m.past)) || ((delivers i m && nat_lt p.sent (bounded_at role m.past)) || p.passed); sent = cond (sends_pubrel i m) m.event.place.position (cond (delivers i m) m.event.place.position p.sent); published = cond (delivers i m) m.event.place.position p.published })
    older p t u r =
        let before : position r.opener < position m = d.0 r.opener r.there in
        let other : is_same r.opener m ≡ false = differ (position r.opener) (position m) (λ same. absurd (omega arith)) in
        record {
          opener = r.opener;
          there = inr r.there;
          begins_it = r.begins_it;
          is_latest = ap (λ b. cond b (Some m) (latest (opens_id i) ms)) t ∙ r.is_latest;
          unmoved = ap (λ b. b || (not (moves i m) && since (is_same r.opener) (moves i) ms)) other ∙ ap (λ b. not (b || closes_id i m) && since (is_same r.opener) (moves i) ms) t ∙ ap (λ b. not b && since (is_same r.opener) (moves i) ms) u ∙ r.unmoved;
          same_place = r.same_place;
          same_quality = r.same_quality;
          same_retained = r.same_retained;
          is_released = ap (λ b. sends_pubrel i m || b) r.is_released ∙ sym (ap (λ b. sends_pubrel i m || (not b && since (sends_pubrel i) (opens_id i) ms)) t);
          since_confirmed = ap (λ b. confirms i m || b) r.since_confirmed ∙ sym (ap (λ b. confirms i m || (not b && since (confirms i) (opens_id i) ms)) t);
          is_confirmed = unsure (confirms i m) p.confirmed (since (is_same r.opener) (confirms i) ms) r.is_confirmed ∙ sym (ap (λ b. b || (not (confirms i m) && since (is_same r.opener) (confirms i) ms)) other);
          is_sent = sender p (delivers i m) (sends_pubrel i m) r.is_sent.0 r.is_sent.1 r.is_sent.2;
        }

    go : (b : Bool) → opens_id i m ≡ b → (c : Bool) → closes_id i m ≡ c → (x : Option Entry) → ((p : Entry) → x ≡ Some p → IsEntry i ms p)
        → opened_if b (sends_exactly_once (note m)) (sends_retained (note m)) m.event.place (closed_if c (touched x)) ≡ Some o → IsEntry i (m ∷ ms) o
    go true t c u x rest h = let same : opened_by (sends_exactly_once (note m)) (sends_retained (note m)) m.event.place ≡ o = cc in subst (IsEntry i (m ∷ ms)) same (new t)
    go false t true u x rest h = absurd (cc)
    go false t false u None rest h = absurd (cc)
    go false t false u (Some p) rest h =
        let same : record { place = p.place; exactly_once = p.exactly_once; retained = p.retained; confirmed = confirms i m || p.confirmed; released = sends_pubrel i m || p.released; passed = (sends_pubrel i m && nat_lt (cond (delivers i m) m.event.place.position p.sent) (bounded_at role m.past)) || ((delivers i m && nat_lt p.sent (bounded_at role m.past)) || p.passed); sent = cond (sends_pubrel i m) m.event.place.position (cond (delivers i m) m.event.place.position p.sent); published = cond (delivers i m) m.event.place.position p.published } ≡ o = cc in
        subst (IsEntry i (m ∷ ms)) same (older p t u (rest p refl))
