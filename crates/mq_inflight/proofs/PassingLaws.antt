-- What was passed over, of what is kept of an identifier.
use Rattle.std.proofs.Common.{◌≡◌, ℕ, ◌+◌, ◌<◌, ◌≤◌, nat_lt, arith, Bool, true, false, cond, ◌&&◌, ◌||◌, not, List, [], ◌∷◌, length, Option, Some, None, refl, ap, sym, ◌∙◌}
use Rattle.std.specs.Prelude.{is_some}
use Rattle.std.specs.Option.{option_and_then}
use Rattle.std.proofs.lemmas.Bool.{ltb-true, ltb-false, le-ltb, lt-ltb}
use Rattle.mq_log.specs.declared.place.Place3.{Place3}
use Rattle.mq_rules.specs.declared.role.Role.{Role}
use Rattle.mq_rules.specs.declared.role.Role.TheVariants.{Client, Server}
use Rattle.mq_rules.specs.declared.fate.Fate.{Fate}
use Rattle.mq_rules.specs.declared.fate.Fate.TheVariants.{Void, Adrift, New, Forgotten, Resumed, Unasked, Unknown}
use Rattle.mq_rules.specs.declared.note.Note.{Note}
use Rattle.mq_rules.specs.declared.note.Seen.{Seen}
use Rattle.mq_rules.specs.declared.packet_note.ConnectNote.{ConnectNote}
use Rattle.mq_rules.specs.declared.packet_note.ConnackNote.{ConnackNote}
use Rattle.mq_rules.specs.Words.{is_some_and, is_id}
use Rattle.mq_rules.specs.Notes.{is_open, opener_of, closer_of, delivery_of, sent_as, received_as, pubrel_in, accepting_pubrec_in}
use Rattle.mq_rules.specs.Moments.{Moment, position, some, IsPlaced}
use Rattle.mq_rules.specs.Connections.{begun, connection, latest_fate, accepts, resumes, resumed, begins, first_connect, first_connack, session}
use Rattle.mq_rules.specs.Identifiers.{sends_again, announces_bound, is_passed_over}
use Rattle.mq_rules.specs.Passing.{opened_at, passes, passed_before}
use Rattle.mq_rules.proofs.Exports.{and_false, or_false, passed-none, passed-opens, passed-stays, passed_over-is, session-descend}
use Rattle.mq_inflight.specs.declared.inflight.entry.Entry.{Entry}
use Rattle.mq_inflight.specs.declared.inflight.resends.Bounds.{Bounds}
use Rattle.mq_inflight.specs.Opened.{entry_in, entry_after, entry_next, opened_if, closed_if, confirmed_if, released_if, sent_if, sends_exactly_once, sends_retained}
use Rattle.mq_inflight.specs.Resending.{connect_bounds, connack_bounds, peer_bounds, is_limited, passed_since, bounded_at, is_passed}
use Rattle.mq_inflight.proofs.OpenedLaws.{entry-is, IsEntry}
use Rattle.mq_inflight.proofs.DueLaws.{opened-within, opener-before, opener-place, sent-again}

-- ---- bounds

announces-kept : (role : Role) (past : List Seen) → announces_bound role (connection past) ≡ is_limited (peer_bounds role past)
announces-kept Client past = go (first_connack Client (connection past))
  where
    go : (o : Option ConnackNote) → is_some_and (λ a. is_some a.maximum_packet_size || is_some a.maximum_qos) o ≡ is_limited (connack_bounds o)
    go None = refl
    go (Some a) = refl
announces-kept Server past = go (first_connect Server (connection past))
  where
    go : (o : Option ConnectNote) → is_some_and (λ c. is_some c.maximum_packet_size) o ≡ is_limited (connect_bounds o)
    go None = refl
    go (Some c) = refl

pub bounded-within : (role : Role) (past : List Seen) → bounded_at role past ≤ opened_at past
bounded-within role [] = omega arith
bounded-within role (e ∷ past) = go (is_open e.note) (resumed (latest_fate role past) && is_limited (peer_bounds role past)) (bounded-within role past) (opened-within past)
  where
    go : (b l : Bool) → bounded_at role past ≤ opened_at past → opened_at past ≤ length past → cond (b && l) (opened_at past) (bounded_at role past) ≤ cond b (length past + 1) (opened_at past)
    go true true le within = omega (arith, within)
    go true false le within = omega (arith, le, within)
    go false l le within = le

or_true : (b : Bool) → (b || true) ≡ true
or_true true = refl
or_true false = refl

-- the latest connection and those before it together
since-latest : (passed resumed limited : Bool) (p sent opened bounded : ℕ) → p ≤ sent → bounded ≤ opened
    → ((passed || nat_lt sent bounded) || (nat_lt p opened && (resumed && (limited && not (not (nat_lt sent opened)))))) ≡ (passed || nat_lt sent (cond (resumed && limited) opened bounded))
since-latest true r l p sent opened bounded order within = refl
since-latest false false l p sent opened bounded order within = ap (λ b. nat_lt sent bounded || b) (and_false (nat_lt p opened)) ∙ or_false (nat_lt sent bounded)
since-latest false true false p sent opened bounded order within = ap (λ b. nat_lt sent bounded || b) (and_false (nat_lt p opened)) ∙ or_false (nat_lt sent bounded)
since-latest false true true p sent opened bounded order within = go (nat_lt sent opened) refl
  where
    go : (b : Bool) → nat_lt sent opened ≡ b → (nat_lt sent bounded || (nat_lt p opened && not (not b))) ≡ b
    go true t =
        let lt = ltb-true sent opened t in
        ap (λ b. nat_lt sent bounded || (b && true)) (lt-ltb p opened (omega (arith, lt, order))) ∙ or_true (nat_lt sent bounded)
    go false t =
        let late = ltb-false sent opened t in
        ap (λ b. b || (nat_lt p opened && false)) (le-ltb sent bounded (omega (arith, late, within))) ∙ and_false (nat_lt p opened)

pub resumed-accepts : (f : Fate) → resumes f ≡ true → accepts f ≡ true
resumed-accepts Void h = absurd (cc)
resumed-accepts Adrift h = absurd (cc)
resumed-accepts New h = absurd (cc)
resumed-accepts Forgotten h = absurd (cc)
resumed-accepts Resumed h = refl
resumed-accepts Unasked h = refl
resumed-accepts Unknown h = absurd (cc)

-- ---- what the latest connection adds

-- of what is open on it, by what was passed over before
pub over-latest : (role : Role) (f : Fate) (i : ℕ) (past : List Seen) → IsPlaced past → (o : Entry) → (accepts f ≡ true → IsEntry i (session role (Some f) past) o) → is_passed (bounded_at role past) o ≡ passed_before role i o.place.position past
    → (passed_before role i o.place.position past || (nat_lt o.place.position (opened_at past) && (resumes f && (announces_bound role (connection past) && not (some (sends_again i) (connection past))))))
    ≡ is_passed (passed_since f (peer_bounds role past) (opened_at past) (bounded_at role past)) o
over-latest role f i past placed o r before = go (resumes f) refl
  where
    earlier : Bool
    earlier = passed_before role i o.place.position past

    go : (b : Bool) → resumes f ≡ b → (earlier || (nat_lt o.place.position (opened_at past) && (b && (announces_bound role (connection past) && not (some (sends_again i) (connection past))))))
        ≡ is_passed (cond (b && is_limited (peer_bounds role past)) (opened_at past) (bounded_at role past)) o
    go false h = ap (λ b. earlier || b) (and_false (nat_lt o.place.position (opened_at past))) ∙ or_false earlier ∙ sym before
    go true h =
        let a = resumed-accepts f h in
        ap (λ b. earlier || (nat_lt o.place.position (opened_at past) && (true && (b && not (some (sends_again i) (connection past)))))) (announces-kept role past)
        ∙ ap (λ b. earlier || (nat_lt o.place.position (opened_at past) && (true && (is_limited (peer_bounds role past) && not b)))) (sent-again role f a i past placed o (r a))
        ∙ ap (λ b. b || (nat_lt o.place.position (opened_at past) && (true && (is_limited (peer_bounds role past) && not (not (nat_lt o.sent (opened_at past))))))) (sym before)
        ∙ since-latest o.passed true (is_limited (peer_bounds role past)) o.place.position o.sent (opened_at past) (bounded_at role past) (opener-before role (Some f) i past placed o (r a)) (bounded-within role past)

pub over-is : (role : Role) (f : Fate) → accepts f ≡ true → (i : ℕ) (past : List Seen) → IsPlaced past → (o : Entry) → (r : IsEntry i (session role (Some f) past) o) → is_passed (bounded_at role past) o ≡ passed_before role i o.place.position past
    → is_passed_over role (Some f) i past r.opener ≡ is_passed (passed_since f (peer_bounds role past) (opened_at past) (bounded_at role past)) o
over-is role f a i past placed o r before =
    passed_over-is role (Some f) i past r.opener
    ∙ ap (λ p. passed_before role i p past || (nat_lt p (opened_at past) && (resumes f && (announces_bound role (connection past) && not (some (sends_again i) (connection past)))))) (sym (opener-place role (Some f) i past placed o r))
    ∙ over-latest role f i past placed o (λ t. r) before

-- ---- one event more

abbrev after : Bool → Bool → Bool → Bool → Bool → Bool → Bool → ℕ → Place3 → Option Entry → Option Entry
after opens closes confirms releases sends exactly_once retained bounded place old =
    opened_if opens exactly_once retained place (closed_if closes (confirmed_if confirms (released_if releases bounded place.position (sent_if sends bounded place.position old))))

-- what an event of a session does changes nothing of it, and nothing was passed over that is opened
passed-after : (o x c p d q r : Bool) (bounded : ℕ) (place : Place3) (old : Option Entry) (was : ℕ → Bool) → bounded ≤ place.position → was place.position ≡ false
    → ((e : Entry) → old ≡ Some e → is_passed bounded e ≡ was e.place.position) → (e : Entry) → after o x c p d q r bounded place old ≡ Some e → is_passed bounded e ≡ was e.place.position
passed-after true x c p d q r bounded place old was late none before e h =
    let same : opened_if true q r place old ≡ Some e = h in
    let at : record { place = place; exactly_once = q; retained = r; confirmed = false; released = false; passed = false; sent = place.position; published = place.position } ≡ e = cc in
    ap (is_passed bounded) (sym at) ∙ le-ltb place.position bounded late ∙ sym none ∙ ap (λ (y : Entry). was y.place.position) at
passed-after false true c p d q r bounded place old was late none before e h = absurd (cc)
passed-after false false c p d q r bounded place None was late none before e h = absurd (cc)
passed-after false false c p d q r bounded place (Some y) was late none before e h = go p d h
  where
    now : nat_lt place.position bounded ≡ false
    now = le-ltb place.position bounded late

    turn : (a b : Bool) → ((a || b) || false) ≡ (b || a)
    turn true true = refl
    turn true false = refl
    turn false true = refl
    turn false false = refl

    go : (p d : Bool) → confirmed_if c (released_if p bounded place.position (sent_if d bounded place.position (Some y))) ≡ Some e → is_passed bounded e ≡ was e.place.position
    go false false h =
        let at : record { place = y.place; exactly_once = y.exactly_once; retained = y.retained; confirmed = c || y.confirmed; released = y.released; passed = y.passed; sent = y.sent; published = y.published } ≡ e = cc in
        ap (is_passed bounded) (sym at) ∙ before y refl ∙ ap (λ (z : Entry). was z.place.position) at
    go false true h =
        let at : record { place = y.place; exactly_once = y.exactly_once; retained = y.retained; confirmed = c || y.confirmed; released = y.released; passed = nat_lt y.sent bounded || y.passed; sent = place.position; published = place.position } ≡ e = cc in
        ap (is_passed bounded) (sym at) ∙ ap (λ b. (nat_lt y.sent bounded || y.passed) || b) now ∙ turn (nat_lt y.sent bounded) y.passed ∙ before y refl ∙ ap (λ (z : Entry). was z.place.position) at
    go true false h =
        let at : record { place = y.place; exactly_once = y.exactly_once; retained = y.retained; confirmed = c || y.confirmed; released = true; passed = nat_lt y.sent bounded || y.passed; sent = place.position; published = y.published } ≡ e = cc in
        ap (is_passed bounded) (sym at) ∙ ap (λ b. (nat_lt y.sent bounded || y.passed) || b) now ∙ turn (nat_lt y.sent bounded) y.passed ∙ before y refl ∙ ap (λ (z : Entry). was z.place.position) at
    go true true h =
        let at : record { place = y.place; exactly_once = y.exactly_once; retained = y.retained; confirmed = c || y.confirmed; released = true; passed = nat_lt place.position bounded || (nat_lt y.sent bounded || y.passed); sent = place.position; published = place.position } ≡ e = cc in
        ap (is_passed bounded) (sym at) ∙ ap (λ b. (b || (nat_lt y.sent bounded || y.passed)) || b) now ∙ turn (nat_lt y.sent bounded) y.passed ∙ before y refl ∙ ap (λ (z : Entry). was z.place.position) at

pub passed-next : (role : Role) (f g : Fate) (e : Seen) (past : List Seen) (entry new : ℕ → Option Entry) → IsPlaced (e ∷ past) → (is_open e.note ≡ true → latest_fate role past ≡ Some g)
    → (is_open e.note ≡ true → (i : ℕ) → entry i ≡ entry_in role i (session role (Some g) past))
    → ((i : ℕ) (o : Entry) → entry i ≡ Some o → is_passed (bounded_at role past) o ≡ passed_before role i o.place.position past)
    → ((i : ℕ) → new i ≡ entry_next f e.note (bounded_at role past) e.place i (entry i))
    → (i : ℕ) (o : Entry) → new i ≡ Some o → is_passed (bounded_at role (e ∷ past)) o ≡ passed_before role i o.place.position (e ∷ past)
passed-next role f g e past entry new placed fate are was grown i o h = go (is_open e.note) refl (sym (grown i) ∙ h)
  where
    n : Note
    n = e.note

    late : bounded_at role past ≤ e.place.position
    late = let a = bounded-within role past in let b = opened-within past in let c = placed.0 in omega (arith, a, b, c)

    begun_by : (b : Bool) → is_open n ≡ true → cond b None (entry i) ≡ Some o → is_passed (bounded_at role (e ∷ past)) o ≡ passed_before role i o.place.position (e ∷ past)
    begun_by true opens h = absurd (cc)
    begun_by false opens h =
        let at = fate opens in
        let kept = are opens i in
        ap (λ b. is_passed (cond (b && (resumed (latest_fate role past) && is_limited (peer_bounds role past))) (opened_at past) (bounded_at role past)) o) opens
        ∙ ap (λ t. is_passed (cond (resumed t && is_limited (peer_bounds role past)) (opened_at past) (bounded_at role past)) o) at
        ∙ sym (over-latest role g i past placed.1 o (λ a. entry-is role i (session role (Some g) past) o (session-descend role (Some g) past) (sym kept ∙ h)) (was i o h))
        ∙ ap (λ t. passed_before role i o.place.position past || (nat_lt o.place.position (opened_at past) && (resumed t && (announces_bound role (connection past) && not (some (sends_again i) (connection past)))))) (sym at)
        ∙ sym (passed-opens role i o.place.position e past opens)

    inside : (a : Bool) → is_open n ≡ false → cond a (entry_after (bounded_at role past) i n e.place (entry i)) (entry i) ≡ Some o → is_passed (bounded_at role past) o ≡ passed_before role i o.place.position past
    inside false closed h = was i o h
    inside true closed h =
        passed-after (is_id i (opener_of n)) (is_id i (closer_of n)) (is_id i (received_as accepting_pubrec_in n)) (is_id i (sent_as pubrel_in n)) (is_id i (delivery_of n)) (sends_exactly_once n) (sends_retained n) (bounded_at role past) e.place (entry i)
        (λ p. passed_before role i p past) late (passed-none role i e.place.position past (let c = placed.0 in omega (arith, c))) (was i) o h

    go : (b : Bool) → is_open n ≡ b → cond b (cond (begins (Some f)) None (entry i)) (cond (accepts f) (entry_after (bounded_at role past) i n e.place (entry i)) (entry i)) ≡ Some o
        → is_passed (bounded_at role (e ∷ past)) o ≡ passed_before role i o.place.position (e ∷ past)
    go true opens h = begun_by (begins (Some f)) opens h
    go false closed h =
        ap (λ b. is_passed (cond (b && (resumed (latest_fate role past) && is_limited (peer_bounds role past))) (opened_at past) (bounded_at role past)) o) closed
        ∙ inside (accepts f) closed h ∙ sym (passed-stays role i o.place.position e past closed)
