-- Counting, event by event, how many messages of QoS 2 aren't finished, while there is room for them.
use Rattle.std.proofs.Common.{◌≡◌, ℕ, ◌+◌, ◌-◌, ◌==◌, nat_eq, nat_lt, Bool, true, false, cond, ◌&&◌, ◌||◌, not, List, [], ◌∷◌, length, Option, Some, None, refl, ap, sym, ◌∙◌, arith}
use Rattle.std.proofs.lemmas.Bool.{eqb-true}
use Rattle.std.proofs.lemmas.Bool.Decides.{nat_tests}
use Rattle.std.proofs.lemmas.Map.Views.{any-filter_same}
use Rattle.std.specs.List.{cons_option, filter, list_any}
use Rattle.std.specs.Set.{distinct_count, unique_keys}
use Rattle.mq_rules.specs.declared.note.Note.{Note}
use Rattle.mq_rules.specs.declared.note.Note.TheVariants as notes
use Rattle.mq_rules.specs.declared.note.Seen.{Seen}
use Rattle.mq_rules.specs.Words.{is_id, is_some_and}
use Rattle.mq_rules.specs.Notes.{is_open, received_exactly_once}
use Rattle.mq_rules.specs.Moments.{Moment, newest, note, some}
use Rattle.mq_rules.specs.Connections.{connection}
use Rattle.mq_rules.specs.ReceiveMaximum.{identifiers_among, is_unfinished, unfinished}
use Rattle.mq_rules.proofs.Exports.{connection-next}
use Rattle.mq_plain.specs.Excess.{counts_one, different, room_after, with_event}

-- ---- how many there are, with one moment more

-- the identifier is received among these moments
among : (i : ℕ) (ms : List Moment) → list_any (nat_eq i) (identifiers_among ms) ≡ some (λ j. is_id i (received_exactly_once (note j))) ms
among i [] = refl
among i (m ∷ ms) = go (received_exactly_once (note m)) (among i ms)
  where
    go : (o : Option ℕ) → list_any (nat_eq i) (identifiers_among ms) ≡ some (λ j. is_id i (received_exactly_once (note j))) ms
        → list_any (nat_eq i) (cons_option o (identifiers_among ms)) ≡ (is_id i o || some (λ j. is_id i (received_exactly_once (note j))) ms)
    go None rest = rest
    go (Some j) rest = ap (λ b. (i == j) || b) rest

from_nothing : (n : ℕ) → n ≡ 0 + n
from_nothing n = omega arith

different-next : (test : ℕ → Bool) (m : Moment) (ms : List Moment) → different test (m ∷ ms) ≡ cond (counts_one test ms (note m)) 1 0 + different test ms
different-next test m ms = go (received_exactly_once (note m))
  where
    came : ℕ → Bool
    came i = some (λ j. is_id i (received_exactly_once (note j))) ms

    ids : List ℕ
    ids = identifiers_among ms

    -- one that came before isn't counted twice
    once : (i : ℕ) (c : Bool) → length (cond c (unique_keys nat_eq (filter test ids)) (i ∷ unique_keys nat_eq (filter test ids))) ≡ cond (not c) 1 0 + different test ms
    once i true = from_nothing (different test ms)
    once i false = let one : length (i ∷ unique_keys nat_eq (filter test ids)) ≡ 1 + different test ms = omega arith in one

    pick : (i : ℕ) (b : Bool) → test i ≡ b → distinct_count nat_eq (cond b (i ∷ filter test ids) (filter test ids)) ≡ cond (b && not (came i)) 1 0 + different test ms
    pick i false is = from_nothing (different test ms)
    pick i true is =
        once i (list_any (nat_eq i) (filter test ids))
        ∙ ap (λ c. cond (not c) 1 0 + different test ms)
        (any-filter_same (nat_eq i) test (test i) (λ k same. ap test (sym (eqb-true i k same))) ids ∙ ap (λ b. b && list_any (nat_eq i) ids) is ∙ among i ms)

    go : (o : Option ℕ) → distinct_count nat_eq (filter test (cons_option o ids)) ≡ cond (is_some_and (λ i. test i && not (came i)) o) 1 0 + different test ms
    go None = from_nothing (different test ms)
    go (Some i) = pick i (test i) refl

-- an OPEN brings nothing
open-brings : (n : Note) → is_open n ≡ true → received_exactly_once n ≡ None
open-brings notes.Open h = refl
open-brings _ h = absurd (cc)

open-counts : (test : ℕ → Bool) (ms : List Moment) (n : Note) → is_open n ≡ true → counts_one test ms n ≡ false
open-counts test ms n opens = ap (λ o. is_some_and (λ i. test i && not (some (λ j. is_id i (received_exactly_once (note j))) ms)) o) (open-brings n opens)

-- ---- what is left of the room

left-room : (room left d : ℕ) (counts : Bool) → room_after room counts ≡ Some left → nat_lt left d ≡ nat_lt room (cond counts 1 0 + d)
left-room room left d false h = let same : room ≡ left = cc in ap (λ n. nat_lt n d) (sym same) ∙ ap (nat_lt room) (from_nothing d)
left-room room left d true h = go (room == 0) refl h
  where
    go : (b : Bool) → (room == 0) ≡ b → cond b None (Some (room - 1)) ≡ Some left → nat_lt left d ≡ nat_lt room (1 + d)
    go true is h = absurd (cc)
    go false is h = let same : room - 1 ≡ left = cc in ap (λ n. nat_lt n d) (sym same) ∙ grind (arith, nat_tests)

no-room : (room d : ℕ) (counts : Bool) → room_after room counts ≡ None → true ≡ nat_lt room (cond counts 1 0 + d)
no-room room d false h = absurd (cc)
no-room room d true h = go (room == 0) refl h
  where
    go : (b : Bool) → (room == 0) ≡ b → cond b None (Some (room - 1)) ≡ None → true ≡ nat_lt room (1 + d)
    go true is h =
        let none : room ≡ 0 = eqb-true room 0 is in
        let positive : true ≡ nat_lt 0 (1 + d) = grind (arith, nat_tests) in
        positive ∙ ap (λ n. nat_lt n (1 + d)) (sym none)
    go false is h = absurd (cc)

-- with the event itself
pub exceeds-left : (e : Seen) (past : List Seen) (most left : ℕ) → room_after most (counts_one (is_unfinished (with_event e past)) (connection past) e.note) ≡ Some left
    → nat_lt left (different (is_unfinished (with_event e past)) (connection past)) ≡ nat_lt most (unfinished (with_event e past))
unfolding unfinished
exceeds-left e past most left h =
    let test = is_unfinished (with_event e past) in
    left-room most left (different test (connection past)) (counts_one test (connection past) e.note) h ∙ ap (nat_lt most) (sym (different-next test (newest e past) (connection past)))

pub exceeds-none : (e : Seen) (past : List Seen) (most : ℕ) → room_after most (counts_one (is_unfinished (with_event e past)) (connection past) e.note) ≡ None
    → true ≡ nat_lt most (unfinished (with_event e past))
unfolding unfinished
exceeds-none e past most h =
    let test = is_unfinished (with_event e past) in
    no-room most (different test (connection past)) (counts_one test (connection past) e.note) h ∙ ap (nat_lt most) (sym (different-next test (newest e past) (connection past)))

-- ---- one event further back

different-connection : (test : ℕ → Bool) (e : Seen) (past : List Seen)
    → different test (connection (e ∷ past)) ≡ cond (counts_one test (connection past) e.note) 1 0 + cond (is_open e.note) 0 (different test (connection past))
different-connection test e past = ap (different test) (connection-next e past) ∙ go (is_open e.note) refl
  where
    go : (b : Bool) → is_open e.note ≡ b → different test (cond b (newest e past ∷ []) (newest e past ∷ connection past)) ≡ cond (counts_one test (connection past) e.note) 1 0 + cond b 0 (different test (connection past))
    go false is = different-next test (newest e past) (connection past)
    go true is = different-next test (newest e past) [] ∙ ap (λ b. cond b 1 0 + 0) (open-counts test [] e.note is ∙ sym (open-counts test (connection past) e.note is))

pub back-left : (test : ℕ → Bool) (e : Seen) (past : List Seen) (room left : ℕ) → room_after room (counts_one test (connection past) e.note) ≡ Some left → is_open e.note ≡ false
    → nat_lt left (different test (connection past)) ≡ nat_lt room (different test (connection (e ∷ past)))
back-left test e past room left h closed =
    left-room room left (different test (connection past)) (counts_one test (connection past) e.note) h
    ∙ ap (λ b. nat_lt room (cond (counts_one test (connection past) e.note) 1 0 + cond b 0 (different test (connection past)))) (sym closed)
    ∙ ap (nat_lt room) (sym (different-connection test e past))

pub back-none : (test : ℕ → Bool) (e : Seen) (past : List Seen) (room : ℕ) → room_after room (counts_one test (connection past) e.note) ≡ None
    → true ≡ nat_lt room (different test (connection (e ∷ past)))
back-none test e past room h =
    no-room room (cond (is_open e.note) 0 (different test (connection past))) (counts_one test (connection past) e.note) h ∙ ap (nat_lt room) (sym (different-connection test e past))

pub back-open : (test : ℕ → Bool) (e : Seen) (past : List Seen) (room : ℕ) → is_open e.note ≡ true → false ≡ nat_lt room (different test (connection (e ∷ past)))
back-open test e past room opens =
    none ∙ ap (λ b. nat_lt room (cond b 1 0 + 0)) (sym (open-counts test (connection past) e.note opens))
    ∙ ap (λ b. nat_lt room (cond (counts_one test (connection past) e.note) 1 0 + cond b 0 (different test (connection past)))) (sym opens)
    ∙ ap (nat_lt room) (sym (different-connection test e past))
  where
    none : false ≡ nat_lt room (0 + 0)
    none = grind (arith, nat_tests)

-- no event is left
pub none-left : (test : ℕ → Bool) (room : ℕ) → false ≡ nat_lt room (different test (connection []))
none-left test room = let none : false ≡ nat_lt room 0 = grind (arith, nat_tests) in none
