-- The first unanswered event under an identifier, as a later moment finds it and as a REST shows it.
use Rattle.std.proofs.Common.{◌≡◌, ℕ, ◌+◌, ◌≤◌, ◌==◌, Bool, true, false, cond, ◌&&◌, ◌||◌, not, List, [], ◌∷◌, length, Option, Some, None, refl, ap, sym, ◌∙◌, subst, arith, inl, inr}
use Rattle.std.specs.Prelude.{is_some, option_map}
use Rattle.std.proofs.lemmas.Bool.{eq-eqb}
use Rattle.std.specs.Option.{option_or}
use Rattle.mq_rules.specs.declared.note.Note.{Note}
use Rattle.mq_rules.specs.declared.note.Note.TheVariants as notes
use Rattle.mq_rules.specs.declared.note.Seen.{Seen}
use Rattle.mq_rules.specs.Words.{is_id, is_some_and}
use Rattle.mq_rules.specs.Notes.{is_open, sent_item, received_item}
use Rattle.mq_rules.specs.Moments.{Moment, newest, note, moments, moment, position, is_same, since, earliest_since, Among, IsDescending}
use Rattle.mq_rules.specs.Connections.{number, begun, connection}
use Rattle.mq_rules.specs.Exchanges.{Exchange, causes, answers, shows_R}
use Rattle.mq_rules.proofs.Exports.{differ, and_false, connection-newest, among-within, moment-among, moments-descend, those-among, those-descend, earliest_since-is}
use Rattle.mq_plain.specs.declared.exchanges.slot.Slot.{Slot}
use Rattle.mq_plain.specs.Received.{IsReceived, IsSent}
use Rattle.mq_plain.specs.Tables.{at}
use Rattle.mq_plain.specs.Unanswered.{first_index, is_first_in}
use Rattle.mq_plain.proofs.UnansweredLaws.{unanswered-next}

-- ---- what asks is no answer, and no OPEN

absent : (i : ℕ) (o : Option ℕ) → is_some o ≡ false → is_id i o ≡ false
absent i None h = refl
absent i (Some j) h = absurd (cc)

pub apart : (cause answer : Note → Option ℕ) → IsReceived cause → IsSent answer → (i : ℕ) (n : Note) → cause n ≡ Some i → (is_id i (answer n) ≡ false) × (is_open n ≡ false)
apart cause answer received sent i n is = go n (received n) (sent n) is
  where
    never : (n : Note) → is_some (cause n) ≡ false → cause n ≡ Some i → ⊥
    never n h is = let t : is_some (cause n) ≡ true = ap is_some is in cc

    go : (n : Note) → is_some (cause n) ≡ (is_some (received_item n) && is_some (cause n)) → is_some (answer n) ≡ (is_some (sent_item n) && is_some (answer n)) → cause n ≡ Some i
        → (is_id i (answer n) ≡ false) × (is_open n ≡ false)
    go (notes.Recv item) r s is = (absent i (answer (notes.Recv item)) s, refl)
    go notes.Open r s is = absurd (never notes.Open r is)
    go (notes.Close cuts part) r s is = absurd (never (notes.Close cuts part) r is)
    go notes.Rest r s is = absurd (never notes.Rest r is)
    go (notes.Release identifier) r s is = absurd (never (notes.Release identifier) r is)
    go (notes.Sent item) r s is = absurd (never (notes.Sent item) r is)

-- ---- the first unanswered event stands within the log

pub connection-descends : (past : List Seen) → IsDescending (connection past)
connection-descends past = those-descend (λ m. number m == begun past) (moments past) (moments-descend past)

pub connection-among : (past : List Seen) (m : Moment) → Among m (connection past) → Among m (moments past)
connection-among past m h = (those-among (λ m. number m == begun past) (moments past) m h).0

first-within : (starts ends : Moment → Bool) (past : List Seen) (f : Moment) → earliest_since starts ends (connection past) ≡ Some f → position f ≤ length past
first-within starts ends past f h =
    among-within f past (connection-among past f (earliest_since-is starts ends (connection past) f (connection-descends past) h).there)

-- ---- what a REST shows

-- the event that was just taken in
shown-newest : (x : Exchange) (i : ℕ) (e : Seen) (past : List Seen) → is_id i (x.cause e.note) ≡ true → is_id i (x.answer e.note) ≡ false → is_open e.note ≡ false
    → (not (is_some (earliest_since (causes x i) (answers x i) (connection past))) && since (is_same (newest e past)) (answers x i) (connection (e ∷ past))) ≡ is_id (length past) (first_index x i (e ∷ past))
shown-newest x i e past asks plain closed =
    ap (λ b. not (is_some first) && b) here
    ∙ go first refl
    ∙ sym (ap (λ o. is_id (length past) (option_map (λ m. length m.past) o)) (unanswered-next (causes x i) (answers x i) e past ∙ rw (asks, plain, closed) refl))
  where
    first : Option Moment
    first = earliest_since (causes x i) (answers x i) (connection past)

    here : since (is_same (newest e past)) (answers x i) (connection (e ∷ past)) ≡ true
    here = ap (since (is_same (newest e past)) (answers x i)) (connection-newest e past)
        ∙ ap (λ b. b || (not (is_id i (x.answer e.note)) && since (is_same (newest e past)) (answers x i) (cond (is_open e.note) [] (connection past)))) (eq-eqb (length past + 1) (length past + 1) refl)

    go : (o : Option Moment) → first ≡ o → (not (is_some o) && true) ≡ is_id (length past) (option_map (λ m. length m.past) (option_or o (Some (newest e past))))
    go None is = sym (eq-eqb (length past) (length past) refl)
    go (Some f) is = let within = first-within (causes x i) (answers x i) past f is in sym (differ (length past) (length f.past) (λ same. absurd (omega arith)))

-- an event before it
shown-older : (x : Exchange) (i : ℕ) (e : Seen) (past : List Seen) (m : Moment) (fresh : Bool) → position m ≤ length past
    → (fresh && since (is_same m) (answers x i) (connection past)) ≡ is_id (length m.past) (first_index x i past)
    → (fresh && since (is_same m) (answers x i) (connection (e ∷ past))) ≡ is_id (length m.past) (first_index x i (e ∷ past))
shown-older x i e past m fresh within before =
    ap (λ b. fresh && b) (ap (since (is_same m) (answers x i)) (connection-newest e past)
    ∙ ap (λ b. b || (not (is_id i (x.answer e.note)) && since (is_same m) (answers x i) (cond (is_open e.note) [] (connection past)))) other)
    ∙ go (is_id i (x.answer e.note)) (is_open e.note) (is_id i (x.cause e.note)) (earliest_since (causes x i) (answers x i) (connection past)) before
    ∙ sym (ap (λ o. is_id (length m.past) (option_map (λ n. length n.past) o)) (unanswered-next (causes x i) (answers x i) e past))
  where
    other : (length m.past + 1 == length past + 1) ≡ false
    other = differ (length m.past + 1) (length past + 1) (λ same. absurd (omega arith))

    not_here : (s : Bool) → is_id (length m.past) (option_map (λ (n : Moment). length n.past) (cond s (Some (newest e past)) None)) ≡ false
    not_here true = differ (length m.past) (length past) (λ same. absurd (omega arith))
    not_here false = refl

    go : (ends opens asks : Bool) (o : Option Moment) → (fresh && since (is_same m) (answers x i) (connection past)) ≡ is_id (length m.past) (option_map (λ n. length n.past) o)
        → (fresh && (not ends && since (is_same m) (answers x i) (cond opens [] (connection past))))
        ≡ is_id (length m.past) (option_map (λ n. length n.past) (option_or (cond ends None (cond opens None o)) (cond asks (Some (newest e past)) None)))
    go true opens asks o before = and_false fresh ∙ sym (not_here asks)
    go false true asks o before = and_false fresh ∙ sym (not_here asks)
    go false false asks None before = before ∙ sym (not_here asks)
    go false false asks (Some f) before = before

pub shown-first : (x : Exchange) (i : ℕ) (past : List Seen) (m : Moment) → is_id i (x.cause (note m)) ≡ true → is_id i (x.answer (note m)) ≡ false → is_open (note m) ≡ false → Among m (moments past)
    → (not (is_some (earliest_since (causes x i) (answers x i) (connection m.past))) && since (is_same m) (answers x i) (connection past)) ≡ is_id (length m.past) (first_index x i past)
shown-first x i [] m asks plain closed h = absurd h
shown-first x i (e ∷ past) m asks plain closed (inl is) =
    subst (λ (n : Moment). is_id i (x.cause (note n)) ≡ true → is_id i (x.answer (note n)) ≡ false → is_open (note n) ≡ false
    → (not (is_some (earliest_since (causes x i) (answers x i) (connection n.past))) && since (is_same n) (answers x i) (connection (e ∷ past))) ≡ is_id (length n.past) (first_index x i (e ∷ past)))
    (sym is) (shown-newest x i e past) asks plain closed
shown-first x i (e ∷ past) m asks plain closed (inr h) =
    shown-older x i e past m (not (is_some (earliest_since (causes x i) (answers x i) (connection m.past)))) (among-within m past h) (shown-first x i past m asks plain closed h)

-- what a REST shows is what is first and unanswered there
pub is_first-shows : (x : Exchange) → IsReceived x.cause → IsSent x.answer → (slots : Slot × List Slot) (rest : Seen) (past : List Seen) → ((i : ℕ) → (at slots i).first ≡ first_index x i past)
    → (k : ℕ) (m : Moment) → moment past k ≡ Some m → is_first_in x slots (length m.past) (note m) ≡ shows_R x (newest rest past) m
unfolding shows_R
is_first-shows x received sent slots rest past firsts k m there = go (x.cause (note m)) refl
  where
    go : (o : Option ℕ) → x.cause (note m) ≡ o → is_some_and (λ i. is_id (length m.past) (at slots i).first) o
        ≡ is_some_and (λ i. not (is_some (earliest_since (causes x i) (answers x i) (connection m.past))) && since (is_same m) (answers x i) (connection past)) o
    go None is = refl
    go (Some i) is =
        let own = apart x.cause x.answer received sent i (note m) is in
        ap (is_id (length m.past)) (firsts i) ∙ sym (shown-first x i past m (ap (is_id i) is ∙ eq-eqb i i refl) own.0 own.1 (moment-among past k m there))
