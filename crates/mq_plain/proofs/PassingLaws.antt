-- An unanswered event before the first one under an identifier: any other one, or the first one under another identifier.
use Rattle.std.proofs.Common.{◌≡◌, ℕ, ◌+◌, ◌<◌, ◌≤◌, ◌==◌, nat_lt, Bool, true, false, ◌&&◌, not, List, length, Option, Some, None, refl, ap, sym, ◌∙◌, arith}
use Rattle.std.specs.Prelude.{is_some, option_map}
use Rattle.std.proofs.lemmas.Bool.{eq-eqb, eqb-true, ltb-true, lt-ltb, ltb-false}
use Rattle.mq_rules.specs.declared.note.Seen.{Seen}
use Rattle.mq_rules.specs.Words.{is_id, is_some_and}
use Rattle.mq_rules.specs.Moments.{Moment, note, position, is_same, is_after, some, since, earliest_since, Among, IsDescending, IsEarliestSince}
use Rattle.mq_rules.specs.Connections.{connection}
use Rattle.mq_rules.specs.Exchanges.{Exchange, causes, answers}
use Rattle.mq_rules.proofs.Exports.{both_true, and_true, same_test, differ, there, some-among, among-some, since-stands, stands-since, earliest_since-there, earliest_since-is}
use Rattle.mq_plain.specs.declared.exchanges.slot.Slot.{Slot}
use Rattle.mq_plain.specs.Received.{IsReceived, IsSent}
use Rattle.mq_plain.specs.Tables.{at}
use Rattle.mq_plain.specs.Unanswered.{first_index, is_first_in, passes_over}
use Rattle.mq_plain.proofs.FirstLaws.{apart, connection-descends, connection-among, shown-first}

-- A first moment that stands no later than this one.
pub record HasFirst (starts ends : Moment → Bool) (ms : List Moment) (j : Moment) : Type 0 where
  pub first : Moment
  pub is : earliest_since starts ends ms ≡ Some first
  pub within : position first ≤ position j

-- one that asks and is unanswered has a first one that stands no later
pub first-before : (starts ends : Moment → Bool) (ms : List Moment) (j : Moment) → IsDescending ms → Among j ms → starts j ≡ true → since (is_same j) ends ms ≡ true → HasFirst starts ends ms j
first-before starts ends ms j d among passes kept =
    let s = since-stands (is_same j) ends ms d kept in
    let same : position j ≡ position s.at = eqb-true (position j) (position s.at) s.passes in
    let none : (n : Moment) → Among n ms → position j < position n → ends n ≡ false = λ n h lt. s.none_after n h (omega arith) in
    let stands : since starts ends ms ≡ true = stands-since starts ends ms d (record { at = j; there = among; passes = passes; none_after = none }) in
    let f = there (earliest_since starts ends ms) (earliest_since-there starts ends ms ∙ stands) in
    record { first = f.0; is = f.1; within = go f.0 (earliest_since-is starts ends ms f.0 d f.1) none (nat_lt (position j) (position f.0)) refl }
  where
    go : (f : Moment) → IsEarliestSince starts ends ms f → ((n : Moment) → Among n ms → position j < position n → ends n ≡ false) → (b : Bool) → nat_lt (position j) (position f) ≡ b → position f ≤ position j
    go f r none false h = ltb-false (position j) (position f) h
    go f r none true h = absurd (
        let l = r.others_end j among (ltb-true (position j) (position f) h) passes in
        let never : ends l.0 ≡ false = none l.0 l.1 l.2 in
        let ever : ends l.0 ≡ true = l.3 in
        cc)

-- what is under an identifier
held : (test : ℕ → Bool) (o : Option ℕ) → is_some_and test o ≡ true → (i : ℕ) × (o ≡ Some i) × (test i ≡ true)
held test None h = absurd (cc)
held test (Some i) h = (i, refl, h)

named : (i : ℕ) (o : Option ℕ) → is_id i o ≡ true → o ≡ Some i
named i None h = absurd (cc)
named i (Some j) h = ap Some (sym (eqb-true i j h))

module _ (x : Exchange) (received : IsReceived x.cause) (sent : IsSent x.answer) (slots : Slot × List Slot) (past : List Seen) (firsts : (i : ℕ) → (at slots i).first ≡ first_index x i past) (i : ℕ) (first : Moment)
    (is : earliest_since (causes x i) (answers x i) (connection past) ≡ Some first) where
  abbrev by_index : Moment → Bool
  by_index m = nat_lt (length m.past) (length first.past) && is_first_in x slots (length m.past) (note m)

  abbrev waits : Moment → ℕ → Bool
  waits j other = not (other == i) && since (is_same j) (answers x other) (connection past)

  abbrev by_answers : Moment → Bool
  by_answers j = is_some_and (waits j) (x.cause (note j)) && is_after first j

  -- the first one under another identifier waits
  index-answers : (m : Moment) → Among m (connection past) → by_index m ≡ true → by_answers m ≡ true
  index-answers m among h =
      let parts = both_true (nat_lt (length m.past) (length first.past)) (is_first_in x slots (length m.past) (note m)) h in
      let lt : length m.past < length first.past = ltb-true (length m.past) (length first.past) parts.0 in
      let own = held (λ o. is_id (length m.past) (at slots o).first) (x.cause (note m)) parts.1 in
      let other = own.0 in
      let at_index : is_id (length m.past) (first_index x other past) ≡ true = ap (is_id (length m.past)) (sym (firsts other)) ∙ own.2 in
      let plain = apart x.cause x.answer received sent other (note m) own.1 in
      let shown = shown-first x other past m (ap (is_id other) own.1 ∙ eq-eqb other other refl) plain.0 plain.1 (connection-among past m among) in
      let kept = both_true (not (is_some (earliest_since (causes x other) (answers x other) (connection m.past)))) (since (is_same m) (answers x other) (connection past)) (shown ∙ at_index) in
      let apart : (other == i) ≡ false = differ other i (λ same. absurd (
      let here : is_id (length m.past) (option_map (λ n. length n.past) (Some first)) ≡ true = ap (λ o. is_id (length m.past) (option_map (λ n. length n.past) o)) (sym is)
      ∙ ap (λ n. is_id (length m.past) (first_index x n past)) (sym same) ∙ at_index in
      let equal : length m.past ≡ length first.past = eqb-true (length m.past) (length first.past) here in
      omega arith)) in
      and_true (is_some_and (waits m) (x.cause (note m))) (is_after first m)
      (ap (is_some_and (waits m)) own.1 ∙ and_true (not (other == i)) (since (is_same m) (answers x other) (connection past)) (ap not apart) kept.1)
      (lt-ltb (length m.past + 1) (length first.past + 1) (omega arith))

  -- one that waits has a first one before it, or is the first
  answers-index : (j : Moment) → Among j (connection past) → by_answers j ≡ true → some by_index (connection past) ≡ true
  answers-index j among h =
      let parts = both_true (is_some_and (waits j) (x.cause (note j))) (is_after first j) h in
      let lt : length j.past + 1 < length first.past + 1 = ltb-true (length j.past + 1) (length first.past + 1) parts.1 in
      let own = held (waits j) (x.cause (note j)) parts.0 in
      let other = own.0 in
      let kept = both_true (not (other == i)) (since (is_same j) (answers x other) (connection past)) own.2 in
      let f = first-before (causes x other) (answers x other) (connection past) j (connection-descends past) among (ap (is_id other) own.1 ∙ eq-eqb other other refl) kept.1 in
      let m = f.first in
      let r = earliest_since-is (causes x other) (answers x other) (connection past) m (connection-descends past) f.is in
      let under : x.cause (note m) ≡ Some other = named other (x.cause (note m)) r.passes in
      let slot : (at slots other).first ≡ Some (length m.past) = firsts other ∙ ap (option_map (λ n. length n.past)) f.is in
      let within : length m.past + 1 ≤ length j.past + 1 = f.within in
      among-some by_index (connection past) m r.there
      (and_true (nat_lt (length m.past) (length first.past)) (is_first_in x slots (length m.past) (note m)) (lt-ltb (length m.past) (length first.past) (omega arith))
      (ap (is_some_and (λ o. is_id (length m.past) (at slots o).first)) under ∙ ap (is_id (length m.past)) slot ∙ eq-eqb (length m.past) (length m.past) refl))

  pub index-passes : some by_index (connection past) ≡ some by_answers (connection past)
  index-passes = same_test (some by_index (connection past)) (some by_answers (connection past))
      (λ h. let m = some-among by_index (connection past) h in among-some by_answers (connection past) m.0 m.1 (index-answers m.0 m.1 m.2))
      (λ h. let j = some-among by_answers (connection past) h in answers-index j.0 j.1 j.2)

-- by the index of the first one under the identifier
pub passes-first : (x : Exchange) → IsReceived x.cause → IsSent x.answer → (slots : Slot × List Slot) (past : List Seen) → ((i : ℕ) → (at slots i).first ≡ first_index x i past) → (i index : ℕ)
    → (at slots i).first ≡ Some index → some (λ m. nat_lt (length m.past) index && is_first_in x slots (length m.past) (note m)) (connection past) ≡ passes_over x i past
passes-first x received sent slots past firsts i index at_index = go (earliest_since (causes x i) (answers x i) (connection past)) refl
  where
    go : (o : Option Moment) → earliest_since (causes x i) (answers x i) (connection past) ≡ o
        → some (λ m. nat_lt (length m.past) index && is_first_in x slots (length m.past) (note m)) (connection past)
        ≡ is_some_and (λ first. some (λ j. is_some_and (λ other. not (other == i) && since (is_same j) (answers x other) (connection past)) (x.cause (note j)) && is_after first j) (connection past)) o
    go None is = absurd (let t : ◌≡◌ {A = Option ℕ} (Some index) None = sym at_index ∙ firsts i ∙ ap (option_map (λ m. length m.past)) is in cc)
    go (Some first) is =
        let t : ◌≡◌ {A = Option ℕ} (Some index) (Some (length first.past)) = sym at_index ∙ firsts i ∙ ap (option_map (λ m. length m.past)) is in
        let same : index ≡ length first.past = cc in
        ap (λ n. some (λ m. nat_lt (length m.past) n && is_first_in x slots (length m.past) (note m)) (connection past)) same ∙ index-passes x received sent slots past firsts i first is
