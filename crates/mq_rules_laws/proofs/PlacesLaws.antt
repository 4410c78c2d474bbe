-- The places of a statement: they stay, and there are as many as faults.
use Rattle.std.proofs.Common.{◌≡◌, ℕ, ◌+◌, ◌≤◌, arith, Bool, true, false, cond, List, [], ◌∷◌, Option, Some, None, refl, ap, sym, ◌∙◌, inl, inr}
use Rattle.mq_rules.specs.declared.role.Tested.{Tested}
use Rattle.mq_rules.specs.declared.rule.Rule.{Rule}
use Rattle.mq_rules.specs.declared.note.Seen.{Seen}
use Rattle.mq_rules.specs.Moments.{Moment, position, moments, moment, count, Among}
use Rattle.mq_rules.specs.Statements.{is_on_bytes, fails}
use Rattle.mq_rules.specs.Occasions.{applies, places, adds_place}
use Rattle.mq_rules.proofs.Exports.{applies-step, fails-nowhere, moment-among, moment-beginning, or_left, places-step}
use Rattle.mq_rules_laws.proofs.OccasionLaws.{fails-applies}

-- ---- what is put to the test

-- it stays so
pub applies-kept : (tested : Tested) (past : List Seen) (e : Seen) (k : ℕ) (rule : Rule) → applies tested past k rule ≡ true → applies tested (e ∷ past) k rule ≡ true
applies-kept tested past e k rule h = applies-step tested e past k rule ∙ or_left (applies tested past k rule) (adds_place tested e past k rule) h

-- ---- counting moments

count-wider : (a b : Moment → Bool) → ((m : Moment) → a m ≡ true → b m ≡ true) → (ms : List Moment) → count a ms ≤ count b ms
count-wider a b each [] = omega arith
count-wider a b each (m ∷ ms) = go (a m) refl (b m) refl (count-wider a b each ms)
  where
    go : (x : Bool) → a m ≡ x → (y : Bool) → b m ≡ y → count a ms ≤ count b ms → cond x 1 0 + count a ms ≤ cond y 1 0 + count b ms
    go true is true at h = omega arith
    go true is false at h = absurd (let passed : b m ≡ true = each m is in cc)
    go false is true at h = omega arith
    go false is false at h = omega arith

count-one : (test : Moment → Bool) (ms : List Moment) (m : Moment) → Among m ms → test m ≡ true → 1 ≤ count test ms
count-one test [] m h passes = absurd h
count-one test (n ∷ ms) m (inl is) passes = go (test n) (ap test (sym is) ∙ passes)
  where
    go : (b : Bool) → b ≡ true → 1 ≤ cond b 1 0 + count test ms
    go true h = omega arith
    go false h = absurd (cc)
count-one test (n ∷ ms) m (inr h) passes = go (test n) (count-one test ms m h passes)
  where
    go : (b : Bool) → 1 ≤ count test ms → 1 ≤ cond b 1 0 + count test ms
    go true h = omega arith
    go false h = omega arith

-- ---- places

pub places-kept : (tested : Tested) (e : Seen) (past : List Seen) (rule : Rule) → places tested past rule ≤ places tested (e ∷ past) rule
places-kept tested e past rule =
    let more = places-step tested e past rule in
    omega arith

-- ---- places and faults

-- a statement has as many places as faults
pub places-faults : (tested : Tested) (log : List Seen) (rule : Rule) → is_on_bytes tested rule ≡ false → count (λ m. fails tested log (position m) rule) (moments log) ≤ places tested log rule
unfolding places
places-faults tested log rule by_bytes =
    count-wider (λ m. fails tested log (position m) rule) (λ m. applies tested log (position m) rule) (λ m h. fails-applies tested log (position m) rule by_bytes h) (moments log)

-- and at least one if it has a fault anywhere
pub places-fault : (tested : Tested) (log : List Seen) (k : ℕ) (rule : Rule) → is_on_bytes tested rule ≡ false → fails tested log k rule ≡ true → 1 ≤ places tested log rule
unfolding places
places-fault tested log k rule by_bytes h = go (moment log k) refl
  where
    go : (o : Option Moment) → moment log k ≡ o → 1 ≤ count (λ m. applies tested log (position m) rule) (moments log)
    go None is = absurd (let nothing : fails tested log k rule ≡ false = fails-nowhere tested log k rule is in cc)
    go (Some m) is =
        let at : k ≡ position m = (moment-beginning log k m is).at in
        count-one (λ m. applies tested log (position m) rule) (moments log) m (moment-among log k m is)
        (ap (λ n. applies tested log n rule) (sym at) ∙ fails-applies tested log k rule by_bytes h)
