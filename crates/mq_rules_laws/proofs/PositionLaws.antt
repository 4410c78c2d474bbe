-- The words on moments, by positions: the laws that `mq_rules` itself doesn't need.
use Rattle.std.proofs.Common.{◌≡◌, ℕ, zero, suc, ◌+◌, ◌<◌, ◌≤◌, Bool, true, false, cond, ◌||◌, List, [], ◌∷◌, ◌++◌, length, Option, Some, None, refl, ap, sym, ◌∙◌, arith, ◌⊎◌, inl, inr, take, length-append}
use Rattle.std.specs.Option.{option_or}
use Rattle.mq_rules.specs.declared.note.Note.{Note}
use Rattle.mq_rules.specs.declared.note.Seen.{Seen}
use Rattle.mq_rules.specs.Moments.{Moment, newest, position, note, moment, those, latest, first_found, earliest_since, count, some_stretch, IsMomentAt, Among, IsDescending, IsLatest, IsFirstFound, IsEarliestSince}
use Rattle.mq_rules.proofs.Exports.{earliest_since-is, moment-newest, moment-older, none-first_found, or_parts, or_right}

-- ---- positions and their moments

moment-joined : (later : List Seen) (e : Seen) (past : List Seen) → moment (later ++ (e ∷ past)) (length past + 1) ≡ Some (newest e past)
moment-joined [] e past = moment-newest e past (length past + 1) refl
moment-joined (l ∷ later) e past =
    let l_is = length-append later (e ∷ past) in
    moment-older l (later ++ (e ∷ past)) (length past + 1) (omega arith) ∙ moment-joined later e past

pub beginning-moment : (log : List Seen) (k : ℕ) (m : Moment) → IsMomentAt log k m → moment log k ≡ Some m
beginning-moment log k m b = ap (λ n. moment log n) b.at ∙ ap (λ es. moment es (position m)) b.joined ∙ moment-joined b.later m.event m.past

-- ---- scopes

pub among-those : (test : Moment → Bool) (ms : List Moment) (m : Moment) → Among m ms → test m ≡ true → Among m (those test ms)
among-those test [] m h passes = absurd h
among-those test (n ∷ ms) m h passes = go (test n) refl h (λ h. among-those test ms m h passes)
  where
    go : (b : Bool) → test n ≡ b → (m ≡ n) ⊎ Among m ms → (Among m ms → Among m (those test ms)) → Among m (cond b (n ∷ those test ms) (those test ms))
    go true t (inl is) rest = inl is
    go true t (inr h) rest = inr (rest h)
    go false t (inl is) rest = absurd (let passed : test n ≡ true = ap test (sym is) ∙ passes in cc)
    go false t (inr h) rest = rest h

-- ---- `latest`

pub is-latest : (test : Moment → Bool) (ms : List Moment) (at : Moment) → IsDescending ms → IsLatest test ms at → latest test ms ≡ Some at
is-latest test [] at d r = absurd (r.there)
is-latest test (m ∷ ms) at d r = go r.there (is-latest test ms at d.1)
  where
    go : (at ≡ m) ⊎ Among at ms → (IsLatest test ms at → latest test ms ≡ Some at) → latest test (m ∷ ms) ≡ Some at
    go (inl is) rest = ap (λ b. cond b (Some m) (latest test ms)) (ap test (sym is) ∙ r.passes) ∙ ap Some (sym is)
    go (inr h) rest =
        ap (λ b. cond b (Some m) (latest test ms)) (r.none_after m (inl refl) (d.0 at h))
        ∙ rest (record { there = h; passes = r.passes; none_after = λ n there lt. r.none_after n (inr there) lt })

pub latest-none : (test : Moment → Bool) (ms : List Moment) → latest test ms ≡ None → (m : Moment) → Among m ms → test m ≡ false
latest-none test [] h m there = absurd there
latest-none test (n ∷ ms) h m there = go (test n) refl h there (latest-none test ms)
  where
    go : (b : Bool) → test n ≡ b → cond b (Some n) (latest test ms) ≡ None → (m ≡ n) ⊎ Among m ms → (latest test ms ≡ None → (m : Moment) → Among m ms → test m ≡ false) → test m ≡ false
    go true t h there rest = absurd (cc)
    go false t h (inl is) rest = ap test is ∙ t
    go false t h (inr there) rest = rest h m there

pub none-latest : (test : Moment → Bool) (ms : List Moment) → ((m : Moment) → Among m ms → test m ≡ false) → latest test ms ≡ None
none-latest test [] none = refl
none-latest test (m ∷ ms) none = ap (λ b. cond b (Some m) (latest test ms)) (none m (inl refl)) ∙ none-latest test ms (λ n there. none n (inr there))

-- ---- `first_found`

option_or-absent : {A : Type 0} (o p : Option A) → option_or o p ≡ None → (o ≡ None) × (p ≡ None)
option_or-absent None p h = (refl, h)
option_or-absent (Some a) p h = absurd (cc)

pub first_found-none : {A : Type 0} (found : Note → Option A) (ms : List Moment) → first_found found ms ≡ None → (m : Moment) → Among m ms → found (note m) ≡ None
first_found-none found [] h m there = absurd there
first_found-none found (n ∷ ms) h m (inl is) = ap (λ (l : Moment). found (note l)) is ∙ (option_or-absent (first_found found ms) (found (note n)) h).1
first_found-none found (n ∷ ms) h m (inr there) = first_found-none found ms (option_or-absent (first_found found ms) (found (note n)) h).0 m there

pub first_found-is : {A : Type 0} (found : Note → Option A) (ms : List Moment) (a : A) → IsDescending ms → first_found found ms ≡ Some a → IsFirstFound found ms a
first_found-is found [] a d h = absurd (cc)
first_found-is {A = A} found (m ∷ ms) a d h = go (first_found found ms) refl h (first_found-is found ms a d.1)
  where
    before : IsFirstFound found ms a → IsFirstFound found (m ∷ ms) a
    before r = record { at = r.at; there = inr r.there; has = r.has; none_before = λ n h lt. none n h lt }
      where
        none : (n : Moment) → Among n (m ∷ ms) → position n < position r.at → found (note n) ≡ None
        none n (inl same) lt = absurd (let p : position n ≡ position m = ap position same in let later = d.0 r.at r.there in omega arith)
        none n (inr h) lt = r.none_before n h lt

    here : first_found found ms ≡ None → found (note m) ≡ Some a → IsFirstFound found (m ∷ ms) a
    here absent has = record { at = m; there = inl refl; has = has; none_before = λ n h lt. none n h lt }
      where
        none : (n : Moment) → Among n (m ∷ ms) → position n < position m → found (note n) ≡ None
        none n (inl same) lt = absurd (let p : position n ≡ position m = ap position same in omega arith)
        none n (inr h) lt = first_found-none found ms absent n h

    go : (o : Option A) → first_found found ms ≡ o → option_or o (found (note m)) ≡ Some a → (first_found found ms ≡ Some a → IsFirstFound found ms a) → IsFirstFound found (m ∷ ms) a
    go (Some b) is h rest = before (rest (is ∙ h))
    go None is h rest = here is h

pub is-first_found : {A : Type 0} (found : Note → Option A) (ms : List Moment) (a : A) → IsDescending ms → IsFirstFound found ms a → first_found found ms ≡ Some a
is-first_found found [] a d r = absurd (r.there)
is-first_found {A = A} found (m ∷ ms) a d r = go r.there (is-first_found found ms a d.1)
  where
    go : (r.at ≡ m) ⊎ Among r.at ms → (IsFirstFound found ms a → first_found found ms ≡ Some a) → first_found found (m ∷ ms) ≡ Some a
    go (inl is) rest =
        let same : position r.at ≡ position m = ap position is in
        ap (λ o. option_or o (found (note m))) (none-first_found found ms (λ n h. r.none_before n (inr h) (let before = d.0 n h in omega arith)))
        ∙ ap (λ (n : Moment). found (note n)) (sym is) ∙ r.has
    go (inr h) rest = ap (λ o. option_or o (found (note m))) (rest (record { at = r.at; there = h; has = r.has; none_before = λ n there lt. r.none_before n (inr there) lt }))

-- ---- `earliest_since`

pub is-earliest_since : (starts ends : Moment → Bool) (ms : List Moment) (at : Moment) → IsDescending ms → IsEarliestSince starts ends ms at → earliest_since starts ends ms ≡ Some at
is-earliest_since starts ends [] at d r = absurd (r.there)
is-earliest_since starts ends (m ∷ ms) at d r = go r.there (is-earliest_since starts ends ms at d.1)
  where
    others : ends m ≡ false → (n : Moment) → (l : Moment) × Among l (m ∷ ms) × (position n < position l) × (ends l ≡ true) → (l : Moment) × Among l ms × (position n < position l) × (ends l ≡ true)
    others kept n x = pick x.1
      where
        pick : (x.0 ≡ m) ⊎ Among x.0 ms → (l : Moment) × Among l ms × (position n < position l) × (ends l ≡ true)
        pick (inl is) = absurd (let t : ends m ≡ true = ap ends (sym is) ∙ x.3 in cc)
        pick (inr h) = (x.0, h, x.2, x.3)

    absent : at ≡ m → (b : Bool) (o : Option Moment) → ends m ≡ b → earliest_since starts ends ms ≡ o → cond b None o ≡ None
    absent is true o b e = refl
    absent is false None b e = refl
    absent is false (Some x) b e = absurd (
        let y = earliest_since-is starts ends ms x d.1 e in
        let same : position at ≡ position m = ap position is in
        let less = d.0 x y.there in
        let z = others b x (r.others_end x (inr y.there) (omega arith) y.passes) in
        let never : ends z.0 ≡ false = y.none_after z.0 z.1 z.2 in
        let ever : ends z.0 ≡ true = z.3 in
        cc)

    go : (at ≡ m) ⊎ Among at ms → (IsEarliestSince starts ends ms at → earliest_since starts ends ms ≡ Some at) → earliest_since starts ends (m ∷ ms) ≡ Some at
    go (inl is) rest =
        ap (λ o. option_or o (cond (starts m) (Some m) None)) (absent is (ends m) (earliest_since starts ends ms) refl refl)
        ∙ ap (λ b. cond b (Some m) None) (ap starts (sym is) ∙ r.passes) ∙ ap Some (sym is)
    go (inr h) rest =
        let kept : ends m ≡ false = r.none_after m (inl refl) (d.0 at h) in
        ap (λ b. option_or (cond b None (earliest_since starts ends ms)) (cond (starts m) (Some m) None)) kept
        ∙ ap (λ o. option_or o (cond (starts m) (Some m) None)) (rest (record {
          there = h;
          passes = r.passes;
          none_after = λ n there lt. r.none_after n (inr there) lt;
          others_end = λ n there lt passes. others kept n (r.others_end n (inr there) lt passes);
        }))

-- ---- `count` and `some_stretch`

pub count-those : (test : Moment → Bool) (ms : List Moment) → count test ms ≡ length (those test ms)
count-those test [] = refl
count-those test (m ∷ ms) = go (test m) (count-those test ms)
  where
    go : (b : Bool) → count test ms ≡ length (those test ms) → cond b 1 0 + count test ms ≡ length (cond b (m ∷ those test ms) (those test ms))
    go true h = omega arith
    go false h = omega arith

pub stretch-some : (test : List Moment → Bool) (ms : List Moment) (n : ℕ) → n ≤ length ms → test (take n ms) ≡ true → some_stretch test ms ≡ true
stretch-some test [] zero le passes = passes
stretch-some test [] (suc n) le passes = absurd (omega arith)
stretch-some test (m ∷ ms) zero le passes = ap (λ b. b || some_stretch (λ stretch. test (m ∷ stretch)) ms) passes
stretch-some test (m ∷ ms) (suc n) le passes = or_right (test []) (some_stretch (λ stretch. test (m ∷ stretch)) ms) (stretch-some (λ stretch. test (m ∷ stretch)) ms n (omega arith) passes)

pub some-stretch : (test : List Moment → Bool) (ms : List Moment) → some_stretch test ms ≡ true → (n : ℕ) × (n ≤ length ms) × (test (take n ms) ≡ true)
some-stretch test [] h = (0, omega arith, h)
some-stretch test (m ∷ ms) h = go (or_parts (test []) (some_stretch (λ stretch. test (m ∷ stretch)) ms) h) (some-stretch (λ stretch. test (m ∷ stretch)) ms)
  where
    go : (test [] ≡ true) ⊎ (some_stretch (λ stretch. test (m ∷ stretch)) ms ≡ true)
        → (some_stretch (λ stretch. test (m ∷ stretch)) ms ≡ true → (n : ℕ) × (n ≤ length ms) × (test (m ∷ take n ms) ≡ true)) → (n : ℕ) × (n ≤ length (m ∷ ms)) × (test (take n (m ∷ ms)) ≡ true)
    go (inl passes) rest = (0, omega arith, passes)
    go (inr h) rest = let r = rest h in let le = r.1 in (suc r.0, omega arith, r.2)
