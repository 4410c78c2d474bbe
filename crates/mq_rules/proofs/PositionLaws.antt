-- The words on moments, by positions.
use Rattle.std.proofs.Common.{◌≡◌, ℕ, ◌+◌, ◌<◌, ◌≤◌, ◌==◌, Bool, true, false, cond, ◌&&◌, ◌||◌, not, List, [], ◌∷◌, length, Option, Some, None, refl, ap, sym, ◌∙◌, subst, arith, ◌⊎◌, inl, inr}
use Rattle.std.specs.Prelude.{is_some}
use Rattle.std.proofs.lemmas.Bool.{eq-eqb, eqb-true}
use Rattle.std.specs.Option.{option_or}
use Rattle.mq_rules.specs.declared.role.Role.{Role}
use Rattle.mq_rules.specs.declared.fate.Fate.{Fate}
use Rattle.mq_rules.specs.declared.note.Note.{Note}
use Rattle.mq_rules.specs.declared.note.Seen.{Seen}
use Rattle.mq_rules.specs.Notes.{is_open}
use Rattle.mq_rules.specs.Moments.{Moment, newest, position, note, moments, moment, some, since, those, latest, first_found, earliest_since, IsMomentAt, Among, IsDescending, HoldsSince, IsLatest, IsEarliestSince, IsPlaced}
use Rattle.mq_rules.specs.Connections.{begins, latest_fate, has_session, with_first, session}
use Rattle.mq_rules.proofs.BoolLaws.{differ, or_parts, or_right}
use Rattle.mq_rules.proofs.SessionLaws.{session-members}

-- ---- positions and their moments

pub moment-newest : (e : Seen) (past : List Seen) (k : ℕ) → k ≡ length past + 1 → moment (e ∷ past) k ≡ Some (newest e past)
moment-newest e past k is = ap (λ b. cond b (Some (newest e past)) (moment past k)) (eq-eqb k (length past + 1) is)

-- what comes later leaves a moment as it is
pub moment-older : (e : Seen) (past : List Seen) (k : ℕ) → k ≤ length past → moment (e ∷ past) k ≡ moment past k
moment-older e past k h = ap (λ b. cond b (Some (newest e past)) (moment past k)) (differ k (length past + 1) (λ is. omega arith))

pub among-within : (m : Moment) (log : List Seen) → Among m (moments log) → position m ≤ length log
among-within m [] h = absurd h
among-within m (e ∷ past) (inl is) = let same : position m ≡ length past + 1 = ap position is in omega arith
among-within m (e ∷ past) (inr h) = let le = among-within m past h in omega arith

pub among-moment : (m : Moment) (log : List Seen) → Among m (moments log) → moment log (position m) ≡ Some m
among-moment m [] h = absurd h
among-moment m (e ∷ past) (inl is) = moment-newest e past (position m) (ap position is) ∙ ap Some (sym is)
among-moment m (e ∷ past) (inr h) = moment-older e past (position m) (among-within m past h) ∙ among-moment m past h

pub moment-among : (log : List Seen) (k : ℕ) (m : Moment) → moment log k ≡ Some m → Among m (moments log)
moment-among [] k m h = absurd (cc)
moment-among (e ∷ past) k m h = go (k == length past + 1) h (moment-among past k m)
  where
    go : (b : Bool) → cond b (Some (newest e past)) (moment past k) ≡ Some m → (moment past k ≡ Some m → Among m (moments past)) → Among m (moments (e ∷ past))
    go true h rest = inl (cc)
    go false h rest = inr (rest h)

pub moment-beginning : (log : List Seen) (k : ℕ) (m : Moment) → moment log k ≡ Some m → IsMomentAt log k m
moment-beginning [] k m h = absurd (cc)
moment-beginning (e ∷ past) k m h = go (k == length past + 1) refl h (moment-beginning past k m)
  where
    first : k ≡ length past + 1 → m ≡ newest e past → IsMomentAt (e ∷ past) k m
    first at is = record { at = at ∙ ap position (sym is); later = []; joined = ap (λ (n : Moment). n.event ∷ n.past) (sym is) }

    go : (b : Bool) → (k == length past + 1) ≡ b → cond b (Some (newest e past)) (moment past k) ≡ Some m → (moment past k ≡ Some m → IsMomentAt past k m) → IsMomentAt (e ∷ past) k m
    go true t h rest = first (eqb-true k (length past + 1) t) (cc)
    go false t h rest = let r = rest h in record { at = r.at; later = e ∷ r.later; joined = ap (λ es. e ∷ es) r.joined }

-- in a log whose events have their places, the event at a position has that position
pub moment-placed : (log : List Seen) (k : ℕ) (m : Moment) → IsPlaced log → moment log k ≡ Some m → m.event.place.position ≡ k
moment-placed [] k m p h = absurd (cc)
moment-placed (e ∷ past) k m p h = go (k == length past + 1) refl h (moment-placed past k m p.1)
  where
    go : (b : Bool) → (k == length past + 1) ≡ b → cond b (Some (newest e past)) (moment past k) ≡ Some m → (moment past k ≡ Some m → m.event.place.position ≡ k) → m.event.place.position ≡ k
    go true t h rest = let same : m ≡ newest e past = cc in ap (λ (n : Moment). n.event.place.position) same ∙ p.0 ∙ sym (eqb-true k (length past + 1) t)
    go false t h rest = rest h

-- ---- scopes

pub moments-descend : (log : List Seen) → IsDescending (moments log)
moments-descend [] = tt
moments-descend (e ∷ past) = (λ n h. let le = among-within n past h in omega arith, moments-descend past)

pub those-among : (test : Moment → Bool) (ms : List Moment) (m : Moment) → Among m (those test ms) → Among m ms × (test m ≡ true)
those-among test [] m h = absurd h
those-among test (n ∷ ms) m h = go (test n) refl h (those-among test ms m)
  where
    go : (b : Bool) → test n ≡ b → Among m (cond b (n ∷ those test ms) (those test ms)) → (Among m (those test ms) → Among m ms × (test m ≡ true)) → Among m (n ∷ ms) × (test m ≡ true)
    go true t (inl is) rest = (inl is, ap test is ∙ t)
    go true t (inr h) rest = (inr (rest h).0, (rest h).1)
    go false t h rest = (inr (rest h).0, (rest h).1)

pub those-descend : (test : Moment → Bool) (ms : List Moment) → IsDescending ms → IsDescending (those test ms)
those-descend test [] d = tt
those-descend test (m ∷ ms) d = go (test m) (those-descend test ms d.1)
  where
    go : (b : Bool) → IsDescending (those test ms) → IsDescending (cond b (m ∷ those test ms) (those test ms))
    go true rest = (λ n h. d.0 n (those-among test ms n h).0, rest)
    go false rest = rest

with_first-descend : (b : Bool) (m : Moment) (ms : List Moment) → ((n : Moment) → Among n ms → position n < position m) → IsDescending ms → IsDescending (with_first b m ms)
with_first-descend true m ms before d = (before, d)
with_first-descend false m ms before d = d

-- the rest of a session at an event: what was in the session before
record IsRest (past : List Seen) (ms : List Moment) : Type 0 where
  among : (n : Moment) → Among n ms → Among n (moments past)
  descends : IsDescending ms

pub session-descend : (role : Role) (f : Option Fate) (log : List Seen) → IsDescending (session role f log)
session-descend role f [] = tt
session-descend role f (e ∷ past) =
    let rest = go (is_open e.note) (begins f) (session-descend role (latest_fate role past) past) (session-descend role f past) in
    with_first-descend (has_session role f e past) (newest e past) (cond (is_open e.note) (cond (begins f) [] (session role (latest_fate role past) past)) (session role f past))
    (λ n h. let le = among-within n past (rest.among n h) in omega arith) rest.descends
  where
    before : (g : Option Fate) → IsDescending (session role g past) → IsRest past (session role g past)
    before g d = record { among = λ n h. (session-members role g past n h).0; descends = d }

    go : (b new : Bool) → IsDescending (session role (latest_fate role past) past) → IsDescending (session role f past)
        → IsRest past (cond b (cond new [] (session role (latest_fate role past) past)) (session role f past))
    go true true latest same = record { among = λ n h. absurd h; descends = tt }
    go true false latest same = before (latest_fate role past) latest
    go false new latest same = before f same

-- ---- `some`

pub some-among : (test : Moment → Bool) (ms : List Moment) → some test ms ≡ true → (m : Moment) × Among m ms × (test m ≡ true)
some-among test [] h = absurd (cc)
some-among test (m ∷ ms) h = go (or_parts (test m) (some test ms) h) (some-among test ms)
  where
    go : (test m ≡ true) ⊎ (some test ms ≡ true) → (some test ms ≡ true → (n : Moment) × Among n ms × (test n ≡ true)) → (n : Moment) × Among n (m ∷ ms) × (test n ≡ true)
    go (inl passes) rest = (m, inl refl, passes)
    go (inr h) rest = let r = rest h in (r.0, inr r.1, r.2)

pub among-some : (test : Moment → Bool) (ms : List Moment) (m : Moment) → Among m ms → test m ≡ true → some test ms ≡ true
among-some test [] m h passes = absurd h
among-some test (n ∷ ms) m (inl is) passes = ap (λ b. b || some test ms) (ap test (sym is) ∙ passes)
among-some test (n ∷ ms) m (inr h) passes = or_right (test n) (some test ms) (among-some test ms m h passes)

-- ---- `since`

since_cases : (a b c : Bool) → (a || (not b && c)) ≡ true → (a ≡ true) ⊎ ((b ≡ false) × (c ≡ true))
since_cases true b c h = inl refl
since_cases false true c h = absurd (cc)
since_cases false false c h = inr (refl, h)

since_kept : (a b c : Bool) → b ≡ false → c ≡ true → (a || (not b && c)) ≡ true
since_kept true b c h k = refl
since_kept false true c h k = absurd (cc)
since_kept false false c h k = k

pub since-stands : (starts ends : Moment → Bool) (ms : List Moment) → IsDescending ms → since starts ends ms ≡ true → HoldsSince starts ends ms
since-stands starts ends [] d h = absurd (cc)
since-stands starts ends (m ∷ ms) d h = go (since_cases (starts m) (ends m) (since starts ends ms) h) (since-stands starts ends ms d.1)
  where
    after : (at : Moment) → (n : Moment) → Among n (m ∷ ms) → position at < position n → ends m ≡ false → ((l : Moment) → Among l ms → position at < position l → ends l ≡ false) → ends n ≡ false
    after at n (inl is) lt kept rest = ap ends is ∙ kept
    after at n (inr h) lt kept rest = rest n h lt

    none : (n : Moment) → Among n (m ∷ ms) → position m < position n → ends n ≡ false
    none n (inl is) lt = absurd (let same : position n ≡ position m = ap position is in omega arith)
    none n (inr h) lt = absurd (let before = d.0 n h in omega arith)

    go : (starts m ≡ true) ⊎ ((ends m ≡ false) × (since starts ends ms ≡ true)) → (since starts ends ms ≡ true → HoldsSince starts ends ms) → HoldsSince starts ends (m ∷ ms)
    go (inl passes) rest = record { at = m; there = inl refl; passes = passes; none_after = none }
    go (inr p) rest =
        let s = rest p.1 in
        record { at = s.at; there = inr s.there; passes = s.passes; none_after = λ n h lt. after s.at n h lt p.0 s.none_after }

pub stands-since : (starts ends : Moment → Bool) (ms : List Moment) → IsDescending ms → HoldsSince starts ends ms → since starts ends ms ≡ true
stands-since starts ends [] d s = absurd (s.there)
stands-since starts ends (m ∷ ms) d s = go s.there (stands-since starts ends ms d.1)
  where
    go : (s.at ≡ m) ⊎ Among s.at ms → (HoldsSince starts ends ms → since starts ends ms ≡ true) → since starts ends (m ∷ ms) ≡ true
    go (inl is) rest = ap (λ b. b || (not (ends m) && since starts ends ms)) (ap starts (sym is) ∙ s.passes)
    go (inr h) rest =
        since_kept (starts m) (ends m) (since starts ends ms) (s.none_after m (inl refl) (d.0 s.at h))
        (rest (record { at = s.at; there = h; passes = s.passes; none_after = λ n there lt. s.none_after n (inr there) lt }))

-- ---- `latest`

pub latest-is : (test : Moment → Bool) (ms : List Moment) (at : Moment) → IsDescending ms → latest test ms ≡ Some at → IsLatest test ms at
latest-is test [] at d h = absurd (cc)
latest-is test (m ∷ ms) at d h = go (test m) refl h (latest-is test ms at d.1)
  where
    here : test m ≡ true → at ≡ m → IsLatest test (m ∷ ms) at
    here passes is = record { there = inl is; passes = ap test is ∙ passes; none_after = λ n h lt. none n h lt }
      where
        none : (n : Moment) → Among n (m ∷ ms) → position at < position n → test n ≡ false
        none n (inl same) lt = absurd (let p : position n ≡ position m = ap position same in let q : position at ≡ position m = ap position is in omega arith)
        none n (inr h) lt = absurd (let before = d.0 n h in let q : position at ≡ position m = ap position is in omega arith)

    later : test m ≡ false → IsLatest test ms at → IsLatest test (m ∷ ms) at
    later fails r = record { there = inr r.there; passes = r.passes; none_after = λ n h lt. none n h lt }
      where
        none : (n : Moment) → Among n (m ∷ ms) → position at < position n → test n ≡ false
        none n (inl same) lt = ap test same ∙ fails
        none n (inr h) lt = r.none_after n h lt

    go : (b : Bool) → test m ≡ b → cond b (Some m) (latest test ms) ≡ Some at → (latest test ms ≡ Some at → IsLatest test ms at) → IsLatest test (m ∷ ms) at
    go true t h rest = here t (cc)
    go false t h rest = later t (rest h)

-- ---- `first_found`

pub none-first_found : {A : Type 0} (found : Note → Option A) (ms : List Moment) → ((m : Moment) → Among m ms → found (note m) ≡ None) → first_found found ms ≡ None
none-first_found found [] none = refl
none-first_found found (m ∷ ms) none = ap (λ o. option_or o (found (note m))) (none-first_found found ms (λ n there. none n (inr there))) ∙ none m (inl refl)

-- ---- `earliest_since`

-- there is one exactly where `since` says so
pub earliest_since-there : (starts ends : Moment → Bool) (ms : List Moment) → is_some (earliest_since starts ends ms) ≡ since starts ends ms
earliest_since-there starts ends [] = refl
earliest_since-there starts ends (m ∷ ms) = go (starts m) (ends m) (earliest_since starts ends ms) ∙ ap (λ b. starts m || (not (ends m) && b)) (earliest_since-there starts ends ms)
  where
    go : (a b : Bool) (o : Option Moment) → is_some (option_or (cond b None o) (cond a (Some m) None)) ≡ (a || (not b && is_some o))
    go true true o = refl
    go true false None = refl
    go true false (Some n) = refl
    go false true o = refl
    go false false None = refl
    go false false (Some n) = refl

-- where it has none, each moment that passes the first test has a later one that passes the second
since-ended : (starts ends : Moment → Bool) (ms : List Moment) → IsDescending ms → since starts ends ms ≡ false → (n : Moment) → Among n ms → starts n ≡ true
    → (l : Moment) × Among l ms × (position n < position l) × (ends l ≡ true)
since-ended starts ends [] d h n there passes = absurd there
since-ended starts ends (m ∷ ms) d h n (inl is) passes = absurd (let t : starts m ≡ true = ap starts (sym is) ∙ passes in let u : since starts ends (m ∷ ms) ≡ true = ap (λ b. b || (not (ends m) && since starts ends ms)) t in cc)
since-ended starts ends (m ∷ ms) d h n (inr there) passes = go (starts m) (ends m) refl h (λ h. since-ended starts ends ms d.1 h n there passes)
  where
    go : (a b : Bool) → ends m ≡ b → (a || (not b && since starts ends ms)) ≡ false → (since starts ends ms ≡ false → (l : Moment) × Among l ms × (position n < position l) × (ends l ≡ true))
        → (l : Moment) × Among l (m ∷ ms) × (position n < position l) × (ends l ≡ true)
    go true b t h rest = absurd (cc)
    go false true t h rest = (m, inl refl, d.0 n there, t)
    go false false t h rest = let r = rest h in (r.0, inr r.1, r.2, r.3)

pub earliest_since-is : (starts ends : Moment → Bool) (ms : List Moment) (at : Moment) → IsDescending ms → earliest_since starts ends ms ≡ Some at → IsEarliestSince starts ends ms at
earliest_since-is starts ends [] at d h = absurd (cc)
earliest_since-is starts ends (m ∷ ms) at d h = go (ends m) (earliest_since starts ends ms) (starts m) refl refl refl h (earliest_since-is starts ends ms at d.1)
  where
    before : ends m ≡ false → IsEarliestSince starts ends ms at → IsEarliestSince starts ends (m ∷ ms) at
    before kept r = record {
      there = inr r.there;
      passes = r.passes;
      none_after = λ n h lt. none n h lt;
      others_end = λ n h lt passes. ended n h lt passes;
    }
      where
        none : (n : Moment) → Among n (m ∷ ms) → position at < position n → ends n ≡ false
        none n (inl is) lt = ap ends is ∙ kept
        none n (inr h) lt = r.none_after n h lt

        ended : (n : Moment) → Among n (m ∷ ms) → position n < position at → starts n ≡ true → (l : Moment) × Among l (m ∷ ms) × (position n < position l) × (ends l ≡ true)
        ended n (inl is) lt passes = absurd (let same : position n ≡ position m = ap position is in let later = d.0 at r.there in omega arith)
        ended n (inr h) lt passes = let x = r.others_end n h lt passes in (x.0, inr x.1, x.2, x.3)

    here : starts m ≡ true → m ≡ at → ((n : Moment) → Among n ms → starts n ≡ true → (l : Moment) × Among l (m ∷ ms) × (position n < position l) × (ends l ≡ true)) → IsEarliestSince starts ends (m ∷ ms) at
    here passes is earlier = subst (IsEarliestSince starts ends (m ∷ ms)) is (record {
      there = inl refl;
      passes = passes;
      none_after = λ n h lt. none n h lt;
      others_end = λ n h lt passes. ended n h lt passes;
    })
      where
        none : (n : Moment) → Among n (m ∷ ms) → position m < position n → ends n ≡ false
        none n (inl same) lt = absurd (let p : position n ≡ position m = ap position same in omega arith)
        none n (inr h) lt = absurd (let less = d.0 n h in omega arith)

        ended : (n : Moment) → Among n (m ∷ ms) → position n < position m → starts n ≡ true → (l : Moment) × Among l (m ∷ ms) × (position n < position l) × (ends l ≡ true)
        ended n (inl same) lt passes = absurd (let p : position n ≡ position m = ap position same in omega arith)
        ended n (inr h) lt passes = earlier n h passes

    over : earliest_since starts ends ms ≡ None → (n : Moment) → Among n ms → starts n ≡ true → (l : Moment) × Among l (m ∷ ms) × (position n < position l) × (ends l ≡ true)
    over none n h passes =
        let x = since-ended starts ends ms d.1 (sym (earliest_since-there starts ends ms) ∙ ap is_some none) n h passes in
        (x.0, inr x.1, x.2, x.3)

    go : (b : Bool) (o : Option Moment) (s : Bool) → ends m ≡ b → earliest_since starts ends ms ≡ o → starts m ≡ s → option_or (cond b None o) (cond s (Some m) None) ≡ Some at
        → (earliest_since starts ends ms ≡ Some at → IsEarliestSince starts ends ms at) → IsEarliestSince starts ends (m ∷ ms) at
    go true o true b is s h rest = here s (cc) (λ n there passes. (m, inl refl, d.0 n there, b))
    go true o false b is s h rest = absurd (cc)
    go false (Some x) passes b is s h rest = before b (rest (is ∙ h))
    go false None true b is s h rest = here s (cc) (over is)
    go false None false b is s h rest = absurd (cc)
