-- Marking identifiers in a session, going back over it event by event.
use Rattle.std.proofs.Common.{◌≡◌, ℕ, ◌+◌, ◌<◌, ◌≤◌, Bool, true, false, cond, ◌&&◌, ◌||◌, not, List, [], ◌∷◌, length, Option, refl, ap, sym, ◌∙◌, arith}
use Rattle.std.proofs.lemmas.Bool.{eq-eqb}
use Rattle.mq_rules.specs.declared.role.Role.{Role}
use Rattle.mq_rules.specs.declared.fate.Fate.{Fate}
use Rattle.mq_rules.specs.declared.note.Note.{Note}
use Rattle.mq_rules.specs.declared.note.Seen.{Seen}
use Rattle.mq_rules.specs.Notes.{is_open, is_release}
use Rattle.mq_rules.specs.Moments.{Moment, newest, position, note, is_same, since}
use Rattle.mq_rules.specs.Connections.{session, has_session, with_first, begins, accepted, latest_fate}
use Rattle.mq_rules.proofs.Exports.{and_false, differ}

-- ---- one moment in a session

since-other : (starts ends : Moment → Bool) (b : Bool) (m : Moment) (ms : List Moment) → starts m ≡ false → since starts ends (with_first b m ms) ≡ (not (b && ends m) && since starts ends ms)
since-other starts ends true m ms h = ap (λ s. s || (not (ends m) && since starts ends ms)) h
since-other starts ends false m ms h = refl

-- what stands before an event in its session
before_event : Role → Option Fate → Seen → List Seen → List Moment
before_event role f e past = cond (is_open e.note) (cond (begins f) [] (session role (latest_fate role past) past)) (session role f past)

before-none : (role : Role) (f : Option Fate) (e : Seen) (past : List Seen) (starts ends : Moment → Bool) → ((g : Option Fate) → since starts ends (session role g past) ≡ false)
    → since starts ends (before_event role f e past) ≡ false
unfolding before_event
before-none role f e past starts ends none = go (is_open e.note) (begins f)
  where
    go : (o b : Bool) → since starts ends (cond o (cond b [] (session role (latest_fate role past) past)) (session role f past)) ≡ false
    go true true = refl
    go true false = none (latest_fate role past)
    go false b = none f

other_moment : (k : Moment) (e : Seen) (past : List Seen) → (position k ≡ length past + 1 → ⊥) → is_same k (newest e past) ≡ false
other_moment k e past h = differ (position k) (length past + 1) h

-- a later moment isn't there
since-later : (role : Role) (k : Moment) (ends : Moment → Bool) (log : List Seen) (f : Option Fate) → length log < position k → since (is_same k) ends (session role f log) ≡ false
unfolding before_event
since-later role k ends [] f h = refl
since-later role k ends (e ∷ past) f h =
    let lt : length past < position k = omega arith in
    since-other (is_same k) ends (has_session role f e past) (newest e past) (before_event role f e past) (other_moment k e past (λ is. omega arith))
    ∙ ap (λ b. not (has_session role f e past && ends (newest e past)) && b) (before-none role f e past (is_same k) ends (λ g. since-later role k ends past g lt))
    ∙ and_false (not (has_session role f e past && ends (newest e past)))

-- the newest moment is there, if it is in the session
pub since-newest : (role : Role) (f : Option Fate) (e : Seen) (past : List Seen) (ends : Moment → Bool) → since (is_same (newest e past)) ends (session role f (e ∷ past)) ≡ has_session role f e past
unfolding before_event
since-newest role f e past ends = go (has_session role f e past)
    (before-none role f e past (is_same (newest e past)) ends (λ g. since-later role (newest e past) ends past g (omega arith)))
  where
    go : (b : Bool) → since (is_same (newest e past)) ends (before_event role f e past) ≡ false
        → since (is_same (newest e past)) ends (with_first b (newest e past) (before_event role f e past)) ≡ b
    go true none = ap (λ s. s || (not (ends (newest e past)) && since (is_same (newest e past)) ends (before_event role f e past))) (eq-eqb (length past + 1) (length past + 1) refl)
    go false none = none

-- an earlier moment, with one event more
since-earlier : (role : Role) (f g : Option Fate) (e : Seen) (past : List Seen) (k : Moment) (ends : Moment → Bool) (begun : Bool) → position k ≤ length past
    → begun ≡ (is_open e.note && begins f) → begun ≡ false → g ≡ cond (is_open e.note) (latest_fate role past) f
    → since (is_same k) ends (session role f (e ∷ past)) ≡ (not (has_session role f e past && ends (newest e past)) && since (is_same k) ends (session role g past))
unfolding before_event
since-earlier role f g e past k ends begun le at on is =
    since-other (is_same k) ends (has_session role f e past) (newest e past) (before_event role f e past) (other_moment k e past (λ same. omega arith))
    ∙ ap (λ ms. not (has_session role f e past && ends (newest e past)) && since (is_same k) ends ms) (go (is_open e.note) (begins f) (sym at ∙ on) ∙ ap (λ h. session role h past) (sym is))
  where
    go : (o b : Bool) → (o && b) ≡ false → cond o (cond b [] (session role (latest_fate role past) past)) (session role f past) ≡ session role (cond o (latest_fate role past) f) past
    go true true h = absurd (cc)
    go true false h = refl
    go false b h = refl

-- where the session begins with the connection, nothing stands before it
pub since-begun : (role : Role) (f : Option Fate) (e : Seen) (past : List Seen) (k : Moment) (ends : Moment → Bool) (begun : Bool) → position k ≤ length past
    → begun ≡ (is_open e.note && begins f) → begun ≡ true → since (is_same k) ends (session role f (e ∷ past)) ≡ false
unfolding before_event
since-begun role f e past k ends begun le at on =
    since-other (is_same k) ends (has_session role f e past) (newest e past) (before_event role f e past) (other_moment k e past (λ same. omega arith))
    ∙ ap (λ ms. not (has_session role f e past && ends (newest e past)) && since (is_same k) ends ms) (go (is_open e.note) (begins f) (sym at ∙ on))
    ∙ and_false (not (has_session role f e past && ends (newest e past)))
  where
    go : (o b : Bool) → (o && b) ≡ true → cond o (cond b [] (session role (latest_fate role past) past)) (session role f past) ≡ []
    go true true h = refl
    go true false h = absurd (cc)
    go false b h = absurd (cc)

-- what isn't a release is in a session where the connection is accepted
in-accepted : (a r x q : Bool) → (r ≡ true → q ≡ false) → ((a || (r && x)) && q) ≡ (a && q)
in-accepted true r x q h = refl
in-accepted false true x q h = ap (λ b. x && b) (h refl) ∙ and_false x
in-accepted false false x q h = refl

-- ---- what was marked after these events

-- Of each identifier it is marked whether a moment of the session after these events passes the test.
pub record IsMarked (test : ℕ → Note → Bool) (role : Role) (whole : List Moment) (f : Option Fate) (rest : List Seen) (marked : ℕ → Bool) : Type 0 where
  pub each : (i : ℕ) (k : Moment) → position k ≤ length rest → since (is_same k) (λ m. test i (note m)) whole ≡ (not (marked i) && since (is_same k) (λ m. test i (note m)) (session role f rest))

pub marked-start : (test : ℕ → Note → Bool) (role : Role) (f : Option Fate) (past : List Seen) (marked : ℕ → Bool) → ((i : ℕ) → marked i ≡ false)
    → IsMarked test role (session role f past) f past marked
marked-start test role f past marked none = record {
  each = λ i k le. sym (ap (λ b. not b && since (is_same k) (λ m. test i (note m)) (session role f past)) (none i));
}

pub marked-step : (test : ℕ → Note → Bool) (role : Role) (whole : List Moment) (f g : Option Fate) (e : Seen) (past : List Seen) (marked new : ℕ → Bool) (is_in begun : Bool)
    → ((i : ℕ) → is_release e.note ≡ true → test i e.note ≡ false) → is_in ≡ accepted f → begun ≡ (is_open e.note && begins f) → begun ≡ false
    → g ≡ cond (is_open e.note) (latest_fate role past) f → ((i : ℕ) → new i ≡ ((is_in && test i e.note) || marked i))
    → IsMarked test role whole f (e ∷ past) marked → IsMarked test role whole g past new
marked-step test role whole f g e past marked new is_in begun idle inside at on is now was = record {
  each = λ i k le.
      let shorter : position k ≤ length (e ∷ past) = omega arith in
      was.each i k shorter
      ∙ ap (λ b. not (marked i) && b) (since-earlier role f g e past k (λ m. test i (note m)) begun le at on is
      ∙ ap (λ b. not b && since (is_same k) (λ m. test i (note m)) (session role g past)) (in-accepted (accepted f) (is_release e.note) _ (test i e.note) (idle i)
      ∙ ap (λ a. a && test i e.note) (sym inside)))
      ∙ both (marked i) (is_in && test i e.note) (since (is_same k) (λ m. test i (note m)) (session role g past))
      ∙ ap (λ b. not b && since (is_same k) (λ m. test i (note m)) (session role g past)) (sym (now i));
}
  where
    both : (w q x : Bool) → (not w && (not q && x)) ≡ (not (q || w) && x)
    both true true x = refl
    both true false x = refl
    both false true x = refl
    both false false x = refl
