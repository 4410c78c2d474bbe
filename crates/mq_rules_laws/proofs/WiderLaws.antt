-- A test that is passed wherever another one is: on an option, on moments, on stretches, and for each shape of statement.
use Rattle.std.proofs.Common.{◌≡◌, ℕ, nat_lt, ◌<◌, ◌+◌, arith, Bool, true, false, cond, ◌&&◌, ◌||◌, not, List, [], ◌∷◌, Option, Some, None, is_some, ap, sym, refl, ◌∙◌}
use Rattle.std.proofs.lemmas.Bool.{eqb-true, ltb-true}
use Rattle.mq_rules.specs.declared.role.Role.{Role}
use Rattle.mq_rules.specs.declared.fate.Fate.{Fate}
use Rattle.mq_rules.specs.declared.note.Seen.{Seen}
use Rattle.mq_rules.specs.Words.{is_some_and, is_id}
use Rattle.mq_rules.specs.Moments.{Moment, moments, moment, is_after, some, since, count, some_stretch}
use Rattle.mq_rules.specs.Connections.{number, is_beside, is_binding, accepts, couldnt_know, couldnt_know_resumed, is_placed_release}
use Rattle.mq_rules.specs.Statements.{on_past, in_session, at_release, at_rest, by_later, knowing, knowing_resumed, where_placed, is_so_under, where_accepted, is_so}
use Rattle.mq_rules.proofs.Exports.{among-some, and_true, both_true, or_left, or_right, some-among}

-- ---- what may be absent

pub is_there : {A : Type 0} (test : A → Bool) (o : Option A) → is_some_and test o ≡ true → is_some o ≡ true
is_there test None h = absurd (cc)
is_there test (Some a) h = refl

pub wider-there : {A : Type 0} (a b : A → Bool) → ((m : A) → a m ≡ true → b m ≡ true) → (o : Option A) → is_some_and a o ≡ true → is_some_and b o ≡ true
wider-there a b each None h = absurd (cc)
wider-there a b each (Some m) h = each m h

-- a number that passes the test
pub passing-id : (i : ℕ) (test : ℕ → Bool) (o : Option ℕ) → test i ≡ true → is_id i o ≡ true → is_some_and test o ≡ true
passing-id i test None t h = absurd (cc)
passing-id i test (Some j) t h = ap test (sym (eqb-true i j h)) ∙ t

-- two tests at once
wider-both : (a b c : Bool) → (a ≡ true → b ≡ true) → (a && c) ≡ true → (b && c) ≡ true
wider-both a b c each h = let p = both_true a c h in and_true b c (each p.0) p.1

pub first_true : (a b : Bool) → (a && b) ≡ true → a ≡ true
first_true a b h = (both_true a b h).0

-- ---- moments

pub wider-some : (a b : Moment → Bool) → ((m : Moment) → a m ≡ true → b m ≡ true) → (ms : List Moment) → some a ms ≡ true → some b ms ≡ true
wider-some a b each ms h = let r = some-among a ms h in among-some b ms r.0 r.1 (each r.0 r.2)

-- what holds since some moment holds at some moment
pub since-some : (starts ends : Moment → Bool) (ms : List Moment) → since starts ends ms ≡ true → some starts ms ≡ true
since-some starts stops [] h = absurd (cc)
since-some starts stops (m ∷ ms) h = go (starts m) (stops m) h (since-some starts stops ms)
  where
    go : (s e : Bool) → (s || (not e && since starts stops ms)) ≡ true → (since starts stops ms ≡ true → some starts ms ≡ true) → (s || some starts ms) ≡ true
    go true e h rest = refl
    go false true h rest = absurd (cc)
    go false false h rest = rest h

-- it holds too if less ends it
pub since-fewer : (starts ends others : Moment → Bool) → ((m : Moment) → others m ≡ true → ends m ≡ true) → (ms : List Moment) → since starts ends ms ≡ true → since starts others ms ≡ true
since-fewer starts stops others each [] h = absurd (cc)
since-fewer starts stops others each (m ∷ ms) h = go (starts m) (stops m) refl (others m) refl h (since-fewer starts stops others each ms)
  where
    go : (s e : Bool) → stops m ≡ e → (o : Bool) → others m ≡ o → (s || (not e && since starts stops ms)) ≡ true → (since starts stops ms ≡ true → since starts others ms ≡ true)
        → (s || (not o && since starts others ms)) ≡ true
    go true e is o at h rest = refl
    go false true is o at h rest = absurd (cc)
    go false false is true at h rest = absurd (let stopped : stops m ≡ true = each m at in cc)
    go false false is false at h rest = rest h

-- more than some number are some
pub count-some : (test : Moment → Bool) (n : ℕ) (ms : List Moment) → nat_lt n (count test ms) ≡ true → some test ms ≡ true
count-some test n [] h = let lt : n < 0 = ltb-true n 0 h in absurd (omega arith)
count-some test n (m ∷ ms) h = go (test m) h (count-some test n ms)
  where
    go : (b : Bool) → nat_lt n (cond b 1 0 + count test ms) ≡ true → (nat_lt n (count test ms) ≡ true → some test ms ≡ true) → (b || some test ms) ≡ true
    go true h rest = refl
    go false h rest = let same : count test ms ≡ 0 + count test ms = omega arith in rest (ap (nat_lt n) same ∙ h)

pub wider-stretch : (a b : List Moment → Bool) → ((s : List Moment) → a s ≡ true → b s ≡ true) → (ms : List Moment) → some_stretch a ms ≡ true → some_stretch b ms ≡ true
wider-stretch a b each [] h = each [] h
wider-stretch a b each (m ∷ ms) h = go (a []) refl h (wider-stretch (λ s. a (m ∷ s)) (λ s. b (m ∷ s)) (λ s. each (m ∷ s)) ms)
  where
    go : (t : Bool) → a [] ≡ t → (t || some_stretch (λ s. a (m ∷ s)) ms) ≡ true → (some_stretch (λ s. a (m ∷ s)) ms ≡ true → some_stretch (λ s. b (m ∷ s)) ms ≡ true)
        → (b [] || some_stretch (λ s. b (m ∷ s)) ms) ≡ true
    go true is h rest = or_left (b []) (some_stretch (λ s. b (m ∷ s)) ms) (each [] is)
    go false is h rest = or_right (b []) (some_stretch (λ s. b (m ∷ s)) ms) (rest h)

-- ---- each shape

pub wider-past : (role : Role) (fates : ℕ → Option Fate) (a b : Moment → Bool) → ((m : Moment) → a m ≡ true → b m ≡ true) → (log : List Seen) (k : ℕ)
    → is_so role fates (on_past a) log k ≡ true → is_so role fates (on_past b) log k ≡ true
wider-past role fates a b each log k h = wider-there a b each (moment log k) h

wider-under : (a b : Fate → Moment → Bool) → ((f : Fate) (m : Moment) → a f m ≡ true → b f m ≡ true) → (m : Moment) (f : Option Fate) → is_so_under a m f ≡ true → is_so_under b m f ≡ true
wider-under a b each m f h = wider-there (λ d. a d m) (λ d. b d m) (λ d. each d m) f h

wider-accepted : (a b : Fate → Moment → Bool) → ((f : Fate) (m : Moment) → a f m ≡ true → b f m ≡ true) → (f : Fate) (m : Moment) → where_accepted a f m ≡ true → where_accepted b f m ≡ true
wider-accepted a b each f m h = let p = both_true (accepts f) (a f m) h in and_true (accepts f) (b f m) p.0 (each f m p.1)

wider-release : (role : Role) (fates : ℕ → Option Fate) (a b : Fate → Moment → Bool) → ((f : Fate) (m : Moment) → a f m ≡ true → b f m ≡ true) → (log : List Seen) (k : ℕ)
    → is_so role fates (at_release a) log k ≡ true → is_so role fates (at_release b) log k ≡ true
wider-release role fates a b each log k h =
    wider-there (λ m. is_so_under a m (fates (number m))) (λ m. is_so_under b m (fates (number m))) (λ m. wider-under a b each m (fates (number m))) (moment log k) h

pub wider-session : (role : Role) (fates : ℕ → Option Fate) (a b : Fate → Moment → Bool) → ((f : Fate) (m : Moment) → a f m ≡ true → b f m ≡ true) → (log : List Seen) (k : ℕ)
    → is_so role fates (in_session a) log k ≡ true → is_so role fates (in_session b) log k ≡ true
wider-session role fates a b each log k h = wider-release role fates (where_accepted a) (where_accepted b) (wider-accepted a b each) log k h

-- with what excuses an end
pub wider-knowing : (role : Role) (fates : ℕ → Option Fate) (a b : Fate → Moment → Bool) → ((f : Fate) (m : Moment) → a f m ≡ true → b f m ≡ true) → (log : List Seen) (k : ℕ)
    → is_so role fates (in_session (knowing role a)) log k ≡ true → is_so role fates (in_session (knowing role b)) log k ≡ true
wider-knowing role fates a b each log k h = wider-session role fates (knowing role a) (knowing role b) (λ f m. wider-both (a f m) (b f m) (not (couldnt_know role f m)) (each f m)) log k h

pub wider-knowing_resumed : (role : Role) (fates : ℕ → Option Fate) (a b : Fate → Moment → Bool) → ((f : Fate) (m : Moment) → a f m ≡ true → b f m ≡ true) → (log : List Seen) (k : ℕ)
    → is_so role fates (in_session (knowing_resumed role a)) log k ≡ true → is_so role fates (in_session (knowing_resumed role b)) log k ≡ true
wider-knowing_resumed role fates a b each log k h =
    wider-session role fates (knowing_resumed role a) (knowing_resumed role b) (λ f m. wider-both (a f m) (b f m) (not (couldnt_know_resumed role f m)) (each f m)) log k h

pub wider-placed : (role : Role) (fates : ℕ → Option Fate) (a b : Fate → Moment → Bool) → ((f : Fate) (m : Moment) → a f m ≡ true → b f m ≡ true) → (log : List Seen) (k : ℕ)
    → is_so role fates (at_release (where_placed role a)) log k ≡ true → is_so role fates (at_release (where_placed role b)) log k ≡ true
wider-placed role fates a b each log k h = wider-release role fates (where_placed role a) (where_placed role b) (λ f m. wider-both (a f m) (b f m) (is_placed_release role f m) (each f m)) log k h

pub wider-rest : (role : Role) (fates : ℕ → Option Fate) (a b : Moment → Moment → Bool) → ((t m : Moment) → a t m ≡ true → b t m ≡ true) → (log : List Seen) (k : ℕ)
    → is_so role fates (at_rest a) log k ≡ true → is_so role fates (at_rest b) log k ≡ true
wider-rest role fates a b each log k h =
    wider-there (λ m. some (λ t. is_after t m && (is_binding role t && a t m)) (moments log)) (λ m. some (λ t. is_after t m && (is_binding role t && b t m)) (moments log))
    (λ m. wider-some (λ t. is_after t m && (is_binding role t && a t m)) (λ t. is_after t m && (is_binding role t && b t m)) (shown m) (moments log)) (moment log k) h
  where
    shown : (m t : Moment) → (is_after t m && (is_binding role t && a t m)) ≡ true → (is_after t m && (is_binding role t && b t m)) ≡ true
    shown m t h =
        let p = both_true (is_after t m) (is_binding role t && a t m) h in
        let q = both_true (is_binding role t) (a t m) p.1 in
        and_true (is_after t m) (is_binding role t && b t m) p.0 (and_true (is_binding role t) (b t m) q.0 (each t m q.1))

pub wider-later : (role : Role) (fates : ℕ → Option Fate) (a b : Moment → Moment → Bool) → ((t m : Moment) → a t m ≡ true → b t m ≡ true) → (log : List Seen) (k : ℕ)
    → is_so role fates (by_later a) log k ≡ true → is_so role fates (by_later b) log k ≡ true
wider-later role fates a b each log k h =
    wider-there (λ m. some (λ t. is_after t m && (is_beside t m && a t m)) (moments log)) (λ m. some (λ t. is_after t m && (is_beside t m && b t m)) (moments log))
    (λ m. wider-some (λ t. is_after t m && (is_beside t m && a t m)) (λ t. is_after t m && (is_beside t m && b t m)) (shown m) (moments log)) (moment log k) h
  where
    shown : (m t : Moment) → (is_after t m && (is_beside t m && a t m)) ≡ true → (is_after t m && (is_beside t m && b t m)) ≡ true
    shown m t h =
        let p = both_true (is_after t m) (is_beside t m && a t m) h in
        let q = both_true (is_beside t m) (a t m) p.1 in
        and_true (is_after t m) (is_beside t m && b t m) p.0 (and_true (is_beside t m) (b t m) q.0 (each t m q.1))
