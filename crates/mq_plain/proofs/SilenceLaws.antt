-- Looking back over a connection with tests on moments, and what the earliest moment gives that passes a test.
use Rattle.std.proofs.Common.{◌≡◌, Bool, true, false, cond, ◌&&◌, ◌||◌, not, List, [], ◌∷◌, Option, Some, None, refl, ap, sym, ◌∙◌, subst}
use Rattle.std.specs.Prelude.{is_some, option_map}
use Rattle.std.specs.Option.{option_and_then, option_or}
use Rattle.mq_rules.specs.declared.note.Note.{Note}
use Rattle.mq_rules.specs.declared.note.Seen.{Seen}
use Rattle.mq_rules.specs.Notes.{is_open}
use Rattle.mq_rules.specs.Moments.{Moment, newest, note, since, latest, first_given, earliest_since}
use Rattle.mq_rules.specs.Connections.{connection}
use Rattle.mq_rules.proofs.Exports.{connection-next}

-- ---- one event further back

pub since-moments : (starts ends : Moment → Bool) (e : Seen) (past : List Seen)
    → since starts ends (connection (e ∷ past)) ≡ (starts (newest e past) || (not (ends (newest e past)) && (not (is_open e.note) && since starts ends (connection past))))
since-moments starts ends e past = ap (since starts ends) (connection-next e past) ∙ go (is_open e.note)
  where
    go : (b : Bool) → since starts ends (cond b (newest e past ∷ []) (newest e past ∷ connection past))
        ≡ (starts (newest e past) || (not (ends (newest e past)) && (not b && since starts ends (connection past))))
    go true = refl
    go false = refl

pub latest-moments : (test : Moment → Bool) (e : Seen) (past : List Seen)
    → latest test (connection (e ∷ past)) ≡ cond (test (newest e past)) (Some (newest e past)) (cond (is_open e.note) None (latest test (connection past)))
latest-moments test e past = ap (latest test) (connection-next e past) ∙ go (is_open e.note)
  where
    go : (b : Bool) → latest test (cond b (newest e past ∷ []) (newest e past ∷ connection past)) ≡ cond (test (newest e past)) (Some (newest e past)) (cond b None (latest test (connection past)))
    go true = refl
    go false = refl

-- an event that passes is the latest; an OPEN that doesn't is the last to look at; any other one that doesn't leaves it to those before it
pub latest-here : (test : Moment → Bool) (e : Seen) (past : List Seen) → test (newest e past) ≡ true → latest test (connection (e ∷ past)) ≡ Some (newest e past)
latest-here test e past passes = latest-moments test e past ∙ ap (λ b. cond b (Some (newest e past)) (cond (is_open e.note) None (latest test (connection past)))) passes

pub latest-open : (test : Moment → Bool) (e : Seen) (past : List Seen) → test (newest e past) ≡ false → is_open e.note ≡ true → latest test (connection (e ∷ past)) ≡ None
latest-open test e past fails opens =
    latest-moments test e past
    ∙ ap (λ b. cond b (Some (newest e past)) (cond (is_open e.note) None (latest test (connection past)))) fails
    ∙ ap (λ b. cond b None (latest test (connection past))) opens

pub latest-on : (test : Moment → Bool) (e : Seen) (past : List Seen) → test (newest e past) ≡ false → is_open e.note ≡ false → latest test (connection (e ∷ past)) ≡ latest test (connection past)
latest-on test e past fails opens =
    latest-moments test e past
    ∙ ap (λ b. cond b (Some (newest e past)) (cond (is_open e.note) None (latest test (connection past)))) fails
    ∙ ap (λ b. cond b None (latest test (connection past))) opens

-- ---- what the earliest moment gives

pub mapped : {A : Type 0} {B : Type 0} (f : A → B) (o : Option A) → is_some o ≡ is_some (option_map f o)
mapped f None = refl
mapped f (Some a) = refl

-- where the earliest moment that passes is this one, it passes
earliest-passes : (test : Note → Bool) (ms : List Moment) (x : Moment) → earliest_since (λ m. test (note m)) (λ m. false) ms ≡ Some x → test (note x) ≡ true
earliest-passes test [] x h = absurd (cc)
earliest-passes test (m ∷ ms) x h = go (earliest_since (λ n. test (note n)) (λ n. false) ms) (test (note m)) refl h (earliest-passes test ms x)
  where
    go : (older : Option Moment) (b : Bool) → test (note m) ≡ b → option_or older (cond b (Some m) None) ≡ Some x → (older ≡ Some x → test (note x) ≡ true) → test (note x) ≡ true
    go (Some y) b is h rest = rest h
    go None true is h rest = let same : m ≡ x = cc in subst (λ n. test (note n) ≡ true) same is
    go None false is h rest = absurd (cc)

first : {A : Type 0} (o here : Option A) → is_some o ≡ true → option_or o here ≡ o
first (Some a) here h = refl
first None here h = absurd (cc)

-- What the earliest moment gives that gives something is what the earliest one gives that passes, if the moments that pass are those that give something.
pub given-found : {A : Type 0} (gives : Moment → Option A) (test : Note → Bool) → ((m : Moment) → test (note m) ≡ is_some (gives m)) → (ms : List Moment)
    → first_given gives ms ≡ option_and_then gives (earliest_since (λ m. test (note m)) (λ m. false) ms)
given-found {A = A} gives test same [] = refl
given-found {A = A} gives test same (m ∷ ms) =
    ap (λ o. option_or o (gives m)) (given-found gives test same ms)
    ∙ go (earliest_since (λ n. test (note n)) (λ n. false) ms) (gives m) refl (earliest-passes test ms)
  where
    go : (older : Option Moment) (here : Option A) → gives m ≡ here → ((x : Moment) → older ≡ Some x → test (note x) ≡ true)
        → option_or (option_and_then gives older) here ≡ option_and_then gives (option_or older (cond (test (note m)) (Some m) None))
    go (Some x) here is has = first (gives x) here (sym (same x) ∙ has x refl)
    go None (Some a) is has = sym (ap (λ b. option_and_then gives (cond b (Some m) None)) (same m ∙ ap is_some is) ∙ is)
    go None None is has = sym (ap (λ b. option_and_then gives (cond b (Some m) None)) (same m ∙ ap is_some is))
