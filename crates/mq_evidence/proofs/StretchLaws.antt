-- What is kept of a stretch, with one moment more.
use Rattle.std.proofs.Common.{◌≡◌, ℕ, Bool, true, false, cond, ◌&&◌, ◌||◌, not, List, [], ◌∷◌, Option, Some, None, refl, ap, sym, ◌∙◌}
use Rattle.std.specs.Prelude.{option_map, is_some, nat_lt}
use Rattle.std.specs.Option.{option_or}
use Rattle.mq_rules.specs.declared.note.Note.{Note}
use Rattle.mq_rules.specs.Words.{is_id, only}
use Rattle.mq_rules.specs.Moments.{Moment, position, note, some, since, latest, earliest_since}
use Rattle.mq_evidence.specs.Evidence.{earliest, later}
use Rattle.mq_evidence.specs.Stretches.{longer, unended, has_id, IsLatest, IsUnended, IsEarliest, IsEarlier, last_next, first_next, once_next, again_next, earlier_next, later_at}

-- ---- one list

latest-longer : (test : Moment → Bool) (over inside : Bool) (m : Moment) (ms : List Moment)
    → option_map position (latest test (longer over inside m ms)) ≡ last_next over inside (test m) false (position m) (option_map position (latest test ms))
latest-longer test true true m ms = go (test m)
  where
    go : (b : Bool) → option_map position (cond b (Some m) None) ≡ cond b (Some (position m)) None
    go true = refl
    go false = refl
latest-longer test false true m ms = go (test m)
  where
    go : (b : Bool) → option_map position (cond b (Some m) (latest test ms)) ≡ cond b (Some (position m)) (option_map position (latest test ms))
    go true = refl
    go false = refl
latest-longer test true false m ms = refl
latest-longer test false false m ms = refl

unended-longer : (starts ends : Moment → Bool) (over inside : Bool) (m : Moment) (ms : List Moment)
    → option_map position (unended starts ends (longer over inside m ms)) ≡ last_next over inside (starts m) (ends m) (position m) (option_map position (unended starts ends ms))
unended-longer starts ends true true m ms = go (starts m) (ends m)
  where
    go : (a b : Bool) → option_map position (only (a || (not b && false)) (cond a (Some m) None)) ≡ cond a (Some (position m)) (cond b None None)
    go true b = refl
    go false true = refl
    go false false = refl
unended-longer starts ends false true m ms = go (starts m) (ends m)
  where
    go : (a b : Bool) → option_map position (only (a || (not b && since starts ends ms)) (cond a (Some m) (latest starts ms)))
        ≡ cond a (Some (position m)) (cond b None (option_map position (only (since starts ends ms) (latest starts ms))))
    go true b = refl
    go false true = refl
    go false false = refl
unended-longer starts ends true false m ms = refl
unended-longer starts ends false false m ms = refl

earliest_since-longer : (starts ends : Moment → Bool) (over inside : Bool) (m : Moment) (ms : List Moment)
    → option_map position (earliest_since starts ends (longer over inside m ms)) ≡ first_next over inside (starts m) (ends m) (position m) (option_map position (earliest_since starts ends ms))
earliest_since-longer starts ends true true m ms = go (starts m) (ends m)
  where
    go : (a b : Bool) → option_map position (option_or (cond b None None) (cond a (Some m) None)) ≡ option_or (cond b None None) (cond a (Some (position m)) None)
    go true true = refl
    go true false = refl
    go false true = refl
    go false false = refl
earliest_since-longer starts ends false true m ms = go (starts m) (ends m) (earliest_since starts ends ms)
  where
    go : (a b : Bool) (o : Option Moment) → option_map position (option_or (cond b None o) (cond a (Some m) None)) ≡ option_or (cond b None (option_map position o)) (cond a (Some (position m)) None)
    go true true o = refl
    go false true o = refl
    go true false None = refl
    go true false (Some x) = refl
    go false false None = refl
    go false false (Some x) = refl
earliest_since-longer starts ends true false m ms = refl
earliest_since-longer starts ends false false m ms = refl

-- some moment passes the test if there is a latest one
pub latest-there : (test : Moment → Bool) (ms : List Moment) → is_some (option_map position (latest test ms)) ≡ some test ms
latest-there test [] = refl
latest-there test (m ∷ ms) = go (test m) (latest-there test ms)
  where
    go : (b : Bool) → is_some (option_map position (latest test ms)) ≡ some test ms → is_some (option_map position (cond b (Some m) (latest test ms))) ≡ (b || some test ms)
    go true h = refl
    go false h = h

earliest-longer : (test : Moment → Bool) (over inside : Bool) (m : Moment) (ms : List Moment)
    → option_map position (earliest test (longer over inside m ms)) ≡ once_next over inside (test m) (position m) (option_map position (earliest test ms))
earliest-longer test true true m ms = go (test m)
  where
    go : (b : Bool) → option_map position (option_or None (cond b (Some m) None)) ≡ option_or None (cond b (Some (position m)) None)
    go true = refl
    go false = refl
earliest-longer test false true m ms = go (test m) (earliest test ms)
  where
    go : (b : Bool) (o : Option Moment) → option_map position (option_or o (cond b (Some m) None)) ≡ option_or (option_map position o) (cond b (Some (position m)) None)
    go true None = refl
    go true (Some x) = refl
    go false None = refl
    go false (Some x) = refl
earliest-longer test true false m ms = refl
earliest-longer test false false m ms = refl

-- ---- what a component keeps: p is the position of the moment, n its note

pub once-kept : (test : Moment → Bool) (over inside b : Bool) (p : ℕ) (old new : Option ℕ) (m : Moment) (ms : List Moment) → position m ≡ p → test m ≡ b
    → old ≡ option_map position (earliest test ms) → new ≡ once_next over inside b p old → new ≡ option_map position (earliest test (longer over inside m ms))
once-kept test over inside b p old new m ms at is before grown =
    grown
    ∙ ap (once_next over inside b p) before
    ∙ ap (λ c. once_next over inside c p (option_map position (earliest test ms))) (sym is)
    ∙ ap (λ q. once_next over inside (test m) q (option_map position (earliest test ms))) (sym at)
    ∙ sym (earliest-longer test over inside m ms)

pub again-kept : (test : Moment → Bool) (over inside b : Bool) (p : ℕ) (old new : Option ℕ) (m : Moment) (ms : List Moment) → position m ≡ p → test m ≡ b
    → old ≡ option_map position (latest test ms) → new ≡ again_next over inside b p old → new ≡ option_map position (latest test (longer over inside m ms))
again-kept test over inside b p old new m ms at is before grown =
    grown
    ∙ ap (again_next over inside b p) before
    ∙ ap (λ c. again_next over inside c p (option_map position (latest test ms))) (sym is)
    ∙ ap (λ q. again_next over inside (test m) q (option_map position (latest test ms))) (sym at)
    ∙ sym (latest-longer test over inside m ms)

module _ (over inside : Bool) (p : ℕ) (n : Note) (m : Moment) (ms : List Moment) (at : position m ≡ p) (same : note m ≡ n) where
  pub latest-kept : (found : Note → Option ℕ) (old new : ℕ → Option ℕ) → IsLatest old found ms → ((i : ℕ) → new i ≡ last_next over inside (is_id i (found n)) false p (old i))
      → IsLatest new found (longer over inside m ms)
  latest-kept found old new before grown = λ i.
      again-kept (has_id found i) over inside (is_id i (found n)) p (old i) (new i) m ms at (ap (λ x. is_id i (found x)) same) (before i) (grown i)

  pub unended-kept : (found ends : Note → Option ℕ) (old new : ℕ → Option ℕ) → IsUnended old found ends ms
      → ((i : ℕ) → new i ≡ last_next over inside (is_id i (found n)) (is_id i (ends n)) p (old i)) → IsUnended new found ends (longer over inside m ms)
  unended-kept found ends old new before grown = λ i.
      grown i
      ∙ ap (last_next over inside (is_id i (found n)) (is_id i (ends n)) p) (before i)
      ∙ ap (λ x. last_next over inside (is_id i (found x)) (is_id i (ends x)) p (option_map position (unended (has_id found i) (has_id ends i) ms))) (sym same)
      ∙ ap (λ q. last_next over inside (has_id found i m) (has_id ends i m) q (option_map position (unended (has_id found i) (has_id ends i) ms))) (sym at)
      ∙ sym (unended-longer (has_id found i) (has_id ends i) over inside m ms)

  pub earliest-kept : (found ends : Note → Option ℕ) (old new : ℕ → Option ℕ) → IsEarliest old found ends ms
      → ((i : ℕ) → new i ≡ first_next over inside (is_id i (found n)) (is_id i (ends n)) p (old i)) → IsEarliest new found ends (longer over inside m ms)
  earliest-kept found ends old new before grown = λ i.
      grown i
      ∙ ap (first_next over inside (is_id i (found n)) (is_id i (ends n)) p) (before i)
      ∙ ap (λ x. first_next over inside (is_id i (found x)) (is_id i (ends x)) p (option_map position (earliest_since (has_id found i) (has_id ends i) ms))) (sym same)
      ∙ ap (λ q. first_next over inside (has_id found i m) (has_id ends i m) q (option_map position (earliest_since (has_id found i) (has_id ends i) ms))) (sym at)
      ∙ sym (earliest_since-longer (has_id found i) (has_id ends i) over inside m ms)

-- what was there of the session before joins what was there of earlier ones
pub earlier-kept : (begins : Bool) (found : Note → Option ℕ) (before : ℕ → Option ℕ) (old new : ℕ → Bool) (ms : List Moment) (es : List (List Moment)) → IsLatest before found ms → IsEarlier old found es
    → ((i : ℕ) → new i ≡ earlier_next begins (is_some (before i)) (old i)) → IsEarlier new found (cond begins (ms ∷ es) es)
earlier-kept true found before old new ms es there were grown = λ i.
    grown i
    ∙ ap (λ o. is_some o || old i) (there i)
    ∙ ap (λ b. b || old i) (latest-there (has_id found i) ms)
    ∙ ap (λ b. some (has_id found i) ms || b) (were i)
earlier-kept false found before old new ms es there were grown = λ i. grown i ∙ were i

-- ---- positions

pub later-positions : (a b : Option Moment) → option_map position (later a b) ≡ later_at (option_map position a) (option_map position b)
later-positions None None = refl
later-positions None (Some n) = refl
later-positions (Some m) None = refl
later-positions (Some m) (Some n) = go (nat_lt (position n) (position m))
  where
    go : (b : Bool) → option_map position (cond b (Some m) (Some n)) ≡ cond b (Some (position m)) (Some (position n))
    go true = refl
    go false = refl

pub only-position : (b : Bool) (o : Option Moment) → option_map position (only b o) ≡ only b (option_map position o)
only-position true o = refl
only-position false o = refl

pub cond-position : (b : Bool) (o p : Option Moment) → option_map position (cond b o p) ≡ cond b (option_map position o) (option_map position p)
cond-position true o p = refl
cond-position false o p = refl
