-- Looking back for the earliest moment that nothing has ended since, event by event.
use Rattle.std.proofs.Common.{◌≡◌, Bool, true, false, cond, ◌&&◌, ◌||◌, List, [], ◌∷◌, Option, Some, None, refl, ap, sym, ◌∙◌}
use Rattle.std.specs.Prelude.{option_map}
use Rattle.std.specs.Option.{option_or}
use Rattle.mq_rules.specs.declared.role.Role.{Role}
use Rattle.mq_rules.specs.declared.fate.Fate.{Fate}
use Rattle.mq_rules.specs.declared.note.Note.{Note}
use Rattle.mq_rules.specs.declared.note.Seen.{Seen}
use Rattle.mq_rules.specs.Notes.{is_open}
use Rattle.mq_rules.specs.Moments.{Moment, newest, note, earliest_since}
use Rattle.mq_rules.specs.Connections.{connection, latest_fate, session, has_session, with_first, begins}
use Rattle.mq_rules.proofs.Exports.{option_or-none, connection-next}

-- on a connection, one event further back
pub earliest-connection : (starts ends : Note → Bool) (e : Seen) (past : List Seen)
    → earliest_since (λ m. starts (note m)) (λ m. ends (note m)) (connection (e ∷ past))
    ≡ option_or (cond (ends e.note || is_open e.note) None (earliest_since (λ m. starts (note m)) (λ m. ends (note m)) (connection past))) (cond (starts e.note) (Some (newest e past)) None)
earliest-connection starts ends e past = ap (earliest_since (λ m. starts (note m)) (λ m. ends (note m))) (connection-next e past) ∙ go (is_open e.note)
  where
    rest : List Moment → Option Moment
    rest ms = earliest_since (λ m. starts (note m)) (λ m. ends (note m)) ms

    here : Option Moment
    here = cond (starts e.note) (Some (newest e past)) None

    both : (b c : Bool) (o : Option Moment) → cond b None (cond c None o) ≡ cond (b || c) None o
    both true c o = refl
    both false c o = refl

    go : (o : Bool) → rest (cond o (newest e past ∷ []) (newest e past ∷ connection past)) ≡ option_or (cond (ends e.note || o) None (rest (connection past))) here
    go true = ap (λ r. option_or r here) (both (ends e.note) true (rest (connection past)))
    go false = ap (λ r. option_or r here) (both (ends e.note) false (rest (connection past)))

-- in a session, one event further back
pub earliest-session : (starts ends : Note → Bool) (role : Role) (f : Option Fate) (e : Seen) (past : List Seen)
    → earliest_since (λ m. starts (note m)) (λ m. ends (note m)) (session role f (e ∷ past))
    ≡ option_or (cond ((has_session role f e past && ends e.note) || (is_open e.note && begins f)) None
    (earliest_since (λ m. starts (note m)) (λ m. ends (note m)) (session role (cond (is_open e.note) (latest_fate role past) f) past)))
    (cond (has_session role f e past && starts e.note) (Some (newest e past)) None)
earliest-session starts ends role f e past = first (has_session role f e past) (is_open e.note) (begins f)
  where
    rest : List Moment → Option Moment
    rest ms = earliest_since (λ m. starts (note m)) (λ m. ends (note m)) ms

    older : (o n : Bool) → rest (cond o (cond n [] (session role (latest_fate role past) past)) (session role f past))
        ≡ cond (o && n) None (rest (session role (cond o (latest_fate role past) f) past))
    older true true = refl
    older true false = refl
    older false n = refl

    both : (b : Bool) (c : Bool) (o : Option Moment) → cond b None (cond c None o) ≡ cond (b || c) None o
    both true c o = refl
    both false c o = refl

    first : (b o n : Bool) → rest (with_first b (newest e past) (cond o (cond n [] (session role (latest_fate role past) past)) (session role f past)))
        ≡ option_or (cond ((b && ends e.note) || (o && n)) None (rest (session role (cond o (latest_fate role past) f) past))) (cond (b && starts e.note) (Some (newest e past)) None)
    first true o n =
        ap (λ r. option_or (cond (ends e.note) None r) (cond (starts e.note) (Some (newest e past)) None)) (older o n)
        ∙ ap (λ r. option_or r (cond (starts e.note) (Some (newest e past)) None)) (both (ends e.note) (o && n) (rest (session role (cond o (latest_fate role past) f) past)))
    first false o n = older o n ∙ sym (option_or-none (cond (o && n) None (rest (session role (cond o (latest_fate role past) f) past))))

-- ---- what is found so far

-- where the look back goes on
pub found-on : (whole rest target here found after : Option Moment) (stop : Bool) → whole ≡ option_or (cond stop None rest) here → stop ≡ false → after ≡ option_or here found
    → option_or whole found ≡ target → option_or rest after ≡ target
found-on whole rest target here found after stop is on now was =
    ap (option_or rest) now ∙ sym (turn rest) ∙ ap (λ b. option_or (option_or (cond b None rest) here) found) (sym on) ∙ ap (λ o. option_or o found) (sym is) ∙ was
  where
    turn : (o : Option Moment) → option_or (option_or o here) found ≡ option_or o (option_or here found)
    turn (Some m) = refl
    turn None = refl

-- where it stops
pub found-over : (whole rest target here found after : Option Moment) (stop : Bool) → whole ≡ option_or (cond stop None rest) here → stop ≡ true → after ≡ option_or here found
    → option_or whole found ≡ target → after ≡ target
found-over whole rest target here found after stop is over now was =
    now ∙ ap (λ b. option_or (option_or (cond b None rest) here) found) (sym over) ∙ ap (λ o. option_or o found) (sym is) ∙ was

pub map-option_or : {A B : Type 0} (f : A → B) (a b : Option A) → option_map f (option_or a b) ≡ option_or (option_map f a) (option_map f b)
map-option_or f None b = refl
map-option_or f (Some x) b = refl
