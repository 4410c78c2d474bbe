-- What is kept of a session, with one event more.
use Rattle.std.proofs.Common.{◌≡◌, Bool, true, false, cond, ◌&&◌, not, List, [], ◌∷◌, Option, refl, ap, ◌∙◌}
use Rattle.mq_rules.specs.declared.role.Role.{Role}
use Rattle.mq_rules.specs.declared.fate.Fate.{Fate}
use Rattle.mq_rules.specs.declared.note.Seen.{Seen}
use Rattle.mq_rules.specs.Notes.{is_open}
use Rattle.mq_rules.specs.Moments.{Moment, newest, since}
use Rattle.mq_rules.specs.Connections.{latest_fate, begins, has_session, with_first, session}
use Rattle.mq_rules.specs.Folds.{folded, where_in, session_since, gained}

-- ---- under a fate, with one event more

module _ {A : Type 0} (g : Moment → A → A) (z : A) where
  with_first-folded : (b : Bool) (m : Moment) (ms : List Moment) → folded g z (with_first b m ms) ≡ where_in b (g m) (folded g z ms)
  with_first-folded true m ms = refl
  with_first-folded false m ms = refl

  opened-folded : (opens new : Bool) (before same : List Moment) → folded g z (cond opens (cond new [] before) same) ≡ cond opens (cond new z (folded g z before)) (folded g z same)
  opened-folded true true before same = refl
  opened-folded true false before same = refl
  opened-folded false new before same = refl

  pub under-next : (role : Role) (f : Option Fate) (e : Seen) (past : List Seen) → folded g z (session role f (e ∷ past))
      ≡ where_in (has_session role f e past) (g (newest e past))
      (cond (is_open e.note) (cond (begins f) z (folded g z (session role (latest_fate role past) past))) (folded g z (session role f past)))
  under-next role f e past =
      with_first-folded (has_session role f e past) (newest e past) (cond (is_open e.note) (cond (begins f) [] (session role (latest_fate role past) past)) (session role f past))
      ∙ ap (where_in (has_session role f e past) (g (newest e past))) (opened-folded (is_open e.note) (begins f) (session role (latest_fate role past) past) (session role f past))

pub session_since-next : (role : Role) (starts ends : Moment → Bool) (f : Option Fate) (e : Seen) (past : List Seen) → session_since role starts ends f (e ∷ past)
    ≡ gained (has_session role f e past) (starts (newest e past)) (ends (newest e past))
    (cond (is_open e.note) (not (begins f) && session_since role starts ends (latest_fate role past) past) (session_since role starts ends f past))
session_since-next role starts ends f e past = go (has_session role f e past) (is_open e.note) (begins f)
  where
    go : (inside opens new : Bool) → since starts ends (with_first inside (newest e past) (cond opens (cond new [] (session role (latest_fate role past) past)) (session role f past)))
        ≡ gained inside (starts (newest e past)) (ends (newest e past)) (cond opens (not new && session_since role starts ends (latest_fate role past) past) (session_since role starts ends f past))
    go true true true = refl
    go true true false = refl
    go true false new = refl
    go false true true = refl
    go false true false = refl
    go false false new = refl
