-- Events that wait until the fate of their connection is decided, and are judged then.
use Rattle.std.specs.Prelude.{ℕ, ◌≡◌, nat_lt, Bool, true, false, ◌||◌, cond, List, [], ◌∷◌, length, is_some}
use Rattle.mq_rules.specs.declared.role.Role.{Role}
use Rattle.mq_rules.specs.declared.role.Tested.{Tested}
use Rattle.mq_rules.specs.declared.fate.Fate.{Fate}
use Rattle.mq_rules.specs.declared.rule.Rule.{Rule}
use Rattle.mq_rules.specs.declared.note.Seen.{Seen}
use Rattle.mq_rules.specs.Notes.{is_open}
use Rattle.mq_rules.specs.Connections.{latest_fate}
use Rattle.mq_rules.specs.Under.{is_on_session, turns_with}
use Rattle.mq_plain.specs.declared.pass.Kept.{Kept}
use Rattle.mq_plain.specs.Events.{some_asks}

-- how many events come before the OPEN of the latest connection
abbrev pub opened_at : List Seen → ℕ
opened_at [] = 0
opened_at (e ∷ past) = cond (is_open e.note) (length past) (opened_at past)

-- How many of these events don't wait: all of them if the latest connection is decided, and else those before its OPEN.
abbrev pub settled : Role → List Seen → ℕ
settled role past = cond (is_some (latest_fate role past)) (length past) (opened_at past)

-- some event of this log, but not one of the first n, passes the test, which is asked with the events before it
abbrev pub some_after : (Seen → List Seen → Bool) → ℕ → List Seen → Bool
some_after test n [] = false
some_after test n (e ∷ past) = cond (nat_lt (length past) n) false (some_after test n past || test e past)

-- with some event of this log, but not with one of the first n, the pair turns out to fail, where their connection has this fate
abbrev pub turns_after : Tested → Fate → ℕ → List Seen → ℕ → Rule → Bool
turns_after tested f n log k rule = some_after (λ e past. turns_with tested f e past k rule) n log

-- This is kept of these events: the fate of the latest connection, how many of them come before its OPEN, and whether one of them asks for an answer.
pub record IsKept (kept : Kept) (role : Role) (past : List Seen) : Type 0 where
  pub fate : kept.fate ≡ latest_fate role past
  pub opened : kept.opened ≡ opened_at past
  pub asked : kept.asked ≡ some_asks past

-- All of these statements are on sessions.
pub record AreOnSessions (chosen : Rule → Bool) : Type 0 where
  pub each : (tested : Tested) (rule : Rule) → chosen rule ≡ true → is_on_session tested rule ≡ true
