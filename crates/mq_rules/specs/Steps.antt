-- Which pairs turn out to fail with one more event.
use Rattle.std.specs.Prelude.{ℕ, ◌≡◌, Bool, true, false, ◌&&◌, ◌||◌, cond, List, ◌∷◌, Option, Some, None, is_some}
use Rattle.mq_rules.specs.declared.role.Role.{Role}
use Rattle.mq_rules.specs.declared.role.Tested.{Tested}
use Rattle.mq_rules.specs.declared.fate.Fate.{Fate}
use Rattle.mq_rules.specs.declared.rule.Rule.{Rule}
use Rattle.mq_rules.specs.declared.note.Seen.{Seen}
use Rattle.mq_rules.specs.Words.{is_some_and}
use Rattle.mq_rules.specs.Notes.{is_open}
use Rattle.mq_rules.specs.Moments.{Moment, newest, note, moment, is_next}
use Rattle.mq_rules.specs.Connections.{number, fate, latest_fate, is_beside, is_binding}
use Rattle.mq_rules.specs.Rules.{binds}
use Rattle.mq_rules.specs.Statements.{Statement, on_bytes, on_past, in_session, at_release, at_rest, by_later, statement, breaks_bytes, is_so_under, where_accepted}

-- the fate that this event gives to the connection of this number, which is undecided before it
abbrev pub given : Role → Seen → List Seen → ℕ → Option Fate
given role e past c = cond (is_some (fate role c past)) None (fate role c (e ∷ past))

-- With this event a predicate that depends on the connection's fate turns out true at position k: at the event itself, or at a moment of the connection that it decides.
abbrev pub shows_under : Role → (Fate → Moment → Bool) → Seen → List Seen → ℕ → Bool
shows_under role breaks e past k =
    (is_next past k && is_so_under breaks (newest e past) (fate role (number (newest e past)) (e ∷ past)))
    || is_some_and (λ m. is_so_under breaks m (given role e past (number m))) (moment past k)

-- With this event a statement turns out false at position k.
abbrev pub shows : Role → Statement → Seen → List Seen → ℕ → Bool
shows role (on_bytes rule) e past k = is_next past k && breaks_bytes rule (newest e past)
shows role (on_past breaks) e past k = is_next past k && breaks (newest e past)
shows role (in_session breaks) e past k = shows_under role (where_accepted breaks) e past k
shows role (at_release breaks) e past k = shows_under role breaks e past k
shows role (at_rest test) e past k = is_binding role (newest e past) && is_some_and (test (newest e past)) (moment past k)
shows role (by_later test) e past k = is_some_and (λ m. is_beside (newest e past) m && test (newest e past) m) (moment past k)

-- With this event the pair turns out to fail.
unfoldable pub turns : Tested → Seen → List Seen → ℕ → Rule → Bool
turns tested e past k rule = binds rule tested && shows tested.role (statement tested.role rule) e past k

-- With this event a statement turns out false at most at the event itself, and there exactly if `broken` says so.
abbrev pub JudgedAtOnce : Tested → Rule → Seen → List Seen → Bool → Type 0
JudgedAtOnce tested rule e past broken = (k : ℕ) → turns tested e past k rule ≡ (is_next past k && broken)

-- Wherever the predicate is true at a moment of the log, the latest connection is decided before it, and it is no OPEN.
pub record IsLate (role : Role) (breaks : Fate → Moment → Bool) (log : List Seen) : Type 0 where
  pub decided : (k : ℕ) (m : Moment) (f : Fate) → moment log k ≡ Some m → breaks f m ≡ true → is_some (latest_fate role m.past) ≡ true
  pub no_open : (k : ℕ) (m : Moment) (f : Fate) → moment log k ≡ Some m → breaks f m ≡ true → is_open (note m) ≡ false
