-- What a REST shows of the events before it.
use Rattle.std.specs.Prelude.{ℕ, ◌≡◌, ◌==◌, Bool, List, All, Some, option_map}
use Rattle.std.specs.List.{list_any}
use Rattle.mq_log.specs.declared.place.Place3.{Place3}
use Rattle.mq_rules.specs.declared.note.Seen.{Seen}
use Rattle.mq_rules.specs.Words.{is_some_and}
use Rattle.mq_rules.specs.Moments.{Moment, moment}

-- The places are those of the moments of these events that pass the test, in any order.
pub record IsShown (test : Moment → Bool) (past : List Seen) (places : List Place3) : Type 0 where
  pub each : (k : ℕ) → list_any (λ p. p.position == k) places ≡ is_some_and test (moment past k)
  pub own : All (λ p. option_map (λ m. m.event.place) (moment past p.position) ≡ Some p) places
