-- All statements are watched, and their places are counted or not.
use Rattle.std.specs.Prelude.{ℕ, Bool, true, false, List, Option}
use Rattle.mq_rules.specs.declared.role.Tested.{Tested}
use Rattle.mq_rules.specs.declared.fate.Fate.{Fate}
use Rattle.mq_rules.specs.declared.note.Seen.{Seen}
use Rattle.mq_watchers.specs.declared.watchers.plain.PlainWatchers.{PlainWatchers}
use Rattle.mq_watchers.specs.declared.watchers.counting.CountingWatchers.{CountingWatchers}
use Rattle.mq_watchers.specs.declared.watchers.Watchers.{Watchers}
use Rattle.mq_watchers.specs.declared.watchers.Watchers.TheVariants as kinds

-- what is kept agrees with the events, as it does where places are counted, or where they aren't
abbrev pub AgreesByKind : (PlainWatchers → Tested → Option Fate → List Seen → Type 0) → (CountingWatchers → Tested → Option Fate → List Seen → Type 0) → Watchers → Tested → Option Fate → List Seen → Type 0
AgreesByKind plain counting (kinds.Plain w) tested taken past = plain w tested taken past
AgreesByKind plain counting (kinds.Counting w) tested taken past = counting w tested taken past

-- how much is kept
abbrev pub weighs_by_kind : (PlainWatchers → ℕ) → (CountingWatchers → ℕ) → Watchers → ℕ
weighs_by_kind plain counting (kinds.Plain w) = plain w
weighs_by_kind plain counting (kinds.Counting w) = counting w

-- places are counted
abbrev pub is_counting : Watchers → Bool
is_counting (kinds.Plain w) = false
is_counting (kinds.Counting w) = true
