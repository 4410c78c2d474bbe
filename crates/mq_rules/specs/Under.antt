-- One event, where the latest connection is taken to have a fate.
use Rattle.std.specs.Prelude.{ℕ, ◌≡◌, ◌<◌, Bool, true, false, ◌&&◌, cond, List, [], ◌∷◌, Option, Some, None, is_some, refl, ◌||◌}
use Rattle.std.proofs.Common.{ap, ◌∙◌}
use Rattle.mq_log.specs.declared.place.Place3.{Place3}
use Rattle.mq_rules.specs.declared.role.Role.{Role}
use Rattle.mq_rules.specs.declared.role.Tested.{Tested}
use Rattle.mq_rules.specs.declared.fate.Fate.{Fate}
use Rattle.mq_rules.specs.declared.rule.Rule.{Rule}
use Rattle.mq_rules.specs.declared.note.Note.{Note}
use Rattle.mq_rules.specs.declared.note.Seen.{Seen}
use Rattle.mq_rules.specs.Words.{is_some_and}
use Rattle.mq_rules.specs.Notes.{is_open}
use Rattle.mq_rules.specs.Moments.{newest, moment, is_next, IsPlaced}
use Rattle.mq_rules.specs.Connections.{latest_fate, accepts, is_binding, AreOnConnections}
use Rattle.mq_rules.specs.Rules.{binds}
use Rattle.mq_rules.specs.Statements.{Statement, on_bytes, on_past, in_session, at_release, at_rest, by_later, statement}

abbrev pub seen : Place3 → Note → Seen
seen at n = record { place = at; note = n }

-- the statement is judged on sessions
abbrev pub is_by_session : Statement → Bool
is_by_session (on_bytes rule) = false
is_by_session (on_past breaks) = false
is_by_session (in_session breaks) = true
is_by_session (at_release breaks) = true
is_by_session (at_rest test) = true
is_by_session (by_later test) = false

abbrev pub is_on_session : Tested → Rule → Bool
is_on_session tested rule = is_by_session (statement tested.role rule)

-- With this event a statement on sessions turns out false at position k, where the latest connection has this fate.
abbrev pub shows_with : Role → Fate → Statement → Seen → List Seen → ℕ → Bool
shows_with role f (on_bytes rule) e past k = false
shows_with role f (on_past breaks) e past k = false
shows_with role f (in_session breaks) e past k = is_next past k && (accepts f && breaks f (newest e past))
shows_with role f (at_release breaks) e past k = is_next past k && breaks f (newest e past)
shows_with role f (at_rest test) e past k = is_binding role (newest e past) && is_some_and (test (newest e past)) (moment past k)
shows_with role f (by_later test) e past k = false

-- With this event the pair turns out to fail, where the latest connection has this fate.
unfoldable pub turns_with : Tested → Fate → Seen → List Seen → ℕ → Rule → Bool
turns_with tested f e past k rule = binds rule tested && shows_with tested.role f (statement tested.role rule) e past k

-- each connection is decided before the next one begins
abbrev pub IsInTurn : Role → List Seen → Type 0
IsInTurn role [] = Unit {0}
IsInTurn role (e ∷ past) = (is_open e.note ≡ true → is_some (latest_fate role past) ≡ true) × IsInTurn role past

-- This event may follow these: each has its place, connections follow one another, and what happens only on an open connection comes on one.
pub record Follows (tested : Tested) (e : Seen) (past : List Seen) : Type 0 where
  pub placed : IsPlaced (e ∷ past)
  pub in_turn : IsInTurn tested.role (e ∷ past)
  pub on_connections : AreOnConnections (e ∷ past)

-- The event may follow these, and its connection is decided at this position, by this fate: at or before the event, which then counts as decided at its own position, or later.
pub record IsUnder (tested : Tested) (f : Fate) (at : ℕ) (e : Seen) (past : List Seen) : Type 0 where
  pub follows : Follows tested e past
  pub fits : (g : Fate) → latest_fate tested.role (e ∷ past) ≡ Some g → (g ≡ f) × (at ≡ e.place.position)
  pub later : latest_fate tested.role (e ∷ past) ≡ None → e.place.position < at

-- the fate that the latest connection of these is taken to have, where that of the event is taken to have this one
abbrev pub fate_before : Tested → Fate → Seen → List Seen → Option Fate
fate_before tested f e past = cond (is_open e.note) (latest_fate tested.role past) (Some f)

-- The event's connection is decided, and before it is taken to have that fate.
pub record IsKnown (tested : Tested) (taken : Option Fate) (e : Seen) (past : List Seen) : Type 0 where
  pub fate : Fate
  pub latest : latest_fate tested.role (e ∷ past) ≡ Some fate
  pub same : taken ≡ Some fate

-- With this event the pair turns out to fail, where the latest connection had its fate before it.
abbrev pub turns_known : Tested → Seen → List Seen → ℕ → Rule → Bool
turns_known tested e past k rule = is_some_and (λ f. turns_with tested f e past k rule) (latest_fate tested.role (e ∷ past))

-- the pairs of two watchers
either_of : (a b t : Bool) → ((a && t) || (b && t)) ≡ ((a || b) && t)
either_of true true true = refl
either_of true true false = refl
either_of true false true = refl
either_of true false false = refl
either_of false b t = refl

pub either_adds : (x y a b t : Bool) → x ≡ (a && t) → y ≡ (b && t) → (x || y) ≡ ((a || b) && t)
either_adds x y a b t p q = ap (λ c. c || y) p ∙ ap (λ c. (a && t) || c) q ∙ either_of a b t
