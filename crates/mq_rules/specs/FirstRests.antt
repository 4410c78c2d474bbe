-- The first REST that binds on a connection after a moment of it.
use Rattle.std.specs.Prelude.{◌≡◌, ◌<◌, ◌==◌, Bool, true, false, ◌&&◌, List, Option}
use Rattle.mq_rules.specs.declared.role.Role.{Role}
use Rattle.mq_rules.specs.declared.note.Seen.{Seen}
use Rattle.mq_rules.specs.Moments.{Moment, position, moments, is_after, earliest_since, Among}
use Rattle.mq_rules.specs.Connections.{number, is_binding}

-- t is a binding REST after k on k's connection
abbrev pub binds_after : Role → Moment → Moment → Bool
binds_after role k t = is_after t k && (is_binding role t && (number t == number k))

-- the first of them in this log, if it has one
abbrev pub first_rest : Role → Moment → List Seen → Option Moment
first_rest role k log = earliest_since (binds_after role k) (λ t. false) (moments log)

-- It is a binding REST after k on k's connection, and no other one has an earlier position.
pub record IsFirstRest (role : Role) (k : Moment) (log : List Seen) (t : Moment) : Type 0 where
  pub there : Among t (moments log)
  pub binds : binds_after role k t ≡ true
  pub none_before : (u : Moment) → Among u (moments log) → position u < position t → binds_after role k u ≡ false
