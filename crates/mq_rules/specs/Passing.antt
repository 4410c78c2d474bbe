-- Openers that were passed over, by the connections before the latest one and by that.
use Rattle.std.specs.Prelude.{ℕ, ◌+◌, nat_lt, Bool, ◌&&◌, not, cond, List, [], ◌∷◌, length, Option, Some, None}
use Rattle.mq_rules.specs.declared.role.Role.{Role}
use Rattle.mq_rules.specs.declared.note.Seen.{Seen}
use Rattle.mq_rules.specs.Notes.{is_open}
use Rattle.mq_rules.specs.Moments.{note, position, moments, some}
use Rattle.mq_rules.specs.Connections.{begun, number, of_connection, fate, resumed}
use Rattle.mq_rules.specs.Identifiers.{announces_bound, sends_again}

-- the position of the OPEN of the latest connection, or 0
abbrev pub opened_at : List Seen → ℕ
opened_at [] = 0
opened_at (e ∷ past) = cond (is_open e.note) (length past + 1) (opened_at past)

-- what came before the OPEN of the latest connection, if there is one
abbrev pub before_latest : List Seen → Option (List Seen)
before_latest [] = None
before_latest (e ∷ past) = cond (is_open e.note) (Some past) (before_latest past)

-- this connection passes over what is open under i, if the log decides it
abbrev pub passes : Role → ℕ → List Seen → ℕ → Bool
passes role i log c = resumed (fate role c log) && (announces_bound role (of_connection c log) && not (some (sends_again i) (of_connection c log)))

-- some connection that began after position p, and before the latest one, passes over i
abbrev pub passed_before : Role → ℕ → ℕ → List Seen → Bool
passed_before role i p log = some (λ w. is_open (note w) && (nat_lt p (position w) && (nat_lt (number w) (begun log) && passes role i log (number w)))) (moments log)
