-- What the next bytes of a log do, as functions of what is kept of the log.
use Rattle.std.specs.Prelude.{ℕ, List, [], ◌∷◌, ◌++◌, Option, None}
use Rattle.std.specs.Option.{option_or}
use Rattle.mq_log.specs.declared.refusal.Refusal.{Refusal}
use Rattle.mq_log.specs.Events.{Placed}
use Rattle.mq_log.specs.Context.{Context, refusal_for, placed_for, put, after}

-- what is kept after these bytes
abbrev pub after_bytes : Context → List ℕ → Context
after_bytes c [] = c
after_bytes c (byte ∷ bytes) = after_bytes (after c byte) bytes

-- the refusal that applies first at one of these bytes
abbrev pub refused_in : ℕ → Context → List ℕ → Option Refusal
refused_in limit c [] = None
refused_in limit c (byte ∷ bytes) = option_or (refusal_for limit c byte) (refused_in limit (after c byte) bytes)

-- the events that these bytes complete, the newest first
abbrev pub events_by : Context → List ℕ → List Placed
events_by c [] = []
events_by c (byte ∷ bytes) = events_by (after c byte) bytes ++ put (placed_for c byte) []
