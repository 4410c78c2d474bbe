-- What the program does to files.
use Rattle.std.specs.Prelude.{Bool, List, Option, if◌then◌else◌}
use Rattle.clap.specs.Words.{Text}

-- What was done to a file: one was made at a path where there was nothing; the one at a path was emptied, or made if there was none; or the one that was made was
-- closed, complete. With it the bytes that it then held, if they are known.
pub data Effect : Type 0 where
  making replacing : Text → Option Text → Effect
  keeping : Option Text → Effect

-- how a file is made at this path: one that is there is emptied only if that is asked for
abbrev pub opening : (path : Text) → (force : Bool) → (held : Option Text) → Effect
opening path force held = if force then replacing path held else making path held

-- what was done to files so far, the latest first
abbrev pub Doing : Type 1
Doing = List Effect → Type 0
