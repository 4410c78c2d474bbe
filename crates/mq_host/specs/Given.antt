-- What the program is given by its host.
use Rattle.std.specs.Prelude.{List, Option, Some, None}
use Rattle.clap.specs.Words.{Text}
use Rattle.mq_host.specs.declared.host.Identity.{Identity}
use Rattle.mq_host.specs.declared.host.Unmade.{Unmade}
use Rattle.mq_host.specs.declared.trouble.Trouble.{Trouble}

-- What the program is given: the words of its command line, the bytes of the file at a path and those of standard input, each if
-- known; why the words couldn't be read, or the file at a path couldn't be opened, or not be made; that the file at a path, or standard input if there is no
-- path, was opened; and which file one that was opened is, if that is known.
pub record Given : Type 1 where
  pub words : Option (List Text)
  pub file : Text → Option Text
  pub standard : Option Text
  pub unread : Trouble → Type 0
  pub unopened : Text → Trouble → Type 0
  pub unmade : Text → Unmade → Type 0
  pub opened : Option Text → Type 0
  pub identified : Option Identity → Type 0

-- the bytes at this path, or of standard input if there is no path
abbrev pub bytes_at : Given → Option Text → Option Text
bytes_at given None = given.standard
bytes_at given (Some path) = given.file path

-- a log was opened
abbrev pub HasOpened : Given → Type 0
HasOpened given = (log : Option Text) × given.opened log
