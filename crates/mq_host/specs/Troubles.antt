-- What keeps the program from its work, what it says of it, and what it says of a file that isn't a log.
use Rattle.std.specs.Prelude.{◌≡◌, ◌⊎◌, ⊤, ℕ, Bool, true, false, List, [], ◌∷◌, ◌++◌, codes, if◌then◌else◌, take, unwrap_or, Option, Some, None}
use Rattle.std.specs.List.{list_any}
use Rattle.std.specs.Str.{bytes_eq}
use Rattle.std.specs.Io.KnownBytes.{Keeps}
use Rattle.std_io.specs.declared.io.kind.ErrorKind.{ErrorKind}
use Rattle.std_io.specs.declared.io.kind.ErrorKind.TheVariants.{AlreadyExists, BrokenPipe, FilesystemLoop, InvalidData, InvalidFilename, IsADirectory, NotADirectory, NotFound, OutOfMemory, PermissionDenied}
use Rattle.mq_host.specs.declared.failure.Failure.{Failure}
use Rattle.mq_host.specs.declared.failure.Failure.TheVariants as failures
use Rattle.mq_host.specs.declared.host.Unmade.{Unmade}
use Rattle.mq_host.specs.declared.host.Unmade.TheVariants.{Exists, IsLog, Failed}
use Rattle.mq_host.specs.declared.trouble.Reason.{Reason}
use Rattle.mq_host.specs.declared.trouble.Reason.TheVariants.{Missing, Denied, Directory, NoDirectory, LongName, Loop, NotUtf8, Other}
use Rattle.mq_host.specs.declared.trouble.Trouble.{Trouble}
use Rattle.mq_host.specs.declared.trouble.Trouble.TheVariants.{Unread, Write, Memory}
use Rattle.mq_host.specs.Streams.{IsTold, Stream, failure_line}

-- ---- what couldn't be read, and why

-- the reason that a kind of error gives for a file or a stream
abbrev pub reason_for : ErrorKind → Reason
reason_for NotFound = Missing
reason_for PermissionDenied = Denied
reason_for IsADirectory = Directory
reason_for NotADirectory = NoDirectory
reason_for InvalidFilename = LongName
reason_for FilesystemLoop = Loop
reason_for _ = Other

-- why a file couldn't be opened, by the kind of the error
abbrev pub trouble_for : ErrorKind → Trouble
trouble_for OutOfMemory = Memory
trouble_for kind = Unread (reason_for kind)

-- why a file couldn't be made, likewise
abbrev pub making_trouble_for : ErrorKind → Trouble
making_trouble_for OutOfMemory = Memory
making_trouble_for _ = Write

-- why a new file wasn't made: there may be something at its path
abbrev pub unmade_for : ErrorKind → Unmade
unmade_for AlreadyExists = Exists
unmade_for kind = Failed (making_trouble_for kind)

-- a failure to make a file is one to write, or of memory
abbrev pub IsOfMaking : Unmade → Type 0
IsOfMaking Exists = ⊤
IsOfMaking IsLog = ⊤
IsOfMaking (Failed trouble) = (trouble ≡ Write) ⊎ (trouble ≡ Memory)

-- why the words couldn't be read: invalid data is a word that isn't UTF-8
abbrev pub words_trouble_for : ErrorKind → Trouble
words_trouble_for OutOfMemory = Memory
words_trouble_for InvalidData = Unread NotUtf8
words_trouble_for _ = Unread Other

-- the end of a line that says so
abbrev pub reason_text : Reason → List ℕ
reason_text Missing = codes "there is no such file" ++ 10 ∷ []
reason_text Denied = codes "permission to read it is denied" ++ 10 ∷ []
reason_text Directory = codes "it is a directory" ++ 10 ∷ []
reason_text NoDirectory = codes "part of its path isn't a directory" ++ 10 ∷ []
reason_text LongName = codes "its name is too long" ++ 10 ∷ []
reason_text Loop = codes "its symbolic links lead back to themselves" ++ 10 ∷ []
reason_text NotUtf8 = codes "a word isn't UTF-8; give a file of that name on standard input: mqjudge check < FILE" ++ 10 ∷ []
reason_text Other = codes "the system can't read it" ++ 10 ∷ []

-- the line on what couldn't be read: its place, and why
abbrev pub reason_line : (place : List ℕ) → Reason → List ℕ
reason_line place reason = codes "mqjudge: " ++ (place ++ (codes ": " ++ reason_text reason))

-- the places: a file's path, standard input if there is no path, and the words of the command line
abbrev pub place_of : (path : Option (List ℕ)) → List ℕ
place_of None = codes "standard input"
place_of (Some path) = path

abbrev pub words_place : List ℕ
words_place = codes "the command line"

-- ---- what failed

abbrev pub failure_in : Trouble → Failure
failure_in (Unread reason) = failures.Read
failure_in Write = failures.Write
failure_in Memory = failures.Memory

-- what failed; if that was reading, for this reason, if it is known
abbrev pub trouble_of : Failure → Option Reason → Trouble
trouble_of failures.Read reason = Unread (unwrap_or reason Other)
trouble_of failures.Write reason = Write
trouble_of failures.Memory reason = Memory

-- the lines that say what failed
abbrev pub trouble_lines : (place : List ℕ) → Trouble → List ℕ
trouble_lines place (Unread reason) = failure_line failures.Read ++ reason_line place reason
trouble_lines place Write = failure_line failures.Write
trouble_lines place Memory = failure_line failures.Memory

-- It is said on the error stream what failed, unless that failed too. A write that failed because nobody reads the output any more isn't worth a word.
abbrev pub Tells : (is_closed : Bool) → (place : List ℕ) → Trouble → Stream → Type 0
Tells is_closed place (Unread reason) error = IsTold error (trouble_lines place (Unread reason))
Tells true place Write error = Keeps error.old error.new
Tells false place Write error = IsTold error (trouble_lines place Write)
Tells is_closed place Memory error = IsTold error (trouble_lines place Memory)

-- a write fails so if nobody reads what is written
abbrev pub is_broken_pipe : ErrorKind → Bool
is_broken_pipe BrokenPipe = true
is_broken_pipe _ = false

-- ---- files that aren't logs

-- the first four bytes of a capture of network packets: pcap with times in microseconds and in nanoseconds, each in both orders of bytes; and pcapng
abbrev pub capture_marks : List (List ℕ)
capture_marks = (0xD4 ∷ 0xC3 ∷ 0xB2 ∷ 0xA1 ∷ []) ∷ (0xA1 ∷ 0xB2 ∷ 0xC3 ∷ 0xD4 ∷ []) ∷ (0x4D ∷ 0x3C ∷ 0xB2 ∷ 0xA1 ∷ [])
    ∷ (0xA1 ∷ 0xB2 ∷ 0x3C ∷ 0x4D ∷ []) ∷ (0x0A ∷ 0x0D ∷ 0x0D ∷ 0x0A ∷ []) ∷ []

abbrev pub is_capture : List ℕ → Bool
is_capture bytes = list_any (bytes_eq (take 4 bytes)) capture_marks

abbrev pub is_compressed : List ℕ → Bool
is_compressed bytes = bytes_eq (take 2 bytes) (0x1F ∷ 0x8B ∷ [])

-- the line on a file that begins so, beside the one on its refusal; empty if its first bytes don't show what it is
abbrev pub hint_line : List ℕ → List ℕ
hint_line bytes = if is_capture bytes then codes "mqjudge: it is a capture: recorders/from-capture makes logs of it" ++ 10 ∷ []
    else (if is_compressed bytes then codes "mqjudge: it is compressed by gzip: unpack it first; of a capture recorders/from-capture makes logs" ++ 10 ∷ []
    else [])
