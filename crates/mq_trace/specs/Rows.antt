-- Pieces of short logs, byte for byte.
use Rattle.std.specs.Prelude.{ℕ, List, [], ◌∷◌, ◌++◌}
use Rattle.mq_log.specs.Framing.{magic}

-- the header of a log of a tested client that records releases
abbrev pub client_header : List ℕ
client_header = magic ++ 1 ∷ 0 ∷ 1 ∷ 0 ∷ []

-- the header of a log of a tested client that records no releases
abbrev pub silent_header : List ℕ
silent_header = magic ++ 1 ∷ 0 ∷ 0 ∷ 0 ∷ []

-- an OPEN
abbrev pub open_bytes : List ℕ
open_bytes = 1 ∷ 0 ∷ 0 ∷ 0 ∷ 0 ∷ []

-- a CLOSE
abbrev pub close_bytes : List ℕ
close_bytes = 4 ∷ 0 ∷ 0 ∷ 0 ∷ 0 ∷ []

-- a CLOSE, but for its last byte
abbrev pub close_start : List ℕ
close_start = 4 ∷ 0 ∷ 0 ∷ 0 ∷ []

-- a RELEASE of identifier 1
abbrev pub release_bytes : List ℕ
release_bytes = 6 ∷ 0 ∷ 0 ∷ 0 ∷ 2 ∷ 0 ∷ 1 ∷ []

-- the header of a log of version 2, of a tested client that records releases
abbrev pub timed_header : List ℕ
timed_header = magic ++ 2 ∷ 0 ∷ 1 ∷ 0 ∷ []

-- an OPEN of such a log, whose moment is 258
abbrev pub timed_open : List ℕ
timed_open = 1 ∷ 0 ∷ 0 ∷ 0 ∷ 0 ∷ 0 ∷ 0 ∷ 0 ∷ 0 ∷ 0 ∷ 0 ∷ 1 ∷ 2 ∷ []
