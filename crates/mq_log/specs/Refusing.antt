-- How a refusal is reported: its number, its name and its byte.
use Rattle.std.specs.Prelude.{ℕ, List, [], ◌∷◌, codes, decimal}
use Rattle.std.specs.List.{join_with_byte}
use Rattle.mq_log.specs.declared.refusal.Refusal.{Refusal}
use Rattle.mq_log.specs.declared.refusal.Refusal.TheVariants.{Header, Version, Role, Flags, Kind, Length, Nested, NotOpen, ReleaseUnrecorded, Cut, TooLarge, OtherVersion, TooManyEarly, TooLong, Read, Memory}

-- words, with a space between two of them
abbrev pub spaced : List (List ℕ) → List ℕ
spaced words = join_with_byte 32 words

-- the number of a refusal
abbrev pub number_of : Refusal → ℕ
number_of (Header at) = 1
number_of (Version at) = 2
number_of (Role at) = 3
number_of (Flags at) = 4
number_of (Kind at) = 5
number_of (Length at) = 6
number_of (Nested at) = 7
number_of (NotOpen at) = 8
number_of (ReleaseUnrecorded at) = 9
number_of (Cut at) = 10
number_of (TooLarge at) = 11
number_of (OtherVersion at) = 12
number_of (TooManyEarly at) = 13
number_of (TooLong at) = 14
number_of (Read at) = 15
number_of (Memory at) = 16

-- its name
abbrev pub name_of : Refusal → List ℕ
name_of (Header at) = codes "Header"
name_of (Version at) = codes "Version"
name_of (Role at) = codes "Role"
name_of (Flags at) = codes "Flags"
name_of (Kind at) = codes "Kind"
name_of (Length at) = codes "Length"
name_of (Nested at) = codes "Nested"
name_of (NotOpen at) = codes "NotOpen"
name_of (ReleaseUnrecorded at) = codes "ReleaseUnrecorded"
name_of (Cut at) = codes "Cut"
name_of (TooLarge at) = codes "TooLarge"
name_of (OtherVersion at) = codes "OtherVersion"
name_of (TooManyEarly at) = codes "TooManyEarly"
name_of (TooLong at) = codes "TooLong"
name_of (Read at) = codes "Read"
name_of (Memory at) = codes "Memory"

-- the offset in the log of the byte at which its condition first applies
abbrev pub refusal_offset : Refusal → ℕ
refusal_offset (Header at) = at
refusal_offset (Version at) = at
refusal_offset (Role at) = at
refusal_offset (Flags at) = at
refusal_offset (Kind at) = at
refusal_offset (Length at) = at
refusal_offset (Nested at) = at
refusal_offset (NotOpen at) = at
refusal_offset (ReleaseUnrecorded at) = at
refusal_offset (Cut at) = at
refusal_offset (TooLarge at) = at
refusal_offset (OtherVersion at) = at
refusal_offset (TooManyEarly at) = at
refusal_offset (TooLong at) = at
refusal_offset (Read at) = at
refusal_offset (Memory at) = at

-- the line on a refusal: its number, its name and its byte
abbrev pub refused_text : Refusal → List ℕ
refused_text refusal = spaced (codes "refused" ∷ decimal (number_of refusal) ∷ name_of refusal ∷ codes "at" ∷ decimal (refusal_offset refusal) ∷ [])

-- a refusal, at another byte
abbrev pub moved : Refusal → ℕ → Refusal
moved (Header _) at = Header at
moved (Version _) at = Version at
moved (Role _) at = Role at
moved (Flags _) at = Flags at
moved (Kind _) at = Kind at
moved (Length _) at = Length at
moved (Nested _) at = Nested at
moved (NotOpen _) at = NotOpen at
moved (ReleaseUnrecorded _) at = ReleaseUnrecorded at
moved (Cut _) at = Cut at
moved (TooLarge _) at = TooLarge at
moved (OtherVersion _) at = OtherVersion at
moved (TooManyEarly _) at = TooManyEarly at
moved (TooLong _) at = TooLong at
moved (Read _) at = Read at
moved (Memory _) at = Memory at
