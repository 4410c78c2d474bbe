-- Which packet a first byte and a body spell, and which fault they have: relations, independent of any way of reading.
use Rattle.std.specs.Prelude.{◌≡◌, ◌≢◌, ℕ, ◌+◌, ◌⊎◌, Bool, true, false, List, [], ◌∷◌, ◌++◌, length, Option, Some, None, Result, Ok, Err}
use Rattle.std.specs.List.{list_all, AllByRecursion}
use Rattle.mq_wire.specs.Spellings.{IsByte, byte_spelling, IsTwoBytes, two_bytes_spelling, IsText, text_spelling, IsBinary, binary_spelling, IsVarint, varint_spelling}
use Rattle.mq_props.specs.Values.{body as properties_spelling}
use Rattle.mq_props.specs.Allowed.{AreAllowed}
use Rattle.mq_packet.specs.declared.rule.PacketRule.{PacketRule}
use Rattle.mq_packet.specs.declared.rule.PacketRule.TheVariants as rules
use Rattle.mq_packet.specs.declared.fault.DecodeFault.{DecodeFault}
use Rattle.mq_packet.specs.declared.fault.DecodeFault.TheVariants.{Broken, OtherVersion}
use Rattle.mq_packet.specs.Entries.{Entry, AskedFilter}
use Rattle.mq_packet.specs.Formats.{Kind, byte, two_bytes, text, binary, properties, ValueOf, Objection, is_code, filter_objection, options_objection, Format, done, rest, all_codes, all_filters, bad_first_byte, field, at_end, format_of}
use Rattle.mq_packet.specs.Decoding.{broken, objected, body_start}
use Rattle.mq_packet.specs.Asking.{IsAsked, filters_spelling, AreAsked}
use Rattle.mq_packet.specs.Misspellings.{MisspelledAs}

-- The values of a kind of field (1.5, 2.2.2).
abbrev pub IsValueOf : (kind : Kind) → ValueOf kind → Type 0
IsValueOf byte value = IsByte value
IsValueOf two_bytes value = IsTwoBytes value
IsValueOf text value = IsText value
IsValueOf binary value = IsBinary value
IsValueOf (properties place) value = AreAllowed place value × IsVarint (length (properties_spelling value))

-- The spelling of a value.
abbrev pub spelling : (kind : Kind) → ValueOf kind → List ℕ
spelling byte value = byte_spelling value
spelling two_bytes value = two_bytes_spelling value
spelling text value = text_spelling value
spelling binary value = binary_spelling value
spelling (properties place) value = varint_spelling (length (properties_spelling value)) ++ properties_spelling value

-- The bytes begin with the spelling of a value of this kind, and these are left after it.
pub record Begin (kind : Kind) (bytes : List ℕ) (value : ValueOf kind) (left : List ℕ) : Type 0 where
  pub is_value : IsValueOf kind value
  pub spelled : bytes ≡ spelling kind value ++ left

-- They begin with a valid value, and `then` holds of the value and of what is left after it.
abbrev pub Good : (kind : Kind) → (ValueOf kind → Option Objection) → List ℕ → (ValueOf kind → List ℕ → Type 0) → Type 0
Good kind objection bytes then = (value : ValueOf kind) × (left : List ℕ) × Begin kind bytes value left × (objection value ≡ None) × then value left

-- They begin with a value that is invalid for this reason.
abbrev pub Objected : (kind : Kind) → (ValueOf kind → Option Objection) → List ℕ → Objection → Type 0
Objected kind objection bytes why = (value : ValueOf kind) × (left : List ℕ) × Begin kind bytes value left × (objection value ≡ Some why)

-- The bytes are Reason Codes of the table, a byte each, and then a byte that isn't one of them, which is at fault (2.4). Any
-- bytes may follow.
pub record BadCode (table : List ℕ) (at : ℕ) (bytes : List ℕ) (fault : DecodeFault) : Type 0 where
  pub good : List ℕ
  pub bad : ℕ
  pub others : List ℕ
  pub parts : bytes ≡ good ++ bad ∷ others
  pub known : list_all (is_code table) good ≡ true
  pub unknown : is_code table bad ≡ false
  pub is : fault ≡ broken (at + length good) rules.W13

-- The bytes don't begin with a valid field of this kind, and have this fault: they don't begin with one of the kind, or they
-- begin with one that is invalid there.
abbrev pub FailsField : (kind : Kind) → (ValueOf kind → Option Objection) → ℕ → List ℕ → DecodeFault → Type 0
FailsField kind objection at bytes fault =
    MisspelledAs kind at bytes fault ⊎ ((why : Objection) × Objected kind objection bytes why × (fault ≡ objected at why))

-- The options that the bytes begin with after a filter are at fault, if options are asked for (3.8.3.1).
abbrev pub FailsOptions : Bool → ℕ → List ℕ → DecodeFault → Type 0
FailsOptions false at bytes fault = ⊥
FailsOptions true at bytes fault = FailsField byte options_objection at bytes fault

-- The bytes don't begin with a valid filter, or the options after it are at fault, if they are asked for (3.8.3, 3.10.3).
abbrev pub FailsFilter : Bool → ℕ → List ℕ → DecodeFault → Type 0
FailsFilter asks at bytes fault =
    FailsField text filter_objection at bytes fault
    ⊎ Good text filter_objection bytes (λ filter left. FailsOptions asks (at + length (text_spelling filter)) left fault)

-- The bytes are the spellings of valid filters, one after another, and then other bytes, at least one; and the filter at the
-- front of those is at fault.
pub record BadFilter (asks : Bool) (at : ℕ) (bytes : List ℕ) (fault : DecodeFault) : Type 0 where
  pub good : List AskedFilter
  pub each : AllByRecursion (IsAsked asks) good
  pub others : List ℕ
  pub some : others ≢ []
  pub parts : bytes ≡ filters_spelling good ++ others
  pub refused : FailsFilter asks (at + length (filters_spelling good)) others fault

-- The bytes are those of this packet by the format: its fields in their order, each of them valid, and nothing else.
abbrev pub Spells : Format → List ℕ → Entry → Type 0
Spells (done packet) bytes entry = (bytes ≡ []) × (packet ≡ entry)
Spells (rest packet) bytes entry = packet bytes ≡ entry
Spells (all_codes table packet) bytes entry = (list_all (is_code table) bytes ≡ true) × (packet bytes ≡ entry)
Spells (all_filters asks packet) bytes entry = (filters : List AskedFilter) × AreAsked asks filters × (bytes ≡ filters_spelling filters) × (packet filters ≡ entry)
Spells (bad_first_byte rule) bytes entry = ⊥
Spells (field kind objection next) bytes entry = Good kind objection bytes (λ value left. Spells (next value) left entry)
Spells (at_end whole more) [] entry = Spells whole [] entry
Spells (at_end whole more) (b ∷ bytes) entry = Spells more (b ∷ bytes) entry

-- The bytes, the first of which has this offset, have this fault by the format: fields in their order, each of them valid,
-- and then the one at fault.
abbrev pub Fails : Format → ℕ → List ℕ → DecodeFault → Type 0
Fails (done packet) at bytes fault = (bytes ≢ []) × (fault ≡ broken at rules.W06)
Fails (rest packet) at bytes fault = ⊥
Fails (all_codes table packet) at bytes fault = BadCode table at bytes fault
Fails (all_filters asks packet) at bytes fault = ((bytes ≡ []) × (fault ≡ broken at rules.W16)) ⊎ BadFilter asks at bytes fault
Fails (bad_first_byte rule) at bytes fault = fault ≡ broken 0 rule
Fails (field kind objection next) at bytes fault =
    MisspelledAs kind at bytes fault
    ⊎ (((why : Objection) × Objected kind objection bytes why × (fault ≡ objected at why))
    ⊎ Good kind objection bytes (λ value left. Fails (next value) (at + length (spelling kind value)) left fault))
Fails (at_end whole more) at [] fault = Fails whole at [] fault
Fails (at_end whole more) at (b ∷ bytes) fault = Fails more at (b ∷ bytes) fault

-- What bytes are by a format: a packet that they spell, or a fault that they have.
abbrev pub Is : Format → ℕ → List ℕ → Result Entry DecodeFault → Type 0
Is format at bytes (Ok entry) = Spells format bytes entry
Is format at bytes (Err fault) = Fails format at bytes fault

-- The first byte and the body spell this packet.
abbrev pub IsSpelled : ℕ → List ℕ → Entry → Type 0
IsSpelled first body entry = Spells (format_of first) body entry

-- They break this rule, in the field at this offset of the packet.
abbrev pub Breaks : ℕ → List ℕ → ℕ → PacketRule → Type 0
Breaks first body at rule = Fails (format_of first) (body_start (length body)) body (broken at rule)

-- They are a CONNECT of this protocol version, which isn't 5.
abbrev pub IsOtherVersion : ℕ → List ℕ → ℕ → Type 0
IsOtherVersion first body version = Fails (format_of first) (body_start (length body)) body (OtherVersion version)

-- They have this fault.
abbrev pub HasFault : ℕ → List ℕ → DecodeFault → Type 0
HasFault first body (Broken fault) = Breaks first body fault.at fault.rule
HasFault first body (OtherVersion version) = IsOtherVersion first body version

-- Which of the three holds, with the packet or the fault.
abbrev pub DecodesTo : ℕ → List ℕ → Result Entry DecodeFault → Type 0
DecodesTo first body (Ok entry) = IsSpelled first body entry
DecodesTo first body (Err fault) = HasFault first body fault
