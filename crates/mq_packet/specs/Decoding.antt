-- What a packet's bytes are decoded to: the packet, or the first fault in them.
use Rattle.std.specs.Prelude.{ℕ, zero, suc, ◌+◌, ◌==◌, if◌then◌else◌, Bool, true, false, List, [], ◌∷◌, length, Option, Some, None, Result, Ok, Err}
use Rattle.std.specs.List.{list_all, prefix_len}
use Rattle.mq_wire.specs.declared.fault.Reason.{Reason}
use Rattle.mq_wire.specs.declared.fault.Reason.TheVariants as reasons
use Rattle.mq_wire.specs.declared.fault.WireFault.{WireFault}
use Rattle.mq_wire.specs.Left.{Left, placed}
use Rattle.mq_wire.specs.Fields.{byte_at, two_bytes_at, text_at, binary_at, ◌>>=◌}
use Rattle.mq_wire.specs.Spellings.{varint_spelling}
use Rattle.mq_props.specs.declared.fault.PropFault.{PropFault}
use Rattle.mq_props.specs.declared.fault.PropReason.{PropReason}
use Rattle.mq_props.specs.declared.fault.PropReason.TheVariants as prop_reasons
use Rattle.mq_props.specs.Reading.{list_on}
use Rattle.mq_packet.specs.declared.rule.PacketRule.{PacketRule}
use Rattle.mq_packet.specs.declared.rule.PacketRule.TheVariants as rules
use Rattle.mq_packet.specs.declared.fault.DecodeFault.{DecodeFault}
use Rattle.mq_packet.specs.declared.fault.DecodeFault.TheVariants.{Broken, OtherVersion}
use Rattle.mq_packet.specs.Entries.{Entry, AskedFilter}
use Rattle.mq_packet.specs.Formats.{Kind, byte, two_bytes, text, binary, properties, ValueOf, Objection, breaks, other_version, is_code, filter_objection, options_objection, Format, done, rest, all_codes, all_filters, bad_first_byte, field, at_end, format_of}

-- A rule is broken at this offset.
abbrev pub broken : ℕ → PacketRule → DecodeFault
broken at rule = Broken (record { at = at; rule = rule })

-- The fault of an objection to the field at this offset.
abbrev pub objected : ℕ → Objection → DecodeFault
objected at (breaks rule) = broken at rule
objected at (other_version version) = OtherVersion version

-- The rule that a misspelled field breaks.
abbrev pub rule_of : Reason → PacketRule
rule_of reasons.Short = rules.W06
rule_of reasons.Overlong = rules.W03
rule_of reasons.NotUtf8 = rules.W04
rule_of reasons.Nul = rules.W05

-- The rule that a property list breaks.
abbrev pub list_rule : PropReason → PacketRule
list_rule (prop_reasons.Wire reason) = rule_of reason
list_rule prop_reasons.Unknown = rules.W10
list_rule prop_reasons.NotAllowed = rules.W10
list_rule prop_reasons.Repeated = rules.W11
list_rule prop_reasons.Value = rules.W12
list_rule prop_reasons.Wildcard = rules.W14

-- What was read, or the rule that the misspelled field breaks.
abbrev pub spelled : {X : Type 0} → Result X WireFault → Result X DecodeFault
spelled (Ok x) = Ok x
spelled (Err fault) = Err (broken fault.at (rule_of fault.reason))

-- The same for a property list, with the offset of its first invalid field.
abbrev pub spelled_list : {X : Type 0} → Result X PropFault → Result X DecodeFault
spelled_list (Ok x) = Ok x
spelled_list (Err fault) = Err (broken fault.at (list_rule fault.reason))

-- The field of this kind at the front of what is left, with what is left after it; or the rule that is broken.
abbrev pub field_on : (kind : Kind) → Left → Result (ValueOf kind × Left) DecodeFault
field_on byte left = spelled (placed left (byte_at left.rest))
field_on two_bytes left = spelled (placed left (two_bytes_at left.rest))
field_on text left = spelled (placed left (text_at left.rest))
field_on binary left = spelled (placed left (binary_at left.rest))
field_on (properties place) left = spelled_list (list_on place left)

-- The value, unless it is objected to.
abbrev pub unless : {X : Type 0} → ℕ → Option Objection → X → Result X DecodeFault
unless at None x = Ok x
unless at (Some objection) x = Err (objected at objection)

-- The field at the front of what is left: first its spelling is checked, then its value.
abbrev pub read_field : (kind : Kind) → (ValueOf kind → Option Objection) → Left → Result (ValueOf kind × Left) DecodeFault
read_field kind objection left = do
  x ← field_on kind left
  unless left.at (objection x.0) x

-- Nothing is left over (2.1.4).
abbrev pub ended : Entry → Left → Result Entry DecodeFault
ended packet left = if length left.rest == 0 then Ok packet else Err (broken left.at rules.W06)

-- All that is left as Reason Codes of a table: the first byte that isn't one of them is at fault (2.4).
unfoldable pub codes_on : List ℕ → Left → Result (List ℕ) DecodeFault
codes_on table left =
    if list_all (is_code table) left.rest then Ok left.rest else Err (broken (left.at + prefix_len (is_code table) left.rest) rules.W13)

-- The options at the front of what is left, if they are asked for (3.8.3.1).
abbrev pub some_options : ℕ × Left → Result (Option ℕ × Left) DecodeFault
some_options x = Ok (Some x.0, x.1)

abbrev pub options_on : Bool → Left → Result (Option ℕ × Left) DecodeFault
options_on false left = Ok (None, left)
options_on true left = read_field byte options_objection left >>= some_options

-- The options at the front of what is left after this filter, if they are asked for.
abbrev pub with_options : List ℕ → Option ℕ × Left → Result (AskedFilter × Left) DecodeFault
with_options filter x = Ok (record { filter = filter; options = x.0 }, x.1)

abbrev pub options_after : Bool → List ℕ × Left → Result (AskedFilter × Left) DecodeFault
options_after asks x = options_on asks x.1 >>= with_options x.0

-- The filter at the front of what is left, with its options if they are asked for (3.8.3, 3.10.3).
abbrev pub filter_on : Bool → Left → Result (AskedFilter × Left) DecodeFault
filter_on asks left = read_field text filter_objection left >>= options_after asks

-- All that is left as filters. Each takes at least one byte, so n bytes have at most n.
abbrev pub filters_within : ℕ → Bool → Left → Result (List AskedFilter) DecodeFault
filters_within zero asks left = Ok []
filters_within (suc n) asks left =
    if length left.rest == 0 then Ok [] else (filter_on asks left >>= λ x. filters_within n asks x.1 >>= λ others. Ok (x.0 ∷ others))

-- All that is left as filters, at least one (3.8.3, 3.10.3).
unfoldable pub filters_on : Bool → Left → Result (List AskedFilter) DecodeFault
filters_on asks left =
    if length left.rest == 0 then Err (broken left.at rules.W16) else filters_within (length left.rest) asks left

-- What is left of a packet, read by its format.
abbrev pub read : Format → Left → Result Entry DecodeFault
read (done packet) left = ended packet left
read (rest packet) left = Ok (packet left.rest)
read (all_codes table packet) left = do
  reasons ← codes_on table left
  Ok (packet reasons)
read (all_filters asks packet) left = do
  filters ← filters_on asks left
  Ok (packet filters)
read (bad_first_byte rule) left = Err (broken 0 rule)
read (field kind objection next) left = do
  x ← read_field kind objection left
  read (next x.0) x.1
read (at_end whole more) left = if length left.rest == 0 then read whole left else read more left

-- Where a body of this length begins: after the first byte and the Remaining Length (2.1.4).
unfoldable pub body_start : ℕ → ℕ
body_start size = 1 + length (varint_spelling size)

-- The packet with this first byte and body, or the first fault.
unfoldable pub decoded : ℕ → List ℕ → Result Entry DecodeFault
decoded first body = read (format_of first) (record { at = body_start (length body); rest = body })
