-- Which byte `--long` marks of a packet that breaks a rule. A rule on a text has the offset of the text's length; what is marked is the byte in the text that
-- is wrong. For any other rule, and where no byte of a text is wrong, it is the one at the offset.
use Rattle.std.specs.Prelude.{ℕ, zero, suc, ◌+◌, ◌-◌, ◌==◌, ◌&&◌, ◌||◌, not, nat_lt, Bool, true, false, List, [], ◌∷◌, length, take, drop, slice_index, Option, Some, None, if◌then◌else◌}
use Rattle.std.specs.Int.{w16, from_be_bytes}
use Rattle.std.specs.Option.{option_map, option_or, unwrap_or}
use Rattle.std.specs.Str.{is_utf8}
use Rattle.core.specs.Str.Lossy.{utf8_valid_len}
use Rattle.mq_packet.specs.declared.rule.PacketRule.{PacketRule}
use Rattle.mq_packet.specs.declared.rule.PacketRule.TheVariants.{W04, W05, W14, W15}

-- the bytes from one offset to another, of which the latter doesn't count, as far as there are any
abbrev pub between : (start end : ℕ) → List ℕ → List ℕ
between start end bytes = take (end - start) (drop start bytes)

-- how long the text at this offset is, by its two bytes there (MQTT 5.0, section 1.5.4)
abbrev pub text_size : List ℕ → ℕ → ℕ
text_size bytes at = from_be_bytes w16 (slice_index bytes at ∷ slice_index bytes (at + 1) ∷ [])

-- the offset after it
abbrev pub text_end : List ℕ → ℕ → ℕ
text_end bytes at = at + 2 + text_size bytes at

-- a wildcard: `#` is 35, and `+` is 43 (MQTT 5.0, section 4.7.1)
abbrev pub is_wildcard : ℕ → Bool
is_wildcard byte = byte == 35 || byte == 43

-- the byte at a place of a Topic Filter begins a level, or ends one: `/` is 47
abbrev pub begins_level : List ℕ → ℕ → Bool
begins_level filter place = place == 0 || slice_index filter (place - 1) == 47

abbrev pub ends_level : List ℕ → ℕ → Bool
ends_level filter place = place + 1 == length filter || slice_index filter (place + 1) == 47

-- a wildcard that isn't alone in its level, or a `#` that isn't the last byte (MQTT 5.0, sections 4.7.1.2 and 4.7.1.3)
abbrev pub is_misplaced : List ℕ → ℕ → Bool
is_misplaced filter place = (is_wildcard (slice_index filter place) && not (begins_level filter place && ends_level filter place))
    || (slice_index filter place == 35 && not (place + 1 == length filter))

-- The byte at a place of a text is wrong by a rule: a U+0000 (W05), a wildcard in a Topic Name (W14), or one that is misplaced in a Topic Filter (W15).
abbrev pub is_wrong : PacketRule → List ℕ → ℕ → Bool
is_wrong W05 text place = slice_index text place == 0
is_wrong W14 text place = is_wildcard (slice_index text place)
is_wrong W15 text place = is_misplaced text place
is_wrong _ text place = false

-- the first place below a count that passes a test
abbrev pub first_place : (ℕ → Bool) → (count : ℕ) → Option ℕ
first_place test zero = None
first_place test (suc count) = option_or (first_place test count) (if test count then Some count else None)

-- the first place after the longest beginning of a text that is UTF-8, unless all of it is (MQTT 5.0, section 1.5.4)
abbrev pub not_utf8_at : List ℕ → Option ℕ
not_utf8_at text = if is_utf8 text then None else Some (utf8_valid_len text)

-- the first place of a text that is wrong by a rule, if any is
abbrev pub first_wrong : PacketRule → List ℕ → Option ℕ
first_wrong W04 text = not_utf8_at text
first_wrong rule text = first_place (is_wrong rule text) (length text)

-- the offset of the first byte that is wrong by a rule in the text at this offset, if the text lies within the packet
abbrev pub wrong_from : List ℕ → PacketRule → ℕ → Option ℕ
wrong_from bytes rule at = if nat_lt (length bytes) (text_end bytes at) then None
    else option_map (λ place. at + 2 + place) (first_wrong rule (between (at + 2) (text_end bytes at) bytes))

-- It is a rule on each text of a packet, so also on the second one of a User Property, whose offset is that of the first one's length (MQTT 5.0, section
-- 1.5.7).
abbrev pub is_of_each_text : PacketRule → Bool
is_of_each_text W04 = true
is_of_each_text W05 = true
is_of_each_text _ = false

-- the same in the text after the one at this offset
abbrev pub wrong_after : List ℕ → PacketRule → ℕ → Option ℕ
wrong_after bytes rule at = if is_of_each_text rule then wrong_from bytes rule (text_end bytes at) else None

-- the offset of the byte that is marked in a packet that breaks a rule at this offset
abbrev pub marked_at : List ℕ → PacketRule → ℕ → ℕ
marked_at bytes rule at = unwrap_or (option_or (wrong_from bytes rule at) (wrong_after bytes rule at)) at
