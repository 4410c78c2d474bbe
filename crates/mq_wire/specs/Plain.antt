-- Texts whose bytes alone show that they are valid and have no wildcard (MQTT 5.0, 1.5.4 and 4.7.1). 35 is `#`, 43 is `+`.
use Rattle.std.specs.Prelude.{ℕ, Bool, ◌&&◌, not, nat_lt, ◌==◌, List, Option, Some, None, Result, Ok, Err, if◌then◌else◌}
use Rattle.std.specs.List.{list_all}
use Rattle.mq_wire.specs.declared.fault.Reason.{Reason}
use Rattle.mq_wire.specs.Fields.{binary_at}

-- An ASCII character other than U+0000 and the wildcards of Topic Filters.
abbrev pub is_plain_byte : ℕ → Bool
is_plain_byte b = nat_lt b 128 && (not (b == 0) && (not (b == 35) && not (b == 43)))

-- Each byte is plain.
abbrev pub is_plain : List ℕ → Bool
is_plain bytes = list_all is_plain_byte bytes

-- What was read, if its bytes are plain.
abbrev pub if_plain : Result (List ℕ × ℕ) Reason → Option (List ℕ × ℕ)
if_plain (Ok x) = if is_plain x.0 then Some x else None
if_plain (Err reason) = None

-- A UTF-8 Encoded String of plain bytes (1.5.4), and how many bytes it takes.
abbrev pub plain_text_at : List ℕ → Option (List ℕ × ℕ)
plain_text_at bytes = if_plain (binary_at bytes)
