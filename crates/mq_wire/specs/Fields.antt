-- The kinds of field (MQTT 5.0, 1.5), each read from the front of a list of bytes: its value and how many
-- bytes it takes, or why the bytes don't begin with such a field.
use Rattle.std.specs.Prelude.{ℕ, ◌+◌, ◌*◌, ◌-◌, List, [], ◌∷◌, length, take, drop, Result, Ok, Err, nat_lt, ◌==◌, if◌then◌else◌}
use Rattle.std.specs.Int.{w16, w32, from_be_bytes}
use Rattle.std.specs.Str.{is_utf8}
use Rattle.mq_wire.specs.declared.fault.Reason.{Reason}
use Rattle.mq_wire.specs.declared.fault.Reason.TheVariants.{Short, Overlong, NotUtf8, Nul}
use Rattle.mq_wire.specs.Spellings.{has_nul}

-- A step that is taken only if the one before it succeeded.
infixl 10 ◌>>=◌
abbrev pub ◌>>=◌ : {E A B : Type 0} → Result A E → (A → Result B E) → Result B E
(Ok x) >>= f = f x
(Err error) >>= f = Err error

-- A byte.
abbrev pub byte_at : List ℕ → Result (ℕ × ℕ) Reason
byte_at [] = Err Short
byte_at (a ∷ bytes) = Ok (a, 1)

-- A Two Byte Integer (1.5.2): the most significant byte first.
abbrev pub two_bytes_at : List ℕ → Result (ℕ × ℕ) Reason
two_bytes_at [] = Err Short
two_bytes_at (a ∷ []) = Err Short
two_bytes_at (a ∷ b ∷ bytes) = Ok (from_be_bytes w16 (a ∷ b ∷ []), 2)

-- A Four Byte Integer (1.5.3): the most significant byte first.
abbrev pub four_bytes_at : List ℕ → Result (ℕ × ℕ) Reason
four_bytes_at [] = Err Short
four_bytes_at (a ∷ []) = Err Short
four_bytes_at (a ∷ b ∷ []) = Err Short
four_bytes_at (a ∷ b ∷ c ∷ []) = Err Short
four_bytes_at (a ∷ b ∷ c ∷ d ∷ bytes) = Ok (from_be_bytes w32 (a ∷ b ∷ c ∷ d ∷ []), 4)

-- The number whose last group of seven bits is `last`, which is 0 only in a number of one byte.
abbrev pub ended_by : ℕ → ℕ → ℕ → Result (ℕ × ℕ) Reason
ended_by last number taken = if last == 0 then Err Overlong else Ok (number, taken)

-- The fourth byte of a Variable Byte Integer, after three bytes whose value is n.
abbrev pub fourth_byte : ℕ → List ℕ → Result (ℕ × ℕ) Reason
fourth_byte n [] = Err Short
fourth_byte n (d ∷ bytes) = if nat_lt d 128 then ended_by d (n + 2097152 * d) 4 else Err Overlong

-- The third byte, after two bytes whose value is n.
abbrev pub third_byte : ℕ → List ℕ → Result (ℕ × ℕ) Reason
third_byte n [] = Err Short
third_byte n (c ∷ bytes) = if nat_lt c 128 then ended_by c (n + 16384 * c) 3 else fourth_byte (n + 16384 * (c - 128)) bytes

-- The second byte, after one byte whose value is n.
abbrev pub second_byte : ℕ → List ℕ → Result (ℕ × ℕ) Reason
second_byte n [] = Err Short
second_byte n (b ∷ bytes) = if nat_lt b 128 then ended_by b (n + 128 * b) 2 else third_byte (n + 128 * (b - 128)) bytes

-- A Variable Byte Integer (1.5.5): seven bits a byte, the least significant first; bit 7 says that more
-- follows; at most four bytes, and no more than the number needs.
unfoldable pub varint_at : List ℕ → Result (ℕ × ℕ) Reason
varint_at [] = Err Short
varint_at (a ∷ bytes) = if nat_lt a 128 then Ok (a, 1) else second_byte (a - 128) bytes

-- The first n bytes after the two bytes of their length.
abbrev pub counted_bytes : ℕ → List ℕ → Result (List ℕ × ℕ) Reason
counted_bytes n bytes = if nat_lt (length bytes) n then Err Short else Ok (take n bytes, 2 + n)

-- Binary Data (1.5.6): a length of two bytes, and that many bytes.
unfoldable pub binary_at : List ℕ → Result (List ℕ × ℕ) Reason
binary_at bytes = do
  size ← two_bytes_at bytes
  counted_bytes size.0 (drop 2 bytes)

-- The bytes, if they are the UTF-8 of characters other than U+0000.
unfoldable pub text_of : List ℕ → Result (List ℕ) Reason
text_of bytes = if is_utf8 bytes then (if has_nul bytes then Err Nul else Ok bytes) else Err NotUtf8

-- A UTF-8 Encoded String (1.5.4): binary data whose bytes are a valid text.
unfoldable pub text_at : List ℕ → Result (List ℕ × ℕ) Reason
text_at bytes = do
  found ← binary_at bytes
  text ← text_of found.0
  Ok (text, found.1)

-- A UTF-8 String Pair (1.5.7): a name and then a value.
unfoldable pub pair_at : List ℕ → Result ((List ℕ × List ℕ) × ℕ) Reason
pair_at bytes = do
  name ← text_at bytes
  value ← text_at (drop name.1 bytes)
  Ok ((name.0, value.0), name.1 + value.1)
