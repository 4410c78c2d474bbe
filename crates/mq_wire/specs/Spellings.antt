-- The spellings of the kinds of field (MQTT 5.0, 1.5), independent of any way of reading, and what it means for a
-- reading to be exact.
use Rattle.std.specs.Prelude.{◌≡◌, ℕ, ◌+◌, ◌-◌, ◌/◌, ◌%◌, ◌<◌, ◌≤◌, Bool, false, List, [], ◌∷◌, ◌++◌, length, drop, slice_index, Result, Ok, nat_lt, ◌==◌, if◌then◌else◌}
use Rattle.std.specs.Int.{w16, w32, to_be_bytes}
use Rattle.std.specs.List.{list_any}
use Rattle.std.specs.Str.{IsUtf8}
use Rattle.mq_wire.specs.declared.fault.Reason.{Reason}

-- A list of bytes.
abbrev pub AreBytes : List ℕ → Type 0
AreBytes bytes = (i : ℕ) → slice_index bytes i < 256

-- The values of a byte.
abbrev pub IsByte : ℕ → Type 0
IsByte n = n < 256

-- A byte is spelled as it is.
abbrev pub byte_spelling : ℕ → List ℕ
byte_spelling n = n ∷ []

-- The largest Two Byte Integer (1.5.2).
abbrev pub max_two_bytes : ℕ
max_two_bytes = 65535

-- The values of a Two Byte Integer (1.5.2).
abbrev pub IsTwoBytes : ℕ → Type 0
IsTwoBytes n = n ≤ max_two_bytes

-- Two bytes, the most significant first.
abbrev pub two_bytes_spelling : ℕ → List ℕ
two_bytes_spelling n = to_be_bytes w16 n

-- The values of a Four Byte Integer (1.5.3).
abbrev pub IsFourBytes : ℕ → Type 0
IsFourBytes n = n ≤ 4294967295

-- Four bytes, the most significant first.
abbrev pub four_bytes_spelling : ℕ → List ℕ
four_bytes_spelling n = to_be_bytes w32 n

-- The largest Variable Byte Integer (1.5.5).
abbrev pub max_varint : ℕ
max_varint = 268435455

-- The values of a Variable Byte Integer (1.5.5).
abbrev pub IsVarint : ℕ → Type 0
IsVarint n = n ≤ max_varint

-- One byte up to 127, two up to 16,383, three up to 2,097,151, else four: seven bits each, the least
-- significant first, with bit 7 in all but the last.
unfoldable pub varint_spelling : ℕ → List ℕ
varint_spelling n =
    if nat_lt n 128 then n ∷ [] else
    if nat_lt n 16384 then (128 + n % 128) ∷ (n / 128) ∷ [] else
    if nat_lt n 2097152 then (128 + n % 128) ∷ (128 + n / 128 % 128) ∷ (n / 16384) ∷ [] else
    (128 + n % 128) ∷ (128 + n / 128 % 128) ∷ (128 + n / 16384 % 128) ∷ (n / 2097152) ∷ []

-- The values of Binary Data (1.5.6): as many bytes as a Two Byte Integer can count.
abbrev pub IsBinary : List ℕ → Type 0
IsBinary bytes = IsTwoBytes (length bytes)

-- A length of two bytes, and the bytes.
abbrev pub binary_spelling : List ℕ → List ℕ
binary_spelling bytes = two_bytes_spelling (length bytes) ++ bytes

-- The character U+0000, which UTF-8 spells as the byte 0, is among them.
abbrev pub has_nul : List ℕ → Bool
has_nul bytes = list_any (λ b. b == 0) bytes

-- The values of a UTF-8 Encoded String (1.5.4): as many bytes as a Two Byte Integer can count, in well-formed UTF-8 (thus without
-- surrogates), and without U+0000.
pub record IsText (bytes : List ℕ) : Type 0 where
  pub bound : IsTwoBytes (length bytes)
  pub utf8 : IsUtf8 bytes
  pub no_nul : has_nul bytes ≡ false

-- A length of two bytes, and the text's UTF-8.
abbrev pub text_spelling : List ℕ → List ℕ
text_spelling text = binary_spelling text

-- The values of a UTF-8 String Pair (1.5.7): a name and a value.
abbrev pub IsPair : List ℕ × List ℕ → Type 0
IsPair pair = IsText pair.0 × IsText pair.1

-- The name, and then the value.
abbrev pub pair_spelling : List ℕ × List ℕ → List ℕ
pair_spelling pair = text_spelling pair.0 ++ text_spelling pair.1

-- The first n of the bytes are the spelling of a value.
pub record BeginsWith {X : Type 0} (IsValue : X → Type 0) (spelling : X → List ℕ) (bytes : List ℕ) (x : X) (n : ℕ) : Type 0 where
  pub value : IsValue x
  pub taken : n ≡ length (spelling x)
  pub spelled : bytes ≡ spelling x ++ drop n bytes

-- A reading accepts exactly the spellings of a kind of field, and takes exactly them.
pub record IsExact {X : Type 0} (read : List ℕ → Result (X × ℕ) Reason) (IsValue : X → Type 0) (spelling : X → List ℕ) : Type 0 where
  -- what is read is what the bytes spell
  pub only : (bytes : List ℕ) (x : X) (n : ℕ) → AreBytes bytes → read bytes ≡ Ok (x, n) → BeginsWith IsValue spelling bytes x n
  -- a spelling is read, whatever follows it
  pub all : (x : X) (rest : List ℕ) → IsValue x → read (spelling x ++ rest) ≡ Ok (x, length (spelling x))

-- What was appended to the old bytes is read back as this value, whatever follows it.
pub record ReadsBack {X : Type 0} (read : List ℕ → Result (X × ℕ) Reason) (x : X) (old new : List ℕ) : Type 0 where
  pub reads : (more : List ℕ) → read (drop (length old) new ++ more) ≡ Ok (x, length new - length old)
