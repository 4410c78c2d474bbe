-- Which bytes don't begin with a value of a type of field, and which rule of the type they break (MQTT 5.0, 1.5). It is
-- independent of any way of reading.
use Rattle.std.specs.Prelude.{◌≡◌, ℕ, ◌<◌, ◌≤◌, ◌↔◌, ◌⊎◌, true, List, ◌∷◌, ◌++◌, length, drop, Result, Err}
use Rattle.std.specs.List.{AllByRecursion}
use Rattle.std.specs.Str.{IsUtf8}
use Rattle.mq_wire.specs.declared.fault.Reason.{Reason}
use Rattle.mq_wire.specs.declared.fault.Reason.TheVariants.{Short, Overlong, NotUtf8, Nul}
use Rattle.mq_wire.specs.FieldTypes.{FieldType, one_byte, two_byte_integer, four_byte_integer, variable_byte_integer, utf8_string, string_pair, binary_data}
use Rattle.mq_wire.specs.Spellings.{AreBytes, IsByte, byte_spelling, IsTwoBytes, two_bytes_spelling, IsFourBytes, four_bytes_spelling, IsVarint, varint_spelling, IsBinary, binary_spelling, IsText, text_spelling, has_nul, BeginsWith}

-- The bytes end before a field of the type does: with more bytes after them they would be a spelling.
pub record IsCutShort {X : Type 0} (IsValue : X → Type 0) (spelling : X → List ℕ) (bytes : List ℕ) : Type 0 where
  pub value : X
  pub is_value : IsValue value
  pub missing : List ℕ
  pub some_missing : 0 < length missing
  pub whole : spelling value ≡ bytes ++ missing

-- The bytes don't begin with a value of the type.
abbrev pub BeginsWithNone : {X : Type 0} → (X → Type 0) → (X → List ℕ) → List ℕ → Type 0
BeginsWithNone {X} IsValue spelling bytes = (x : X) (n : ℕ) → ¬ BeginsWith IsValue spelling bytes x n

-- Each of the bytes has bit 7 set, which says that another byte follows (1.5.5).
abbrev pub AllContinue : List ℕ → Type 0
AllContinue bytes = AllByRecursion (λ b. 128 ≤ b) bytes

-- The bytes begin with a number whose last byte, the second to the fourth, is 0: the number has a shorter form (1.5.5).
pub record HasShorterForm (bytes : List ℕ) : Type 0 where
  pub front : List ℕ
  pub rest : List ℕ
  pub some : 0 < length front
  pub most : length front ≤ 3
  pub continues : AllContinue front
  pub is : bytes ≡ front ++ 0 ∷ rest

-- The bytes begin with four that each say that another follows (1.5.5).
pub record RunsPastFour (bytes : List ℕ) : Type 0 where
  pub front : List ℕ
  pub rest : List ℕ
  pub four : length front ≡ 4
  pub continues : AllContinue front
  pub is : bytes ≡ front ++ rest

-- Why the bytes don't begin with a Variable Byte Integer (1.5.5): they end before it does; or it isn't in the shortest form, or
-- is longer than four bytes.
abbrev pub MisspelledNumber : List ℕ → Reason → Type 0
MisspelledNumber bytes Short = IsCutShort IsVarint varint_spelling bytes
MisspelledNumber bytes Overlong = HasShorterForm bytes ⊎ RunsPastFour bytes
MisspelledNumber bytes NotUtf8 = ⊥
MisspelledNumber bytes Nul = ⊥

-- A length, and that many bytes, which aren't UTF-8.
abbrev pub IsNotUtf8 : List ℕ → Type 0
IsNotUtf8 bytes = (value : List ℕ) × (taken : ℕ) × BeginsWith IsBinary binary_spelling bytes value taken × (¬ IsUtf8 value)

-- A length, and that many bytes, which are UTF-8 and contain U+0000.
abbrev pub HasNul : List ℕ → Type 0
HasNul bytes = (value : List ℕ) × (taken : ℕ) × BeginsWith IsBinary binary_spelling bytes value taken × IsUtf8 value × (has_nul value ≡ true)

-- Why the bytes don't begin with a UTF-8 Encoded String (1.5.4): they end before it does; or it isn't UTF-8; or it has U+0000.
abbrev pub MisspelledString : List ℕ → Reason → Type 0
MisspelledString bytes Short = IsCutShort IsBinary binary_spelling bytes
MisspelledString bytes NotUtf8 = IsNotUtf8 bytes
MisspelledString bytes Nul = HasNul bytes
MisspelledString bytes Overlong = ⊥

-- Why the bytes don't begin with a UTF-8 String Pair (1.5.7): the name is misspelled; or only the value is.
abbrev pub MisspelledPair : List ℕ → Reason → Type 0
MisspelledPair bytes reason =
    MisspelledString bytes reason
    ⊎ ((name : List ℕ) × (taken : ℕ) × BeginsWith IsText text_spelling bytes name taken × MisspelledString (drop taken bytes) reason)

-- The bytes don't begin with a value of the type, for this reason. A byte, a Two or a Four Byte Integer (1.5.2, 1.5.3) and Binary
-- Data (1.5.6) are misspelled only if the bytes end before they do.
abbrev pub Misspelled : FieldType → List ℕ → Reason → Type 0
Misspelled one_byte bytes reason = IsCutShort IsByte byte_spelling bytes × (reason ≡ Short)
Misspelled two_byte_integer bytes reason = IsCutShort IsTwoBytes two_bytes_spelling bytes × (reason ≡ Short)
Misspelled four_byte_integer bytes reason = IsCutShort IsFourBytes four_bytes_spelling bytes × (reason ≡ Short)
Misspelled variable_byte_integer bytes reason = MisspelledNumber bytes reason
Misspelled utf8_string bytes reason = MisspelledString bytes reason
Misspelled string_pair bytes reason = MisspelledPair bytes reason
Misspelled binary_data bytes reason = IsCutShort IsBinary binary_spelling bytes × (reason ≡ Short)

-- A reading refuses exactly the bytes that don't begin with a value of the type, each for its reason.
pub record RefusesMisspelled {X : Type 0} (read : List ℕ → Result (X × ℕ) Reason) (type : FieldType) : Type 0 where
  pub exactly : (bytes : List ℕ) (reason : Reason) → AreBytes bytes → (read bytes ≡ Err reason) ↔ Misspelled type bytes reason
