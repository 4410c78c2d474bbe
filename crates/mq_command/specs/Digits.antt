-- The bytes that the digits of `packet` spell, and what is odd in a text that spells none.
use Rattle.std.specs.Prelude.{ℕ, ◌+◌, ◌/◌, ◌%◌, Bool, true, false, List, [], ◌∷◌, ◌++◌, ◌==◌, ◌&&◌, ◌||◌, nat_lt, codes, decimal, if◌then◌else◌, Option, Some, None, IfSome, Result}
use Rattle.std.specs.Fmt.{digit_glyph}
use Rattle.std.specs.Str.{bytes_eq}
use Rattle.hex.specs.Hex.{decode_of, is_hex_digit}
use Rattle.hex.specs.declared.error.FromHexError.{FromHexError}
use Rattle.mq_command.specs.declared.oddity.Oddity.{Oddity}
use Rattle.mq_command.specs.declared.oddity.Oddity.TheVariants.{NoDigit, Missing}

-- what may stand before, between and after bytes: a tab (9), a line end (10, 13), a space (32), a comma (44) or a colon (58)
abbrev pub is_between : ℕ → Bool
is_between code = code == 9 || (code == 10 || (code == 13 || (code == 32 || (code == 44 || code == 58))))

-- and `0x` or `0X`: a 0 (48), and then x (120) or X (88)
abbrev pub is_prefix : (first second : ℕ) → Bool
is_prefix first second = first == 48 && (second == 120 || second == 88)

-- the digits without what stands before, between and after bytes; a byte is two digits, and nothing may stand between them
abbrev pub packed : (text : List ℕ) → List ℕ
packed [] = []
packed (first ∷ []) = if is_between first then [] else first ∷ []
packed (first ∷ second ∷ rest) = if is_between first then packed (second ∷ rest)
    else (if is_prefix first second then packed rest else first ∷ second ∷ packed rest)

-- the bytes that the digits of a text spell, or why they spell none
abbrev pub bytes_of : (text : List ℕ) → Result (List ℕ) FromHexError
bytes_of text = decode_of (packed text)

-- what is odd in the two characters of a byte, the first of which has this place
abbrev pub oddity_of : (place first second : ℕ) → Option Oddity
oddity_of place first second = if is_hex_digit first then (if is_hex_digit second then None else Some (NoDigit (place + 1) second)) else Some (NoDigit place first)

-- what is odd in the last character, which stands alone
abbrev pub oddity_of_last : (place first : ℕ) → Oddity
oddity_of_last place first = if is_hex_digit first then Missing place first else NoDigit place first

-- an oddity if there is one, else another one
abbrev pub or_oddity : (first later : Option Oddity) → Option Oddity
or_oddity None later = later
or_oddity (Some found) later = Some found

-- what is odd first in a text whose first character has this place: a character where a digit belongs that is none, or an end where the second digit of a byte
-- belongs. All characters before it are of ASCII, so that places in bytes are places in characters.
abbrev pub oddity_from : (place : ℕ) → (text : List ℕ) → Option Oddity
oddity_from place [] = None
oddity_from place (first ∷ []) = if is_between first then None else Some (oddity_of_last place first)
oddity_from place (first ∷ second ∷ rest) = if is_between first then oddity_from (place + 1) (second ∷ rest)
    else (if is_prefix first second then oddity_from (place + 2) rest else or_oddity (oddity_of place first second) (oddity_from (place + 2) rest))

-- places are counted from 1
abbrev pub oddity_in : (text : List ℕ) → Option Oddity
oddity_in text = oddity_from 1 text

-- a character that is printed as it is: one of ASCII that isn't a control character
abbrev pub is_printed : ℕ → Bool
is_printed code = nat_lt 31 code && nat_lt code 127

-- a character in backquotes (96), or the first byte of another one in two hexadecimal digits
abbrev pub character_text : ℕ → List ℕ
character_text code = if is_printed code then 96 ∷ code ∷ 96 ∷ [] else codes "byte 0x" ++ digit_glyph true (code / 16) ∷ digit_glyph true (code % 16) ∷ []

-- the message for what is odd
abbrev pub oddity_line : Oddity → List ℕ
oddity_line (NoDigit place code) = codes "mqjudge: character " ++ (decimal place ++ (codes ", " ++ (character_text code ++ (codes ", is no hexadecimal digit" ++ 10 ∷ []))))
oddity_line (Missing place code) = codes "mqjudge: a digit is missing after character " ++ (decimal place ++ (codes ", " ++ (character_text code ++ 10 ∷ [])))

-- how many bytes of text are taken from standard input
abbrev pub most_text : ℕ
most_text = 134217728

-- the first if the test holds, else the second
abbrev pub by_test : (test : Bool) → (on_true on_false : Type 0) → Type 0
by_test true on_true on_false = on_true
by_test false on_true on_false = on_false

-- an operand stands for standard input
abbrev pub is_dash : (operand : List ℕ) → Bool
is_dash operand = bytes_eq operand (codes "-")

-- one thing of standard input if the operand stands for that, else another one of the operand
abbrev pub by_operand : (operand : List ℕ) → (of_input of_operand : Type 0) → Type 0
by_operand operand of_input of_operand = by_test (is_dash operand) of_input of_operand

-- this holds of the text that spells a packet: of what is on standard input, if that is known, where the operand stands for that, else of the operand
abbrev pub OfDigits : (operand : List ℕ) → (input : Option (List ℕ)) → (P : List ℕ → Type 0) → Type 0
OfDigits operand input P = by_operand operand (IfSome input P) (P operand)

-- the words of a command line as one text, with a space between two
abbrev pub spaced : (words : List (List ℕ)) → List ℕ
spaced [] = []
spaced (word ∷ []) = word
spaced (word ∷ next ∷ words) = word ++ 32 ∷ spaced (next ∷ words)
