-- What the bytes at the front of a stream are (MQTT 5.0, 2.1.4 and 1.5.5): a packet, the beginning of one, or neither.
use Rattle.std.specs.Prelude.{◌≡◌, ℕ, ◌<◌, List, ◌∷◌, ◌++◌, length}
use Rattle.mq_wire.specs.Spellings.{IsVarint, varint_spelling}
use Rattle.mq_packet.specs.declared.frame.Cut.{Cut}
use Rattle.mq_packet.specs.declared.frame.Cut.TheVariants.{Need, Frame, Lost}
use Rattle.mq_packet.specs.Frames.{BeginsWithFrame}

-- The bytes, maybe none, are the beginning of a packet that isn't whole: with more bytes after them they would be a first
-- byte, the shortest spelling of a body's length, and the body (2.1.1, 2.1.4).
pub record IsBeginning (bytes : List ℕ) : Type 0 where
  pub first : ℕ
  pub body : List ℕ
  pub missing : List ℕ
  pub small : IsVarint (length body)
  pub some_missing : 0 < length missing
  pub whole : first ∷ (varint_spelling (length body) ++ body) ≡ bytes ++ missing

-- The bytes begin with a spelling of a Variable Byte Integer (1.5.5).
pub record BeginsWithNumber (bytes : List ℕ) : Type 0 where
  pub number : ℕ
  pub following : List ℕ
  pub small : IsVarint number
  pub is : bytes ≡ varint_spelling number ++ following

-- The bytes are a prefix of such a spelling.
pub record IsPrefixOfNumber (bytes : List ℕ) : Type 0 where
  pub number : ℕ
  pub missing : List ℕ
  pub small : IsVarint number
  pub whole : varint_spelling number ≡ bytes ++ missing

-- There is a first byte, and what follows it neither begins with a spelling of a Variable Byte Integer nor is a prefix of one.
pub record IsLost (bytes : List ℕ) : Type 0 where
  pub first : ℕ
  pub following : List ℕ
  pub is : bytes ≡ first ∷ following
  pub no_number : ¬ BeginsWithNumber following
  pub no_prefix : ¬ IsPrefixOfNumber following

-- What each cut says of the bytes.
abbrev pub IsCutOf : List ℕ → Cut → Type 0
IsCutOf bytes Need = IsBeginning bytes
IsCutOf bytes (Frame first start end) = BeginsWithFrame bytes first start end
IsCutOf bytes Lost = IsLost bytes
