-- A CONNECT of another version of the protocol (MQTT 5.0, 3.1.2.1 and 3.1.2.2).
use Rattle.std.specs.Prelude.{◌≡◌, ◌≢◌, ℕ, List, ◌∷◌, ◌++◌, codes}
use Rattle.mq_wire.specs.Spellings.{IsByte, text_spelling}

-- The first byte is that of a CONNECT, and the body begins with the text `MQTT`, with its length before it, and then a version
-- that isn't 5. Anything may follow the version.
pub record IsConnectOfVersion (first : ℕ) (body : List ℕ) (version : ℕ) : Type 0 where
  pub following : List ℕ
  pub first_is : first ≡ 16
  pub body_is : body ≡ text_spelling (codes "MQTT") ++ (version ∷ following)
  pub is_byte : IsByte version
  pub other : version ≢ 5
