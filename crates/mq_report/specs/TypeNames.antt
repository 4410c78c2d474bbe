-- The names of the types of Control Packets.
use Rattle.std.specs.Prelude.{ℕ, ◌==◌, List, [], ◌∷◌, codes, if◌then◌else◌}

-- the name in the row of a number
abbrev pub name_beside : ℕ → List (ℕ × List ℕ) → List ℕ
name_beside number [] = []
name_beside number (row ∷ rows) = if row.0 == number then row.1 else name_beside number rows

-- the names of the types by their numbers (MQTT 5.0, section 2.1.2)
abbrev pub type_names : List (ℕ × List ℕ)
type_names =
    (0, codes "Reserved")
    ∷ (1, codes "CONNECT")
    ∷ (2, codes "CONNACK")
    ∷ (3, codes "PUBLISH")
    ∷ (4, codes "PUBACK")
    ∷ (5, codes "PUBREC")
    ∷ (6, codes "PUBREL")
    ∷ (7, codes "PUBCOMP")
    ∷ (8, codes "SUBSCRIBE")
    ∷ (9, codes "SUBACK")
    ∷ (10, codes "UNSUBSCRIBE")
    ∷ (11, codes "UNSUBACK")
    ∷ (12, codes "PINGREQ")
    ∷ (13, codes "PINGRESP")
    ∷ (14, codes "DISCONNECT")
    ∷ (15, codes "AUTH")
    ∷ []
