-- The identifiers of the properties of each type.
use Rattle.std.proofs.Common.{◌≡◌, ℕ, true}
use Rattle.std.proofs.lemmas.Bool.{ne_eqb}
use Rattle.mq_props.specs.declared.table.ValueType.TheVariants as types
use Rattle.mq_props.specs.Table.{has_kind, rows}

pub no_byte : (id : ℕ) → (1 ≡ id → ⊥) → (23 ≡ id → ⊥) → (25 ≡ id → ⊥) → (36 ≡ id → ⊥) → (37 ≡ id → ⊥) → (40 ≡ id → ⊥) → (41 ≡ id → ⊥) → (42 ≡ id → ⊥) → has_kind types.Byte id ≡ true → ⊥
unfolding has_kind rows
no_byte id n1 n23 n25 n36 n37 n40 n41 n42 h =
    let none = rw (ne_eqb 1 id n1, ne_eqb 23 id n23, ne_eqb 25 id n25, ne_eqb 36 id n36, ne_eqb 37 id n37, ne_eqb 40 id n40, ne_eqb 41 id n41, ne_eqb 42 id n42) at h in
    cc

pub no_two_bytes : (id : ℕ) → (19 ≡ id → ⊥) → (33 ≡ id → ⊥) → (34 ≡ id → ⊥) → (35 ≡ id → ⊥) → has_kind types.TwoBytes id ≡ true → ⊥
unfolding has_kind rows
no_two_bytes id n19 n33 n34 n35 h =
    let none = rw (ne_eqb 19 id n19, ne_eqb 33 id n33, ne_eqb 34 id n34, ne_eqb 35 id n35) at h in
    cc

pub no_four_bytes : (id : ℕ) → (2 ≡ id → ⊥) → (17 ≡ id → ⊥) → (24 ≡ id → ⊥) → (39 ≡ id → ⊥) → has_kind types.FourBytes id ≡ true → ⊥
unfolding has_kind rows
no_four_bytes id n2 n17 n24 n39 h =
    let none = rw (ne_eqb 2 id n2, ne_eqb 17 id n17, ne_eqb 24 id n24, ne_eqb 39 id n39) at h in
    cc

pub no_text : (id : ℕ) → (3 ≡ id → ⊥) → (8 ≡ id → ⊥) → (18 ≡ id → ⊥) → (21 ≡ id → ⊥) → (26 ≡ id → ⊥) → (28 ≡ id → ⊥) → (31 ≡ id → ⊥) → has_kind types.Text id ≡ true → ⊥
unfolding has_kind rows
no_text id n3 n8 n18 n21 n26 n28 n31 h =
    let none = rw (ne_eqb 3 id n3, ne_eqb 8 id n8, ne_eqb 18 id n18, ne_eqb 21 id n21, ne_eqb 26 id n26, ne_eqb 28 id n28, ne_eqb 31 id n31) at h in
    cc

pub no_binary : (id : ℕ) → (9 ≡ id → ⊥) → (22 ≡ id → ⊥) → has_kind types.Binary id ≡ true → ⊥
unfolding has_kind rows
no_binary id n9 n22 h =
    let none = rw (ne_eqb 9 id n9, ne_eqb 22 id n22) at h in
    cc

pub no_varint : (id : ℕ) → (11 ≡ id → ⊥) → has_kind types.Varint id ≡ true → ⊥
unfolding has_kind rows
no_varint id n11 h =
    let none = rw (ne_eqb 11 id n11) at h in
    cc

pub no_pair : (id : ℕ) → (38 ≡ id → ⊥) → has_kind types.Pair id ≡ true → ⊥
unfolding has_kind rows
no_pair id n38 h =
    let none = rw (ne_eqb 38 id n38) at h in
    cc
