-- The first byte by its type and its flags, and what holds of the format of every first byte.
use Rattle.std.proofs.Common.{◌≡◌, ℕ, ◌/◌, ◌<◌, ◌≤◌, true, false, List, [], ◌∷◌, Some, None, refl, sym, ◌∙◌, ap, arith}
use Rattle.std.specs.Prelude.{◌==◌, cond, if◌then◌else◌, unwrap_or}
use Rattle.std.specs.List.{find}
use Rattle.std.proofs.lemmas.Bool.{eqb-true}
use Rattle.mq_packet.specs.declared.packet.PacketType.{PacketType}
use Rattle.mq_packet.specs.declared.rule.PacketRule.TheVariants as rules
use Rattle.mq_packet.specs.FirstBytes.{type_number, packet_types, reserved_flags, type_in, flags_in, are_flags, first_byte_with}
use Rattle.mq_packet.specs.Formats.{Format, bad_first_byte, publish_format, format_by_type, format_by, format_of}

-- The type that is found has the number.
found_numbered : (number : ℕ) (all : List PacketType) (type : PacketType) → find (λ t. type_number t == number) all ≡ Some type → type_number type ≡ number
found_numbered number [] type e = absurd (cc)
found_numbered number (t ∷ all) type e =
    elim (type_number t == number) as (λ b. (type_number t == number) ≡ b → cond b (Some t) (find (λ u. type_number u == number) all) ≡ Some type → type_number type ≡ number) [
      | true ↦ λ is h. (let same : t ≡ type = cc in ap type_number (sym same) ∙ eqb-true (type_number t) number is)
      | false ↦ λ is h. found_numbered number all type h
    ] refl e

-- A first byte is made of its type and its flags.
first_made : (first : ℕ) (type : PacketType) → type_in first ≡ Some type → first ≡ first_byte_with type (flags_in first)
first_made first type e = (let number : type_number type ≡ first / 16 = found_numbered (first / 16) packet_types type e in omega (arith, number))

-- The first byte of a type with reserved flags.
abbrev pub reserved_byte : PacketType → ℕ
reserved_byte type = first_byte_with type (unwrap_or (reserved_flags type) 0)

-- Such a type has no other.
pub reserved_first : (first reserved : ℕ) (type : PacketType) → first ≡ first_byte_with type (flags_in first) → (flags_in first == reserved) ≡ true → first ≡ first_byte_with type reserved
reserved_first first reserved type is e = is ∙ ap (first_byte_with type) (eqb-true (flags_in first) reserved e)

module _ (P : Format → Type 0) (first : ℕ) (wrong : P (bad_first_byte rules.W01)) (none : P (bad_first_byte rules.W02))
    (each : (type : PacketType) → first ≡ first_byte_with type (flags_in first) → are_flags (reserved_flags type) (flags_in first) ≡ true → P (format_by_type type (flags_in first))) where
  of_type : (type : PacketType) → first ≡ first_byte_with type (flags_in first) → P (format_by (Some type) (flags_in first))
  of_type type is =
      elim (are_flags (reserved_flags type) (flags_in first)) as (λ b. are_flags (reserved_flags type) (flags_in first) ≡ b → P (if b then format_by_type type (flags_in first) else bad_first_byte rules.W01)) [
        | true ↦ λ e. each type is e
        | false ↦ λ e. wrong
      ] refl

  -- What holds of both refusals, and of the format of each type with flags that it may have, holds of the format of this byte.
  pub each_first : P (format_of first)
  each_first =
      elim (type_in first) as (λ t. type_in first ≡ t → P (format_by t (flags_in first))) [
        | None ↦ λ e. none
        | Some type ↦ λ e. of_type type (first_made first type e)
      ] refl

-- From 48 to 63 a first byte is that of a PUBLISH.
pub publish_format_of : (first : ℕ) → 48 ≤ first → first < 64 → format_of first ≡ publish_format (flags_in first)
publish_format_of first from to =
    (let third : first / 16 ≡ 3 = omega (arith, from, to) in
    ap (λ (n : ℕ). format_by (find (λ type. type_number type == n) packet_types) (flags_in first)) third)
