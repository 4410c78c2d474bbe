-- What the Connect Flags of a CONNECT say of it.
use Rattle.std.proofs.Common.{◌≡◌, ℕ, ◌+◌, ◌<◌, Bool, true, false, ◌&&◌, not, Option, Some, None, refl, ◌∙◌}
use Rattle.std.specs.Prelude.{nat_lt, is_some, IfSome, bit_and}
use Rattle.std.proofs.lemmas.Bool.{and_parts, ltb-true}
use Rattle.mq_packet.specs.declared.packet.Qos.{Qos}
use Rattle.mq_packet.specs.declared.packet.Qos.TheVariants.{AtMostOnce, AtLeastOnce, ExactlyOnce}
use Rattle.mq_packet.specs.Entries.{WillFields}
use Rattle.mq_packet.specs.Formats.{are_connect_flags, has_bits, qos_of}
use Rattle.mq_packet.specs.Canonical.{bit, qos_bits, will_flags}

-- The flags of a CONNECT with such a Clean Start, Will, Password and User Name.
abbrev flags_with : Bool → ℕ → Bool → Bool → ℕ
flags_with clean_start will password user_name = bit 2 clean_start + will + bit 64 password + bit 128 user_name

-- What they are to say.
pub record FlagsSay (flags : ℕ) (clean_start : Bool) (will : Option WillFields) (password user_name : Bool) : Type 0 where
  pub small : flags < 256
  pub good : are_connect_flags flags ≡ true
  pub clean_start_is : has_bits 2 flags ≡ clean_start
  pub will_is : has_bits 4 flags ≡ is_some will
  pub will_says : IfSome will (λ w. (qos_of 8 (bit_and flags 24) ≡ w.qos) × (has_bits 32 flags ≡ w.retain))
  pub password_is : has_bits 64 flags ≡ password
  pub user_name_is : has_bits 128 flags ≡ user_name

abbrev same : Bool → Bool → Bool
same true b = b
same false b = not b

same_is : (a b : Bool) → same a b ≡ true → a ≡ b
same_is true true e = refl
same_is true false e = absurd (cc)
same_is false true e = absurd (cc)
same_is false false e = refl

abbrev same_qos : Qos → Qos → Bool
same_qos AtMostOnce AtMostOnce = true
same_qos AtMostOnce AtLeastOnce = false
same_qos AtMostOnce ExactlyOnce = false
same_qos AtLeastOnce AtMostOnce = false
same_qos AtLeastOnce AtLeastOnce = true
same_qos AtLeastOnce ExactlyOnce = false
same_qos ExactlyOnce AtMostOnce = false
same_qos ExactlyOnce AtLeastOnce = false
same_qos ExactlyOnce ExactlyOnce = true

same_qos_is : (a b : Qos) → same_qos a b ≡ true → a ≡ b
same_qos_is AtMostOnce AtMostOnce e = refl
same_qos_is AtMostOnce AtLeastOnce e = absurd (cc)
same_qos_is AtMostOnce ExactlyOnce e = absurd (cc)
same_qos_is AtLeastOnce AtMostOnce e = absurd (cc)
same_qos_is AtLeastOnce AtLeastOnce e = refl
same_qos_is AtLeastOnce ExactlyOnce e = absurd (cc)
same_qos_is ExactlyOnce AtMostOnce e = absurd (cc)
same_qos_is ExactlyOnce AtLeastOnce e = absurd (cc)
same_qos_is ExactlyOnce ExactlyOnce e = refl

-- A test of each value of a type that has few.
abbrev each_bool : (Bool → Bool) → Bool
each_bool test = test true && test false

abbrev each_qos : (Qos → Bool) → Bool
each_qos test = test AtMostOnce && (test AtLeastOnce && test ExactlyOnce)

of_bool : (test : Bool → Bool) → each_bool test ≡ true → (b : Bool) → test b ≡ true
of_bool test e true = (and_parts (test true) (test false) e).0
of_bool test e false = (and_parts (test true) (test false) e).1

of_qos : (test : Qos → Bool) → each_qos test ≡ true → (q : Qos) → test q ≡ true
of_qos test e AtMostOnce = (and_parts (test AtMostOnce) (test AtLeastOnce && test ExactlyOnce) e).0
of_qos test e AtLeastOnce = (and_parts (test AtLeastOnce) (test ExactlyOnce) (and_parts (test AtMostOnce) (test AtLeastOnce && test ExactlyOnce) e).1).0
of_qos test e ExactlyOnce = (and_parts (test AtLeastOnce) (test ExactlyOnce) (and_parts (test AtMostOnce) (test AtLeastOnce && test ExactlyOnce) e).1).1

-- What the flags say but for the Will, and what they say of one.
abbrev tests : ℕ → Bool → Bool → Bool → Bool → Bool
tests flags clean_start will password user_name =
    nat_lt flags 256 && (are_connect_flags flags && (same (has_bits 2 flags) clean_start && (same (has_bits 4 flags) will
    && (same (has_bits 64 flags) password && same (has_bits 128 flags) user_name))))

abbrev will_tests : ℕ → Qos → Bool → Bool
will_tests flags qos retain = same_qos (qos_of 8 (bit_and flags 24)) qos && same (has_bits 32 flags) retain

abbrev willed : Qos → Bool → ℕ
willed qos retain = 4 + qos_bits 8 qos + bit 32 retain

abbrev without_tests : Bool → Bool → Bool → Bool
without_tests clean_start password user_name = tests (flags_with clean_start 0 password user_name) clean_start false password user_name

abbrev with_tests : Bool → Bool → Bool → Qos → Bool → Bool
with_tests clean_start password user_name qos retain =
    tests (flags_with clean_start (willed qos retain) password user_name) clean_start true password user_name
    && will_tests (flags_with clean_start (willed qos retain) password user_name) qos retain

all_without : each_bool (λ c. each_bool (λ p. each_bool (λ u. without_tests c p u))) ≡ true
all_without = refl

all_with : each_bool (λ c. each_bool (λ p. each_bool (λ u. each_qos (λ q. each_bool (λ r. with_tests c p u q r))))) ≡ true
all_with = refl

without : (c p u : Bool) → without_tests c p u ≡ true
without c p u =
    of_bool (λ u. without_tests c p u) (of_bool (λ p. each_bool (λ u. without_tests c p u)) (of_bool (λ c. each_bool (λ p. each_bool (λ u. without_tests c p u))) all_without c) p) u

with_one : (c p u : Bool) (q : Qos) (r : Bool) → with_tests c p u q r ≡ true
with_one c p u q r =
    of_bool (λ r. with_tests c p u q r)
    (of_qos (λ q. each_bool (λ r. with_tests c p u q r))
    (of_bool (λ u. each_qos (λ q. each_bool (λ r. with_tests c p u q r)))
    (of_bool (λ p. each_bool (λ u. each_qos (λ q. each_bool (λ r. with_tests c p u q r))))
    (of_bool (λ c. each_bool (λ p. each_bool (λ u. each_qos (λ q. each_bool (λ r. with_tests c p u q r))))) all_with c) p) u) q) r

said : (flags : ℕ) (c w p u : Bool) (will : Option WillFields) → w ≡ is_some will → IfSome will (λ w. (qos_of 8 (bit_and flags 24) ≡ w.qos) × (has_bits 32 flags ≡ w.retain)) → tests flags c w p u ≡ true → FlagsSay flags c will p u
said flags c w p u will there says e =
    (let one : (nat_lt flags 256 ≡ true) × ((are_connect_flags flags && (same (has_bits 2 flags) c && (same (has_bits 4 flags) w && (same (has_bits 64 flags) p && same (has_bits 128 flags) u)))) ≡ true) = and_parts _ _ e in
    let two : (are_connect_flags flags ≡ true) × ((same (has_bits 2 flags) c && (same (has_bits 4 flags) w && (same (has_bits 64 flags) p && same (has_bits 128 flags) u))) ≡ true) = and_parts _ _ one.1 in
    let three : (same (has_bits 2 flags) c ≡ true) × ((same (has_bits 4 flags) w && (same (has_bits 64 flags) p && same (has_bits 128 flags) u)) ≡ true) = and_parts _ _ two.1 in
    let four : (same (has_bits 4 flags) w ≡ true) × ((same (has_bits 64 flags) p && same (has_bits 128 flags) u) ≡ true) = and_parts _ _ three.1 in
    let five : (same (has_bits 64 flags) p ≡ true) × (same (has_bits 128 flags) u ≡ true) = and_parts _ _ four.1 in
    record {
      small = ltb-true flags 256 one.0;
      good = two.0;
      clean_start_is = same_is (has_bits 2 flags) c three.0;
      will_is = same_is (has_bits 4 flags) w four.0 ∙ there;
      will_says = says;
      password_is = same_is (has_bits 64 flags) p five.0;
      user_name_is = same_is (has_bits 128 flags) u five.1;
    })

pub flags_say : (c : Bool) (will : Option WillFields) (p u : Bool) → FlagsSay (flags_with c (will_flags will) p u) c will p u
flags_say c None p u = said (flags_with c 0 p u) c false p u None refl tt (without c p u)
flags_say c (Some w) p u =
    (let both : (tests (flags_with c (willed w.qos w.retain) p u) c true p u ≡ true) × (will_tests (flags_with c (willed w.qos w.retain) p u) w.qos w.retain ≡ true) = and_parts _ _ (with_one c p u w.qos w.retain) in
    let of_will : (same_qos (qos_of 8 (bit_and (flags_with c (willed w.qos w.retain) p u) 24)) w.qos ≡ true) × (same (has_bits 32 (flags_with c (willed w.qos w.retain) p u)) w.retain ≡ true) = and_parts _ _ both.1 in
    said (flags_with c (willed w.qos w.retain) p u) c true p u (Some w) refl
    (same_qos_is (qos_of 8 (bit_and (flags_with c (willed w.qos w.retain) p u) 24)) w.qos of_will.0, same_is (has_bits 32 (flags_with c (willed w.qos w.retain) p u)) w.retain of_will.1)
    both.0)
