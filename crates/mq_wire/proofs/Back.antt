-- What is written is read back.
use Rattle.std.proofs.Common.{◌≡◌, ℕ, ◌-◌, ◌^◌, ◌<◌, ◌≤◌, false, List, ◌++◌, length, Result, Ok, refl, sym, ap, subst, ◌∙◌, arith}
use Rattle.std.specs.Str.{IsUtf8}
use Rattle.std.proofs.lemmas.List.{drop_at, length-append}
use Rattle.mq_wire.specs.declared.fault.Reason.{Reason}
use Rattle.mq_wire.specs.Fields.{byte_at, two_bytes_at, four_bytes_at, varint_at, binary_at, text_at, pair_at}
use Rattle.mq_wire.specs.Spellings.{byte_spelling, two_bytes_spelling, four_bytes_spelling, varint_spelling, binary_spelling, text_spelling, pair_spelling, has_nul, IsExact, ReadsBack}
use Rattle.mq_wire.proofs.Exact.{byte_exact, two_bytes_exact, four_bytes_exact, binary_exact, text_exact, pair_exact}
use Rattle.mq_wire.proofs.Varint.{varint_exact}

-- an appended spelling is read back
pub reads_back : {X : Type 0} {read : List ℕ → Result (X × ℕ) Reason} {IsValue : X → Type 0} {spelling : X → List ℕ} → IsExact read IsValue spelling → (x : X) (old new : List ℕ) → IsValue x → new ≡ old ++ spelling x → ReadsBack read x old new
reads_back {X} {read} {IsValue} {spelling} exact x old new value is =
    let size : length (spelling x) ≡ length (old ++ spelling x) - length old = omega (arith, length-append old (spelling x)) in
    let here : ReadsBack read x old (old ++ spelling x) = record { reads = λ more. rw (drop_at old (spelling x) (length old) refl) (exact.all x more value ∙ ap (λ (n : ℕ). Ok (x, n)) size) } in
    subst (λ (bytes : List ℕ). ReadsBack read x old bytes) (sym is) here

pub byte_back : (x : ℕ) (old new : List ℕ) → x < 2 ^ 8 → new ≡ old ++ byte_spelling x → ReadsBack byte_at x old new
byte_back x old new value is = reads_back byte_exact x old new value is

pub two_bytes_back : (x : ℕ) (old new : List ℕ) → x < 2 ^ 16 → new ≡ old ++ two_bytes_spelling x → ReadsBack two_bytes_at x old new
two_bytes_back x old new value is = reads_back two_bytes_exact x old new (omega arith) is

pub four_bytes_back : (x : ℕ) (old new : List ℕ) → x < 2 ^ 32 → new ≡ old ++ four_bytes_spelling x → ReadsBack four_bytes_at x old new
four_bytes_back x old new value is = reads_back four_bytes_exact x old new (omega arith) is

pub varint_back : (x : ℕ) (old new : List ℕ) → x ≤ 268435455 → new ≡ old ++ varint_spelling x → ReadsBack varint_at x old new
varint_back x old new value is = reads_back varint_exact x old new value is

pub binary_back : (x old new : List ℕ) → length x ≤ 65535 → new ≡ old ++ binary_spelling x → ReadsBack binary_at x old new
binary_back x old new value is = reads_back binary_exact x old new value is

pub text_back : (x old new : List ℕ) → length x ≤ 65535 → IsUtf8 x → has_nul x ≡ false → new ≡ old ++ text_spelling x → ReadsBack text_at x old new
text_back x old new bound utf8 no_nul is = reads_back text_exact x old new (record { bound = bound; utf8 = utf8; no_nul = no_nul }) is

pub pair_back : (x y old new : List ℕ) → length x ≤ 65535 → length y ≤ 65535 → IsUtf8 x → IsUtf8 y → has_nul x ≡ false → has_nul y ≡ false → new ≡ old ++ pair_spelling (x, y) → ReadsBack pair_at (x, y) old new
pair_back x y old new bound_x bound_y utf8_x utf8_y no_nul_x no_nul_y is =
    reads_back pair_exact (x, y) old new (record { bound = bound_x; utf8 = utf8_x; no_nul = no_nul_x }, record { bound = bound_y; utf8 = utf8_y; no_nul = no_nul_y }) is
