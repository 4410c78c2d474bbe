-- Values of the seven types: what is read is spelled so, and what is spelled so is read.
use Rattle.std.proofs.Common.{◌≡◌, ℕ, ◌+◌, ◌-◌, ◌*◌, ◌<◌, Bool, true, false, cond, eqb, ltb, List, [], ◌∷◌, ◌++◌, length, drop, Result, Ok, Err, refl, sym, ap, subst, ◌∙◌, arith}
use Rattle.mq_wire.specs.declared.fault.Reason.{Reason}
use Rattle.mq_wire.specs.declared.fault.Reason.TheVariants.{Short, Overlong}
use Rattle.mq_wire.specs.Left.{Left, placed}
use Rattle.mq_wire.specs.Fields.{byte_at, two_bytes_at, four_bytes_at, varint_at, text_at, binary_at, pair_at, ended_by, second_byte, third_byte, fourth_byte}
use Rattle.mq_wire.specs.Spellings.{IsByte, IsTwoBytes, IsFourBytes, IsVarint, IsText, IsBinary, IsPair, byte_spelling, two_bytes_spelling, four_bytes_spelling, varint_spelling, text_spelling, binary_spelling, pair_spelling, BeginsWith, IsExact}
use Rattle.mq_wire.proofs.Exports.{byte_exact, two_bytes_exact, four_bytes_exact, binary_exact, text_exact, pair_exact, varint_exact}
use Rattle.mq_props.specs.declared.table.ValueType.{ValueType}
use Rattle.mq_props.specs.declared.table.ValueType.TheVariants as types
use Rattle.mq_props.specs.Values.{Value, byte_value, two_bytes_value, four_bytes_value, varint_value, text_value, pair_value, binary_value, value_type, IsValue, value_spelling}
use Rattle.mq_props.specs.Reading.{as_value, value_on}

-- a value that is read, made one of its type
abbrev pub mapped : {X Y : Type 0} → (X → Y) → Result (X × ℕ) Reason → Result (Y × ℕ) Reason
mapped make (Ok x) = Ok (make x.0, x.1)
mapped make (Err reason) = Err reason

abbrev pub value_at : ValueType → List ℕ → Result (Value × ℕ) Reason
value_at types.Byte bytes = mapped byte_value (byte_at bytes)
value_at types.TwoBytes bytes = mapped two_bytes_value (two_bytes_at bytes)
value_at types.FourBytes bytes = mapped four_bytes_value (four_bytes_at bytes)
value_at types.Varint bytes = mapped varint_value (varint_at bytes)
value_at types.Text bytes = mapped text_value (text_at bytes)
value_at types.Pair bytes = mapped (λ (texts : List ℕ × List ℕ). pair_value texts.0 texts.1) (pair_at bytes)
value_at types.Binary bytes = mapped binary_value (binary_at bytes)

as_value-placed : {X : Type 0} (make : X → Value) (left : Left) (read : Result (X × ℕ) Reason) → as_value make (placed left read) ≡ placed left (mapped make read)
as_value-placed make left (Ok x) = refl
as_value-placed make left (Err reason) = refl

pub value_on_is : (kind : ValueType) (left : Left) → value_on kind left ≡ placed left (value_at kind left.rest)
value_on_is types.Byte left = as_value-placed byte_value left (byte_at left.rest)
value_on_is types.TwoBytes left = as_value-placed two_bytes_value left (two_bytes_at left.rest)
value_on_is types.FourBytes left = as_value-placed four_bytes_value left (four_bytes_at left.rest)
value_on_is types.Varint left = as_value-placed varint_value left (varint_at left.rest)
value_on_is types.Text left = as_value-placed text_value left (text_at left.rest)
value_on_is types.Pair left = as_value-placed (λ (texts : List ℕ × List ℕ). pair_value texts.0 texts.1) left (pair_at left.rest)
value_on_is types.Binary left = as_value-placed binary_value left (binary_at left.rest)

-- the values of a type
abbrev pub IsOf : ValueType → Value → Type 0
IsOf kind v = (value_type v ≡ kind) × IsValue v

-- a way to make values of a type
record Makes {X : Type 0} (kind : ValueType) (make : X → Value) (IsX : X → Type 0) (spelling : X → List ℕ) : Type 0 where
  made : (x : X) → IsX x → IsOf kind (make x)
  spelled : (x : X) → value_spelling (make x) ≡ spelling x
  each : (v : Value) → IsOf kind v → (x : X) × (make x ≡ v) × IsX x

abbrev done : {A : Type 0} → A → Result A Reason
done x = Ok x

done_is : {A : Type 0} (x y : A) → done x ≡ done y → x ≡ y
done_is x y e = cc

pub mapped_ok : {X Y : Type 0} (make : X → Y) (read : Result (X × ℕ) Reason) (y : Y) (n : ℕ) → mapped make read ≡ Ok (y, n) → (x : X) × (read ≡ Ok (x, n)) × (make x ≡ y)
mapped_ok {X} {Y} make (Ok x) y n e =
    let made : Y × ℕ = (make x.0, x.1) in
    let found : Y × ℕ = (y, n) in
    let same = done_is made found e in
    (x.0, ap (λ (k : ℕ). done (x.0, k)) (ap (λ (z : Y × ℕ). z.1) same), ap (λ (z : Y × ℕ). z.0) same)
mapped_ok make (Err reason) y n e = absurd cc

mapped_exact : {X : Type 0} (kind : ValueType) (make : X → Value) (IsX : X → Type 0) (spelling : X → List ℕ) (read : List ℕ → Result (X × ℕ) Reason)
    → Makes kind make IsX spelling → IsExact read IsX spelling → IsExact (λ bytes. mapped make (read bytes)) (IsOf kind) value_spelling
mapped_exact {X} kind make IsX spelling read makes exact = record {
  only = λ bytes v n fits e.
      let found = mapped_ok make (read bytes) v n e in
      let stands = exact.only bytes found.0 n fits found.1 in
      let here : BeginsWith (IsOf kind) value_spelling bytes (make found.0) n = record {
        value = makes.made found.0 stands.value;
        taken = stands.taken ∙ ap length (sym (makes.spelled found.0));
        spelled = stands.spelled ∙ ap (λ (front : List ℕ). front ++ drop n bytes) (sym (makes.spelled found.0));
      } in
      subst (λ (w : Value). BeginsWith (IsOf kind) value_spelling bytes w n) found.2 here;
  all = λ v rest is.
      let x = makes.each v is in
      let same : spelling x.0 ≡ value_spelling v = sym (makes.spelled x.0) ∙ ap value_spelling x.1 in
      let read_x : read (value_spelling v ++ rest) ≡ Ok (x.0, length (value_spelling v)) =
      subst (λ (front : List ℕ). read (front ++ rest) ≡ Ok (x.0, length front)) same (exact.all x.0 rest x.2) in
      ap (mapped make) read_x ∙ ap (λ (w : Value). done (w, length (value_spelling v))) x.1;
}

each_byte : (v : Value) → IsOf types.Byte v → (x : ℕ) × (byte_value x ≡ v) × IsByte x
each_byte (byte_value n) is = (n, refl, is.1)
each_byte v is = absurd (let e = is.0 in cc)

each_two_bytes : (v : Value) → IsOf types.TwoBytes v → (x : ℕ) × (two_bytes_value x ≡ v) × IsTwoBytes x
each_two_bytes (two_bytes_value n) is = (n, refl, is.1)
each_two_bytes v is = absurd (let e = is.0 in cc)

each_four_bytes : (v : Value) → IsOf types.FourBytes v → (x : ℕ) × (four_bytes_value x ≡ v) × IsFourBytes x
each_four_bytes (four_bytes_value n) is = (n, refl, is.1)
each_four_bytes v is = absurd (let e = is.0 in cc)

each_varint : (v : Value) → IsOf types.Varint v → (x : ℕ) × (varint_value x ≡ v) × IsVarint x
each_varint (varint_value n) is = (n, refl, is.1)
each_varint v is = absurd (let e = is.0 in cc)

each_text : (v : Value) → IsOf types.Text v → (x : List ℕ) × (text_value x ≡ v) × IsText x
each_text (text_value t) is = (t, refl, is.1)
each_text v is = absurd (let e = is.0 in cc)

abbrev pub pair_of : List ℕ × List ℕ → Value
pair_of texts = pair_value texts.0 texts.1

each_pair : (v : Value) → IsOf types.Pair v → (x : List ℕ × List ℕ) × (pair_of x ≡ v) × IsPair x
each_pair (pair_value name value) is = ((name, value), refl, is.1)
each_pair v is = absurd (let e = is.0 in cc)

each_binary : (v : Value) → IsOf types.Binary v → (x : List ℕ) × (binary_value x ≡ v) × IsBinary x
each_binary (binary_value bytes) is = (bytes, refl, is.1)
each_binary v is = absurd (let e = is.0 in cc)

-- the reading of a value of each type is exact
pub value_exact : (kind : ValueType) → IsExact (value_at kind) (IsOf kind) value_spelling
value_exact types.Byte = mapped_exact types.Byte byte_value IsByte byte_spelling byte_at (record { made = λ x is. (refl, is); spelled = λ x. refl; each = each_byte }) byte_exact
value_exact types.TwoBytes = mapped_exact types.TwoBytes two_bytes_value IsTwoBytes two_bytes_spelling two_bytes_at (record { made = λ x is. (refl, is); spelled = λ x. refl; each = each_two_bytes }) two_bytes_exact
value_exact types.FourBytes = mapped_exact types.FourBytes four_bytes_value IsFourBytes four_bytes_spelling four_bytes_at (record { made = λ x is. (refl, is); spelled = λ x. refl; each = each_four_bytes }) four_bytes_exact
value_exact types.Varint = mapped_exact types.Varint varint_value IsVarint varint_spelling varint_at (record { made = λ x is. (refl, is); spelled = λ x. refl; each = each_varint }) varint_exact
value_exact types.Text = mapped_exact types.Text text_value IsText text_spelling text_at (record { made = λ x is. (refl, is); spelled = λ x. refl; each = each_text }) text_exact
value_exact types.Pair = mapped_exact types.Pair pair_of IsPair pair_spelling pair_at (record { made = λ x is. (refl, is); spelled = λ x. refl; each = each_pair }) pair_exact
value_exact types.Binary = mapped_exact types.Binary binary_value IsBinary binary_spelling binary_at (record { made = λ x is. (refl, is); spelled = λ x. refl; each = each_binary }) binary_exact

-- ---- an identifier takes bytes

taken_cond : (b : Bool) (r s : Result (ℕ × ℕ) Reason) (x : ℕ × ℕ) → cond b r s ≡ Ok x → (r ≡ Ok x → 0 < x.1) → (s ≡ Ok x → 0 < x.1) → 0 < x.1
taken_cond true r s x e yes_is no_is = yes_is e
taken_cond false r s x e yes_is no_is = no_is e

taken_ok : (number taken : ℕ) (x : ℕ × ℕ) → 0 < taken → done (number, taken) ≡ Ok x → 0 < x.1
taken_ok number taken x some e = subst (λ (y : ℕ × ℕ). 0 < y.1) (done_is (number, taken) x e) some

never : (reason : Reason) (x : ℕ × ℕ) → (let r : Result (ℕ × ℕ) Reason = Err reason in r) ≡ Ok x → 0 < x.1
never reason x e = absurd cc

taken_ended : (last number taken : ℕ) (x : ℕ × ℕ) → 0 < taken → ended_by last number taken ≡ Ok x → 0 < x.1
taken_ended last number taken x some e = taken_cond (eqb last 0) (Err Overlong) (Ok (number, taken)) x e (never Overlong x) (taken_ok number taken x some)

taken_fourth : (n : ℕ) (bytes : List ℕ) (x : ℕ × ℕ) → fourth_byte n bytes ≡ Ok x → 0 < x.1
taken_fourth n [] x e = never Short x e
taken_fourth n (d ∷ bytes) x e = taken_cond (ltb d 128) (ended_by d (n + 2097152 * d) 4) (Err Overlong) x e (taken_ended d (n + 2097152 * d) 4 x (omega arith)) (never Overlong x)

taken_third : (n : ℕ) (bytes : List ℕ) (x : ℕ × ℕ) → third_byte n bytes ≡ Ok x → 0 < x.1
taken_third n [] x e = never Short x e
taken_third n (c ∷ bytes) x e =
    taken_cond (ltb c 128) (ended_by c (n + 16384 * c) 3) (fourth_byte (n + 16384 * (c - 128)) bytes) x e (taken_ended c (n + 16384 * c) 3 x (omega arith)) (taken_fourth (n + 16384 * (c - 128)) bytes x)

taken_second : (n : ℕ) (bytes : List ℕ) (x : ℕ × ℕ) → second_byte n bytes ≡ Ok x → 0 < x.1
taken_second n [] x e = never Short x e
taken_second n (b ∷ bytes) x e =
    taken_cond (ltb b 128) (ended_by b (n + 128 * b) 2) (third_byte (n + 128 * (b - 128)) bytes) x e (taken_ended b (n + 128 * b) 2 x (omega arith)) (taken_third (n + 128 * (b - 128)) bytes x)

-- a number that is read takes some bytes, and some were there
pub varint_taken : (bytes : List ℕ) (x : ℕ × ℕ) → varint_at bytes ≡ Ok x → (0 < x.1) × (0 < length bytes)
unfolding varint_at
varint_taken [] x e = absurd cc
varint_taken (a ∷ bytes) x e = (taken_cond (ltb a 128) (Ok (a, 1)) (second_byte (a - 128) bytes) x e (taken_ok a 1 x (omega arith)) (taken_second (a - 128) bytes x), omega arith)
