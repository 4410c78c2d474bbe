-- Reading the Reason Codes of a body one after another, as a loop does, and what bytes come to as Reason Codes.
use Rattle.std.proofs.Common.{◌≡◌, ℕ, ◌+◌, ◌<◌, Bool, true, false, ◌&&◌, cond, List, [], ◌∷◌, ◌++◌, length, drop, Result, Ok, Err, refl, sym, ap, subst, ◌∙◌, append_assoc, length-append, arith}
use Rattle.std.specs.Prelude.{◌≢◌, if◌then◌else◌}
use Rattle.std.specs.List.{list_all, prefix_len}
use Rattle.std.proofs.lemmas.Bool.{and_from, and_parts}
use Rattle.std.proofs.lemmas.List.{append-nil}
use Rattle.std.proofs.lemmas.List.Folds.{list_all-append}
use Rattle.mq_wire.specs.Left.{Left, past, placed}
use Rattle.mq_wire.specs.Fields.{byte_at}
use Rattle.mq_wire.proofs.Exports.{done_is as read_as_is, placed_ok}
use Rattle.mq_packet.specs.declared.fault.DecodeFault.{DecodeFault}
use Rattle.mq_packet.specs.declared.rule.PacketRule.TheVariants as rules
use Rattle.mq_packet.specs.Formats.{byte, unless_broken, is_code, code_objection}
use Rattle.mq_packet.specs.Decoding.{broken, field_on, unless, read_field, codes_on}
use Rattle.mq_packet.specs.Spelled.{BadCode}
use Rattle.mq_packet.proofs.FieldLaws.{spelled_ok}
use Rattle.mq_packet.proofs.FilterLaws.{bind_ok, unless_ok, unbroken}

-- ---- codes of the table, and the first that isn't one

-- All are of the table.
pub codes_known : (table : List ℕ) (left : Left) → list_all (is_code table) left.rest ≡ true → codes_on table left ≡ Ok left.rest
unfolding codes_on
codes_known table left known =
    ap (λ (t : Bool). if t then Ok left.rest else Err (broken (left.at + prefix_len (is_code table) left.rest) rules.W13)) known

bad_first : (table good : List ℕ) (bad : ℕ) (others : List ℕ) → list_all (is_code table) good ≡ true → is_code table bad ≡ false
    → (list_all (is_code table) (good ++ bad ∷ others) ≡ false) × (prefix_len (is_code table) (good ++ bad ∷ others) ≡ length good)
bad_first table [] bad others known unknown = (
  ap (λ (t : Bool). t && list_all (is_code table) others) unknown,
  ap (λ (t : Bool). cond t (1 + prefix_len (is_code table) others) 0) unknown,
)
bad_first table (code ∷ good) bad others known unknown =
    let parts : (is_code table code ≡ true) × (list_all (is_code table) good ≡ true) = and_parts (is_code table code) (list_all (is_code table) good) known in
    let more = bad_first table good bad others parts.1 unknown in
    let count : prefix_len (is_code table) (code ∷ good ++ bad ∷ others) ≡ 1 + prefix_len (is_code table) (good ++ bad ∷ others) =
    ap (λ (t : Bool). cond t (1 + prefix_len (is_code table) (good ++ bad ∷ others)) 0) parts.0 in (
      ap (λ (t : Bool). t && list_all (is_code table) (good ++ bad ∷ others)) parts.0 ∙ more.0,
      omega (arith, count, more.1),
    )

-- One isn't, after others that are.
pub codes_bad : (table : List ℕ) (left : Left) (fault : DecodeFault) → BadCode table left.at left.rest fault → codes_on table left ≡ Err fault
unfolding codes_on
codes_bad table left fault h =
    let first = bad_first table h.good h.bad h.others h.known h.unknown in
    let some : list_all (is_code table) left.rest ≡ false = ap (list_all (is_code table)) h.parts ∙ first.0 in
    let count : prefix_len (is_code table) left.rest ≡ length h.good = ap (prefix_len (is_code table)) h.parts ∙ first.1 in
    ap (λ (t : Bool). if t then Ok left.rest else Err (broken (left.at + prefix_len (is_code table) left.rest) rules.W13)) some
    ∙ ap (λ (n : ℕ). Err (broken (left.at + n) rules.W13)) count
    ∙ ap (λ (f : DecodeFault). Err f) (sym h.is)

-- Where not all are, there is such a one.
pub first_bad : (table : List ℕ) (at : ℕ) (bytes : List ℕ) → list_all (is_code table) bytes ≡ false → BadCode table at bytes (broken (at + prefix_len (is_code table) bytes) rules.W13)
first_bad table at [] some = absurd cc
first_bad table at (code ∷ bytes) some =
    elim (is_code table code) as (λ t. is_code table code ≡ t → (t && list_all (is_code table) bytes) ≡ false → BadCode table at (code ∷ bytes) (broken (at + cond t (1 + prefix_len (is_code table) bytes) 0) rules.W13)) [
      | true ↦ λ known h.
          (let more = first_bad table (at + 1) bytes h in
          let count : at + (1 + prefix_len (is_code table) bytes) ≡ at + 1 + prefix_len (is_code table) bytes = omega arith in
          let place : at + 1 + length more.good ≡ at + length (code ∷ more.good) = omega arith in
          record {
            good = code ∷ more.good;
            bad = more.bad;
            others = more.others;
            parts = ap (λ (l : List ℕ). code ∷ l) more.parts;
            known = and_from (is_code table code) (list_all (is_code table) more.good) known more.known;
            unknown = more.unknown;
            is = ap (λ (n : ℕ). broken n rules.W13) count ∙ more.is ∙ ap (λ (n : ℕ). broken n rules.W13) place;
          })
      | false ↦ λ unknown h. record { good = []; bad = code; others = bytes; parts = refl; known = refl; unknown = unknown; is = refl }
    ] refl some

-- ---- one code

byte_is : (bytes : List ℕ) (x : ℕ × ℕ) → byte_at bytes ≡ Ok x → (bytes ≡ x.0 ∷ drop x.1 bytes) × (x.1 ≡ 1)
byte_is [] x e = absurd cc
byte_is (a ∷ bytes) x e = subst (λ (y : ℕ × ℕ). (a ∷ bytes ≡ y.0 ∷ drop y.1 (a ∷ bytes)) × (y.1 ≡ 1)) (read_as_is (a, 1) x e) (refl, refl)

-- A code that was read stood in front, and is one of the table.
record ReadsCode (table : List ℕ) (left : Left) (code : ℕ) (new : Left) : Type 0 where
  stood : left.rest ≡ code ∷ new.rest
  place : new.at ≡ left.at + 1
  known : is_code table code ≡ true

code_read : (table : List ℕ) (left : Left) (code : ℕ) (new : Left) → read_field byte (code_objection table) left ≡ Ok (code, new) → ReadsCode table left code new
code_read table left code new e =
    let x = bind_ok (field_on byte left) (λ x. unless left.at (code_objection table x.0) x) (code, new) e in
    let judged = unless_ok left.at (code_objection table x.0.0) x.0 (code, new) x.2 in
    let taken = placed_ok left (byte_at left.rest) x.0.0 x.0.1 (spelled_ok (placed left (byte_at left.rest)) x.0 x.1) in
    let front = byte_is left.rest (x.0.0, taken.0) taken.1 in
    let here : ReadsCode table left x.0.0 x.0.1 = record {
      stood = front.0 ∙ ap (λ (l : Left). x.0.0 ∷ l.rest) (sym taken.2);
      place = ap (λ (l : Left). l.at) taken.2 ∙ ap (λ (n : ℕ). left.at + n) front.1;
      known = unbroken (is_code table x.0.0) rules.W13 judged.0;
    } in
    subst (λ (y : ℕ × Left). ReadsCode table left y.0 y.1) judged.1 here

pub code_shorter : (table : List ℕ) (left : Left) (code : ℕ) (new : Left) → read_field byte (code_objection table) left ≡ Ok (code, new) → length new.rest < length left.rest
code_shorter table left code new e = omega (arith, ap length (code_read table left code new e).stood)

-- One that was refused stood there, and isn't of the table.
code_refused : (table : List ℕ) (at : ℕ) (bytes : List ℕ) (fault : DecodeFault) → bytes ≢ [] → read_field byte (code_objection table) (record { at = at; rest = bytes }) ≡ Err fault → BadCode table at bytes fault
code_refused table at [] fault some e = absurd (some refl)
code_refused table at (code ∷ others) fault some e =
    let left : Left = record { at = at; rest = code ∷ others } in
    let read : ℕ × Left = (code, past left 1) in
    elim (is_code table code) as (λ t. is_code table code ≡ t → unless at (unless_broken t rules.W13) read ≡ Err fault → BadCode table at (code ∷ others) fault) [
      | true ↦ λ known h. absurd cc
      | false ↦ λ unknown h. (let here : at + 0 ≡ at = omega arith in
          record { good = []; bad = code; others = others; parts = refl; known = refl; unknown = unknown; is = failed_is read fault (broken at rules.W13) (sym h) ∙ ap (λ (n : ℕ). broken n rules.W13) (sym here) })
    ] refl e
  where
    failed_is : {A : Type 0} (x : A) (f g : DecodeFault) → (let r : Result A DecodeFault = Err f in r) ≡ Err g → f ≡ g
    failed_is x f g e = cc

-- ---- as a loop goes over them

-- Where the loop stands: after these codes, all of the table.
pub record Goes (table : List ℕ) (start left : Left) : Type 0 where
  pub before : List ℕ
  pub parts : start.rest ≡ before ++ left.rest
  pub place : left.at ≡ start.at + length before
  pub known : list_all (is_code table) before ≡ true

pub begins : (table : List ℕ) (start : Left) → Goes table start start
begins table start = record { before = []; parts = refl; place = omega arith; known = refl }

pub goes_on : (table : List ℕ) (start left new : Left) (code : ℕ) → Goes table start left → read_field byte (code_objection table) left ≡ Ok (code, new) → Goes table start new
goes_on table start left new code at found =
    let here = code_read table left code new found in
    let size : length (at.before ++ code ∷ []) ≡ length at.before + 1 = length-append at.before (code ∷ []) in
    record {
      before = at.before ++ code ∷ [];
      parts = at.parts ∙ ap (λ (rest : List ℕ). at.before ++ rest) here.stood ∙ sym (append_assoc at.before (code ∷ []) new.rest);
      place = omega (arith, at.place, here.place, size);
      known = list_all-append (is_code table) at.before (code ∷ []) ∙ and_from _ _ at.known (and_from _ _ here.known refl);
    }

-- A code that is refused is the fault of the whole.
pub fails : (table : List ℕ) (start left : Left) (fault : DecodeFault) → Goes table start left → left.rest ≢ [] → read_field byte (code_objection table) left ≡ Err fault → codes_on table start ≡ Err fault
fails table start left fault at some refused =
    let bad = code_refused table left.at left.rest fault some refused in
    let place : left.at + length bad.good ≡ start.at + length (at.before ++ bad.good) = omega (arith, at.place, length-append at.before bad.good) in
    codes_bad table start fault (record {
      good = at.before ++ bad.good;
      bad = bad.bad;
      others = bad.others;
      parts = at.parts ∙ ap (λ (rest : List ℕ). at.before ++ rest) bad.parts ∙ sym (append_assoc at.before bad.good (bad.bad ∷ bad.others));
      known = list_all-append (is_code table) at.before bad.good ∙ and_from _ _ at.known bad.known;
      unknown = bad.unknown;
      is = bad.is ∙ ap (λ (n : ℕ). broken n rules.W13) place;
    })

-- With nothing left, the codes are all that there was.
pub ends : (table : List ℕ) (start left : Left) → Goes table start left → left.rest ≡ [] → codes_on table start ≡ Ok start.rest
ends table start left at none =
    let whole : start.rest ≡ at.before = at.parts ∙ ap (λ (rest : List ℕ). at.before ++ rest) none ∙ append-nil at.before in
    codes_known table start (ap (list_all (is_code table)) whole ∙ at.known)
