-- The first bad field of a property list begins in the bytes that were left, or right after them.
use Rattle.std.proofs.Common.{◌≡◌, ℕ, zero, suc, ◌+◌, ◌≤◌, true, false, List, [], ◌∷◌, ◌++◌, length, take, drop, Result, Ok, Err, refl, sym, subst, length-drop, arith}
use Rattle.std.specs.Prelude.{IfErr, ◌==◌, nat_lt, if◌then◌else◌}
use Rattle.std.proofs.lemmas.List.{length-take}
use Rattle.mq_wire.specs.declared.fault.Reason.{Reason}
use Rattle.mq_wire.specs.declared.fault.Reason.TheVariants.{Short}
use Rattle.mq_wire.specs.Left.{Left, past, placed}
use Rattle.mq_wire.specs.Fields.{varint_at, ◌>>=◌}
use Rattle.mq_wire.proofs.Exports.{placed_ok}
use Rattle.mq_props.specs.declared.fault.PropFault.{PropFault}
use Rattle.mq_props.specs.declared.fault.PropReason.{PropReason}
use Rattle.mq_props.specs.declared.fault.PropReason.TheVariants.{Wire}
use Rattle.mq_props.specs.declared.table.Place.{Place}
use Rattle.mq_props.specs.Table.{Line, row_of}
use Rattle.mq_props.specs.Values.{Value, Property}
use Rattle.mq_props.specs.Listed.{Listed}
use Rattle.mq_props.specs.Reading.{from_wire, judged_at, value_on, admitted, valued, property_on, properties_within, properties_on, within_length, list_on, ReadsFront}
use Rattle.mq_props.proofs.Fields.{value_at, value_on_is}
use Rattle.mq_props.proofs.Sizes.{taken_by, varint_within, value_within}
use Rattle.mq_props.proofs.Steps.{Found, from_wire_ok, property_on_ok}
use Rattle.mq_props.proofs.Lists.{counted_ok}

-- the fault's place is one of those that are left, or the one after them
abbrev pub Within : Left → PropFault → Type 0
Within left fault = (left.at ≤ fault.at) × (fault.at ≤ left.at + length left.rest)

-- a part of what is left lies in it
abbrev Inside : Left → Left → Type 0
Inside left part = (left.at ≤ part.at) × (part.at + length part.rest ≤ left.at + length left.rest)

inside_within : (left part : Left) (fault : PropFault) → Inside left part → Within part fault → Within left fault
inside_within left part fault h w = (omega (arith, h.0, w.0), omega (arith, h.1, w.1))

bind_within : {A B : Type 0} (P : PropFault → Type 0) (r : Result A PropFault) (f : A → Result B PropFault) → IfErr r P → ((x : A) → r ≡ Ok x → IfErr (f x) P) → IfErr (r >>= f) P
bind_within P (Ok x) f first next = next x refl
bind_within P (Err fault) f first next = first

part_within : {A : Type 0} (left part : Left) (r : Result A PropFault) → Inside left part → IfErr r (Within part) → IfErr r (Within left)
part_within left part (Ok x) h w = tt
part_within left part (Err fault) h w = inside_within left part fault h w

judged_within : {A : Type 0} (left : Left) (r : Result A PropReason) → IfErr (judged_at left.at r) (Within left)
judged_within left (Ok x) = tt
judged_within left (Err reason) = (omega arith, omega arith)

wire_within : {X : Type 0} (left : Left) (r : Result (X × ℕ) Reason) → IfErr (from_wire (placed left r)) (Within left)
wire_within left (Ok x) = tt
wire_within left (Err reason) = (omega arith, omega arith)

-- what is left after a field lies in what was left
field_inside : {X : Type 0} (left : Left) (r : Result (X × ℕ) Reason) (x : X) (new : Left) → taken_by r ≤ length left.rest → from_wire (placed left r) ≡ Ok (x, new) → Inside left new
field_inside {X} left r x new fits e =
    let read = placed_ok left r x new (from_wire_ok (placed left r) (x, new) e) in
    let size : read.0 ≤ length left.rest = subst (λ (s : Result (X × ℕ) Reason). taken_by s ≤ length left.rest) read.1 fits in
    subst (λ (l : Left). Inside left l) (sym read.2) (omega arith, omega (arith, size, length-drop read.0 left.rest))

-- the value's part of a property, whose identifier was read
abbrev valued_on : Place → Line → Left → Result (Property × Left) PropFault
valued_on place line left = from_wire (value_on line.kind left) >>= λ value. judged_at left.at (valued place line value.0) >>= λ property. Ok (property, value.1)

value_fault : (place : Place) (line : Line) (left : Left) → IfErr (valued_on place line left) (Within left)
value_fault place line left =
    bind_within (Within left) (from_wire (value_on line.kind left)) (λ value. judged_at left.at (valued place line value.0) >>= λ property. Ok (property, value.1)) (rw (value_on_is line.kind left) (wire_within left (value_at line.kind left.rest))) (λ value read.
    bind_within (Within left) (judged_at left.at (valued place line value.0)) (λ property. Ok (property, value.1)) (judged_within left (valued place line value.0)) (λ property good. tt))

property_fault : (place : Place) (before : List Property) (left : Left) → IfErr (property_on place before left) (Within left)
unfolding property_on
property_fault place before left =
    bind_within (Within left) (from_wire (placed left (varint_at left.rest))) (λ id. judged_at left.at (admitted place before (row_of id.0)) >>= λ line. valued_on place line id.1) (wire_within left (varint_at left.rest)) (λ id named.
    bind_within (Within left) (judged_at left.at (admitted place before (row_of id.0))) (λ line. valued_on place line id.1) (judged_within left (admitted place before (row_of id.0))) (λ line known.
    part_within left id.1 (valued_on place line id.1) (field_inside left (varint_at left.rest) id.0 id.1 (varint_within left.rest) named) (value_fault place line id.1)))

-- what is left after a property lies in what was left
found_inside : (place : Place) (before : List Property) (left : Left) (p : Property) (new : Left) → Found place before left p new → Inside left new
found_inside place before left p new found =
    let size : found.size ≤ length left.rest = subst (λ (r : Result (ℕ × ℕ) Reason). taken_by r ≤ length left.rest) found.named (varint_within left.rest) in
    let more : found.more ≤ length (drop found.size left.rest) = subst (λ (r : Result (Value × ℕ) Reason). taken_by r ≤ length (drop found.size left.rest)) found.value (value_within found.line.kind (drop found.size left.rest)) in
    subst (λ (l : Left). Inside left l) (sym found.following) (omega arith, omega (arith, size, more, length-drop found.size left.rest, length-drop found.more (drop found.size left.rest)))

within_fault : (fuel : ℕ) (place : Place) (before : List Property) (left : Left) → IfErr (properties_within fuel place before left) (Within left)
within_fault zero place before left = tt
within_fault (suc fuel) place before left =
    elim (length left.rest == 0) as (λ b. IfErr (if b then Ok before else (property_on place before left >>= λ x. properties_within fuel place (before ++ x.0 ∷ []) x.1)) (Within left)) [
      | true ↦ tt
      | false ↦
          bind_within (Within left) (property_on place before left) (λ x. properties_within fuel place (before ++ x.0 ∷ []) x.1) (property_fault place before left) (λ x read.
          part_within left x.1 (properties_within fuel place (before ++ x.0 ∷ []) x.1) (found_inside place before left x.0 x.1 (property_on_ok place before left x.0 x.1 read)) (within_fault fuel place (before ++ x.0 ∷ []) x.1))
    ]

properties_fault : (place : Place) (before : List Property) (left : Left) → IfErr (properties_on place before left) (Within left)
unfolding properties_on
properties_fault place before left = within_fault (length left.rest) place before left

counted_fault : (start : Left) (len : ℕ) (left : Left) → IfErr (within_length start len left) (Within start)
counted_fault start len left =
    elim (nat_lt (length left.rest) len) as (λ b. IfErr {T = Left} (if b then Err (record { at = start.at; reason = Wire Short }) else Ok (record { at = left.at; rest = take len left.rest })) (Within start)) [
      | true ↦ (omega arith, omega arith)
      | false ↦ tt
    ]

-- the bytes that a length counts lie in what was left after it
counted_inside : (start : Left) (len : ℕ) (left inside : Left) → within_length start len left ≡ Ok inside → Inside left inside
counted_inside start len left inside e =
    let is = counted_ok start len left inside e in
    subst (λ (l : Left). Inside left l) (sym is.1) (omega arith, omega (arith, is.0, length-take len left.rest))

list_fault : (place : Place) (left : Left) → IfErr (list_on place left) (Within left)
unfolding list_on
list_fault place left =
    bind_within (Within left) (from_wire (placed left (varint_at left.rest))) (λ len. within_length left len.0 len.1 >>= λ inside. properties_on place [] inside >>= λ ps. Ok (ps, past len.1 len.0)) (wire_within left (varint_at left.rest)) (λ len named.
    bind_within (Within left) (within_length left len.0 len.1) (λ inside. properties_on place [] inside >>= λ ps. Ok (ps, past len.1 len.0)) (counted_fault left len.0 len.1) (λ inside enough.
    let following = field_inside left (varint_at left.rest) len.0 len.1 (varint_within left.rest) named in
    let part = counted_inside left len.0 len.1 inside enough in
    bind_within (Within left) (properties_on place [] inside) (λ ps. Ok (ps, past len.1 len.0)) (part_within left inside (properties_on place [] inside) (omega (arith, following.0, part.0), omega (arith, following.1, part.1)) (properties_fault place [] inside)) (λ ps read. tt)))

-- the fault of a list that is refused
pub list_err_within : (place : Place) (left : Left) (fault : PropFault) → list_on place left ≡ Err fault → (left.at ≤ fault.at) × (fault.at ≤ left.at + length left.rest)
list_err_within place left fault e = subst (λ (r : Result (List Property × Left) PropFault). IfErr r (Within left)) e (list_fault place left)

-- as the call answers it
pub within_result : (place : Place) (left : Left) (result : Result Listed PropFault) (new : Left) → ReadsFront (λ (l : Listed). l.items) result (list_on place left) new
    → IfErr result (λ fault. (left.at ≤ fault.at) × (fault.at ≤ left.at + length left.rest))
within_result place left (Ok l) new h = tt
within_result place left (Err fault) new h = list_err_within place left fault h
