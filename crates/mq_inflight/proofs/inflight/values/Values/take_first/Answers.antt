use Rattle.std.proofs.Common.{◌≡◌, ℕ, ◌+◌, ◌-◌, ◌<◌, ◌∷◌, Some, length, ap, arith, subst, sym, ◌∙◌}
use Rattle.std.specs.Prelude.{is_some}
use Rattle.mq_rules.specs.KeptOrder.{IsFirst, found_from, value_under}
use Rattle.mq_rules.proofs.Exports.{under-within}
use Rattle.mq_inflight.specs.declared.inflight.entry.Entry.{Entry}
use Rattle.mq_inflight.proofs.ValuesLaws.{values-first, values-end}
use Rattle.mq_inflight.proofs.inflight.values.Values.take_first.Goals as goal

-- a value is left, and then those of the identifiers after its own
pub invariant_of-self : goal.invariant_of-self
invariant_of-self c =
    let found = value_under c.self.inside.entries.now in
    let i = c.from.result in
    let entry = c.in-Some.entry in
    let first : IsFirst found c.self.inside.next (Some (i, entry)) = subst (λ (n : ℕ). IsFirst found c.self.inside.next (Some (n, entry))) (sym c.from.ensures) c.in-Some.ensures in
    let small : i < 65536 = under-within c.self.inside.entries.now i (ap is_some first.1) in
    let one : length (found_from found c.self.inside.next (65536 - c.self.inside.next)) ≡ length (entry ∷ found_from found (i + 1) (65536 - (i + 1))) = ap (length {A = Entry}) (values-first found c.self.inside.next i entry c.self.invariant.0 small first) in
    let left = c.self.invariant.1 in
    (omega (arith, small), omega (arith, one, left))

pub returns : goal.returns
returns c =
    let found = value_under c.self.inside.entries.now in
    let i = c.from.result in
    let entry = c.in-Some.entry in
    let first : IsFirst found c.self.inside.next (Some (i, entry)) = subst (λ (n : ℕ). IsFirst found c.self.inside.next (Some (n, entry))) (sym c.from.ensures) c.in-Some.ensures in
    let small : i < 65536 = under-within c.self.inside.entries.now i (ap is_some first.1) in
    sym c.self.view_is ∙ values-first found c.self.inside.next i entry c.self.invariant.0 small first

-- nothing is left
pub returns-in_default : goal.returns-in_default
returns-in_default c = let none = sym c.self.view_is ∙ values-end (value_under c.self.inside.entries.now) c.self.inside.next c.in_default.ensures in (none, none)
