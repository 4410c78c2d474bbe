use Rattle.std.proofs.Common.{◌<◌, ap, arith, cond, nat_eq, None, sym, ◌∙◌}
use Rattle.mq_rules.specs.KeptOrder.{value_under}
use Rattle.mq_rules.proofs.IdentifierCountLaws.{counted-remove, counted-there, under-changed, under-kept}
use Rattle.mq_rules.proofs.by_identifier.counted.CountedByIdentifier.remove.Goals as goal

pub count_without-self-inside-requires : goal.count_without-self-inside-requires
count_without-self-inside-requires g c =
    let t = c.self.inside.table in
    let i = c.args.identifier in
    let lt : c.args.identifier < 65536 = omega (arith, c.ranges.identifier.fits) in
    counted-there t c.self.inside.count i c.remove-removed.result c.is_some.result lt c.self.invariant c.is_some.ensures (c.remove-removed.ensures.removed ∙ sym (under-kept t i lt))

pub invariant_of-self : goal.invariant_of-self
invariant_of-self g c =
    let t = c.self.inside.table in
    let i = c.args.identifier in
    let lt : c.args.identifier < 65536 = omega (arith, c.ranges.identifier.fits) in
    counted-remove t c.remove-removed.new.self c.self.inside.count c.count_without-self-inside.result i c.remove-removed.result c.is_some.result lt c.self.invariant
    c.is_some.ensures (c.remove-removed.ensures.removed ∙ sym (under-kept t i lt)) (under-changed t c.remove-removed.new.self i (λ _. None) lt c.remove-removed.ensures.rest) c.count_without-self-inside.ensures

pub returns-clause-removed : goal.returns-clause-removed
returns-clause-removed g c =
    let lt : c.args.identifier < 65536 = omega (arith, c.ranges.identifier.fits) in
    c.remove-removed.ensures.removed ∙ sym (under-kept c.self.inside.table c.args.identifier lt) ∙ ap (λ t. value_under t c.args.identifier) c.self.view_is

pub returns-clause-rest : goal.returns-clause-rest
returns-clause-rest g c =
    let lt : c.args.identifier < 65536 = omega (arith, c.ranges.identifier.fits) in
    λ i. under-changed c.self.inside.table c.remove-removed.new.self c.args.identifier (λ _. None) lt c.remove-removed.ensures.rest i
    ∙ ap (λ t. cond (nat_eq c.args.identifier i) None (value_under t i)) c.self.view_is
