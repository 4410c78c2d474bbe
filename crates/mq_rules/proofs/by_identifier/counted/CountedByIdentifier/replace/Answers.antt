use Rattle.std.proofs.Common.{◌≡◌, ◌<◌, ap, arith, cond, nat_eq, option_map, subst, sym, ◌∙◌}
use Rattle.mq_rules.specs.KeptOrder.{value_under}
use Rattle.mq_rules.proofs.ByIdentifierLaws.{kept-place}
use Rattle.mq_rules.proofs.IdentifierCountLaws.{counted-replace, under-absent, under-replaced}
use Rattle.mq_rules.proofs.by_identifier.counted.CountedByIdentifier.replace.Goals as goal

-- what is kept has its place
pub put-requires : goal.put-requires
put-requires g c = kept-place c.self.inside.table c.args.identifier (sym c.contains.ensures ∙ c.if-contains.true)

pub invariant_of-self : goal.invariant_of-self
invariant_of-self g c =
    let lt : c.args.identifier < 65536 = omega (arith, c.ranges.identifier.fits) in
    let t = c.self.inside.table in
    counted-replace t c.put.new.self c.self.inside.count c.args.identifier c.args.value c.self.invariant
    (under-replaced t c.put.new.self c.args.identifier c.args.value lt (sym c.contains.ensures ∙ c.if-contains.true) c.put.ensures.put)

pub returns-then-contains : goal.returns-then-contains
returns-then-contains g c =
    let lt : c.args.identifier < 65536 = omega (arith, c.ranges.identifier.fits) in
    λ i. under-replaced c.self.inside.table c.put.new.self c.args.identifier c.args.value lt (sym c.contains.ensures ∙ c.if-contains.true) c.put.ensures.put i
    ∙ ap (λ t. cond (nat_eq c.args.identifier i) (option_map (λ _. c.args.value) (value_under t i)) (value_under t i)) c.self.view_is

pub returns-else-contains : goal.returns-else-contains
returns-else-contains g c = λ i.
    subst (λ t. value_under t i ≡ cond (nat_eq c.args.identifier i) (option_map (λ _. c.args.value) (value_under t i)) (value_under t i)) c.self.view_is
    (under-absent c.self.inside.table c.args.identifier c.args.value (sym c.contains.ensures ∙ c.if-contains.false) i)
