use Rattle.std.proofs.Common.{◌<◌, arith, ap, cond, nat_eq, Some, sym, ◌∙◌, is_some}
use Rattle.mq_rules.specs.KeptOrder.{value_under}
use Rattle.mq_rules.proofs.FaultKeyLaws.{on_err}
use Rattle.mq_rules.proofs.IdentifierCountLaws.{counted-insert, ids-most, ids-same, under-changed, under-kept, under-same}
use Rattle.mq_rules.proofs.by_identifier.counted.CountedByIdentifier.insert.Goals as goal

pub count_with-self-inside-requires : goal.count_with-self-inside-requires
count_with-self-inside-requires g c = let most = ids-most (λ i. is_some (value_under c.self.inside.table i)) in omega (arith, most, c.self.invariant)

pub invariant_of-self-2 : goal.invariant_of-self-2
invariant_of-self-2 g c =
    let t = c.self.inside.table in
    let i = c.args.identifier in
    let lt : c.args.identifier < 65536 = omega (arith, c.ranges.identifier.fits) in
    counted-insert t c.insert.new.self c.self.inside.count c.count_with-self-inside.result i c.args.value c.contains-had.result lt c.self.invariant
    (c.contains-had.ensures ∙ ap (is_some {T = g.row.T.Denot}) (sym (under-kept t i lt))) (under-changed t c.insert.new.self i (λ _. Some c.args.value) lt c.in_ok-insert.ensures.ok) c.count_with-self-inside.ensures

-- nothing changed
pub invariant_of-self : goal.invariant_of-self
invariant_of-self g c =
    let t = c.self.inside.table in
    let same = under-same t c.insert.new.self c.in_err-insert.ensures.unchanged in
    c.self.invariant ∙ ids-same (λ i. is_some (value_under t i)) (λ i. is_some (value_under c.insert.new.self i)) (λ i. sym (ap (is_some {T = g.row.T.Denot}) (same i)))

pub returns-in_err-insert-clause-unchanged : goal.returns-in_err-insert-clause-unchanged
returns-in_err-insert-clause-unchanged g c =
    on_err c.from_residual.result _ (λ i. under-same c.self.inside.table c.insert.new.self c.in_err-insert.ensures.unchanged i ∙ ap (λ t. value_under t i) c.self.view_is)

pub returns-clause-ok : goal.returns-clause-ok
returns-clause-ok g c =
    let lt : c.args.identifier < 65536 = omega (arith, c.ranges.identifier.fits) in
    λ i. under-changed c.self.inside.table c.insert.new.self c.args.identifier (λ _. Some c.args.value) lt c.in_ok-insert.ensures.ok i
    ∙ ap (λ t. cond (nat_eq c.args.identifier i) (Some c.args.value) (value_under t i)) c.self.view_is
