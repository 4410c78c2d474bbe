use Rattle.std.proofs.Common.{◌<◌, ◌+◌, ap, arith, sym, ◌∙◌}
use Rattle.std.specs.Prelude.{is_some}
use Rattle.mq_rules.specs.KeptOrder.{value_under}
use Rattle.mq_rules.proofs.IdentifierCountLaws.{ids-most}
use Rattle.mq_connections.proofs.UnfinishedLaws.{kept-absent}
use Rattle.mq_connections.proofs.duties.unfinished.Unfinished.len_with.Goals as goal

pub overflow_add-result : goal.overflow_add-result
overflow_add-result c =
    let most = ids-most (λ i. is_some (value_under c.args.self.now.identifiers i)) in
    omega (arith, most, c.len-else-contains.ensures)

pub returns-else-contains : goal.returns-else-contains
returns-else-contains c =
    let lt : c.args.identifier < 65536 = omega (arith, c.ranges.identifier.fits) in
    ap (λ n. n + 1) c.len-else-contains.ensures
    ∙ kept-absent c.args.self.now c.args.identifier lt (sym c.contains.ensures ∙ c.if-contains.false)
