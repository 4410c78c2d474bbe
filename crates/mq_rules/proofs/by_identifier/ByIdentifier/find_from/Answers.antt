use Rattle.std.proofs.Common.{◌<◌, arith, sym, ◌∙◌}
use Rattle.mq_rules.specs.KeptOrder.{value_under}
use Rattle.mq_rules.proofs.IdentifierCountLaws.{under-kept, under-nothing}
use Rattle.mq_rules.proofs.KeptOrderLaws.{found-further, none-further}
use Rattle.mq_rules.proofs.by_identifier.ByIdentifier.find_from.Goals as goal

pub returns-in-Some : goal.returns-in-Some
returns-in-Some g c =
    let at = c.in-Ok.ensures.1 in
    let lt = c.in-Ok.ensures.0 in
    let so_far = c.loop-identifier.invariant in
    let small : c.in-Ok.identifier < 65536 = omega (arith, at, lt) in (
      omega (arith, at, so_far.0),
      under-kept c.args.self.now c.in-Ok.identifier small ∙ sym c.get.ensures ∙ c.in-Some.is,
      λ i later below. so_far.1 i later (omega (arith, at, below)),
    )

pub loop-identifier-preserved : goal.loop-identifier-preserved
loop-identifier-preserved g c =
    let at = c.in-Ok.ensures.1 in
    let so_far = c.loop-identifier.invariant in
    let next = c.after-next.ensures.later in (
      omega (arith, at, next, so_far.0),
      none-further (value_under c.args.self.now) c.args.start c.loop-identifier.next c.in-Ok.identifier c.after-next.result at so_far.1 (under-nothing c.args.self.now c.in-Ok.identifier (sym c.get.ensures ∙ c.in_default-get.is)) c.after-next.ensures.nothing,
    )

pub returns : goal.returns
returns g c =
    found-further c.args.self.now c.args.start c.loop-identifier.next c.loop-identifier.invariant.1 c.in_default.ensures
