use Rattle.std.proofs.Common.{sym, subst, ◌∙◌}
use Rattle.mq_trail.specs.Explaining.{AreWanted}
use Rattle.mq_trail.proofs.ExplainingLaws.{reasons_begin, reasons_end, reasons_go_on, wanted_first}
use Rattle.mq_trail.proofs.explaining.reasons_of.Goals as goal

pub loop-key-init : goal.loop-key-init
loop-key-init g c = λ tested past role knows wanted.
    let all = c.into_iter-key-iterator.ensures.into_iter_gives ∙ c.iter-key-items.ensures.rest in
    (subst (AreWanted g.N.Reasons.wanted tested past) (sym all) wanted, reasons_begin tested past _ _ _ c.new-reasons.ensures.items all)

pub loop-key-preserved : goal.loop-key-preserved
loop-key-preserved g c = λ tested past role knows wanted.
    let so_far = c.loop-key.invariant tested past role knows wanted in
    let first = wanted_first g.N.Reasons.wanted tested past _ _ (c.in-Some.key.now, c.in-Some.fault.now) so_far.0 c.in-Some.ensures.steps in (
      first.1,
      reasons_go_on tested past _ _ _ c.in-Some.key.now c.in-Some.fault.now _ _ c.reason-reason.result so_far.1 c.in-Some.ensures.steps c.in_ok-add.ensures
          (c.reason-reason.ensures tested past role knows first.0),
    )

pub returns : goal.returns
returns g c = λ tested past role knows wanted. reasons_end tested past _ _ _ (c.loop-key.invariant tested past role knows wanted).1 c.in-None.ensures.steps.0
