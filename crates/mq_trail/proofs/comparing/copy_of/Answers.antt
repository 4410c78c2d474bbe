use Rattle.std.proofs.Common.{◌∙◌}
use Rattle.mq_trail.proofs.ComparingLaws.{copy_begins, copy_ends, copy_goes_on}
use Rattle.mq_trail.proofs.comparing.copy_of.Goals as goal

pub loop-key-init : goal.loop-key-init
loop-key-init c = copy_begins _ _ _ c.new-copy.ensures (c.into_iter-key-iterator.ensures.into_iter_gives ∙ c.iter-key-items.ensures.rest)

pub loop-key-preserved : goal.loop-key-preserved
loop-key-preserved c = copy_goes_on _ _ _ c.in-Some.key.now c.in-Some.fault.now _ _ c.loop-key.invariant c.in-Some.ensures.steps c.in_ok-add.ensures.ok

pub returns : goal.returns
returns c = copy_ends _ _ _ c.loop-key.invariant c.in-None.ensures.steps.0
