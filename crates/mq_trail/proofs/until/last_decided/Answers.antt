use Rattle.std.proofs.Common.{◌∙◌}
use Rattle.mq_trail.proofs.UntilLaws.{none-begins, none-ends, none-goes-on}
use Rattle.mq_trail.proofs.until.last_decided.Goals as goal

pub loop-key-init : goal.loop-key-init
loop-key-init c = none-begins _ _ (c.into_iter-key-iterator.ensures.into_iter_gives ∙ c.iter-key-items.ensures.rest)

pub loop-key-preserved : goal.loop-key-preserved
loop-key-preserved c = none-goes-on _ _ _ _ _ (c.in-Some._key.now, c.in-Some.fault.now) c.loop-key.invariant c.in-Some.ensures.steps c.later_of-last.ensures.first c.later_of-last.ensures.second

pub returns : goal.returns
returns c = none-ends _ _ _ c.loop-key.invariant c.in-None.ensures.steps.0
