use Rattle.std.proofs.Common.{◌∙◌, sym}
use Rattle.mq_choice.specs.Choices.{in_choice}
use Rattle.mq_choice.proofs.KeepLaws.{keep_begins, keep_ends, keep_goes_on, keep_passes}
use Rattle.mq_choice.proofs.dropping.chosen_of.Goals as goal

pub loop-key-init : goal.loop-key-init
loop-key-init c = keep_begins (in_choice c.args.choice) _ _ _ c.new-kept.ensures (c.into_iter-key-iterator.ensures.into_iter_gives ∙ c.iter-key-items.ensures.rest)

pub loop-key-preserved-in-Continue-1 : goal.loop-key-preserved-in-Continue-1
loop-key-preserved-in-Continue-1 c =
    keep_goes_on (in_choice c.args.choice) _ _ _ c.in-Some.key.now c.in-Some.fault.now _ _ c.loop-key.invariant c.in-Some.ensures.steps (sym c.has.ensures ∙ c.if-has.true) c.in_ok-add.ensures.ok

pub loop-key-preserved : goal.loop-key-preserved
loop-key-preserved c =
    keep_passes (in_choice c.args.choice) _ _ c.in-Some.key.now c.in-Some.fault.now _ _ c.loop-key.invariant c.in-Some.ensures.steps (sym c.has.ensures ∙ c.if-has.false)

pub returns : goal.returns
returns c = keep_ends (in_choice c.args.choice) _ _ _ c.loop-key.invariant c.in-None.ensures.steps.0
