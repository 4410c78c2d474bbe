use Rattle.std.proofs.Common.{sym, ◌∙◌}
use Rattle.mq_trail.proofs.ComparingLaws.{alike_begins, alike_goes_on, differ_in_fault, differ_in_key, differ_in_length, more_others, no_others}
use Rattle.mq_trail.proofs.comparing.same_faults.Goals as goal

pub loop-key-init : goal.loop-key-init
loop-key-init c = alike_begins _ _ _ _ (c.into_iter-key-iterator.ensures.into_iter_gives ∙ c.iter-key-items.ensures.rest) c.iter-left.ensures.rest

pub loop-key-preserved : goal.loop-key-preserved
loop-key-preserved c =
    alike_goes_on _ _ _ _ _ _ _ _ _ _ c.loop-key.invariant c.in-Some.ensures.steps c.in-Some-next.ensures.steps
    (sym c.same_key.ensures ∙ c.if-not-same_key.false) (sym c.same_fault.ensures ∙ c.if-not-same_fault.false)

pub returns-then-not-same_key : goal.returns-then-not-same_key
returns-then-not-same_key c = differ_in_key _ _ _ _ _ _ _ _ _ _ c.loop-key.invariant c.in-Some.ensures.steps c.in-Some-next.ensures.steps (sym c.same_key.ensures ∙ c.if-not-same_key.true)

pub returns-then-not-same_fault : goal.returns-then-not-same_fault
returns-then-not-same_fault c =
    differ_in_fault _ _ _ _ _ _ _ _ _ _ c.loop-key.invariant c.in-Some.ensures.steps c.in-Some-next.ensures.steps
    (sym c.same_key.ensures ∙ c.if-not-same_key.false) (sym c.same_fault.ensures ∙ c.if-not-same_fault.true)

pub returns-in-None-next : goal.returns-in-None-next
returns-in-None-next c = differ_in_length _ _ _ _ _ _ _ c.loop-key.invariant c.in-Some.ensures.steps c.in-None-next.ensures.steps.0

pub returns-in-Some-next-2 : goal.returns-in-Some-next-2
returns-in-Some-next-2 c = more_others _ _ _ _ _ _ c.loop-key.invariant c.in-None.ensures.steps.0 c.in-Some-next-2.ensures.steps

pub returns-in-None-next-2 : goal.returns-in-None-next-2
returns-in-None-next-2 c = no_others _ _ _ _ c.loop-key.invariant c.in-None.ensures.steps.0 c.in-None-next-2.ensures.steps.0
