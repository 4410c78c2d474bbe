use Rattle.std.proofs.Common.{sym, arith, ◌∙◌}
use Rattle.std.specs.FinMap as map
use Rattle.mq_report.proofs.SummaryLaws.{tally_begins, tally_meets, other_counted, tally_passes, tally_counts, tally_finds}
use Rattle.mq_report.proofs.report.summary.tally_of.Goals as goal

pub loop-key-init : goal.loop-key-init
loop-key-init c = tally_begins c.args.rule _ _ _ (c.into_iter-key-iterator.ensures.into_iter_gives ∙ c.iter-key-items.ensures.rest) (c.len-count.ensures ∙ map.len-entries _)

pub loop-key-preserved-then-eq : goal.loop-key-preserved-then-eq
loop-key-preserved-then-eq c =
    tally_meets _ _ c.in-Some.key.now c.in-Some.fault.now c.loop-key.invariant c.in-Some.ensures.steps (sym c.eq.ensures ∙ c.if-eq.true) c.or-first.ensures

pub overflow_sub-count : goal.overflow_sub-count
overflow_sub-count c = other_counted _ c.in-Some.key.now c.in-Some.fault.now c.loop-key.invariant c.in-Some.ensures.steps (sym c.eq.ensures ∙ c.if-eq.false)

pub loop-key-preserved : goal.loop-key-preserved
loop-key-preserved c =
    let other = sym c.eq.ensures ∙ c.if-eq.false in
    let some = other_counted _ c.in-Some.key.now c.in-Some.fault.now c.loop-key.invariant c.in-Some.ensures.steps other in
    tally_passes _ _ c.in-Some.key.now c.in-Some.fault.now c.loop-key.invariant c.in-Some.ensures.steps other (omega (arith, some))

pub returns-clause-count : goal.returns-clause-count
returns-clause-count c = tally_counts c.loop-key.invariant c.in-None.ensures.steps.0

pub returns-clause-first : goal.returns-clause-first
returns-clause-first c = tally_finds c.loop-key.invariant c.in-None.ensures.steps.0
