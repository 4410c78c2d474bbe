use Rattle.std.proofs.Common.{◌∙◌}
use Rattle.std.specs.Prelude.{reverse}
use Rattle.mq_rules.specs.Growing.{GrowsByWithin}
use Rattle.mq_rules.proofs.Exports.{on_err}
use Rattle.mq_plain.proofs.LoopLaws.{kept-fate, kept-settled, kept-unasked}
use Rattle.mq_plain.proofs.GrowthLaws.{undecided-grows, decided-grows, waited-within, decided-within}
use Rattle.mq_plain.proofs.pass.judge_event.Goals as goal

pub returns-in_default-clause-ok : goal.returns-in_default-clause-ok
returns-in_default-clause-ok g c = λ own placed kept.
    let role = c.args.tested.role in
    let e = c.args.event.now in
    let past = reverse c.args.before.now in
    undecided-grows g.E.Evaluator.chosen c.args.tested e past c.args.faults.now c.requires.on_sessions
    (kept-fate role e past c.args.kept c.fate_after.result kept c.fate_after.ensures ∙ c.in_default.is)

pub returns-in_err-judge_waiting-clause-memory : goal.returns-in_err-judge_waiting-clause-memory
returns-in_err-judge_waiting-clause-memory g c = λ own placed kept.
    let role = c.args.tested.role in
    let e = c.args.event.now in
    let past = reverse c.args.before.now in
    on_err c.from_residual.result (GrowsByWithin g.E.Evaluator.chosen c.args.tested e past c.args.faults.now c.judge_waiting.new.faults)
    (waited-within g.E.Evaluator.chosen c.args.tested c.in-Some.fate e.place.position c.settled_by-first.result e past c.args.faults.now c.judge_waiting.new.faults c.requires.on_sessions
    (record {
      placed = placed.0;
      fate = kept-fate role e past c.args.kept c.fate_after.result kept c.fate_after.ensures ∙ c.in-Some.is;
      settled_so = kept-settled role c.args.before.now c.args.kept c.settled_by-first.result kept c.settled_by-first.ensures;
    })
    (c.in_err-judge_waiting.ensures.memory own placed.1 (kept-unasked role past c.args.kept kept)))

pub returns-in_err-judge_next-clause-memory : goal.returns-in_err-judge_next-clause-memory
returns-in_err-judge_next-clause-memory g c = λ own placed kept.
    let role = c.args.tested.role in
    let e = c.args.event.now in
    let past = reverse c.args.before.now in
    on_err c.from_residual-in_err-judge_next.result (GrowsByWithin g.E.Evaluator.chosen c.args.tested e past c.args.faults.now c.judge_next.new.faults)
    (decided-within g.E.Evaluator.chosen c.args.tested c.in-Some.fate e.place.position c.settled_by-first.result e past c.args.faults.now c.judge_waiting.new.faults c.judge_next.new.faults c.requires.on_sessions
    (record {
      placed = placed.0;
      fate = kept-fate role e past c.args.kept c.fate_after.result kept c.fate_after.ensures ∙ c.in-Some.is;
      settled_so = kept-settled role c.args.before.now c.args.kept c.settled_by-first.result kept c.settled_by-first.ensures;
    })
    (c.in_ok-judge_waiting.ensures.ok own placed.1 (kept-unasked role past c.args.kept kept))
    (c.in_err-judge_next.ensures.memory own placed))

pub returns-clause-ok : goal.returns-clause-ok
returns-clause-ok g c = λ own placed kept.
    let role = c.args.tested.role in
    let e = c.args.event.now in
    let past = reverse c.args.before.now in
    decided-grows g.E.Evaluator.chosen c.args.tested c.in-Some.fate e.place.position c.settled_by-first.result e past c.args.faults.now c.judge_waiting.new.faults c.judge_next.new.faults c.requires.on_sessions
    (record {
      placed = placed.0;
      fate = kept-fate role e past c.args.kept c.fate_after.result kept c.fate_after.ensures ∙ c.in-Some.is;
      settled_so = kept-settled role c.args.before.now c.args.kept c.settled_by-first.result kept c.settled_by-first.ensures;
    })
    (c.in_ok-judge_waiting.ensures.ok own placed.1 (kept-unasked role past c.args.kept kept))
    (c.in_ok-judge_next.ensures.ok own placed (kept-unasked role past c.args.kept kept))
