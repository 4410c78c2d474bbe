use Rattle.std.proofs.Common.{IfErr, IfSome, OnOk, subst, sym, ◌∙◌}
use Rattle.std.specs.FinMap as map
use Rattle.mq_rules.specs.declared.role.Further.{Further}
use Rattle.mq_tasks.specs.Inquiring.{IsExplained, StopsExplaining}
use Rattle.mq_tasks.specs.Choosing.{chosen_as}
use Rattle.mq_tasks.proofs.InquiringLemmas.{explaining_stops, inquiry_passes, inquiry_reasons, lacks_verdict, never_by_first, pass_stops, refusing_stops}
use Rattle.mq_tasks.proofs.inquiring.inquire_twice.Goals as goal

pub returns-then-is_empty-clause-passed : goal.returns-then-is_empty-clause-passed
returns-then-is_empty-clause-passed g c =
    inquiry_passes (chosen_as c.args.wanted.choice) c.args.wanted.form c.in-Ok.role c.in-Ok.verdict.events c.in-Ok.verdict.faults (g.R.Read.remaining c.args.judged.now) (g.S.Read.remaining c.args.again.now)
    (g.W.Write.contents c.args.output.now) (g.W.Write.contents c.pass.new.output) c.pass.result (sym c.is_empty.ensures ∙ c.if-is_empty.true)
    c.in-Ok.ensures c.pass.ensures.passed

pub returns-then-is_empty-clause-stops : goal.returns-then-is_empty-clause-stops
returns-then-is_empty-clause-stops g c =
    pass_stops (chosen_as c.args.wanted.choice) c.args.wanted.form c.args.releases c.in-Ok.role c.in-Ok.verdict.events c.in-Ok.verdict.faults (g.R.Read.remaining c.args.judged.now) (g.S.Read.remaining c.args.again.now)
    (g.R.Read.remaining c.judge_reader.new.reader) (g.S.Read.remaining c.args.again.now)
    (g.W.Write.contents c.args.output.now) (g.W.Write.contents c.pass.new.output) c.pass.result (sym c.is_empty.ensures ∙ c.if-is_empty.true)
    c.in-Ok.ensures c.pass.ensures.stops

pub returns-else-is_empty-clause-faulty : goal.returns-else-is_empty-clause-faulty
returns-else-is_empty-clause-faulty g c =
    inquiry_reasons (chosen_as c.args.wanted.choice) c.args.wanted.form c.args.releases c.in-Ok.role c.in-Ok.verdict.events c.in-Ok.verdict.faults (g.R.Read.remaining c.args.judged.now) (g.S.Read.remaining c.args.again.now)
    (g.W.Write.contents c.args.output.now) (g.W.Write.contents c.explain.new.output) c.explain.result (sym c.is_empty.ensures ∙ c.if-is_empty.false)
    c.in-Ok.ensures
    (subst (λ (f : Further). OnOk c.explain.result (IfSome (g.S.Read.remaining c.args.again.now) (λ log. IsExplained (chosen_as c.args.wanted.choice) c.args.wanted.form
    (record { role = c.in-Ok.role; releases = c.args.releases; further = f }) c.in-Ok.verdict.events (map.entries c.in-Ok.verdict.faults) log
    (g.W.Write.contents c.args.output.now) (g.W.Write.contents c.explain.new.output)))) c.further.ensures c.explain.ensures.faulty)

pub returns-else-is_empty-clause-stops : goal.returns-else-is_empty-clause-stops
returns-else-is_empty-clause-stops g c =
    explaining_stops (chosen_as c.args.wanted.choice) c.args.wanted.form c.args.releases c.in-Ok.role c.in-Ok.verdict.events c.in-Ok.verdict.faults (g.R.Read.remaining c.args.judged.now) (g.S.Read.remaining c.args.again.now)
    (g.R.Read.remaining c.judge_reader.new.reader) (g.S.Read.remaining c.explain.new.again)
    (g.W.Write.contents c.args.output.now) (g.W.Write.contents c.explain.new.output) c.explain.result (sym c.is_empty.ensures ∙ c.if-is_empty.false)
    c.in-Ok.ensures
    (subst (λ (f : Further). IfErr c.explain.result (λ lapse. IfSome (g.S.Read.remaining c.args.again.now) (λ log. StopsExplaining (chosen_as c.args.wanted.choice) c.args.wanted.form
    (record { role = c.in-Ok.role; releases = c.args.releases; further = f }) c.in-Ok.verdict.events (map.entries c.in-Ok.verdict.faults) lapse log (g.S.Read.remaining c.explain.new.again)
    (g.W.Write.contents c.args.output.now) (g.W.Write.contents c.explain.new.output)))) c.further.ensures c.explain.ensures.stops)

pub returns-in-Err-clause-stops : goal.returns-in-Err-clause-stops
returns-in-Err-clause-stops g c =
    refusing_stops (chosen_as c.args.wanted.choice) c.args.wanted.form c.args.releases (g.R.Read.remaining c.args.judged.now) (g.S.Read.remaining c.args.again.now)
    (g.R.Read.remaining c.judge_reader.new.reader) (g.S.Read.remaining c.args.again.now)
    (g.W.Write.contents c.args.output.now) (g.W.Write.contents c.refuse.new.output) c.in-Err-Refused.refusal c.in-Err.failure
    (rw c.in-Err-Refused.field-0-is at c.in-Err-Refused.ensures) c.in-Err.ensures.failed c.in-Err.ensures.begun

pub returns-in-Err-Memory-clause-stops : goal.returns-in-Err-Memory-clause-stops
returns-in-Err-Memory-clause-stops g c =
    lacks_verdict (chosen_as c.args.wanted.choice) c.args.wanted.form c.args.releases (g.R.Read.remaining c.args.judged.now) (g.S.Read.remaining c.args.again.now)
    (g.R.Read.remaining c.judge_reader.new.reader) (g.S.Read.remaining c.args.again.now) (g.W.Write.contents c.args.output.now)
    (rw c.in-Err-Memory.field-0-is at c.in-Err-Memory.ensures)

pub returns-in-Err-Write-clause-stops : goal.returns-in-Err-Write-clause-stops
returns-in-Err-Write-clause-stops g c = λ _. never_by_first (g.R.Read.remaining c.args.judged.now) (g.S.Read.remaining c.args.again.now) _ (rw c.in-Err-Write.field-0-is at c.in-Err-Write.ensures)
