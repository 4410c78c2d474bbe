use Rattle.std.proofs.Common.{IfSome}
use Rattle.std.specs.FinMap as map
use Rattle.mq_rules.specs.declared.role.Tested.{Tested}
use Rattle.mq_tasks.specs.Choosing.{Chosen}
use Rattle.mq_tasks.specs.Lapses.{LacksReasons}
use Rattle.mq_tasks.specs.Reviewing.{AreFoundReasons}
use Rattle.mq_tasks.proofs.ReviewingLemmas.{found_without, judged_without, judging_stops, never_lacks, reasons_lack, review_is_refused, review_passes, review_stops}
use Rattle.mq_tasks.specs.Reviewing.{plan_view}
use Rattle.mq_tasks.proofs.reviewing.show_reasoned.Goals as goal

pub returns-in-Ok-reasons_for-clause-passed : goal.returns-in-Ok-reasons_for-clause-passed
returns-in-Ok-reasons_for-clause-passed g c =
    review_passes (plan_view c.args.plan) c.args.releases c.in-Ok.role c.in-Ok.verdict.events c.in-Ok.verdict.faults c.as_slice.result.now
    (g.R.Read.remaining c.args.judged.now) (g.S.Read.remaining c.args.again.now) (g.T.Read.remaining c.args.shown.now)
    (g.W.Write.contents c.args.output.now) (g.W.Write.contents c.show_verdict.new.output) c.show_verdict.result
    (judged_without c.by-choice.result c.args.plan.further (g.R.Read.remaining c.args.judged.now) c.in-Ok.role c.in-Ok.verdict.events c.in-Ok.verdict.faults c.by-choice.ensures.chosen c.in-Ok.ensures)
    (rw c.as_slice.ensures.value (found_without (λ (choice : Chosen) (tested : Tested). IfSome (g.S.Read.remaining c.args.again.now)
    (λ log. AreFoundReasons choice tested c.in-Ok.verdict.events (map.entries c.in-Ok.verdict.faults) log c.in-Ok-reasons_for.reasons.items))
    c.by-choice.result c.args.plan.further c.args.releases c.further.result c.in-Ok.role c.by-choice.ensures.chosen c.by-choice.ensures.unlisted c.further.ensures c.in-Ok-reasons_for.ensures.found)) c.show_verdict.ensures.passed

pub returns-in-Ok-reasons_for-clause-refused : goal.returns-in-Ok-reasons_for-clause-refused
returns-in-Ok-reasons_for-clause-refused g c =
    review_is_refused (plan_view c.args.plan) c.args.releases c.in-Ok.role c.in-Ok.verdict.events c.in-Ok.verdict.faults c.as_slice.result.now
    (g.R.Read.remaining c.args.judged.now) (g.S.Read.remaining c.args.again.now) (g.T.Read.remaining c.args.shown.now)
    (g.W.Write.contents c.args.output.now) (g.W.Write.contents c.show_verdict.new.output) c.show_verdict.result
    (judged_without c.by-choice.result c.args.plan.further (g.R.Read.remaining c.args.judged.now) c.in-Ok.role c.in-Ok.verdict.events c.in-Ok.verdict.faults c.by-choice.ensures.chosen c.in-Ok.ensures)
    (rw c.as_slice.ensures.value (found_without (λ (choice : Chosen) (tested : Tested). IfSome (g.S.Read.remaining c.args.again.now)
    (λ log. AreFoundReasons choice tested c.in-Ok.verdict.events (map.entries c.in-Ok.verdict.faults) log c.in-Ok-reasons_for.reasons.items))
    c.by-choice.result c.args.plan.further c.args.releases c.further.result c.in-Ok.role c.by-choice.ensures.chosen c.by-choice.ensures.unlisted c.further.ensures c.in-Ok-reasons_for.ensures.found)) c.show_verdict.ensures.refused

pub returns-in-Ok-reasons_for-clause-stops : goal.returns-in-Ok-reasons_for-clause-stops
returns-in-Ok-reasons_for-clause-stops g c =
    review_stops (plan_view c.args.plan) c.args.releases c.in-Ok.role c.in-Ok.verdict.events c.in-Ok.verdict.faults c.as_slice.result.now
    (g.R.Read.remaining c.args.judged.now) (g.S.Read.remaining c.args.again.now) (g.T.Read.remaining c.args.shown.now)
    (g.R.Read.remaining c.judge_reader.new.reader) (g.S.Read.remaining c.reasons_for.new.again) (g.T.Read.remaining c.show_verdict.new.shown)
    (g.W.Write.contents c.args.output.now) (g.W.Write.contents c.show_verdict.new.output) c.show_verdict.result
    (judged_without c.by-choice.result c.args.plan.further (g.R.Read.remaining c.args.judged.now) c.in-Ok.role c.in-Ok.verdict.events c.in-Ok.verdict.faults c.by-choice.ensures.chosen c.in-Ok.ensures)
    (rw c.as_slice.ensures.value (found_without (λ (choice : Chosen) (tested : Tested). IfSome (g.S.Read.remaining c.args.again.now)
    (λ log. AreFoundReasons choice tested c.in-Ok.verdict.events (map.entries c.in-Ok.verdict.faults) log c.in-Ok-reasons_for.reasons.items))
    c.by-choice.result c.args.plan.further c.args.releases c.further.result c.in-Ok.role c.by-choice.ensures.chosen c.by-choice.ensures.unlisted c.further.ensures c.in-Ok-reasons_for.ensures.found)) c.show_verdict.ensures.stops

pub returns-in-Ok-clause-stops : goal.returns-in-Ok-clause-stops
returns-in-Ok-clause-stops g c = λ is.
    reasons_lack (plan_view c.args.plan) c.args.releases c.in-Ok.role c.in-Ok.verdict.events c.in-Ok.verdict.faults
    (g.R.Read.remaining c.args.judged.now) (g.S.Read.remaining c.args.again.now) (g.T.Read.remaining c.args.shown.now)
    (g.R.Read.remaining c.judge_reader.new.reader) (g.S.Read.remaining c.reasons_for.new.again) (g.T.Read.remaining c.args.shown.now)
    (g.W.Write.contents c.args.output.now) c.in-Err.lapse c.in-Err.ensures.faulty
    (judged_without c.by-choice.result c.args.plan.further (g.R.Read.remaining c.args.judged.now) c.in-Ok.role c.in-Ok.verdict.events c.in-Ok.verdict.faults c.by-choice.ensures.chosen c.in-Ok.ensures)
    (found_without (λ (choice : Chosen) (tested : Tested). IfSome (g.S.Read.remaining c.args.again.now)
    (λ log. LacksReasons choice tested c.in-Ok.verdict.events (map.entries c.in-Ok.verdict.faults) c.in-Err.lapse log (g.S.Read.remaining c.reasons_for.new.again)))
    c.by-choice.result c.args.plan.further c.args.releases c.further.result c.in-Ok.role c.by-choice.ensures.chosen c.by-choice.ensures.unlisted c.further.ensures c.in-Err.ensures.lacking) is

pub returns-in-Err-Refused-clause-stops : goal.returns-in-Err-Refused-clause-stops
returns-in-Err-Refused-clause-stops g c = λ _.
    let named = c.in-Err-Refused.field-0-is in
    judging_stops (plan_view c.args.plan) (g.R.Read.remaining c.args.judged.now) (g.S.Read.remaining c.args.again.now) (g.T.Read.remaining c.args.shown.now)
    (g.R.Read.remaining c.judge_reader.new.reader) (g.S.Read.remaining c.args.again.now) (g.T.Read.remaining c.args.shown.now)
    (g.W.Write.contents c.args.output.now) (g.W.Write.contents c.refuse.new.output) c.in-Err-Refused.refusal c.in-Err-refuse.failure
    (rw named at c.in-Err-Refused.ensures) (rw named at c.in-Err-refuse.ensures.failed) (rw named at c.in-Err-refuse.ensures.begun)

pub returns-in-Err-Memory-clause-stops : goal.returns-in-Err-Memory-clause-stops
returns-in-Err-Memory-clause-stops g c = λ _.
    never_lacks c.by-choice.result (g.R.Read.remaining c.args.judged.now) (g.S.Read.remaining c.args.again.now) (g.T.Read.remaining c.args.shown.now) _ c.by-choice.ensures.unlisted
    (rw c.in-Err-Memory.field-0-is at c.in-Err-Memory.ensures)

pub reasons_for-requires : goal.reasons_for-requires
reasons_for-requires g c = c.further.ensures
