use Rattle.std.proofs.Common.{◌≡◌, ◌∙◌, List, ℕ, ap, length, map}
use Rattle.mq_log.specs.Events.{Placed, events}
use Rattle.mq_trace.specs.Converting.{converted}
use Rattle.mq_trace.proofs.Exports.{converted_same}
use Rattle.mq_rules.specs.declared.role.Tested.{Tested}
use Rattle.mq_rules.specs.Faults.{listed_faults}
use Rattle.mq_rules.specs.Notes.{seen, seen_in, tested_as, tested_by}
use Rattle.mq_report.specs.Chosen.{is_judged}
use Rattle.mq_report.specs.Report.{report, report_on}
use Rattle.mq_report.proofs.laws.converted_logs_have_the_same_report.Goals as goal

pub returns : goal.returns
unfolding report seen_in
returns c = λ limit further log form first none whole.
    let same = converted_same limit log first none whole in
    ap (λ (t : Tested). report_on form t.role (listed_faults (is_judged t) t (map seen (events (converted log)))) (length (events (converted log)))) (ap (tested_as further) same.2)
    ∙ ap (λ (shown : List Placed). report_on form (tested_by further log).role (listed_faults (is_judged (tested_by further log)) (tested_by further log) (map seen shown)) (length shown)) same.3
