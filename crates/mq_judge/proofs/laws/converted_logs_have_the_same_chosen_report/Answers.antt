use Rattle.std.proofs.Common.{◌≡◌, ◌∙◌, List, ℕ, ap, length, map}
use Rattle.mq_log.specs.Events.{Placed, events}
use Rattle.mq_trace.specs.Converting.{converted}
use Rattle.mq_trace.proofs.Exports.{converted_same}
use Rattle.mq_rules.specs.declared.role.Tested.{Tested}
use Rattle.mq_rules.specs.Faults.{listed_faults}
use Rattle.mq_rules.specs.Notes.{seen, seen_in, tested_as}
use Rattle.mq_choice.specs.Choices.{tested_for, wants_further}
use Rattle.mq_report.specs.Report.{report_on}
use Rattle.mq_judge.specs.Runner.{chosen_report}
use Rattle.mq_judge.proofs.laws.converted_logs_have_the_same_chosen_report.Goals as goal

pub returns : goal.returns
unfolding chosen_report seen_in
returns c = λ limit chosen log form first none whole.
    let same = converted_same limit log first none whole in
    ap (λ (t : Tested). report_on form t.role (listed_faults chosen t (map seen (events (converted log)))) (length (events (converted log)))) (ap (tested_as (wants_further chosen)) same.2)
    ∙ ap (λ (shown : List Placed). report_on form (tested_for chosen log).role (listed_faults chosen (tested_for chosen log) (map seen shown)) (length shown)) same.3
