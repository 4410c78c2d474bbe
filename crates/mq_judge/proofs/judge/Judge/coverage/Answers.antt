use Rattle.std.proofs.Common.{ap, ◌∙◌}
use Rattle.mq_log.specs.Events.{events}
use Rattle.mq_rules.specs.declared.role.Further.{Further}
use Rattle.mq_rules.specs.declared.role.Tested.{Tested}
use Rattle.mq_rules.specs.Notes.{seen_in, tested_by}
use Rattle.mq_rules.specs.Rules.{all_rules}
use Rattle.mq_choice.specs.Choices.{in_choice}
use Rattle.mq_judge.specs.Coverage.{coverage_of, rows_among}
use Rattle.mq_judge.proofs.judge.Judge.coverage.Goals as goal

pub returns-in-Ok : goal.returns-in-Ok
unfolding coverage_of seen_in
returns-in-Ok c = λ log counts same f long.
    c.in-Ok.ensures (events log) counts f.watches f.tallies
    ∙ ap (λ (t : Tested). rows_among (in_choice c.args.choice) t (events log) all_rules) (f.named long ∙ ap (λ (b : Further). tested_by b log) same)
