use Rattle.std.proofs.Common.{sym, ◌∙◌}
use Rattle.mq_choice.specs.Choices.{in_choice}
use Rattle.mq_choice.proofs.Exports.{kept_chosen, usual_chosen}
use Rattle.mq_trail.proofs.RejudgingLaws.{these-other, these-same}
use Rattle.mq_trail.proofs.rejudging.has_these.Goals as goal

pub returns-then-not-is_listed-clause-same : goal.returns-then-not-is_listed-clause-same
returns-then-not-is_listed-clause-same c = λ is tested past further all.
    these-same (in_choice c.args.choice) tested past c.args.all.now c.args.others.now _ c.same_faults.ensures is
    (usual_chosen c.args.choice tested past c.args.all.now (sym c.is_listed.ensures ∙ c.if-not-is_listed.true) further all)

pub returns-then-not-is_listed-clause-other : goal.returns-then-not-is_listed-clause-other
returns-then-not-is_listed-clause-other c = λ is tested past further all.
    these-other (in_choice c.args.choice) tested past c.args.all.now c.args.others.now _ c.same_faults.ensures is
    (usual_chosen c.args.choice tested past c.args.all.now (sym c.is_listed.ensures ∙ c.if-not-is_listed.true) further all)

pub returns-clause-same : goal.returns-clause-same
returns-clause-same c = λ is tested past further all.
    these-same (in_choice c.args.choice) tested past c.in_ok-kept.kept c.args.others.now _ c.same_faults-2.ensures is
    (kept_chosen (in_choice c.args.choice) tested past c.args.all.now c.in_ok-kept.kept c.in_ok-kept.ensures all)

pub returns-clause-other : goal.returns-clause-other
returns-clause-other c = λ is tested past further all.
    these-other (in_choice c.args.choice) tested past c.in_ok-kept.kept c.args.others.now _ c.same_faults-2.ensures is
    (kept_chosen (in_choice c.args.choice) tested past c.args.all.now c.in_ok-kept.kept c.in_ok-kept.ensures all)
