use Rattle.std.proofs.Common.{◌&&◌, ap, subst, sym, ◌∙◌}
use Rattle.mq_rules.specs.declared.rule.Rule.TheVariants.{B09, P01, P02, R01, R02}
use Rattle.mq_rules.specs.FaultKeys.{FaultMap}
use Rattle.mq_rules.specs.Growing.{Gains}
use Rattle.mq_rules.proofs.Exports.{on_err}
use Rattle.mq_fates.specs.Judgements.{judged_by}
use Rattle.mq_subscriptions.specs.Grouping.{of_matching}
use Rattle.mq_subscriptions.proofs.BlamingLaws.{gains-six, within-none, within-one, within-two, within-three, within-four, within-five}
use Rattle.mq_subscriptions.proofs.matching.blame.Goals as goal

pub returns-clause-grows : goal.returns-clause-grows
returns-clause-grows c = λ turns tested log h.
    let v = c.args.broken in
    let at = c.args.at in
    let d = c.args.decided in
    subst (λ (m : FaultMap). Gains (λ k r. of_matching r && turns k r) tested log d c.args.faults.now m)
    (sym (
    c.in_ok-judge_by-6.ensures.ok
    ∙ ap (judged_by v.unshared R02 at d) (c.in_ok-judge_by-5.ensures.ok
    ∙ ap (judged_by v.unretained R01 at d) (c.in_ok-judge_by-4.ensures.ok
    ∙ ap (judged_by v.identified P02 at d) (c.in_ok-judge_by-3.ensures.ok
    ∙ ap (judged_by v.named P01 at d) (c.in_ok-judge_by-2.ensures.ok
    ∙ ap (judged_by v.granted B09 at d) c.in_ok-judge_by.ensures.ok))))))
    (gains-six turns v at d tested log h c.args.faults.now)

pub returns-in_err-judge_by-clause-memory : goal.returns-in_err-judge_by-clause-memory
returns-in_err-judge_by-clause-memory c = on_err c.from_residual.result _ (λ turns tested log h.
    within-none turns c.args.broken c.args.at c.args.decided tested log h c.args.faults.now c.judge_by.new.faults c.in_err-judge_by.ensures.unchanged)

pub returns-in_err-judge_by-2-clause-memory : goal.returns-in_err-judge_by-2-clause-memory
returns-in_err-judge_by-2-clause-memory c = on_err c.from_residual-in_err-judge_by-2.result _ (λ turns tested log h.
    within-one turns c.args.broken c.args.at c.args.decided tested log h c.args.faults.now c.judge_by-2.new.faults
    (c.in_err-judge_by-2.ensures.unchanged ∙ c.in_ok-judge_by.ensures.ok))

pub returns-in_err-judge_by-3-clause-memory : goal.returns-in_err-judge_by-3-clause-memory
returns-in_err-judge_by-3-clause-memory c = on_err c.from_residual-in_err-judge_by-3.result _ (λ turns tested log h.
    let v = c.args.broken in
    let at = c.args.at in
    let d = c.args.decided in
    within-two turns v at d tested log h c.args.faults.now c.judge_by-3.new.faults
    (c.in_err-judge_by-3.ensures.unchanged ∙ c.in_ok-judge_by-2.ensures.ok ∙ ap (judged_by v.granted B09 at d) c.in_ok-judge_by.ensures.ok))

pub returns-in_err-judge_by-4-clause-memory : goal.returns-in_err-judge_by-4-clause-memory
returns-in_err-judge_by-4-clause-memory c = on_err c.from_residual-in_err-judge_by-4.result _ (λ turns tested log h.
    let v = c.args.broken in
    let at = c.args.at in
    let d = c.args.decided in
    within-three turns v at d tested log h c.args.faults.now c.judge_by-4.new.faults
    (c.in_err-judge_by-4.ensures.unchanged ∙ c.in_ok-judge_by-3.ensures.ok
    ∙ ap (judged_by v.named P01 at d) (c.in_ok-judge_by-2.ensures.ok ∙ ap (judged_by v.granted B09 at d) c.in_ok-judge_by.ensures.ok)))

pub returns-in_err-judge_by-5-clause-memory : goal.returns-in_err-judge_by-5-clause-memory
returns-in_err-judge_by-5-clause-memory c = on_err c.from_residual-in_err-judge_by-5.result _ (λ turns tested log h.
    let v = c.args.broken in
    let at = c.args.at in
    let d = c.args.decided in
    within-four turns v at d tested log h c.args.faults.now c.judge_by-5.new.faults
    (c.in_err-judge_by-5.ensures.unchanged ∙ c.in_ok-judge_by-4.ensures.ok
    ∙ ap (judged_by v.identified P02 at d) (c.in_ok-judge_by-3.ensures.ok
    ∙ ap (judged_by v.named P01 at d) (c.in_ok-judge_by-2.ensures.ok ∙ ap (judged_by v.granted B09 at d) c.in_ok-judge_by.ensures.ok))))

pub returns-in_err-judge_by-6-clause-memory : goal.returns-in_err-judge_by-6-clause-memory
returns-in_err-judge_by-6-clause-memory c = on_err c.from_residual-in_err-judge_by-6.result _ (λ turns tested log h.
    let v = c.args.broken in
    let at = c.args.at in
    let d = c.args.decided in
    within-five turns v at d tested log h c.args.faults.now c.judge_by-6.new.faults
    (c.in_err-judge_by-6.ensures.unchanged ∙ c.in_ok-judge_by-5.ensures.ok
    ∙ ap (judged_by v.unretained R01 at d) (c.in_ok-judge_by-4.ensures.ok
    ∙ ap (judged_by v.identified P02 at d) (c.in_ok-judge_by-3.ensures.ok
    ∙ ap (judged_by v.named P01 at d) (c.in_ok-judge_by-2.ensures.ok ∙ ap (judged_by v.granted B09 at d) c.in_ok-judge_by.ensures.ok)))))
