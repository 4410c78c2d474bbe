use Rattle.std.proofs.Common.{[], ◌∷◌, subst, sym, ap, ◌∙◌}
use Rattle.mq_rules.specs.declared.rule.Rule.TheVariants.{S01, S02, S03, S04, S05}
use Rattle.mq_rules.proofs.Exports.{on_err}
use Rattle.mq_fates.specs.Judgements.{Keeps, judged_by}
use Rattle.mq_inflight.specs.Using.{judged_all}
use Rattle.mq_fates.proofs.Exports.{keeps_same}
use Rattle.mq_inflight.proofs.BrokenLaws.{keeps_these}
use Rattle.mq_inflight.proofs.inflight.broken.judge_all.Goals as goal

pub returns-in_err-judge_by-clause-memory : goal.returns-in_err-judge_by-clause-memory
returns-in_err-judge_by-clause-memory c =
    let b = c.args.broken.now in
    let m = c.args.faults.now in
    on_err c.from_residual.result _
    (subst (Keeps m) (sym (c.in_err-judge_by.ensures.unchanged)) (keeps_these c.args.at c.args.decided ([]) m m (keeps_same m)))

pub returns-in_err-judge_by-clause-partial : goal.returns-in_err-judge_by-clause-partial
returns-in_err-judge_by-clause-partial c =
    let b = c.args.broken.now in
    let m = c.args.faults.now in
    on_err c.from_residual.result _
    (subst (λ n. Keeps n (judged_all b c.args.at c.args.decided m)) (sym (c.in_err-judge_by.ensures.unchanged)) (keeps_these c.args.at c.args.decided ((b.takes_busy, S01) ∷ (b.unopened, S02) ∷ (b.twice, S03) ∷ (b.past_pubrel, S04) ∷ (b.out_of_order, S05) ∷ []) m m (keeps_same m)))

pub returns-in_err-judge_by-2-clause-memory : goal.returns-in_err-judge_by-2-clause-memory
returns-in_err-judge_by-2-clause-memory c =
    let b = c.args.broken.now in
    let m = c.args.faults.now in
    on_err c.from_residual-in_err-judge_by-2.result _
    (subst (Keeps m) (sym (c.in_err-judge_by-2.ensures.unchanged ∙ c.in_ok-judge_by.ensures.ok)) (keeps_these c.args.at c.args.decided ((b.takes_busy, S01) ∷ []) m m (keeps_same m)))

pub returns-in_err-judge_by-2-clause-partial : goal.returns-in_err-judge_by-2-clause-partial
returns-in_err-judge_by-2-clause-partial c =
    let b = c.args.broken.now in
    let m = c.args.faults.now in
    on_err c.from_residual-in_err-judge_by-2.result _
    (subst (λ n. Keeps n (judged_all b c.args.at c.args.decided m)) (sym (c.in_err-judge_by-2.ensures.unchanged ∙ c.in_ok-judge_by.ensures.ok)) (keeps_these c.args.at c.args.decided ((b.unopened, S02) ∷ (b.twice, S03) ∷ (b.past_pubrel, S04) ∷ (b.out_of_order, S05) ∷ []) (judged_by b.takes_busy S01 c.args.at c.args.decided m) (judged_by b.takes_busy S01 c.args.at c.args.decided m) (keeps_same (judged_by b.takes_busy S01 c.args.at c.args.decided m))))

pub returns-in_err-judge_by-3-clause-memory : goal.returns-in_err-judge_by-3-clause-memory
returns-in_err-judge_by-3-clause-memory c =
    let b = c.args.broken.now in
    let m = c.args.faults.now in
    on_err c.from_residual-in_err-judge_by-3.result _
    (subst (Keeps m) (sym (c.in_err-judge_by-3.ensures.unchanged ∙ (c.in_ok-judge_by-2.ensures.ok ∙ ap (judged_by b.unopened S02 c.args.at c.args.decided) c.in_ok-judge_by.ensures.ok))) (keeps_these c.args.at c.args.decided ((b.takes_busy, S01) ∷ (b.unopened, S02) ∷ []) m m (keeps_same m)))

pub returns-in_err-judge_by-3-clause-partial : goal.returns-in_err-judge_by-3-clause-partial
returns-in_err-judge_by-3-clause-partial c =
    let b = c.args.broken.now in
    let m = c.args.faults.now in
    on_err c.from_residual-in_err-judge_by-3.result _
    (subst (λ n. Keeps n (judged_all b c.args.at c.args.decided m)) (sym (c.in_err-judge_by-3.ensures.unchanged ∙ (c.in_ok-judge_by-2.ensures.ok ∙ ap (judged_by b.unopened S02 c.args.at c.args.decided) c.in_ok-judge_by.ensures.ok))) (keeps_these c.args.at c.args.decided ((b.twice, S03) ∷ (b.past_pubrel, S04) ∷ (b.out_of_order, S05) ∷ []) (judged_by b.unopened S02 c.args.at c.args.decided (judged_by b.takes_busy S01 c.args.at c.args.decided m)) (judged_by b.unopened S02 c.args.at c.args.decided (judged_by b.takes_busy S01 c.args.at c.args.decided m)) (keeps_same (judged_by b.unopened S02 c.args.at c.args.decided (judged_by b.takes_busy S01 c.args.at c.args.decided m)))))

pub returns-in_err-judge_by-4-clause-memory : goal.returns-in_err-judge_by-4-clause-memory
returns-in_err-judge_by-4-clause-memory c =
    let b = c.args.broken.now in
    let m = c.args.faults.now in
    on_err c.from_residual-in_err-judge_by-4.result _
    (subst (Keeps m) (sym (c.in_err-judge_by-4.ensures.unchanged ∙ (c.in_ok-judge_by-3.ensures.ok ∙ ap (judged_by b.twice S03 c.args.at c.args.decided) (c.in_ok-judge_by-2.ensures.ok ∙ ap (judged_by b.unopened S02 c.args.at c.args.decided) c.in_ok-judge_by.ensures.ok)))) (keeps_these c.args.at c.args.decided ((b.takes_busy, S01) ∷ (b.unopened, S02) ∷ (b.twice, S03) ∷ []) m m (keeps_same m)))

pub returns-in_err-judge_by-4-clause-partial : goal.returns-in_err-judge_by-4-clause-partial
returns-in_err-judge_by-4-clause-partial c =
    let b = c.args.broken.now in
    let m = c.args.faults.now in
    on_err c.from_residual-in_err-judge_by-4.result _
    (subst (λ n. Keeps n (judged_all b c.args.at c.args.decided m)) (sym (c.in_err-judge_by-4.ensures.unchanged ∙ (c.in_ok-judge_by-3.ensures.ok ∙ ap (judged_by b.twice S03 c.args.at c.args.decided) (c.in_ok-judge_by-2.ensures.ok ∙ ap (judged_by b.unopened S02 c.args.at c.args.decided) c.in_ok-judge_by.ensures.ok)))) (keeps_these c.args.at c.args.decided ((b.past_pubrel, S04) ∷ (b.out_of_order, S05) ∷ []) (judged_by b.twice S03 c.args.at c.args.decided (judged_by b.unopened S02 c.args.at c.args.decided (judged_by b.takes_busy S01 c.args.at c.args.decided m))) (judged_by b.twice S03 c.args.at c.args.decided (judged_by b.unopened S02 c.args.at c.args.decided (judged_by b.takes_busy S01 c.args.at c.args.decided m))) (keeps_same (judged_by b.twice S03 c.args.at c.args.decided (judged_by b.unopened S02 c.args.at c.args.decided (judged_by b.takes_busy S01 c.args.at c.args.decided m))))))

pub returns-in_err-judge_by-5-clause-memory : goal.returns-in_err-judge_by-5-clause-memory
returns-in_err-judge_by-5-clause-memory c =
    let b = c.args.broken.now in
    let m = c.args.faults.now in
    on_err c.from_residual-in_err-judge_by-5.result _
    (subst (Keeps m) (sym (c.in_err-judge_by-5.ensures.unchanged ∙ (c.in_ok-judge_by-4.ensures.ok ∙ ap (judged_by b.past_pubrel S04 c.args.at c.args.decided) (c.in_ok-judge_by-3.ensures.ok ∙ ap (judged_by b.twice S03 c.args.at c.args.decided) (c.in_ok-judge_by-2.ensures.ok ∙ ap (judged_by b.unopened S02 c.args.at c.args.decided) c.in_ok-judge_by.ensures.ok))))) (keeps_these c.args.at c.args.decided ((b.takes_busy, S01) ∷ (b.unopened, S02) ∷ (b.twice, S03) ∷ (b.past_pubrel, S04) ∷ []) m m (keeps_same m)))

pub returns-in_err-judge_by-5-clause-partial : goal.returns-in_err-judge_by-5-clause-partial
returns-in_err-judge_by-5-clause-partial c =
    let b = c.args.broken.now in
    let m = c.args.faults.now in
    on_err c.from_residual-in_err-judge_by-5.result _
    (subst (λ n. Keeps n (judged_all b c.args.at c.args.decided m)) (sym (c.in_err-judge_by-5.ensures.unchanged ∙ (c.in_ok-judge_by-4.ensures.ok ∙ ap (judged_by b.past_pubrel S04 c.args.at c.args.decided) (c.in_ok-judge_by-3.ensures.ok ∙ ap (judged_by b.twice S03 c.args.at c.args.decided) (c.in_ok-judge_by-2.ensures.ok ∙ ap (judged_by b.unopened S02 c.args.at c.args.decided) c.in_ok-judge_by.ensures.ok))))) (keeps_these c.args.at c.args.decided ((b.out_of_order, S05) ∷ []) (judged_by b.past_pubrel S04 c.args.at c.args.decided (judged_by b.twice S03 c.args.at c.args.decided (judged_by b.unopened S02 c.args.at c.args.decided (judged_by b.takes_busy S01 c.args.at c.args.decided m)))) (judged_by b.past_pubrel S04 c.args.at c.args.decided (judged_by b.twice S03 c.args.at c.args.decided (judged_by b.unopened S02 c.args.at c.args.decided (judged_by b.takes_busy S01 c.args.at c.args.decided m)))) (keeps_same (judged_by b.past_pubrel S04 c.args.at c.args.decided (judged_by b.twice S03 c.args.at c.args.decided (judged_by b.unopened S02 c.args.at c.args.decided (judged_by b.takes_busy S01 c.args.at c.args.decided m)))))))
