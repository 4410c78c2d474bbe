use Rattle.std.specs.Prelude.{IfOk, IfSome}
use Rattle.std.proofs.Common.{◌≡◌, ℕ, List, [], ◌∙◌, ap, subst, sym}
use Rattle.std.proofs.lemmas.Result.{err_from_is_err_and}
use Rattle.mq_rules.specs.declared.role.Further.{Further}
use Rattle.mq_rules.specs.Notes.{tested_by}
use Rattle.mq_choice.specs.Choices.{in_choice, wants_further}
use Rattle.mq_judge.specs.declared.judge.Judge.{Judge}
use Rattle.mq_judge.specs.declared.telling.Telling.{Telling}
use Rattle.mq_judge.specs.Judging.{is_counting, Finishes, Follows}
use Rattle.mq_judge.proofs.RunnerLaws.{judge-finishes, no-rows, run-stopped}
use Rattle.mq_judge.specs.Coverage.{coverage_of}
use Rattle.mq_judge.specs.Unjudged.{unjudged_of}
use Rattle.mq_trace.proofs.Exports.{whole-taken}
use Rattle.mq_judge.proofs.TellingLaws.{counting-all, further-all, told-nothing, told-all, told-before, judge-fed-all, judge-fed-before}
use Rattle.mq_judge.proofs.runner.cover_telling.Given as given
use Rattle.mq_judge.proofs.runner.cover_telling.Goals as goal

abbrev judge_of : (g : given.Over) → Telling g.row.K.Denot → Judge
judge_of g telling = telling.judge

pub feed_log-requires-clause-follows : goal.feed_log-requires-clause-follows
feed_log-requires-clause-follows g c = (
  subst (λ (judge : Judge). Follows judge []) (sym c.new-telling.ensures) c.counting-judge.ensures.follows,
  told-nothing g.K.Before.further g.K.Before.told (g.P.Progress.told c.args.progress.now) c.requires.told,
  ap is_counting c.new-telling.ensures ∙ c.counting-judge.ensures.counts ∙ sym c.requires.counting,
  ap (λ (judge : Judge). judge.further) c.new-telling.ensures ∙ c.counting-judge.ensures.further ∙ c.options.ensures.further ∙ c.further.ensures ∙ sym c.requires.further,
)

pub returns-in_err-feed_log-clause-judges : goal.returns-in_err-feed_log-clause-judges
returns-in_err-feed_log-clause-judges g c =
    let p = err_from_is_err_and c.from_residual.result c.from_residual.ensures.1 in
    let stopped = run-stopped _ (judge-fed-before (judge_of g) g.K.Before.further g.K.Before.told g.K.Before.counting g.P.Progress.told _ c.in_err-feed_log.ensures.some)
    (ap (λ (judge : Judge). judge.limit) c.new-telling.ensures ∙ c.counting-judge.ensures.limit ∙ c.options.ensures.limit) in
    rw (p.1, p.2) stopped

pub returns-in_err-feed_log-clause-told : goal.returns-in_err-feed_log-clause-told
returns-in_err-feed_log-clause-told g c =
    let p = err_from_is_err_and c.from_residual.result c.from_residual.ensures.1 in
    rw (p.1, p.2) (told-before (judge_of g) g.K.Before.further g.K.Before.told g.K.Before.counting g.P.Progress.told _ c.in_err-feed_log.ensures.some)

pub returns-in_err-feed_log-clause-rows : goal.returns-in_err-feed_log-clause-rows
returns-in_err-feed_log-clause-rows g c =
    let p = err_from_is_err_and c.from_residual.result c.from_residual.ensures.1 in
    no-rows _ c.from_residual.result _ _ p.1

pub returns-in_err-feed_log-clause-gaps : goal.returns-in_err-feed_log-clause-gaps
returns-in_err-feed_log-clause-gaps g c =
    let p = err_from_is_err_and c.from_residual.result c.from_residual.ensures.1 in
    no-rows _ c.from_residual.result _ _ p.1

pub returns-clause-judges : goal.returns-clause-judges
returns-clause-judges g c =
    let Finished : Judge → Type 0 = λ judge. (log : List ℕ) → Follows judge log → Finishes judge.further (λ answer. answer.0.verdict.events) (λ answer. answer.0.verdict.faults) log c.finish_covered.result in
    let Named : Judge → Type 0 = λ judge. (log : List ℕ) → Follows judge log → IfOk c.finish_covered.result (λ answer. answer.1 ≡ (tested_by judge.further log).role) in
    let took = c.in_ok-feed_log.ensures.all in
    let further = further-all (judge_of g) g.K.Before.further g.K.Before.told g.K.Before.counting g.P.Progress.told took in
    judge-finishes (wants_further (in_choice c.args.choice)) (λ v. v.verdict.events) (λ v. v.verdict.faults) c.finish_covered.result (judge-fed-all (judge_of g) g.K.Before.further g.K.Before.told g.K.Before.counting g.P.Progress.told took)
    (ap (λ (judge : Judge). judge.limit) c.new-telling.ensures ∙ c.counting-judge.ensures.limit ∙ c.options.ensures.limit) (further ∙ c.requires.further)
    (subst Finished c.into_judge-judge.ensures c.finish_covered.ensures.verdict) (subst Named c.into_judge-judge.ensures c.finish_covered.ensures.role)

pub returns-clause-told : goal.returns-clause-told
returns-clause-told g c = told-all (judge_of g) g.K.Before.further g.K.Before.told g.K.Before.counting g.P.Progress.told c.finish_covered.result c.in_ok-feed_log.ensures.all

pub returns-clause-rows : goal.returns-clause-rows
returns-clause-rows g c =
    let took = c.in_ok-feed_log.ensures.all in
    let counts = counting-all (judge_of g) g.K.Before.further g.K.Before.told g.K.Before.counting g.P.Progress.told took in
    let further = further-all (judge_of g) g.K.Before.further g.K.Before.told g.K.Before.counting g.P.Progress.told took in
    let found = c.finish_covered.ensures.rows took.log (ap is_counting c.into_judge-judge.ensures ∙ counts ∙ c.requires.counting)
    (ap (λ (judge : Judge). judge.further) c.into_judge-judge.ensures ∙ further ∙ c.requires.further)
    (subst (λ (judge : Judge). Follows judge took.log) (sym c.into_judge-judge.ensures) took.followed.0) in
    whole-taken _ _ took.log (λ log. IfOk c.finish_covered.result (λ answer. IfSome answer.0.rows (λ rows. rows.items ≡ coverage_of (in_choice c.args.choice) log))) took.consumed took.ended found

pub returns-clause-gaps : goal.returns-clause-gaps
returns-clause-gaps g c =
    let took = c.in_ok-feed_log.ensures.all in
    let counts = counting-all (judge_of g) g.K.Before.further g.K.Before.told g.K.Before.counting g.P.Progress.told took in
    let further = further-all (judge_of g) g.K.Before.further g.K.Before.told g.K.Before.counting g.P.Progress.told took in
    let found = c.finish_covered.ensures.gaps took.log (ap is_counting c.into_judge-judge.ensures ∙ counts ∙ c.requires.counting)
    (subst (λ (judge : Judge). Follows judge took.log) (sym c.into_judge-judge.ensures) took.followed.0) in
    whole-taken _ _ took.log (λ log. IfOk c.finish_covered.result (λ answer. IfSome answer.0.gaps (λ gaps. gaps.items ≡ unjudged_of (wants_further (in_choice c.args.choice)) log))) took.consumed took.ended
    (subst (λ (b : Further). IfOk c.finish_covered.result (λ answer. IfSome answer.0.gaps (λ gaps. gaps.items ≡ unjudged_of b took.log)))
    (ap (λ (judge : Judge). judge.further) c.into_judge-judge.ensures ∙ further ∙ c.requires.further) found)
