use Rattle.std.specs.Prelude.{IfOk}
use Rattle.std.proofs.Common.{◌≡◌, ℕ, List, [], ◌∙◌, ap, subst, sym}
use Rattle.std.proofs.lemmas.Result.{err_from_is_err_and}
use Rattle.mq_rules.specs.Notes.{tested_by}
use Rattle.mq_choice.specs.Choices.{in_choice, wants_further}
use Rattle.mq_judge.specs.declared.judge.Judge.{Judge}
use Rattle.mq_judge.specs.declared.telling.Telling.{Telling}
use Rattle.mq_judge.specs.Judging.{is_counting, Finishes, Follows}
use Rattle.mq_judge.proofs.RunnerLaws.{judge-finishes, run-stopped}
use Rattle.mq_judge.proofs.TellingLaws.{further-all, told-nothing, told-all, told-before, judge-fed-all, judge-fed-before}
use Rattle.mq_judge.proofs.runner.judge_telling.Given as given
use Rattle.mq_judge.proofs.runner.judge_telling.Goals as goal

abbrev judge_of : (g : given.Over) → Telling g.row.K.Denot → Judge
judge_of g telling = telling.judge

pub feed_log-requires-clause-follows : goal.feed_log-requires-clause-follows
feed_log-requires-clause-follows g c = (
  subst (λ (judge : Judge). Follows judge []) (sym c.new-telling.ensures) c.new-judge.ensures.follows,
  told-nothing g.K.Before.further g.K.Before.told (g.P.Progress.told c.args.progress.now) c.requires.told,
  ap is_counting c.new-telling.ensures ∙ c.new-judge.ensures.counts ∙ sym c.requires.counting,
  ap (λ (judge : Judge). judge.further) c.new-telling.ensures ∙ c.new-judge.ensures.further ∙ c.options.ensures.further ∙ c.further.ensures ∙ sym c.requires.further,
)

pub returns-in_err-feed_log-clause-judges : goal.returns-in_err-feed_log-clause-judges
returns-in_err-feed_log-clause-judges g c =
    let p = err_from_is_err_and c.from_residual.result c.from_residual.ensures.1 in
    let stopped = run-stopped _ (judge-fed-before (judge_of g) g.K.Before.further g.K.Before.told g.K.Before.counting g.P.Progress.told _ c.in_err-feed_log.ensures.some)
    (ap (λ (judge : Judge). judge.limit) c.new-telling.ensures ∙ c.new-judge.ensures.limit ∙ c.options.ensures.limit) in
    rw (p.1, p.2) stopped

pub returns-in_err-feed_log-clause-told : goal.returns-in_err-feed_log-clause-told
returns-in_err-feed_log-clause-told g c =
    let p = err_from_is_err_and c.from_residual.result c.from_residual.ensures.1 in
    rw (p.1, p.2) (told-before (judge_of g) g.K.Before.further g.K.Before.told g.K.Before.counting g.P.Progress.told _ c.in_err-feed_log.ensures.some)

pub returns-clause-judges : goal.returns-clause-judges
returns-clause-judges g c =
    let Finished : Judge → Type 0 = λ judge. (log : List ℕ) → Follows judge log → Finishes judge.further (λ answer. answer.0.events) (λ answer. answer.0.faults) log c.finish_with_role.result in
    let Named : Judge → Type 0 = λ judge. (log : List ℕ) → Follows judge log → IfOk c.finish_with_role.result (λ answer. answer.1 ≡ (tested_by judge.further log).role) in
    let took = c.in_ok-feed_log.ensures.all in
    let further = further-all (judge_of g) g.K.Before.further g.K.Before.told g.K.Before.counting g.P.Progress.told took in
    judge-finishes (wants_further (in_choice c.args.choice)) (λ v. v.events) (λ v. v.faults) c.finish_with_role.result (judge-fed-all (judge_of g) g.K.Before.further g.K.Before.told g.K.Before.counting g.P.Progress.told took)
    (ap (λ (judge : Judge). judge.limit) c.new-telling.ensures ∙ c.new-judge.ensures.limit ∙ c.options.ensures.limit) (further ∙ c.requires.further)
    (subst Finished c.into_judge-judge.ensures c.finish_with_role.ensures.verdict) (subst Named c.into_judge-judge.ensures c.finish_with_role.ensures.role)

pub returns-clause-told : goal.returns-clause-told
returns-clause-told g c = told-all (judge_of g) g.K.Before.further g.K.Before.told g.K.Before.counting g.P.Progress.told c.finish_with_role.result c.in_ok-feed_log.ensures.all
