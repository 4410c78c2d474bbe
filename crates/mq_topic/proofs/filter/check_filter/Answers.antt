use Rattle.std.proofs.Common.{◌≡◌, true, Some, lit<, sym, ◌∙◌, rules}
use Rattle.std.proofs.lemmas.Str.Pattern.{split_once_first}
use Rattle.std.proofs.lemmas.Result.{err_from_is_err_and}
use Rattle.mq_topic.specs.Levels.{filter_fault, level_fault}
use Rattle.mq_topic.proofs.Cutting.{IsCut, first_fault-last, filter_fault-some, cut_good, cut_bad}
use Rattle.mq_topic.proofs.filter.check_filter.Goals as goal

pub returns-in_err-check_level : goal.returns-in_err-check_level
returns-in_err-check_level c =
    let p = err_from_is_err_and c.from_residual.result c.from_residual.ensures.1 in
    let s = split_once_first 47 c.loop-level.rest.now (Some (c.in-Some.level, c.in-Some.others)) c.in-Some.ensures.cases (lit< tt) in
    let cut : IsCut c.loop-level.rest.now c.in-Some.level.now c.in-Some.others.now = record { found = s.0; first = s.1; rest = s.2 } in
    rw (p.1, p.2) (filter_fault-some c.args.filter.now (sym c.is_empty.ensures ∙ c.if-is_empty.false) ∙ sym c.loop-level.invariant.0 ∙ cut_bad _ _ _ _ cut c.in_err-check_level.ensures)

pub loop-level-preserved : goal.loop-level-preserved
loop-level-preserved c =
    let s = split_once_first 47 c.loop-level.rest.now (Some (c.in-Some.level, c.in-Some.others)) c.in-Some.ensures.cases (lit< tt) in
    let cut : IsCut c.loop-level.rest.now c.in-Some.level.now c.in-Some.others.now = record { found = s.0; first = s.1; rest = s.2 } in
    (cut_good _ _ _ cut c.in_ok-check_level.ensures ∙ c.loop-level.invariant.0, search rules)

pub returns : goal.returns
returns c =
    let s = split_once_first 47 c.loop-level.rest.now c.split_once.result c.split_once.ensures.cases (lit< tt) in
    let last = first_fault-last c.loop-level.rest.now (rw c.in_default.is at s) in
    let whole : filter_fault c.args.filter.now ≡ level_fault c.loop-level.rest.now true = filter_fault-some c.args.filter.now (sym c.is_empty.ensures ∙ c.if-is_empty.false) ∙ sym c.loop-level.invariant.0 ∙ last in
    rw whole c.check_level-2.ensures
