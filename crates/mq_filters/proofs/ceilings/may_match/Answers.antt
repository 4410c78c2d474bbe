use Rattle.std.proofs.Common.{◌≡◌, ◌∙◌, ◌∷◌, ap, rules, sym}
use Rattle.mq_topic.specs.Matching.{matches}
use Rattle.mq_filters.specs.Standings.{is_near}
use Rattle.mq_filters.proofs.NearLaws.{near-matches, near-plus}
use Rattle.mq_filters.proofs.ceilings.may_match.Goals as goal

pub returns-in-Some-eq43-default : goal.returns-in-Some-eq43-default
returns-in-Some-eq43-default c = λ follows matched.
    let next = c.in-Some-eq43-default.next_filter.now in
    let is : c.args.filter.now ≡ 43 ∷ next = search rules in
    c.is_alike.ensures
    ∙ ap (is_near next) follows
    ∙ near-plus next c.args.topic.now (ap (λ f. matches f c.args.topic.now) (sym is) ∙ matched)

pub returns-in_default : goal.returns-in_default
returns-in_default c = λ follows matched. c.is_alike-in_default.ensures ∙ near-matches c.args.filter.now c.args.topic.now matched
