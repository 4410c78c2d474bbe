use Rattle.std.proofs.Common.{cond, ap, ◌∙◌}
use Rattle.mq_rules.specs.declared.rule.Rule.TheVariants.{S01, S02, S03}
use Rattle.mq_rules.specs.Rules.{same_rule}
use Rattle.mq_inflight.proofs.TriedLaws.{at-once-picked}
use Rattle.mq_inflight.proofs.inflight.asking.AtOncePlaces.places.Goals as goal

pub returns : goal.returns
returns c = λ tested taken past is judged.
    let p = c.args.self.now in
    let rule = c.args.rule in
    c.pick.ensures
    ∙ ap (λ b. cond b p.taking c.pick-others.result) c.eq-4.ensures
    ∙ ap (cond (same_rule rule S01) p.taking) (c.pick-others.ensures
    ∙ ap (λ b. cond b p.resending c.pick-later.result) c.eq-3.ensures
    ∙ ap (cond (same_rule rule S02) p.resending) (c.pick-later.ensures
    ∙ ap (λ b. cond b p.repeating c.pick-last.result) c.eq-2.ensures
    ∙ ap (cond (same_rule rule S03) p.repeating) (c.pick-last.ensures
    ∙ ap (λ b. cond b p.released p.ordering) c.eq.ensures)))
    ∙ at-once-picked p tested taken past rule is judged
