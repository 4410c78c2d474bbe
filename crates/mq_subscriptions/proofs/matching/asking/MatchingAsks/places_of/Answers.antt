use Rattle.std.proofs.Common.{cond, ap, ◌∙◌}
use Rattle.mq_rules.specs.declared.rule.Rule.TheVariants.{B08, B09, P01, P02, R01}
use Rattle.mq_rules.specs.Rules.{same_rule}
use Rattle.mq_subscriptions.proofs.VerdictLaws.{matching-picked}
use Rattle.mq_subscriptions.proofs.matching.asking.MatchingAsks.places_of.Goals as goal

pub returns : goal.returns
returns c = λ tested taken past is judged.
    let p = c.args.places.now in
    let rule = c.args.rule in
    let last = c.pick-last.ensures ∙ ap (λ b. cond b p.unretained p.unshared) c.eq.ensures in
    let later = c.pick-later.ensures ∙ ap (λ b. cond b p.identified c.pick-last.result) c.eq-2.ensures ∙ ap (cond (same_rule rule P02) p.identified) last in
    let named = c.pick-named.ensures ∙ ap (λ b. cond b p.named c.pick-later.result) c.eq-3.ensures ∙ ap (cond (same_rule rule P01) p.named) later in
    let others = c.pick-others.ensures ∙ ap (λ b. cond b p.granted c.pick-named.result) c.eq-4.ensures ∙ ap (cond (same_rule rule B09) p.granted) named in
    c.pick.ensures ∙ ap (λ b. cond b p.matched c.pick-others.result) c.eq-5.ensures ∙ ap (cond (same_rule rule B08) p.matched) others
    ∙ matching-picked tested taken past p.matched p.granted p.named p.identified p.unretained p.unshared rule is.0 is.1 is.2 is.3 is.4 is.5 judged
