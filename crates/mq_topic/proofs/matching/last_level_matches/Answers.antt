use Rattle.std.proofs.Common.{◌||◌, sym, ap, ◌∙◌}
use Rattle.std.specs.Str.{bytes_eq}
use Rattle.mq_topic.specs.Matching.{is_plus}
use Rattle.mq_topic.proofs.MatchingLaws.{cut_by, uncut_by, match-last-cut, match-last-uncut}
use Rattle.mq_topic.proofs.matching.last_level_matches.Goals as goal

pub returns-in-Some : goal.returns-in-Some
returns-in-Some c = c.eq.ensures ∙ sym (match-last-cut c.args.level.now _ _ _ (cut_by _ c.in-Some.field-0.0 c.in-Some.field-0.1 c.in-Some.ensures.cases))

pub returns-then-eq : goal.returns-then-eq
returns-then-eq c =
    let hash = sym c.eq-in-None.ensures ∙ c.if-eq.true in
    c.if-eq.true ∙ sym (match-last-uncut c.args.level.now _ (uncut_by _ c.in-None.ensures.cases) ∙ ap (λ b. b || (is_plus c.args.level.now || bytes_eq c.args.level.now c.args.name.now)) hash)

pub returns-else-eq : goal.returns-else-eq
returns-else-eq c =
    let hash = sym c.eq-in-None.ensures ∙ c.if-eq.false in
    c.level_matches.ensures ∙ sym (match-last-uncut c.args.level.now _ (uncut_by _ c.in-None.ensures.cases) ∙ ap (λ b. b || (is_plus c.args.level.now || bytes_eq c.args.level.now c.args.name.now)) hash)
