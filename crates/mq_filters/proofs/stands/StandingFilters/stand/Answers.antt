use Rattle.std.proofs.Common.{not, sym, ap, ◌∙◌}
use Rattle.mq_topic.specs.Levels.{is_name}
use Rattle.mq_filters.specs.Patterning.{pattern_of, knows}
use Rattle.mq_filters.proofs.PatternLaws.{all-more}
use Rattle.mq_filters.proofs.stands.StandingFilters.stand.Goals as goal

pub invariant_of-self : goal.invariant_of-self
invariant_of-self c =
    let split = c.self.invariant.0 in
    ((c.raise.ensures.all is_name (sym c.check_name.ensures ∙ c.if-check_name.true) split.0, split.1, c.raise.ensures.unique split.2), c.self.invariant.1)

pub invariant_of-self-2 : goal.invariant_of-self-2
invariant_of-self-2 c =
    let split = c.self.invariant.0 in
    let kept = c.self.invariant.1 in
    let known = all-more (λ f. knows c.self.inside.patterns (pattern_of f)) (λ f. knows c.add.new.self (pattern_of f)) (λ f. c.add.ensures.kept (pattern_of f)) c.self.inside.wild.entries kept.1 in (
      (split.0, c.raise-2.ensures.all (λ f. not (is_name f)) (ap not (sym c.check_name.ensures ∙ c.if-check_name.false)) split.1, split.2),
      (c.raise-2.ensures.unique kept.0, c.raise-2.ensures.all (λ f. knows c.add.new.self (pattern_of f)) c.add.ensures.added known),
    )
