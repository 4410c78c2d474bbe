use Rattle.std.proofs.Common.{◌&&◌, nat_le, sym, ap, ◌∙◌}
use Rattle.mq_topic.specs.Matching.{matches}
use Rattle.mq_evidence.proofs.CeilingLaws.{any-beside}
use Rattle.mq_evidence.proofs.ceilings.position_if_any.Goals as goal

pub returns-then-any_matches : goal.returns-then-any_matches
returns-then-any_matches c = λ first.
    sym (any-beside (λ s. matches s.filter c.args.topic.now) (nat_le first c.args.position) c.args.filters.now ∙ ap (λ b. b && nat_le first c.args.position) (sym c.any_matches.ensures ∙ c.if-any_matches.true))

pub returns : goal.returns
returns c = λ first.
    sym (any-beside (λ s. matches s.filter c.args.topic.now) (nat_le first c.args.position) c.args.filters.now ∙ ap (λ b. b && nat_le first c.args.position) (sym c.any_matches.ensures ∙ c.if-any_matches.false))
