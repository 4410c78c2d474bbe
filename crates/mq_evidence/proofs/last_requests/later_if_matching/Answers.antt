use Rattle.std.proofs.Common.{◌&&◌, ◌||◌, nat_le, sym, ap, ◌∙◌}
use Rattle.mq_rules.proofs.Exports.{or_false}
use Rattle.mq_filters.specs.Standings.{has_ceiling}
use Rattle.mq_evidence.proofs.last_requests.later_if_matching.Goals as goal

pub returns-then-matches : goal.returns-then-matches
returns-then-matches c = λ first.
    c.later_of.ensures first
    ∙ ap (λ b. has_ceiling (nat_le first) c.args.best || (b && nat_le first c.args.position)) (sym (sym c.matches.ensures ∙ c.if-matches.true))

pub returns : goal.returns
returns c = λ first.
    sym (or_false (has_ceiling (nat_le first) c.args.best))
    ∙ ap (λ b. has_ceiling (nat_le first) c.args.best || (b && nat_le first c.args.position)) (sym (sym c.matches.ensures ∙ c.if-matches.false))
