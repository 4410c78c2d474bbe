use Rattle.std.proofs.Common.{◌&&◌, ◌||◌, nat_le, sym, ap, ◌∙◌}
use Rattle.std.specs.List.{list_any}
use Rattle.std.specs.String.{string_bytes}
use Rattle.mq_topic.specs.Matching.{matches}
use Rattle.mq_filters.specs.Standings.{has_ceiling}
use Rattle.mq_filters.proofs.StandLaws.{split-any}
use Rattle.mq_evidence.proofs.last_requests.LastRequests.last_for.Goals as goal

pub returns : goal.returns
returns c = λ first.
    let topic = c.args.topic.now in
    let literal = c.self.inside.literal.entries in
    let wild = c.self.inside.wild.entries in
    c.later_of.ensures first
    ∙ ap (λ b. has_ceiling (nat_le first) c.literal_position-literal.result || b) (c.position_among.ensures first)
    ∙ ap (λ o. has_ceiling (nat_le first) o || list_any (λ e. matches (string_bytes e.0) topic && nat_le first e.1) wild) c.literal_position-literal.ensures
    ∙ sym (split-any topic (nat_le first) literal wild c.self.invariant)
    ∙ ap (list_any (λ s. matches s.filter topic && nat_le first s.ceiling)) c.self.view_is
