use Rattle.std.proofs.Common.{◌≡◌, ◌&&◌, ◌||◌, nat_le, sym, ap, ◌∙◌}
use Rattle.std.specs.List.{list_any}
use Rattle.std.specs.String.{string_bytes}
use Rattle.mq_topic.specs.Matching.{matches}
use Rattle.mq_filters.specs.Standings.{has_ceiling}
use Rattle.mq_filters.proofs.StandLaws.{split-any}
use Rattle.mq_filters.proofs.stands.StandingFilters.ceiling_by_all.Goals as goal

pub returns : goal.returns
returns c = λ qos.
    let topic = c.args.topic.now in
    let literal = c.self.inside.literal.entries in
    let wild = c.self.inside.wild.entries in
    c.higher.ensures qos
    ∙ ap (λ b. has_ceiling (nat_le qos) c.literal_ceiling-literal.result || b) (c.ceiling_among.ensures qos)
    ∙ ap (λ o. has_ceiling (nat_le qos) o || list_any (λ e. matches (string_bytes e.0) topic && nat_le qos e.1) wild) c.literal_ceiling-literal.ensures
    ∙ sym (split-any topic (nat_le qos) literal wild c.self.invariant.0)
    ∙ ap (list_any (λ s. matches s.filter topic && nat_le qos s.ceiling)) c.self.view_is
