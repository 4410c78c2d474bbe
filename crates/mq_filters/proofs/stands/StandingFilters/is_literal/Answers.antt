use Rattle.std.proofs.Common.{◌≡◌, sym, ap, ◌∙◌, rules, length}
use Rattle.std.specs.List.{list_all}
use Rattle.mq_topic.specs.Levels.{is_name}
use Rattle.mq_filters.proofs.StandLaws.{all-literal}
use Rattle.mq_filters.proofs.stands.StandingFilters.is_literal.Goals as goal

pub returns : goal.returns
returns c = λ h.
    let none : length c.self.inside.wild.entries ≡ 0 = search (rules, h) in
    ap (list_all (λ s. is_name s.filter)) (sym c.self.view_is) ∙ all-literal c.self.inside.literal.entries c.self.inside.wild.entries none c.self.invariant.0.0
