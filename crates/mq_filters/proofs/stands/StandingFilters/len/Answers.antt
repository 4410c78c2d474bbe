use Rattle.std.proofs.Common.{◌∙◌, sym, ap, arith, length}
use Rattle.std.specs.Str.{bytes_eq}
use Rattle.std.specs.List.{list_any}
use Rattle.mq_filters.proofs.StandLaws.{different, all-length}
use Rattle.mq_filters.proofs.stands.StandingFilters.len.Goals as goal

pub returns-clause-size : goal.returns-clause-size
returns-clause-size c =
    let all = all-length c.self.inside.literal.entries c.self.inside.wild.entries in
    let same = ap length c.self.view_is in
    omega (arith, all, same, c.len.ensures.len, c.len-2.ensures.len, c.len.ensures.small, c.len-2.ensures.small, c.saturating_add.ensures)

pub returns-clause-different : goal.returns-clause-different
returns-clause-different c = λ filters within.
    let le = different c.self.inside.literal.entries c.self.inside.wild.entries filters c.self.invariant.0 c.len-2.ensures.unique (λ f here. within f (ap (list_any (λ s. bytes_eq f s.filter)) (sym c.self.view_is) ∙ here)) in
    omega (arith, le, c.len.ensures.len, c.len-2.ensures.len, c.saturating_add.ensures)
