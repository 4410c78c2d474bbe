use Rattle.std.proofs.Common.{◌<◌, ◌≡◌, ◌&&◌, not, nat_eq, nat_lt, ap, arith, cond, sym, subst, ◌∙◌, Bool, ℕ}
use Rattle.std.specs.Prelude.{is_some}
use Rattle.mq_rules.specs.IdentifierCounts.{ids_where}
use Rattle.mq_rules.specs.KeptOrder.{value_under}
use Rattle.mq_rules.proofs.IdentifierCountLaws.{counted-others, under-kept}
use Rattle.mq_rules.proofs.by_identifier.counted.CountedByIdentifier.any_but.Goals as goal

-- the own value isn't one of the others
pub returns-then-contains : goal.returns-then-contains
returns-then-contains g c =
    let t = c.self.inside.table in
    let i = c.args.identifier in
    let lt : c.args.identifier < 65536 = omega (arith, c.ranges.identifier.fits) in
    subst (λ t. nat_lt 1 c.self.inside.count ≡ nat_lt 0 (ids_where (λ j. not (nat_eq i j) && is_some (value_under t j)))) c.self.view_is
    (counted-others t c.self.inside.count 1 i lt c.self.invariant (ap (λ (b : Bool). cond {A = ℕ} b 1 0) (sym c.if-contains.true ∙ c.contains.ensures ∙ ap (is_some {T = g.row.T.Denot}) (sym (under-kept t i lt)))))

pub returns : goal.returns
returns g c =
    let t = c.self.inside.table in
    let i = c.args.identifier in
    let lt : c.args.identifier < 65536 = omega (arith, c.ranges.identifier.fits) in
    subst (λ t. nat_lt 0 c.self.inside.count ≡ nat_lt 0 (ids_where (λ j. not (nat_eq i j) && is_some (value_under t j)))) c.self.view_is
    (counted-others t c.self.inside.count 0 i lt c.self.invariant (ap (λ (b : Bool). cond {A = ℕ} b 1 0) (sym c.if-contains.false ∙ c.contains.ensures ∙ ap (is_some {T = g.row.T.Denot}) (sym (under-kept t i lt)))))
