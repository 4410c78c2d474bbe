use Rattle.std.proofs.Common.{◌∙◌, ◌&&◌, ◌<◌, ℕ, Bool, None, Some, ap, cond, count_by, get_or, is_some, nat_eq, sym, arith}
use Rattle.std.proofs.lemmas.List.Sums.{count_by-le-length}
use Rattle.mq_rules.specs.ByIdentifier.{HasPlace}
use Rattle.mq_rules.proofs.ByIdentifierLaws.{page_at-is, place-page, some-used, value_at-fill}
use Rattle.mq_rules.proofs.by_identifier.ByIdentifier.insert_page.Goals as goal

pub returns-clause-ok : goal.returns-clause-ok
returns-clause-ok g c =
    let pages = c.make_slots.new.self.pages.items in
    let page = c.args.page in
    let test : ℕ → Bool = λ t. is_some {T = g.row.U.Denot} (get_or c.args.others.now t None) in
    let some : 0 < count_by (is_some {T = g.row.U.Denot}) c.args.others.now = some-used c.args.others.now (sym c.is_empty.ensures ∙ c.if-is_empty.false) in
    let there : HasPlace pages page 0 = omega (arith, c.in_ok-make_slots.ensures.there, some, count_by-le-length (is_some {T = g.row.U.Denot}) c.args.others.now, c.len.ensures) in
    let within = place-page pages page 0 there in
    let before = page_at-is pages page c.index_mut.result.now within c.index_mut.ensures.value in
    λ p s.
    value_at-fill pages page c.keep_where.new.self test (Some c.args.value) within
    (λ t. c.keep_where.ensures t ∙ ap (λ slots. cond (test t) (Some c.args.value) (get_or slots t None)) (sym before)) p s
    ∙ ap (cond (nat_eq page p && test s) (Some c.args.value)) (c.in_ok-make_slots.ensures.same p s)
