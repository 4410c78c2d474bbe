use Rattle.std.proofs.Common.{◌∙◌, arith, sym}
use Rattle.mq_rules.proofs.ByIdentifierLaws.{kept-place, kept-same, place-page}
use Rattle.mq_rules.proofs.by_identifier.ByIdentifier.remove.Goals as goal

-- what is kept has its place
pub put-requires : goal.put-requires
put-requires g c = kept-place c.args.self.now c.args.identifier (rw (← c.get-removed.ensures) (sym c.is_some.ensures ∙ c.if-is_some.true))

pub settle-requires : goal.settle-requires
settle-requires g c =
    let there = kept-place c.args.self.now c.args.identifier (rw (← c.get-removed.ensures) (sym c.is_some.ensures ∙ c.if-is_some.true)) in
    let within = place-page c.args.self.now.pages.items _ _ there in
    omega (arith, within, c.put.ensures.len, c.page_of.ensures)

pub returns-then-is_some-clause-rest : goal.returns-then-is_some-clause-rest
returns-then-is_some-clause-rest g c = λ i. kept-same c.put.new.self c.settle.new.self c.settle.ensures i ∙ c.put.ensures.put i
