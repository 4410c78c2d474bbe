use Rattle.std.proofs.Common.{Some, arith, ◌∙◌}
use Rattle.mq_rules.proofs.FaultKeyLaws.{on_err}
use Rattle.mq_rules.proofs.ByIdentifierLaws.{kept-all, kept-some}
use Rattle.mq_rules.proofs.by_identifier.ByIdentifier.insert_all.Goals as goal

-- all pages were gone over
pub returns-clause-ok : goal.returns-clause-ok
returns-clause-ok g c = kept-all c.args.self.now c.loop-page.self c.args.others.now c.loop-page.page (Some c.args.value) (omega (arith, c.args.others.now.pages.ok, c.deref-other-items.ensures.len)) c.loop-page.invariant

-- a page for which there is no memory stays as it was
pub returns-in_err-insert_page-clause-partial : goal.returns-in_err-insert_page-clause-partial
returns-in_err-insert_page-clause-partial g c =
    on_err c.from_residual.result _ (kept-some c.args.self.now c.insert_page.new.self c.args.others.now c.loop-page.page (Some c.args.value) (λ p s. c.in_err-insert_page.ensures.unchanged p s ∙ c.loop-page.invariant p s))
