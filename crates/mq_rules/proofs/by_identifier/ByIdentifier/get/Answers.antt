use Rattle.std.proofs.Common.{◌∙◌, arith}
use Rattle.mq_rules.proofs.ByIdentifierLaws.{kept-past, kept-read}
use Rattle.mq_rules.proofs.by_identifier.ByIdentifier.get.Goals as goal

pub returns-then-page-len : goal.returns-then-page-len
returns-then-page-len g c = c.get.ensures ∙ kept-read c.args.self.now c.args.identifier c.page_of-page.result c.slot_of.result c.index.result.now c.page_of-page.ensures c.slot_of.ensures (omega (arith, c.args.self.now.pages.ok)) c.index.ensures

-- there is no such page
pub returns : goal.returns
returns g c = kept-past c.args.self.now c.args.identifier c.page_of-page.result c.page_of-page.ensures (omega (arith, c.args.self.now.pages.ok))
