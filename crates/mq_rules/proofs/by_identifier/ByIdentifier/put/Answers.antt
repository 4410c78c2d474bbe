use Rattle.std.proofs.Common.{◌∙◌, ap, set, sym}
use Rattle.mq_rules.specs.ByIdentifier.{HasPlace}
use Rattle.mq_rules.proofs.ByIdentifierLaws.{kept-put, page_at-is, place-page, value_at-set}
use Rattle.mq_rules.proofs.by_identifier.ByIdentifier.put.Goals as goal

pub returns-clause-put : goal.returns-clause-put
returns-clause-put g c =
    let pages = c.args.self.now.pages.items in
    let page = c.page_of.result in
    let slot = c.slot_of.result in
    let there : HasPlace pages page slot = rw (c.page_of.ensures, c.slot_of.ensures) c.requires in
    let same = page_at-is pages page c.index_mut.result.now (place-page pages page slot there) c.index_mut.ensures.value in
    kept-put c.args.self.now _ c.args.identifier page slot c.args.value c.page_of.ensures c.slot_of.ensures
    (value_at-set pages page slot c.args.value c.put.new.self there (c.put.ensures ∙ ap (λ slots. set slots slot c.args.value) (sym same)))
