use Rattle.std.proofs.Common.{arith, sym, ◌∙◌}
use Rattle.mq_rules.specs.Moments.{since}
use Rattle.mq_rules.specs.Connections.{session}
use Rattle.mq_rules.specs.Releases.{brings, releases_message, ends}
use Rattle.mq_exchanges.specs.Burden.{brought_ids, released_ids}
use Rattle.mq_exchanges.specs.Releasing.{has_id}
use Rattle.mq_fates.proofs.Exports.{ids-more}
use Rattle.mq_exchanges.proofs.SizeLaws.{needed-brought}
use Rattle.mq_exchanges.proofs.releases.ReleasesFated.weight.Goals as goal

pub returns-clause-bounded : goal.returns-clause-bounded
unfolding brought_ids released_ids
returns-clause-bounded c = λ tested taken past u.
    let ms = session tested.role taken past in
    let s = c.args.self.now in
    let brought = ids-more (has_id s.brought) (λ i. since (brings i) (ends i) ms) (λ i here. sym (u.brought_are i) ∙ here) in
    let released = ids-more (has_id s.released) (λ i. since (releases_message i) (ends i) ms) (λ i here. sym (u.released_are i) ∙ here) in
    let due = ids-more (has_id s.due) (λ i. since (brings i) (ends i) ms) (λ i here. needed-brought i ms (sym (u.due_are i) ∙ here)) in
    omega (arith, c.saturating_add.ensures, c.saturating_add-2.ensures, c.len.ensures, c.len-2.ensures, c.len-3.ensures, brought, released, due)
