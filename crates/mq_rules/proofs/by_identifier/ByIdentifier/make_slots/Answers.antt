use Rattle.std.proofs.Common.{◌∙◌, ◌<◌, ◌≤◌, None, ap, arith, get_or, length, subst, sym}
use Rattle.std.proofs.lemmas.Result.{on_ok_weaker}
use Rattle.mq_rules.proofs.ByIdentifierLaws.{page_at-is, page_at-written, value_at-same}
use Rattle.mq_rules.proofs.by_identifier.ByIdentifier.make_slots.Goals as goal

pub returns-clause-there : goal.returns-clause-there
returns-clause-there g c =
    let pages = c.reuse.new.self.pages.items in
    let within : c.args.page < length pages = omega (arith, c.reuse.ensures.len, c.in_ok-make_pages.ensures.there) in
    on_ok_weaker c.reach.result (λ enough. subst (λ slots. c.args.count ≤ length slots) (sym (page_at-written pages c.args.page c.reach.new.self within)) enough) c.reach.ensures.there

pub returns-clause-same : goal.returns-clause-same
returns-clause-same g c =
    let pages = c.reuse.new.self.pages.items in
    let within : c.args.page < length pages = omega (arith, c.reuse.ensures.len, c.in_ok-make_pages.ensures.there) in
    let before = page_at-is pages c.args.page c.index_mut.result.now within c.index_mut.ensures.value in
    λ p s. value_at-same pages c.args.page c.reach.new.self within (λ t. c.reach.ensures.same t ∙ ap (λ slots. get_or slots t None) (sym before)) p s
    ∙ c.reuse.ensures.same p s
    ∙ c.make_pages.ensures.same p s
