use Rattle.std.proofs.Common.{rules, ◌≡◌, None, sym, ap, ◌∙◌}
use Rattle.std.specs.FinMap as map
use Rattle.mq_rules.specs.FaultKeys.{first_from}
use Rattle.mq_rules.proofs.FaultKeyLaws.{entries-of, first_entry, position_of_first}
use Rattle.mq_rules.proofs.faults.Faults.first_from.Goals as goal

pub returns-in_err-key : goal.returns-in_err-key
returns-in_err-key c =
    let none : c.from_residual.result ≡ None = search rules in
    none ∙ sym (ap position_of_first c.in_err-key.ensures.steps.0) ∙ first_entry c.args.position _ _ (c.range.ensures.between tt)
    ∙ ap (first_from c.args.position) (sym (entries-of _ c.range.ensures.ordered) ∙ ap map.entries c.self.view_is)

pub returns : goal.returns
returns c =
    sym (ap position_of_first c.in_ok-key.ensures.steps) ∙ first_entry c.args.position _ _ (c.range.ensures.between tt)
    ∙ ap (first_from c.args.position) (sym (entries-of _ c.range.ensures.ordered) ∙ ap map.entries c.self.view_is)
