use Rattle.std.proofs.Common.{sym, ap, ◌∙◌}
use Rattle.std.specs.FinMap as map
use Rattle.mq_rules.proofs.FaultKeyLaws.{get-entries_of}
use Rattle.mq_rules.proofs.faults.Faults.get.Goals as goal

pub returns : goal.returns
returns c = c.copied.ensures ∙ c.get.ensures.value ∙ sym (get-entries_of _ c.args.key) ∙ ap (λ m. map.get m c.args.key) c.self.view_is
