use Rattle.std.proofs.Common.{sym, ap, ◌∙◌}
use Rattle.std.specs.FinMap as map
use Rattle.mq_rules.proofs.FaultKeyLaws.{entries-of}
use Rattle.mq_rules.proofs.faults.Faults.iter.Goals as goal

pub returns-clause-rest : goal.returns-clause-rest
returns-clause-rest c = c.iter.ensures.rest ∙ sym (entries-of _ c.iter.ensures.ordered) ∙ ap map.entries c.self.view_is
