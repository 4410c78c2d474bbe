use Rattle.std.proofs.Common.{sym, ap, ◌∙◌}
use Rattle.std.specs.FinMap as map
use Rattle.mq_rules.proofs.FaultKeyLaws.{len-of}
use Rattle.mq_rules.proofs.faults.Faults.len.Goals as goal

pub returns : goal.returns
returns c = c.len.ensures.len ∙ sym (len-of _ c.len.ensures.ordered) ∙ ap map.len c.self.view_is
