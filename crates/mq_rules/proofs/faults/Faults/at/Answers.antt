use Rattle.std.proofs.Common.{rules, sym, ap, ◌∙◌}
use Rattle.std.specs.FinMap as map
use Rattle.mq_rules.specs.FaultKeys.{faults_at}
use Rattle.mq_rules.proofs.FaultKeyLaws.{at_entries, entries-of}
use Rattle.mq_rules.proofs.faults.Faults.at.Goals as goal

pub returns-clause-rest : goal.returns-clause-rest
returns-clause-rest c =
    c.range.ensures.between (search rules) ∙ at_entries c.args.position _ _ _ c.new.ensures.start c.new.ensures.end
    ∙ ap (faults_at c.args.position) (sym (entries-of _ c.range.ensures.ordered) ∙ ap map.entries c.self.view_is)
