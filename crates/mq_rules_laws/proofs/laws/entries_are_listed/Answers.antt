use Rattle.mq_rules.proofs.Exports.{entries-listed}
use Rattle.mq_rules_laws.proofs.laws.entries_are_listed.Goals as goal

pub returns : goal.returns
returns c = entries-listed
