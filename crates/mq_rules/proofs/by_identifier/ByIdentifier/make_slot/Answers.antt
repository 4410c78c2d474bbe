use Rattle.mq_rules.proofs.ByIdentifierLaws.{kept-same}
use Rattle.mq_rules.proofs.by_identifier.ByIdentifier.make_slot.Goals as goal

pub returns-clause-same : goal.returns-clause-same
returns-clause-same g c = kept-same c.args.self.now c.make_slots.new.self c.make_slots.ensures.same
