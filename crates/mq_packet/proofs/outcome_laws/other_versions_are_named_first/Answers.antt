-- Another version is what such bytes are.
use Rattle.mq_packet.proofs.VersionLaws.{version_exactly, version_decoded}
use Rattle.mq_packet.proofs.outcome_laws.other_versions_are_named_first.Goals as goal

pub returns-clause-stands : goal.returns-clause-stands
returns-clause-stands c = version_exactly

pub returns-clause-decoded : goal.returns-clause-decoded
returns-clause-decoded c = version_decoded
