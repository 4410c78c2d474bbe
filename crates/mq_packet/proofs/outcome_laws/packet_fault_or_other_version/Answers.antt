-- A first byte and a body come to one thing, of three.
use Rattle.mq_packet.proofs.OutcomeLaws.{some_outcome, one_packet, one_fault, one_version, no_fault, no_version, not_both}
use Rattle.mq_packet.proofs.outcome_laws.packet_fault_or_other_version.Goals as goal

pub returns-clause-some : goal.returns-clause-some
returns-clause-some c = some_outcome

pub returns-clause-one_packet : goal.returns-clause-one_packet
returns-clause-one_packet c = λ first body entry other known. one_packet first body known entry other

pub returns-clause-one_fault : goal.returns-clause-one_fault
returns-clause-one_fault c = λ first body at place rule other known. one_fault first body known at place rule other

pub returns-clause-one_version : goal.returns-clause-one_version
returns-clause-one_version c = λ first body version other known. one_version first body known version other

pub returns-clause-no_fault : goal.returns-clause-no_fault
returns-clause-no_fault c = λ first body entry at rule known. no_fault first body known entry at rule

pub returns-clause-no_version : goal.returns-clause-no_version
returns-clause-no_version c = λ first body entry version known. no_version first body known entry version

pub returns-clause-not_both : goal.returns-clause-not_both
returns-clause-not_both c = λ first body at rule version known. not_both first body known at rule version
