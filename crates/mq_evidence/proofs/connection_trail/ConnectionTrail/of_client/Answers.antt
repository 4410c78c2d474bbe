use Rattle.std.proofs.Common.{ap, Some}
use Rattle.mq_rules.specs.declared.role.Role.TheVariants.{Client}
use Rattle.mq_evidence.specs.ConnectionTrails.{latest_connection}
use Rattle.mq_evidence.proofs.connection_trail.ConnectionTrail.of_client.Goals as goal

pub returns-in-C03 : goal.returns-in-C03
returns-in-C03 c = rw c.in-C03.is (λ past is hearing. ap (λ x. Some x) (c.connect_sent.ensures Client (latest_connection past) is))

pub returns-in-C11 : goal.returns-in-C11
returns-in-C11 c = rw c.in-C11.is (λ past is hearing. ap (λ x. Some x) (c.disconnect.ensures Client (latest_connection past) is))

pub returns-in-C13 : goal.returns-in-C13
returns-in-C13 c = rw c.in-C13.is (λ past is hearing. ap (λ x. Some x) (c.connack.ensures Client (latest_connection past) is))

pub returns-in-C14 : goal.returns-in-C14
returns-in-C14 c = rw c.in-C14.is (λ past is hearing. ap (λ x. Some x) (c.size.ensures Client (latest_connection past) is))

pub returns-in-C15 : goal.returns-in-C15
returns-in-C15 c = rw c.in-C15.is (λ past is hearing. ap (λ x. Some x) (c.alias.ensures Client (latest_connection past) is))

pub returns-in-C17 : goal.returns-in-C17
returns-in-C17 c = rw c.in-C17.is (λ past is hearing. ap (λ x. Some x) (c.qos.ensures Client (latest_connection past) is))

pub returns-in-C20 : goal.returns-in-C20
returns-in-C20 c = rw c.in-C20.is (λ past is hearing. ap (λ x. Some x) (c.expiry.ensures Client (latest_connection past) is))

pub returns-in-C23 : goal.returns-in-C23
returns-in-C23 c = rw c.in-C23.is (λ past is hearing. ap (λ x. Some x) (c.last.ensures Client (latest_connection past) is))

pub returns-in-F01 : goal.returns-in-F01
returns-in-F01 c = rw c.in-F01.is (λ past is hearing. ap (λ x. Some x) (c.connack-in-F01.ensures Client (latest_connection past) is))

pub returns-in-F02 : goal.returns-in-F02
returns-in-F02 c = rw c.in-F02.is (λ past is hearing. ap (λ x. Some x) (c.connack-in-F02.ensures Client (latest_connection past) is))

pub returns-in-F03 : goal.returns-in-F03
returns-in-F03 c = rw c.in-F03.is (λ past is hearing. ap (λ x. Some x) (c.connack-in-F03.ensures Client (latest_connection past) is))

pub returns-in-F04 : goal.returns-in-F04
returns-in-F04 c = rw c.in-F04.is (λ past is hearing. ap (λ x. Some x) (c.connack-in-F04.ensures Client (latest_connection past) is))

pub returns-in-A01 : goal.returns-in-A01
returns-in-A01 c = rw c.in-A01.is (λ past is hearing. ap (λ x. Some x) (c.connect.ensures Client (latest_connection past) is))

pub returns-in-A02 : goal.returns-in-A02
returns-in-A02 c = rw c.in-A02.is (λ past is hearing. ap (λ x. Some x) (c.connect-in-A02.ensures Client (latest_connection past) is))

pub returns-in-A03 : goal.returns-in-A03
returns-in-A03 c = rw c.in-A03.is (λ past is hearing. ap (λ x. Some x) (c.connect-in-A03.ensures Client (latest_connection past) is))

pub returns-in-K01 : goal.returns-in-K01
returns-in-K01 c = rw c.in-K01.is (λ past is hearing. ap (λ x. Some x) (c.of_client.ensures c.args.note.now past hearing))
