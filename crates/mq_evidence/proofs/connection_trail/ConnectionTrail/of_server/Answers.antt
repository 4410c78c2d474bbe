use Rattle.std.proofs.Common.{ap, refl, Some}
use Rattle.mq_rules.specs.declared.role.Role.TheVariants.{Server}
use Rattle.mq_rules.specs.Moments.{newest}
use Rattle.mq_rules.specs.Under.{seen}
use Rattle.mq_evidence.specs.ConnectionTrails.{latest_connection}
use Rattle.mq_evidence.proofs.connection_trail.ConnectionTrail.of_server.Goals as goal

pub returns-in-C06 : goal.returns-in-C06
returns-in-C06 c = rw c.in-C06.is (λ past is accepted hearing. ap (λ x. Some x) (c.connack_sent.ensures Server (latest_connection past) is))

pub returns-in-C07 : goal.returns-in-C07
returns-in-C07 c = rw c.in-C07.is (λ past is accepted hearing. ap (λ x. Some x) (c.connect.ensures Server (latest_connection past) is))

pub returns-in-C08 : goal.returns-in-C08
returns-in-C08 c = rw c.in-C08.is (λ past is accepted hearing. ap (λ x. Some x) (c.earlier.ensures Server (newest (seen c.args.at c.args.note.now) past) refl accepted))

pub returns-in-C10 : goal.returns-in-C10
returns-in-C10 c = rw c.in-C10.is (λ past is accepted hearing. ap (λ x. Some x) (c.connect-in-C10.ensures Server (latest_connection past) is))

pub returns-in-C11 : goal.returns-in-C11
returns-in-C11 c = rw c.in-C11.is (λ past is accepted hearing. ap (λ x. Some x) (c.disconnect.ensures Server (latest_connection past) is))

pub returns-in-C12 : goal.returns-in-C12
returns-in-C12 c = rw c.in-C12.is (λ past is accepted hearing. ap (λ x. Some x) (c.refusal.ensures Server (latest_connection past) is))

pub returns-in-C14 : goal.returns-in-C14
returns-in-C14 c = rw c.in-C14.is (λ past is accepted hearing. ap (λ x. Some x) (c.size.ensures Server (latest_connection past) is))

pub returns-in-C15 : goal.returns-in-C15
returns-in-C15 c = rw c.in-C15.is (λ past is accepted hearing. ap (λ x. Some x) (c.alias.ensures Server (latest_connection past) is))

pub returns-in-C21 : goal.returns-in-C21
returns-in-C21 c = rw c.in-C21.is (λ past is accepted hearing. ap (λ x. Some x) (c.connect-in-C21.ensures Server (latest_connection past) is))

pub returns-in-C22 : goal.returns-in-C22
returns-in-C22 c = rw c.in-C22.is (λ past is accepted hearing. ap (λ x. Some x) (c.connect-in-C22.ensures Server (latest_connection past) is))

pub returns-in-C23 : goal.returns-in-C23
returns-in-C23 c = rw c.in-C23.is (λ past is accepted hearing. ap (λ x. Some x) (c.last.ensures Server (latest_connection past) is))

pub returns-in-F05 : goal.returns-in-F05
returns-in-F05 c = rw c.in-F05.is (λ past is accepted hearing. ap (λ x. Some x) (c.connect-in-F05.ensures Server (latest_connection past) is))

pub returns-in-F06 : goal.returns-in-F06
returns-in-F06 c = rw c.in-F06.is (λ past is accepted hearing. ap (λ x. Some x) (c.connect-in-F06.ensures Server (latest_connection past) is))

pub returns-in-A02 : goal.returns-in-A02
returns-in-A02 c = rw c.in-A02.is (λ past is accepted hearing. ap (λ x. Some x) (c.connect-in-A02.ensures Server (latest_connection past) is))

pub returns-in-A03 : goal.returns-in-A03
returns-in-A03 c = rw c.in-A03.is (λ past is accepted hearing. ap (λ x. Some x) (c.connect-in-A03.ensures Server (latest_connection past) is))

pub returns-in-K02 : goal.returns-in-K02
returns-in-K02 c = rw c.in-K02.is (λ past is accepted hearing. ap (λ x. Some x) (c.of_server.ensures c.args.note.now past hearing))
