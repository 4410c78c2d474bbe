use Rattle.mq_trace.proofs.ReadBackLaws.{bit_read_back}
use Rattle.std.proofs.Common.{refl}
use Rattle.mq_trace.proofs.writer.laws.headers_are_read_back.Goals as goal

pub returns-clause-version : goal.returns-clause-version
returns-clause-version c = λ header rest. refl

pub returns-clause-server : goal.returns-clause-server
returns-clause-server c = λ header rest. bit_read_back header.server

pub returns-clause-releases : goal.returns-clause-releases
returns-clause-releases c = λ header rest. bit_read_back header.releases

pub returns-clause-after : goal.returns-clause-after
returns-clause-after c = λ header rest. refl
