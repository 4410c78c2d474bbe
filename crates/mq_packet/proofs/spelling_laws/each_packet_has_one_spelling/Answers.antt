-- A packet is spelled by what is written of it, and by its short forms.
use Rattle.mq_packet.proofs.ShortFormLaws.{spelled_exactly, two_spellings, shortest}
use Rattle.mq_packet.proofs.spelling_laws.each_packet_has_one_spelling.Goals as goal

pub returns-clause-exactly : goal.returns-clause-exactly
returns-clause-exactly c = spelled_exactly

pub returns-clause-two : goal.returns-clause-two
returns-clause-two c = two_spellings

pub returns-clause-shortest : goal.returns-clause-shortest
returns-clause-shortest c = shortest
