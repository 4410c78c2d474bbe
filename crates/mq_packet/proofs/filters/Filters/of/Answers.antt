use Rattle.mq_packet.specs.Reading.{decode_fault}
use Rattle.mq_packet.proofs.FilterLaws.{in_memory, never_refused}
use Rattle.mq_packet.proofs.filters.Filters.of.Goals as goal

pub returns-in-Ok-clause-all : goal.returns-in-Ok-clause-all
returns-in-Ok-clause-all c = λ fs are parts. in_memory c.args.options c.args.bytes.now fs are.each parts

pub returns-in-Err-clause-all : goal.returns-in-Err-clause-all
returns-in-Err-clause-all c = λ fs are parts. never_refused c.args.options c.new.result fs (decode_fault c.in-Err.field-0) are (rw c.new.ensures parts) c.in-Err.ensures
