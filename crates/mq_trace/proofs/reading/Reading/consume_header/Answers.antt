use Rattle.std.proofs.Common.{sym, ◌∙◌}
use Rattle.mq_trace.proofs.StopLaws.{header_offset}
use Rattle.mq_trace.proofs.reading.Reading.consume_header.Goals as goal

pub returns-in-Some-clause-offset : goal.returns-in-Some-clause-offset
returns-in-Some-clause-offset c = header_offset c.args.self.now.at c.args.byte c.in-Some.refusal (sym c.header_refusal.ensures ∙ c.in-Some.is)
