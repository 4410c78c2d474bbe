-- A new tracer keeps the log of no bytes.
use Rattle.std.proofs.Common.{refl}
use Rattle.mq_trace.proofs.TracingLaws.{keeps_nothing}
use Rattle.mq_trace.proofs.tracer.Tracer.new.Goals as goal

pub returns-clause-follows : goal.returns-clause-follows
returns-clause-follows c = record { open_yet = refl; keeps = keeps_nothing c.new.result c.new.ensures.between c.new.ensures.fresh }
