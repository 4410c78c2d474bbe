use Rattle.std.proofs.Common.{sym, subst}
use Rattle.mq_trace.specs.Copying.{IsCopyOf}
use Rattle.mq_trace.proofs.CopiedLaws.{feed_err, feed_ok}
use Rattle.mq_trace.proofs.converting.ConverterFeedConvertFault.feed.Goals as goal

pub returns-clause-follows : goal.returns-clause-follows
returns-clause-follows g c = λ log had.
    feed_ok _ _ _ _ log _ c.copy.result had.1 (c.copy.ensures.copied log (subst (λ x. IsCopyOf x log) (sym c.self.view_is) had.0))

pub returns-clause-stops : goal.returns-clause-stops
returns-clause-stops g c = λ log had.
    feed_err _ _ _ log _ c.copy.result had.1 (c.copy.ensures.stops log (subst (λ x. IsCopyOf x log) (sym c.self.view_is) had.0))
