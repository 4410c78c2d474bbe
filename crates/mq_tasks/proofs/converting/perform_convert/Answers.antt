use Rattle.std.proofs.Common.{◌∙◌}
use Rattle.std.specs.Io.KnownBytes.{prepend_known}
use Rattle.mq_tasks.proofs.BeginningLaws.{joined}
use Rattle.mq_tasks.proofs.ConvertingLaws.{reader_fails}
use Rattle.mq_tasks.proofs.converting.perform_convert.Goals as goal

pub returns-clause-failed : goal.returns-clause-failed
returns-clause-failed g c = λ e.
    reader_fails c.args.place.now (prepend_known c.args.start.now (g.R.Read.remaining c.args.input)) _ _
    (g.M.Write.contents c.args.made.now) (g.M.Write.contents c.convert_log.new.made)
    (g.W.Write.contents c.args.output.now) (g.W.Write.contents c.convert_log.new.output) (g.W.Output.is_closed c.convert_log.new.output) _ c.in-Err.failure c.of.result
    (rw c.new-log.ensures.reader (c.chain.ensures.bytes ∙ joined c.args.start.now (g.R.Read.remaining c.args.input)))
    c.of.ensures.failure c.in-Err.ensures.stops c.report.ensures.told
