use Rattle.std.proofs.Common.{None, ◌∙◌}
use Rattle.std.specs.Io.KnownBytes.{prepend_known}
use Rattle.mq_host.specs.Streams.{misuse_line, stream}
use Rattle.mq_tasks.proofs.BeginningLaws.{joined}
use Rattle.mq_tasks.proofs.MessageLaws.{misuse_fails}
use Rattle.mq_tasks.proofs.ProgramLemmas.{misnamed_in, misuse_stops}
use Rattle.mq_tasks.proofs.program.do_from.Goals as goal

pub returns-clause-failed : goal.returns-clause-failed
returns-clause-failed g c = λ e.
    let log = prepend_known c.args.start.now (g.R.Read.remaining c.args.input) in
    let old = g.W.Write.contents c.args.output.now in
    let new = g.W.Write.contents c.attempt.new.output in
    let error = stream g.E.ErrorStream.contents g.E.ErrorStream.has_failed c.args.error.now c.report-in-Err-Misused.new.error in
    let stops = rw c.in-Err-Misused.field-0-is at c.in-Err-Misused.ensures.stops in
    let misnamed = misnamed_in c.args.task.now _ log (misuse_line c.in-Err-Misused.misuse) stops.0
    (rw c.new-log.ensures.reader (c.chain.ensures.bytes ∙ joined c.args.start.now (g.R.Read.remaining c.args.input))) in
    misuse_stops c.args.task.now c.args.place.now log None old new _ error
    (misuse_fails c.args.task.now (misuse_line c.in-Err-Misused.misuse) log None old new error misnamed stops.1 (c.report-in-Err-Misused.ensures.failed e))
