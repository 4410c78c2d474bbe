use Rattle.std.specs.Io.KnownBytes.{prepend_known}
use Rattle.mq_tasks.specs.Converting.{IsConvertible}
use Rattle.mq_host.specs.Streams.{stream}
use Rattle.mq_tasks.proofs.BeginningLaws.{hinted_by_start, rejoined}
use Rattle.mq_tasks.proofs.ConvertingLaws.{done_kept, fails_kept, source_is_refused}
use Rattle.mq_tasks.proofs.ProgramLemmas.{known_kept}
use Rattle.mq_tasks.proofs.converting.convert_source.Goals as goal

pub returns-in-Ok-clause-passed : goal.returns-in-Ok-clause-passed
returns-in-Ok-clause-passed g c = λ e.
    known_kept (g.R.Read.remaining c.args.log) (prepend_known c.as_slice-start.result.now (g.R.Read.remaining c.read_start.new.reader)) IsConvertible
    (rejoined _ _ _ _ c.as_slice-start.ensures.value c.in-Ok.ensures.taken) (c.convert_from.ensures.passed e)

pub returns-in-Ok-clause-refused : goal.returns-in-Ok-clause-refused
returns-in-Ok-clause-refused g c = λ e.
    let refused = c.convert_from.ensures.refused e in
    source_is_refused (g.R.Read.remaining c.args.log) (prepend_known c.as_slice-start.result.now (g.R.Read.remaining c.read_start.new.reader)) refused.0 refused.1
    (g.W.Write.contents c.args.output.now) (g.W.Write.contents c.convert_from.new.output)
    (stream g.E.ErrorStream.contents g.E.ErrorStream.has_failed c.args.error.now c.convert_from.new.error)
    (rejoined _ _ _ _ c.as_slice-start.ensures.value c.in-Ok.ensures.taken) refused.2
    (hinted_by_start (g.R.Read.remaining c.args.log) (g.R.Read.remaining c.read_start.new.reader) c.in-Ok.start.items c.as_slice-start.result.now _
    c.as_slice-start.ensures.value c.in-Ok.ensures.taken c.in-Ok.ensures.enough (c.convert_from.ensures.hinted e))

pub returns-in-Ok-clause-failed : goal.returns-in-Ok-clause-failed
returns-in-Ok-clause-failed g c = λ e.
    fails_kept (g.H.Host.gives c.args.host.now) c.args.place.now (g.R.Read.remaining c.args.log)
    (prepend_known c.as_slice-start.result.now (g.R.Read.remaining c.read_start.new.reader)) c.args.target.path.now
    (g.W.Output.is_closed c.convert_from.new.output) (g.W.Write.contents c.args.output.now) (g.W.Write.contents c.convert_from.new.output)
    (stream g.E.ErrorStream.contents g.E.ErrorStream.has_failed c.args.error.now c.convert_from.new.error)
    (rejoined _ _ _ _ c.as_slice-start.ensures.value c.in-Ok.ensures.taken) (c.convert_from.ensures.failed e)

pub returns-in-Ok-clause-done : goal.returns-in-Ok-clause-done
returns-in-Ok-clause-done g c = λ begun.
    done_kept (g.R.Read.remaining c.args.log) (prepend_known c.as_slice-start.result.now (g.R.Read.remaining c.read_start.new.reader)) c.args.target.path.now c.args.target.force
    c.convert_from.result (g.H.Host.did c.convert_from.new.host)
    (rejoined _ _ _ _ c.as_slice-start.ensures.value c.in-Ok.ensures.taken) (c.convert_from.ensures.done begun)
