use Rattle.std.proofs.Common.{inr}
use Rattle.std.specs.Io.KnownBytes.{prepend_known}
use Rattle.mq_host.specs.Streams.{stream}
use Rattle.mq_tasks.proofs.BeginningLaws.{hinted_by_start, rejoined}
use Rattle.mq_tasks.proofs.ProgramLemmas.{failed_kept, fails_kept, misused_kept, passed_kept, refused_kept, reported_kept}
use Rattle.mq_tasks.proofs.program.do_on.Goals as goal

pub returns-in-Ok-clause-hinted : goal.returns-in-Ok-clause-hinted
returns-in-Ok-clause-hinted g c = λ e.
    hinted_by_start (g.R.Read.remaining c.args.input) (g.R.Read.remaining c.read_start.new.reader) c.in-Ok.start.items c.as_slice.result.now _
    c.as_slice.ensures.value c.in-Ok.ensures.taken c.in-Ok.ensures.enough (c.do_from.ensures.hinted e)

pub returns-in-Ok-clause-passed : goal.returns-in-Ok-clause-passed
returns-in-Ok-clause-passed g c = λ e.
    passed_kept c.args.task.now (g.R.Read.remaining c.args.input) (prepend_known c.as_slice.result.now (g.R.Read.remaining c.read_start.new.reader))
    (rejoined _ _ _ _ c.as_slice.ensures.value c.in-Ok.ensures.taken) (c.do_from.ensures.passed e)

pub returns-in-Ok-clause-faulty : goal.returns-in-Ok-clause-faulty
returns-in-Ok-clause-faulty g c = λ e.
    failed_kept c.args.task.now (g.R.Read.remaining c.args.input) (prepend_known c.as_slice.result.now (g.R.Read.remaining c.read_start.new.reader))
    (rejoined _ _ _ _ c.as_slice.ensures.value c.in-Ok.ensures.taken) (c.do_from.ensures.faulty e)

pub returns-in-Ok-clause-reported : goal.returns-in-Ok-clause-reported
returns-in-Ok-clause-reported g c = λ e.
    reported_kept c.args.task.now (g.W.Write.contents c.args.output.now) (g.W.Write.contents c.do_from.new.output)
    (g.R.Read.remaining c.args.input) (prepend_known c.as_slice.result.now (g.R.Read.remaining c.read_start.new.reader))
    (rejoined _ _ _ _ c.as_slice.ensures.value c.in-Ok.ensures.taken) (c.do_from.ensures.reported e)

pub returns-in-Ok-clause-refused : goal.returns-in-Ok-clause-refused
returns-in-Ok-clause-refused g c = λ e.
    refused_kept c.args.task.now (g.W.Write.contents c.args.output.now) (g.W.Write.contents c.do_from.new.output)
    (g.R.Read.remaining c.args.input) (prepend_known c.as_slice.result.now (g.R.Read.remaining c.read_start.new.reader))
    (rejoined _ _ _ _ c.as_slice.ensures.value c.in-Ok.ensures.taken) (c.do_from.ensures.refused e)

pub returns-in-Ok-clause-misused : goal.returns-in-Ok-clause-misused
returns-in-Ok-clause-misused g c = λ e.
    misused_kept c.args.task.now (g.E.ErrorStream.contents c.args.error.now) (g.E.ErrorStream.contents c.do_from.new.error)
    (g.R.Read.remaining c.args.input) (prepend_known c.as_slice.result.now (g.R.Read.remaining c.read_start.new.reader))
    (rejoined _ _ _ _ c.as_slice.ensures.value c.in-Ok.ensures.taken) (c.do_from.ensures.misused e)

pub returns-in-Ok-clause-failed : goal.returns-in-Ok-clause-failed
returns-in-Ok-clause-failed g c = λ e.
    inr (fails_kept c.args.task.now c.args.place.now (g.R.Read.remaining c.args.input) (prepend_known c.as_slice.result.now (g.R.Read.remaining c.read_start.new.reader))
    (g.W.Write.contents c.args.output.now) (g.W.Write.contents c.do_from.new.output) (g.W.Output.is_closed c.do_from.new.output)
    (stream g.E.ErrorStream.contents g.E.ErrorStream.has_failed c.args.error.now c.do_from.new.error)
    (rejoined _ _ _ _ c.as_slice.ensures.value c.in-Ok.ensures.taken) (c.do_from.ensures.failed e))
