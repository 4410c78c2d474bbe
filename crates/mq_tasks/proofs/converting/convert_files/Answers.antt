use Rattle.std.proofs.Common.{None, Some, inr}
use Rattle.mq_host.specs.Given.{bytes_at}
use Rattle.mq_host.specs.Streams.{stream}
use Rattle.mq_tasks.proofs.ConvertingLaws.{done_kept, named_fails, named_is_refused}
use Rattle.mq_tasks.proofs.converting.convert_files.Goals as goal

pub returns-in-Ok-clause-refused : goal.returns-in-Ok-clause-refused
returns-in-Ok-clause-refused g c = λ e. rw c.in-Some.is
    (named_is_refused (g.H.Host.gives c.args.host.now) (Some c.in-Some.path.now) (g.H.File.Read.remaining c.in-Ok.log)
    (g.W.Write.contents c.args.output.now) (g.W.Write.contents c.convert_source.new.output)
    (stream g.E.ErrorStream.contents g.E.ErrorStream.has_failed c.args.error.now c.convert_source.new.error)
    c.in-Ok.ensures.bytes (c.convert_source.ensures.refused e))

pub returns-in-Ok-clause-failed : goal.returns-in-Ok-clause-failed
returns-in-Ok-clause-failed g c = λ e. rw c.in-Some.is
    (inr (named_fails (g.H.Host.gives c.args.host.now) (Some c.in-Some.path.now) (g.H.File.Read.remaining c.in-Ok.log) c.args.files.made.now
    (g.W.Output.is_closed c.convert_source.new.output) (g.W.Write.contents c.args.output.now) (g.W.Write.contents c.convert_source.new.output)
    (stream g.E.ErrorStream.contents g.E.ErrorStream.has_failed c.args.error.now c.convert_source.new.error)
    c.in-Ok.ensures.bytes (c.convert_source.ensures.failed e)))

pub returns-in-None-clause-refused : goal.returns-in-None-clause-refused
returns-in-None-clause-refused g c = λ e. rw c.in-None.is
    (named_is_refused (g.H.Host.gives c.args.host.now) None (g.H.Stdin.Read.remaining c.input-log.result)
    (g.W.Write.contents c.args.output.now) (g.W.Write.contents c.convert_source-in-None.new.output)
    (stream g.E.ErrorStream.contents g.E.ErrorStream.has_failed c.args.error.now c.convert_source-in-None.new.error)
    c.input-log.ensures.bytes (c.convert_source-in-None.ensures.refused e))

pub returns-in-None-clause-failed : goal.returns-in-None-clause-failed
returns-in-None-clause-failed g c = λ e. rw c.in-None.is
    (inr (named_fails (g.H.Host.gives c.args.host.now) None (g.H.Stdin.Read.remaining c.input-log.result) c.args.files.made.now
    (g.W.Output.is_closed c.convert_source-in-None.new.output) (g.W.Write.contents c.args.output.now) (g.W.Write.contents c.convert_source-in-None.new.output)
    (stream g.E.ErrorStream.contents g.E.ErrorStream.has_failed c.args.error.now c.convert_source-in-None.new.error)
    c.input-log.ensures.bytes (c.convert_source-in-None.ensures.failed e)))

pub returns-in-Ok-clause-done : goal.returns-in-Ok-clause-done
returns-in-Ok-clause-done g c = λ begun. rw c.in-Some.is
    (done_kept (bytes_at (g.H.Host.gives c.args.host.now) (Some c.in-Some.path.now)) (g.H.File.Read.remaining c.in-Ok.log) c.args.files.made.now c.args.files.force
    c.convert_source.result (g.H.Host.did c.convert_source.new.host) c.in-Ok.ensures.bytes (c.convert_source.ensures.done begun))

pub returns-in-None-clause-done : goal.returns-in-None-clause-done
returns-in-None-clause-done g c = λ begun. rw c.in-None.is
    (done_kept (bytes_at (g.H.Host.gives c.args.host.now) None) (g.H.Stdin.Read.remaining c.input-log.result) c.args.files.made.now c.args.files.force
    c.convert_source-in-None.result (g.H.Host.did c.convert_source-in-None.new.host) c.input-log.ensures.bytes (c.convert_source-in-None.ensures.done begun))
