use Rattle.std.proofs.Common.{inr}
use Rattle.mq_tasks.specs.Reviewing.{IsReviewed, RefusesPlan, plan_view}
use Rattle.mq_host.specs.Streams.{stream}
use Rattle.mq_tasks.proofs.BeginningLaws.{hinted_of_kept}
use Rattle.mq_tasks.proofs.ReviewingLemmas.{file_stops, for_file}
use Rattle.mq_tasks.proofs.reviewing.show_file.Goals as goal

pub returns-in-Ok-open-2-clause-passed : goal.returns-in-Ok-open-2-clause-passed
returns-in-Ok-open-2-clause-passed g c = λ e.
    for_file ((g.H.Host.gives c.args.host.now).file c.args.plan.path.now)
    (g.H.File.Read.remaining c.in-Ok.judged) (g.H.File.Read.remaining c.in-Ok-open.again) (g.H.File.Read.remaining c.in-Ok-open-2.shown)
    (λ first second third. IsReviewed (plan_view c.args.plan) first second third (g.W.Write.contents c.args.output.now) (g.W.Write.contents c.show_readers.new.output))
    c.in-Ok.ensures.bytes c.in-Ok-open.ensures.bytes c.in-Ok-open-2.ensures.bytes (c.show_readers.ensures.passed e)

pub returns-in-Ok-open-2-clause-refused : goal.returns-in-Ok-open-2-clause-refused
returns-in-Ok-open-2-clause-refused g c = λ e.
    for_file ((g.H.Host.gives c.args.host.now).file c.args.plan.path.now)
    (g.H.File.Read.remaining c.in-Ok.judged) (g.H.File.Read.remaining c.in-Ok-open.again) (g.H.File.Read.remaining c.in-Ok-open-2.shown)
    (λ first second third. RefusesPlan (plan_view c.args.plan) first second third (g.W.Write.contents c.args.output.now) (g.W.Write.contents c.show_readers.new.output))
    c.in-Ok.ensures.bytes c.in-Ok-open.ensures.bytes c.in-Ok-open-2.ensures.bytes (c.show_readers.ensures.refused e)

pub returns-in-Ok-open-2-clause-hinted : goal.returns-in-Ok-open-2-clause-hinted
returns-in-Ok-open-2-clause-hinted g c = λ e.
    hinted_of_kept ((g.H.Host.gives c.args.host.now).file c.args.plan.path.now) (g.H.File.Read.remaining c.in-Ok.judged) _
    c.in-Ok.ensures.bytes (c.show_readers.ensures.hinted e)

pub returns-in-Ok-open-2-clause-failed : goal.returns-in-Ok-open-2-clause-failed
returns-in-Ok-open-2-clause-failed g c = λ e.
    inr (file_stops (plan_view c.args.plan) ((g.H.Host.gives c.args.host.now).file c.args.plan.path.now)
    (g.H.File.Read.remaining c.in-Ok.judged) (g.H.File.Read.remaining c.in-Ok-open.again) (g.H.File.Read.remaining c.in-Ok-open-2.shown)
    (g.W.Write.contents c.args.output.now) (g.W.Write.contents c.show_readers.new.output) (g.W.Output.is_closed c.show_readers.new.output)
    (stream g.E.ErrorStream.contents g.E.ErrorStream.has_failed c.args.error.now c.show_readers.new.error)
    c.in-Ok.ensures.bytes c.in-Ok-open.ensures.bytes c.in-Ok-open-2.ensures.bytes (c.show_readers.ensures.failed e))
