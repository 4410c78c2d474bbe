use Rattle.std.proofs.Common.{inr}
use Rattle.std.specs.Io.KnownBytes.{prepend_known}
use Rattle.mq_tasks.specs.Reviewing.{IsReviewed, RefusesPlan, plan_view}
use Rattle.mq_host.specs.Streams.{stream}
use Rattle.mq_tasks.proofs.BeginningLaws.{hinted_by_start, rejoined}
use Rattle.mq_tasks.proofs.InquiringLemmas.{releases_by_start}
use Rattle.mq_tasks.proofs.ReviewingLemmas.{rejoin_all, stops_rejoined}
use Rattle.mq_tasks.proofs.reviewing.show_readers.Goals as goal

pub returns-in-Ok-clause-refused : goal.returns-in-Ok-clause-refused
returns-in-Ok-clause-refused g c = λ e.
    rejoin_all (g.R.Read.remaining c.args.judged) _ (g.R.Read.remaining c.args.again) (g.R.Read.remaining c.args.shown)
    (λ first second third. RefusesPlan (plan_view c.args.plan) first second third (g.W.Write.contents c.args.output.now) (g.W.Write.contents c.show_on.new.output))
    (rejoined (g.R.Read.remaining c.args.judged) (g.R.Read.remaining c.read_start.new.reader) c.in-Ok.start.items c.as_slice.result.now
    c.as_slice.ensures.value c.in-Ok.ensures.taken)
    (c.show_on.ensures.refused e (releases_by_start (g.R.Read.remaining c.read_start.new.reader) c.in-Ok.start.items c.as_slice.result.now
    c.as_slice.ensures.value c.in-Ok.ensures.enough))

pub returns-in-Ok-clause-hinted : goal.returns-in-Ok-clause-hinted
returns-in-Ok-clause-hinted g c = λ e.
    hinted_by_start (g.R.Read.remaining c.args.judged) (g.R.Read.remaining c.read_start.new.reader) c.in-Ok.start.items c.as_slice.result.now _
    c.as_slice.ensures.value c.in-Ok.ensures.taken c.in-Ok.ensures.enough (c.show_on.ensures.hinted e)

pub returns-in-Ok-clause-passed : goal.returns-in-Ok-clause-passed
returns-in-Ok-clause-passed g c = λ e.
    rejoin_all (g.R.Read.remaining c.args.judged) _ (g.R.Read.remaining c.args.again) (g.R.Read.remaining c.args.shown)
    (λ first second third. IsReviewed (plan_view c.args.plan) first second third (g.W.Write.contents c.args.output.now) (g.W.Write.contents c.show_on.new.output))
    (rejoined (g.R.Read.remaining c.args.judged) (g.R.Read.remaining c.read_start.new.reader) c.in-Ok.start.items c.as_slice.result.now
    c.as_slice.ensures.value c.in-Ok.ensures.taken)
    (c.show_on.ensures.passed e (releases_by_start (g.R.Read.remaining c.read_start.new.reader) c.in-Ok.start.items c.as_slice.result.now
    c.as_slice.ensures.value c.in-Ok.ensures.enough))

pub returns-in-Ok-clause-failed : goal.returns-in-Ok-clause-failed
returns-in-Ok-clause-failed g c = λ e.
    inr (stops_rejoined (plan_view c.args.plan) (g.R.Read.remaining c.args.judged) (prepend_known c.as_slice.result.now (g.R.Read.remaining c.read_start.new.reader))
    (g.R.Read.remaining c.args.again) (g.R.Read.remaining c.args.shown) (g.W.Write.contents c.args.output.now) (g.W.Write.contents c.show_on.new.output)
    (g.W.Output.is_closed c.show_on.new.output)
    (stream g.E.ErrorStream.contents g.E.ErrorStream.has_failed c.args.error.now c.show_on.new.error)
    (rejoined (g.R.Read.remaining c.args.judged) (g.R.Read.remaining c.read_start.new.reader) c.in-Ok.start.items c.as_slice.result.now
    c.as_slice.ensures.value c.in-Ok.ensures.taken)
    (c.show_on.ensures.failed e (releases_by_start (g.R.Read.remaining c.read_start.new.reader) c.in-Ok.start.items c.as_slice.result.now
    c.as_slice.ensures.value c.in-Ok.ensures.enough)))
