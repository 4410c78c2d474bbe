use Rattle.std.proofs.Common.{inr}
use Rattle.std.specs.Io.KnownBytes.{prepend_known}
use Rattle.mq_tasks.specs.Inquiring.{IsPassed, IsReasoned}
use Rattle.mq_tasks.specs.Messages.{RefusesCheck}
use Rattle.mq_host.specs.Streams.{stream}
use Rattle.mq_tasks.specs.Choosing.{chosen_as}
use Rattle.mq_tasks.proofs.BeginningLaws.{hinted_by_start, rejoined}
use Rattle.mq_tasks.proofs.InquiringLemmas.{failing_rejoined, rejoin_inquiry, releases_by_start}
use Rattle.mq_tasks.proofs.inquiring.inquire_readers.Goals as goal

pub returns-in-Ok-clause-passed : goal.returns-in-Ok-clause-passed
returns-in-Ok-clause-passed g c = λ e.
    rejoin_inquiry (g.R.Read.remaining c.args.judged) _ (g.R.Read.remaining c.args.again)
    (λ first second. IsPassed (chosen_as c.args.wanted.choice) c.args.wanted.form first (g.W.Write.contents c.args.output.now) (g.W.Write.contents c.inquire_on.new.output))
    (rejoined (g.R.Read.remaining c.args.judged) (g.R.Read.remaining c.read_start.new.reader) c.in-Ok.start.items c.as_slice.result.now
    c.as_slice.ensures.value c.in-Ok.ensures.taken) (c.inquire_on.ensures.passed e)

pub returns-in-Ok-clause-faulty : goal.returns-in-Ok-clause-faulty
returns-in-Ok-clause-faulty g c = λ e.
    rejoin_inquiry (g.R.Read.remaining c.args.judged) _ (g.R.Read.remaining c.args.again)
    (λ first second. IsReasoned (chosen_as c.args.wanted.choice) c.args.wanted.form first second (g.W.Write.contents c.args.output.now) (g.W.Write.contents c.inquire_on.new.output))
    (rejoined (g.R.Read.remaining c.args.judged) (g.R.Read.remaining c.read_start.new.reader) c.in-Ok.start.items c.as_slice.result.now
    c.as_slice.ensures.value c.in-Ok.ensures.taken)
    (c.inquire_on.ensures.faulty e (releases_by_start (g.R.Read.remaining c.read_start.new.reader) c.in-Ok.start.items c.as_slice.result.now
    c.as_slice.ensures.value c.in-Ok.ensures.enough))

pub returns-in-Ok-clause-refused : goal.returns-in-Ok-clause-refused
returns-in-Ok-clause-refused g c = λ e.
    rejoin_inquiry (g.R.Read.remaining c.args.judged) _ (g.R.Read.remaining c.args.again)
    (λ first second. RefusesCheck c.args.wanted.form first (g.W.Write.contents c.args.output.now) (g.W.Write.contents c.inquire_on.new.output))
    (rejoined (g.R.Read.remaining c.args.judged) (g.R.Read.remaining c.read_start.new.reader) c.in-Ok.start.items c.as_slice.result.now
    c.as_slice.ensures.value c.in-Ok.ensures.taken) (c.inquire_on.ensures.refused e)

pub returns-in-Ok-clause-hinted : goal.returns-in-Ok-clause-hinted
returns-in-Ok-clause-hinted g c = λ e.
    hinted_by_start (g.R.Read.remaining c.args.judged) (g.R.Read.remaining c.read_start.new.reader) c.in-Ok.start.items c.as_slice.result.now _
    c.as_slice.ensures.value c.in-Ok.ensures.taken c.in-Ok.ensures.enough (c.inquire_on.ensures.hinted e)

pub returns-in-Ok-clause-failed : goal.returns-in-Ok-clause-failed
returns-in-Ok-clause-failed g c = λ e.
    inr (failing_rejoined c.args.path.now (chosen_as c.args.wanted.choice) c.args.wanted.form (g.R.Read.remaining c.args.judged) (prepend_known c.as_slice.result.now (g.R.Read.remaining c.read_start.new.reader))
    (g.R.Read.remaining c.args.again) (g.W.Write.contents c.args.output.now) (g.W.Write.contents c.inquire_on.new.output) (g.W.Output.is_closed c.inquire_on.new.output)
    (stream g.E.ErrorStream.contents g.E.ErrorStream.has_failed c.args.error.now c.inquire_on.new.error)
    (rejoined (g.R.Read.remaining c.args.judged) (g.R.Read.remaining c.read_start.new.reader) c.in-Ok.start.items c.as_slice.result.now
    c.as_slice.ensures.value c.in-Ok.ensures.taken)
    (c.inquire_on.ensures.failed e (releases_by_start (g.R.Read.remaining c.read_start.new.reader) c.in-Ok.start.items c.as_slice.result.now
    c.as_slice.ensures.value c.in-Ok.ensures.enough)))
