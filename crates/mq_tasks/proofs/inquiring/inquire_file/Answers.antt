use Rattle.std.proofs.Common.{inr}
use Rattle.mq_tasks.specs.Inquiring.{IsPassed, IsReasoned}
use Rattle.mq_tasks.specs.Messages.{RefusesCheck}
use Rattle.mq_host.specs.Streams.{stream}
use Rattle.mq_tasks.specs.Choosing.{chosen_as}
use Rattle.mq_tasks.proofs.BeginningLaws.{hinted_of_kept}
use Rattle.mq_tasks.proofs.InquiringLemmas.{for_one_file, inquiry_of_file_stops}
use Rattle.mq_tasks.proofs.inquiring.inquire_file.Goals as goal

pub returns-in-Ok-open-clause-passed : goal.returns-in-Ok-open-clause-passed
returns-in-Ok-open-clause-passed g c = λ e.
    for_one_file ((g.H.Host.gives c.args.host.now).file c.args.path.now) (g.H.File.Read.remaining c.in-Ok.judged) (g.H.File.Read.remaining c.in-Ok-open.again)
    (λ first second. IsPassed (chosen_as c.args.wanted.choice) c.args.wanted.form first (g.W.Write.contents c.args.output.now) (g.W.Write.contents c.inquire_readers.new.output))
    c.in-Ok.ensures.bytes c.in-Ok-open.ensures.bytes (c.inquire_readers.ensures.passed e)

pub returns-in-Ok-open-clause-faulty : goal.returns-in-Ok-open-clause-faulty
returns-in-Ok-open-clause-faulty g c = λ e.
    for_one_file ((g.H.Host.gives c.args.host.now).file c.args.path.now) (g.H.File.Read.remaining c.in-Ok.judged) (g.H.File.Read.remaining c.in-Ok-open.again)
    (λ first second. IsReasoned (chosen_as c.args.wanted.choice) c.args.wanted.form first second (g.W.Write.contents c.args.output.now) (g.W.Write.contents c.inquire_readers.new.output))
    c.in-Ok.ensures.bytes c.in-Ok-open.ensures.bytes (c.inquire_readers.ensures.faulty e)

pub returns-in-Ok-open-clause-refused : goal.returns-in-Ok-open-clause-refused
returns-in-Ok-open-clause-refused g c = λ e.
    for_one_file ((g.H.Host.gives c.args.host.now).file c.args.path.now) (g.H.File.Read.remaining c.in-Ok.judged) (g.H.File.Read.remaining c.in-Ok-open.again)
    (λ first second. RefusesCheck c.args.wanted.form first (g.W.Write.contents c.args.output.now) (g.W.Write.contents c.inquire_readers.new.output))
    c.in-Ok.ensures.bytes c.in-Ok-open.ensures.bytes (c.inquire_readers.ensures.refused e)

pub returns-in-Ok-open-clause-hinted : goal.returns-in-Ok-open-clause-hinted
returns-in-Ok-open-clause-hinted g c = λ e.
    hinted_of_kept ((g.H.Host.gives c.args.host.now).file c.args.path.now) (g.H.File.Read.remaining c.in-Ok.judged) _
    c.in-Ok.ensures.bytes (c.inquire_readers.ensures.hinted e)

pub returns-in-Ok-open-clause-failed : goal.returns-in-Ok-open-clause-failed
returns-in-Ok-open-clause-failed g c = λ e.
    inr (inquiry_of_file_stops c.args.path.now (chosen_as c.args.wanted.choice) c.args.wanted.form ((g.H.Host.gives c.args.host.now).file c.args.path.now)
    (g.H.File.Read.remaining c.in-Ok.judged) (g.H.File.Read.remaining c.in-Ok-open.again)
    (g.W.Write.contents c.args.output.now) (g.W.Write.contents c.inquire_readers.new.output) (g.W.Output.is_closed c.inquire_readers.new.output)
    (stream g.E.ErrorStream.contents g.E.ErrorStream.has_failed c.args.error.now c.inquire_readers.new.error)
    c.in-Ok.ensures.bytes c.in-Ok-open.ensures.bytes (c.inquire_readers.ensures.failed e))
