use Rattle.std.proofs.Common.{ap, ◌==◌, ◌∙◌}
use Rattle.std.specs.Io.KnownBytes.{prepend_known}
use Rattle.std.specs.Prelude.{slice_index}
use Rattle.mq_tasks.specs.Choosing.{chosen_as}
use Rattle.mq_tasks.proofs.BeginningLaws.{joined}
use Rattle.mq_tasks.proofs.InquiringLemmas.{inquiry_stops, releases_kept}
use Rattle.mq_tasks.proofs.inquiring.inquire_on.Goals as goal

pub returns-clause-failed : goal.returns-clause-failed
returns-clause-failed g c = λ e is.
    let stops = rw c.in-Err-Failed.field-0-is at c.in-Err-Failed.ensures.stops in
    inquiry_stops c.args.path.now (chosen_as c.args.wanted.choice) c.args.wanted.form (prepend_known c.args.start.now (g.R.Read.remaining c.args.judged)) (g.R.Read.remaining c.args.again) _ _ _ _
    (g.W.Write.contents c.args.output.now) (g.W.Write.contents c.inquire_twice.new.output) (g.W.Output.is_closed c.inquire_twice.new.output) _ c.in-Err-Failed.failure c.of.result
    (rw c.new-judged.ensures.reader (c.chain.ensures.bytes ∙ joined c.args.start.now (g.R.Read.remaining c.args.judged)))
    (ap g.R.Read.remaining c.new-again.ensures.reader) c.of.ensures.failure
    (stops (releases_kept c.has_releases-releases.result (slice_index c.args.start.now 6 == 1) _ (prepend_known c.args.start.now (g.R.Read.remaining c.args.judged)) c.has_releases-releases.ensures
    (rw c.new-judged.ensures.reader (c.chain.ensures.bytes ∙ joined c.args.start.now (g.R.Read.remaining c.args.judged))) is)) c.report.ensures.told
