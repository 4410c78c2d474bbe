use Rattle.std.proofs.Common.{refl, ◌∙◌}
use Rattle.mq_log.specs.Reception.{placed_at}
use Rattle.mq_rules.specs.Notes.{note_of}
use Rattle.mq_judge.proofs.WatchingLaws.{found-still, next-place, watched-next}
use Rattle.mq_judge.proofs.watching.JudgingSink.event.Goals as goal

pub returns-in-Ok-clause-receives : goal.returns-in-Ok-clause-receives
returns-in-Ok-clause-receives g c = λ earlier was are.
    let p = placed_at c.args.place c.args.event in
    let next = watched-next g.K.End.tested p earlier c.args.self.now.watching c.take_event.new.self (note_of p.event) refl are (was.0, was.1) c.take_event.ensures.tested c.in-Ok.ensures.ok in
    (next.0, next.1, c.in-Ok.ensures.counts ∙ was.2, c.in-Ok.ensures.tallies earlier (next-place p earlier are) was.3)

pub returns-in-Err-clause-refused : goal.returns-in-Err-clause-refused
returns-in-Err-clause-refused g c = λ earlier was are.
    let p = placed_at c.args.place c.args.event in
    let still = found-still g.K.End.tested p earlier c.args.self.now.watching c.take_event.new.self (note_of p.event) refl are (was.0, was.1) c.take_event.ensures.tested c.in-Err.ensures.memory in
    (refl, still.0, still.1)
