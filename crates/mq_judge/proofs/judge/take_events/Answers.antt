use Rattle.std.proofs.Common.{Bool, subst, sym}
use Rattle.mq_rules.specs.declared.role.Tested.{Tested}
use Rattle.mq_watchers.specs.Kinds.{is_counting}
use Rattle.mq_judge.specs.Judging.{TakesEvents}
use Rattle.mq_judge.proofs.JudgeLaws.{fed-events}
use Rattle.mq_judge.proofs.judge.take_events.Goals as goal

pub returns-clause-answers : goal.returns-clause-answers
returns-clause-answers g c = λ log traced watches tallies.
    let limit = c.args.tracer.now.reading.limit in
    let piece = c.args.piece.now in
    subst (λ (t : Tested). TakesEvents limit t (is_counting c.args.judging.now.watching.watchers) log piece c.feed.new.self c.feed.new.sink.watching c.feed.result) (sym c.requires.tested)
    (subst (λ (b : Bool). TakesEvents limit g.K.End.tested b log piece c.feed.new.self c.feed.new.sink.watching c.feed.result) (sym c.requires.counting)
    (fed-events (λ s. s.watching) g.K.End.tested g.K.End.counting limit c.feed.new.self log piece c.args.judging.now c.feed.new.sink c.feed.result c.requires.tested watches c.requires.counting tallies
    (c.feed.ensures.follows log traced) c.feed.ensures.limit (c.feed.ensures.answers log traced) (c.feed.ensures.stopped log traced)))
