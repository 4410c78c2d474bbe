use Rattle.std.proofs.Common.{◌∙◌, inl, sym}
use Rattle.std.proofs.lemmas.Result.{err_from_is_err_and}
use Rattle.mq_display.proofs.DisplayLaws.{header-shown, header-stops, rest-shown, rest-stops, result-follows, result-stops, told-so}
use Rattle.mq_display.proofs.display.ShowingFeedRefusal.feed.Goals as goal

pub returns-in_err-rest-clause-stops : goal.returns-in_err-rest-clause-stops
returns-in_err-rest-clause-stops g c = λ log held.
    let p = err_from_is_err_and c.from_residual.result c.from_residual.ensures.1 in
    rw (p.1, p.2) (inl (header-stops g.S.Sink.agrees g.S.Told.received g.S.Sink.refuses g.S.Told.has_failed g.S.Told.foreseen g.met.S.Told.keeps
    c.args.self.now.tracer.reading.limit c.args.self.now.tracer _ c.args.sink.now log c.args.piece.now _ held (c.in_err-rest.ensures.stopped log held.0)))

pub returns-in_default-clause-follows : goal.returns-in_default-clause-follows
returns-in_default-clause-follows g c = λ log held.
    let b = c.in_ok-rest.ensures.begins log held.0 in
    header-shown g.S.Sink.agrees g.S.Told.received g.S.Sink.refuses g.S.Told.has_failed g.S.Told.foreseen g.met.S.Told.keeps
    c.args.self.now.tracer c.begin.new.self c.args.sink.now log c.args.piece.now c.in_ok-rest.rest.now held b (sym c.in_default.is ∙ c.header.ensures.follows _ b.follows)

pub returns-in_err-feed-clause-stops : goal.returns-in_err-feed-clause-stops
returns-in_err-feed-clause-stops g c = λ log held.
    let p = err_from_is_err_and c.from_residual-in_err-feed.result c.from_residual-in_err-feed.ensures.1 in
    let b = c.in_ok-rest.ensures.begins log held.0 in
    let so = told-so g.S.Sink.agrees g.S.Told.received g.S.Sink.refuses g.S.Told.has_failed g.S.Told.foreseen g.met.S.Told.keeps
    c.args.self.now.tracer c.begin.new.self c.args.sink.now c.tell.new.self log c.args.piece.now c.in_ok-rest.rest.now c.in-Some.header held b
    (sym c.in-Some.is ∙ c.header.ensures.follows _ b.follows) c.tell.ensures in
    rw (p.1, p.2) (inl (rest-stops g.S.Sink.agrees g.S.Told.received g.S.Sink.refuses g.S.Told.has_failed g.S.Told.foreseen g.met.S.Told.keeps
    log c.args.piece.now b.taken c.in_ok-rest.rest.now b.is c.tell.new.self c.feed.new.sink so
    c.begin.new.self.reading.limit c.args.self.now.tracer.reading.limit _ c.in_ok-rest.ensures.limit (c.in_err-feed.ensures.answers _ b.follows)))

pub returns-clause-follows : goal.returns-clause-follows
returns-clause-follows g c = λ log held.
    let b = c.in_ok-rest.ensures.begins log held.0 in
    let so = told-so g.S.Sink.agrees g.S.Told.received g.S.Sink.refuses g.S.Told.has_failed g.S.Told.foreseen g.met.S.Told.keeps
    c.args.self.now.tracer c.begin.new.self c.args.sink.now c.tell.new.self log c.args.piece.now c.in_ok-rest.rest.now c.in-Some.header held b
    (sym c.in-Some.is ∙ c.header.ensures.follows _ b.follows) c.tell.ensures in
    result-follows c.result.result _ (rest-shown g.S.Sink.agrees g.S.Told.received g.S.Sink.refuses g.S.Told.has_failed g.S.Told.foreseen g.met.S.Told.keeps
    log c.args.piece.now b.taken c.in_ok-rest.rest.now b.is c.tell.new.self c.feed.new.sink so
    c.feed.new.self (c.in_ok-feed.ensures.follows _ b.follows) (c.in_ok-feed.ensures.answers _ b.follows).1)

pub returns-clause-stops : goal.returns-clause-stops
returns-clause-stops g c = λ log held.
    let b = c.in_ok-rest.ensures.begins log held.0 in
    let so = told-so g.S.Sink.agrees g.S.Told.received g.S.Sink.refuses g.S.Told.has_failed g.S.Told.foreseen g.met.S.Told.keeps
    c.args.self.now.tracer c.begin.new.self c.args.sink.now c.tell.new.self log c.args.piece.now c.in_ok-rest.rest.now c.in-Some.header held b
    (sym c.in-Some.is ∙ c.header.ensures.follows _ b.follows) c.tell.ensures in
    let took = c.in_ok-feed.ensures.answers _ b.follows in
    let shown = rest-shown g.S.Sink.agrees g.S.Told.received g.S.Sink.refuses g.S.Told.has_failed g.S.Told.foreseen g.met.S.Told.keeps
    log c.args.piece.now b.taken c.in_ok-rest.rest.now b.is c.tell.new.self c.feed.new.sink so
    c.feed.new.self (c.in_ok-feed.ensures.follows _ b.follows) took.1 in
    result-stops g.S.Sink.agrees g.S.Told.received g.S.Sink.refuses g.S.Told.has_failed g.S.Told.foreseen g.met.S.Told.keeps
    log c.args.piece.now b.taken c.in_ok-rest.rest.now b.is c.tell.new.self c.feed.new.sink so
    c.feed.new.self c.begin.new.self.reading.limit c.args.self.now.tracer.reading.limit c.result.result c.in_ok-rest.ensures.limit took.0 shown c.result.ensures.err
