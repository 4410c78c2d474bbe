use Rattle.std.proofs.Common.{Err, IfSome, sym, subst}
use Rattle.mq_trace.specs.Converting.{Converts}
use Rattle.mq_trace.proofs.CopiedLaws.{converts_all, converts_halted, held_nothing}
use Rattle.mq_trace.proofs.converting.convert_all.Goals as goal

pub feed_all-requires-clause-follows : goal.feed_all-requires-clause-follows
feed_all-requires-clause-follows g c = (c.new.ensures.copy, held_nothing _ _ c.requires.held)

pub returns-in-Ok : goal.returns-in-Ok
returns-in-Ok g c =
    let fed = c.in-Ok.ensures.all in
    subst (λ held. IfSome (g.R.Read.remaining c.args.reader.now) (λ log. Converts log (g.R.Read.remaining c.feed_all.new.reader) c.finish.result held (g.W.Write.contents c.feed_all.new.sink))) (sym c.requires.held)
    (converts_all _ _ _ _ _ fed.log c.finish.result fed.consumed fed.ended fed.followed.0 fed.followed.1 (c.finish.ensures.ok fed.log fed.followed.0) (c.finish.ensures.cut fed.log fed.followed.0))

pub returns-in-Err : goal.returns-in-Err
returns-in-Err g c =
    subst (λ held. IfSome (g.R.Read.remaining c.args.reader.now) (λ log. Converts log (g.R.Read.remaining c.feed_all.new.reader) (Err c.fault.result) held (g.W.Write.contents c.feed_all.new.sink))) (sym c.requires.held)
    (subst (λ fault. IfSome (g.R.Read.remaining c.args.reader.now) (λ log. Converts log (g.R.Read.remaining c.feed_all.new.reader) (Err fault) g.K.Holding.held (g.W.Write.contents c.feed_all.new.sink))) (sym c.fault.ensures)
    (converts_halted g.W.Write.contents _ _ _ _ _ _ c.in-Err.halt c.in-Err.ensures.some))
