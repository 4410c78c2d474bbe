use Rattle.std.proofs.Common.{◌++◌, take, sym, subst}
use Rattle.mq_trace.specs.Copying.{IsCopyOf, StopsCopying, WritesMore}
use Rattle.mq_trace.proofs.CopiedLaws.{copy_step, nothing_left, step_parts, stops_then}
use Rattle.mq_trace.proofs.converting.Copying.copy.Goals as goal

pub loop-rest-preserved : goal.loop-rest-preserved
loop-rest-preserved g c =
    let had = c.loop-rest.invariant in
    let rest = c.loop-rest.rest.now in (
      had.0 ++ take c.in-Ok.count rest,
      step_parts c.args.piece.now had.0 rest c.in-Ok.count had.1,
      c.copy_some.ensures.sound,
      λ log was. copy_step _ _ _ _ _ log had.0 (take c.in-Ok.count rest) (had.3 log was) (c.in-Ok.ensures.copied (log ++ had.0) (had.3 log was).0),
    )

pub returns-in-Err-clause-stops : goal.returns-in-Err-clause-stops
returns-in-Err-clause-stops g c = λ log was.
    let had = c.loop-rest.invariant in
    let so_far = had.3 log was in
    subst (λ piece. StopsCopying log piece (g.W.Write.contents c.args.writer.now) (g.W.Write.contents c.copy_some.new.writer) c.in-Err.fault) (sym had.1)
    (stops_then log had.0 c.loop-rest.rest.now _ _ _ c.in-Err.fault so_far.1 (c.in-Err.ensures.stops (log ++ had.0) so_far.0))

pub returns-clause-copied : goal.returns-clause-copied
returns-clause-copied g c = λ log was.
    let had = c.loop-rest.invariant in
    subst (λ piece. IsCopyOf c.loop-rest.self (log ++ piece) × WritesMore log piece (g.W.Write.contents c.args.writer.now) (g.W.Write.contents c.loop-rest.writer))
    (nothing_left c.args.piece.now had.0 c.loop-rest.rest.now had.1 c.loop-rest-test.ensures) (had.3 log was)
