use Rattle.std.proofs.lemmas.Result.{on_err_weaker}
use Rattle.mq_trace.proofs.WritingLaws.{stopped-in-front, stopped-in-back, on-err}
use Rattle.mq_trace.proofs.writer.write_both.Goals as goal

pub returns-in_err-write_bytes-clause-write : goal.returns-in_err-write_bytes-clause-write
returns-in_err-write_bytes-clause-write g c =
    on-err c.from_residual.result (stopped-in-front c.args.front.now c.args.back.now c.in_err-write_bytes.ensures.write)

pub returns-clause-write : goal.returns-clause-write
returns-clause-write g c =
    on_err_weaker c.write_bytes-2.result (stopped-in-back c.args.front.now c.args.back.now c.in_ok-write_bytes.ensures.ok) c.write_bytes-2.ensures.write
