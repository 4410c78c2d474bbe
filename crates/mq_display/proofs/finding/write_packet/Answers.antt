-- Where the write of the line fails, a beginning of it was written.
use Rattle.std.proofs.lemmas.Result.{err_from_is_err_and}
use Rattle.mq_display.specs.OnePacket.{packet_report}
use Rattle.mq_display.proofs.finding.write_packet.Goals as goal

pub returns-in_err-write_finding-clause-write : goal.returns-in_err-write_finding-clause-write
unfolding packet_report
returns-in_err-write_finding-clause-write g c =
    let p = err_from_is_err_and c.from_residual.result c.from_residual.ensures.1 in
    let failed = c.in_err-write_finding.ensures.write in
    rw (p.1, p.2) (failed.0, rw (← c.of-found.ensures.exact) failed.1)
