-- A frame is cut exactly where the bytes begin with one.
use Rattle.std.proofs.Common.{arith}
use Rattle.mq_packet.proofs.FrameLaws.{frame_exactly}
use Rattle.mq_packet.proofs.cutting.cut.Goals as goal

pub returns-clause-frame : goal.returns-clause-frame
returns-clause-frame c = frame_exactly c.args.bytes.now (λ i. omega (arith, c.type_inv.bytes i)) c.cut_front.result c.cut_front.ensures
