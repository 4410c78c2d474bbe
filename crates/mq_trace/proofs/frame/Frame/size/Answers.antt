-- A whole packet's size is at most that of the largest fixed header and body.
use Rattle.std.proofs.Common.{◌≤◌, length, arith}
use Rattle.mq_packet.proofs.Exports.{header_few}
use Rattle.mq_trace.proofs.frame.Frame.size.Goals as goal

pub overflow_cast-result : goal.overflow_cast-result
overflow_cast-result c =
    let few : c.args.self.now.header ≤ 5 = header_few c.args.self.now.bytes.now c.args.self.now.header (length c.args.self.now.bytes.now) c.requires.whole in
    omega (arith, few, c.requires.fits)
