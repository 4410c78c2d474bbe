-- A whole packet has a first byte.
use Rattle.std.proofs.Common.{◌<◌, length, rules, arith}
use Rattle.mq_packet.proofs.Exports.{size_above}
use Rattle.mq_trace.proofs.frame.Frame.first.Goals as goal

pub bounds-self-0 : goal.bounds-self-0
bounds-self-0 c =
    let frame = c.args.self.now.bytes.now in
    let known = size_above frame c.args.self.now.header (length frame) c.requires.whole in
    let inside : 0 < length frame = omega (arith, known.0, known.1) in
    search rules
