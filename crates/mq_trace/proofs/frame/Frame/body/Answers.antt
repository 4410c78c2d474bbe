-- What follows a fixed header says what the packet says, and how long it is.
use Rattle.std.proofs.Common.{◌≤◌, length, sym, rules, arith, length-take, length-drop}
use Rattle.mq_packet.proofs.Exports.{size_above}
use Rattle.mq_trace.proofs.ItemLaws.{frame_by_header, packet_sized, read_by_body}
use Rattle.mq_trace.proofs.frame.Frame.body.Goals as goal

pub slice_bounds-result-count : goal.slice_bounds-result-count
slice_bounds-result-count c = (size_above c.args.self.now.bytes.now c.args.self.now.header (length c.args.self.now.bytes.now) c.requires.whole).1

pub slice_bounds-result-start : goal.slice_bounds-result-start
slice_bounds-result-start c =
    let inside : c.args.self.now.header ≤ length c.args.self.now.bytes.now = (size_above c.args.self.now.bytes.now c.args.self.now.header (length c.args.self.now.bytes.now) c.requires.whole).1 in
    search rules

pub returns-clause-bound : goal.returns-clause-bound
returns-clause-bound c =
    let known = size_above c.args.self.now.bytes.now c.args.self.now.header (length c.args.self.now.bytes.now) c.requires.whole in
    simp (length-take, length-drop) (omega (arith, known.0, known.1, c.requires.fits))

pub returns-clause-reads : goal.returns-clause-reads
returns-clause-reads c = sym (read_by_body c.args.self.now.bytes.now c.args.self.now.header (length c.args.self.now.bytes.now) (sym c.requires.whole))

pub returns-clause-sized : goal.returns-clause-sized
returns-clause-sized c = λ packet is.
    let frame = c.args.self.now.bytes.now in
    packet_sized frame c.args.self.now.header (length frame) packet c.requires.bytes (frame_by_header frame c.args.self.now.header c.requires.whole) (sym c.requires.whole) is
