-- The last bytes of an unfinished packet.
use Rattle.std.proofs.Common.{◌≡◌, ◌+◌, ◌++◌, ◌∙◌, ◌<◌, ◌≤◌, ℕ, List, false, length, arith, ap, sym, subst, refl}
use Rattle.mq_packet.specs.declared.header.FixedHeader.TheVariants as headers
use Rattle.mq_packet.specs.Stream.{fixed_header_of}
use Rattle.bytes.specs.Filled.{Filled}
use Rattle.mq_trace.specs.Deframing.{body_context, flow_of}
use Rattle.mq_trace.proofs.ItemLaws.{frame_by_header}
use Rattle.mq_trace.proofs.DeframerLaws.{ended, ended_stops, stops_part}
use Rattle.mq_log.specs.Reception.{Declines}
use Rattle.mq_trace.proofs.unfinished.Unfinished.complete.Goals as goal

-- the bytes in memory
pub new-frame-requires-clause-whole : goal.new-frame-requires-clause-whole
new-frame-requires-clause-whole g c =
    let is : c.as_slice.result.now ≡ c.args.self.now.items ++ c.args.bytes.now = c.as_slice.ensures ∙ c.in-Ok.ensures.ok ∙ ap (λ (b : Filled). b.items ++ c.args.bytes.now) c.self.view_is in
    subst (λ (l : List ℕ). fixed_header_of l ≡ headers.Whole c.args.header (length l)) (sym is) c.requires.whole

pub new-frame-requires-clause-fits : goal.new-frame-requires-clause-fits
new-frame-requires-clause-fits g c =
    let is : c.as_slice.result.now ≡ c.args.self.now.items ++ c.args.bytes.now = c.as_slice.ensures ∙ c.in-Ok.ensures.ok ∙ ap (λ (b : Filled). b.items ++ c.args.bytes.now) c.self.view_is in
    subst (λ (l : List ℕ). length l ≤ c.args.header + 268435455) (sym is) c.requires.fits

pub returns-in-Ok-clause-comes : goal.returns-in-Ok-clause-comes
returns-in-Ok-clause-comes g c =
    let frame : c.new-frame.result.bytes.now ≡ c.args.self.now.items ++ c.args.bytes.now = c.new-frame.ensures.bytes ∙ c.as_slice.ensures ∙ c.in-Ok.ensures.ok ∙ ap (λ (b : Filled). b.items ++ c.args.bytes.now) c.self.view_is in
    ended g.S.Sink.agrees (Declines g.S.Sink.agrees g.S.Sink.refuses) c.args.context.limit c.args.context c.args.at _ c.args.connections.now c.args.self.now.items c.args.bytes.now c.new-frame.result.bytes.now
    frame (frame_by_header (c.args.self.now.items ++ c.args.bytes.now) c.args.header c.requires.whole) (omega (arith, c.requires.some)) (omega (arith, c.requires.some)) c.requires.within
    c.emit_frame-emitted.result c.emit_frame-emitted.new.connections c.args.sink.now c.emit_frame-emitted.new.sink
    c.emit_frame-emitted.ensures.met c.emit_frame-emitted.ensures.kept c.emit_frame-emitted.ensures.receives

pub returns-in-Ok-clause-stops : goal.returns-in-Ok-clause-stops
returns-in-Ok-clause-stops g c =
    let frame : c.new-frame.result.bytes.now ≡ c.args.self.now.items ++ c.args.bytes.now = c.new-frame.ensures.bytes ∙ c.as_slice.ensures ∙ c.in-Ok.ensures.ok ∙ ap (λ (b : Filled). b.items ++ c.args.bytes.now) c.self.view_is in
    ended_stops g.S.Sink.agrees (Declines g.S.Sink.agrees g.S.Sink.refuses) c.args.context.limit c.args.context c.args.at _ c.args.connections.now c.args.self.now.items c.args.bytes.now c.new-frame.result.bytes.now
    frame (frame_by_header (c.args.self.now.items ++ c.args.bytes.now) c.args.header c.requires.whole) (omega (arith, c.requires.some)) (omega (arith, c.requires.some)) c.requires.within
    c.emit_frame-emitted.result c.args.sink.now c.emit_frame-emitted.new.sink c.emit_frame-emitted.ensures.err

-- there is room for one byte, so memory is refused for several
pub returns-in-Err-clause-stops : goal.returns-in-Err-clause-stops
returns-in-Err-clause-stops g c =
    let begun : 0 < length c.self.inside.bytes.items = omega (arith, c.requires.begun, ap (λ (b : Filled). length b.items) c.self.view_is) in
    let room : 0 < c.self.inside.bytes.spare = c.self.invariant begun in
    stops_part (Declines g.S.Sink.agrees g.S.Sink.refuses) c.args.context.limit (body_context c.args.context) (flow_of c.args.at (record { unfinished = c.args.self.now.items; lost = false }) c.args.connections.now)
    c.args.bytes.now c.args.sink.now (omega (arith, room, c.in-Err.ensures.spare.0)) refl (frame_by_header (c.args.self.now.items ++ c.args.bytes.now) c.args.header c.requires.whole) c.requires.within
