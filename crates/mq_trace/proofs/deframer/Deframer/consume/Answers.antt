-- The next packet of a direction.
use Rattle.std.proofs.Common.{◌≡◌, ℕ, List, ◌++◌, length, arith, sym, subst, ap, ◌∙◌, take}
use Rattle.std.proofs.lemmas.List.{take_all}
use Rattle.mq_log.specs.Events.{Placed}
use Rattle.mq_log.specs.Context.{StreamState}
use Rattle.mq_packet.specs.Stream.{fixed_header_of}
use Rattle.mq_trace.specs.Keeping.{state_in, IsShort}
use Rattle.mq_trace.specs.Settling.{IsStep}
use Rattle.mq_trace.specs.declared.deframer.Step.{Step}
use Rattle.mq_trace.specs.declared.deframer.Step.TheVariants as steps
use Rattle.mq_log.specs.declared.refusal.Refusal.{Refusal}
use Rattle.mq_log.specs.Reception.{Declines, AreEvents}
use Rattle.mq_log.specs.Flows.{flow_after_bytes, flow_refused, flow_events}
use Rattle.mq_trace.specs.Deframing.{body_context, flow_of, FlowStops}
use Rattle.mq_trace.proofs.FlowLaws.{lost-refused, lost-events}
use Rattle.mq_trace.proofs.DeframerLaws.{first_front, lost_kept, stops_front, stops_memory, begins_short, stays, stays_unfinished}
use Rattle.mq_trace.proofs.deframer.Deframer.consume.Goals as goal

-- the beginning of a packet, with what is unfinished before it
begun_short : (limit : ℕ) (state : StreamState) (bytes : List ℕ) (step : Step) → step ≡ steps.Beginning → IsStep state limit bytes step → IsShort limit (state.unfinished ++ bytes) (fixed_header_of (state.unfinished ++ bytes))
begun_short limit state bytes step e is = let known = subst (IsStep state limit bytes) e is in begins_short limit state.unfinished bytes known.0 known.1

pub returns-then-self-clause-unrefused : goal.returns-then-self-clause-unrefused
returns-then-self-clause-unrefused g c = lost-refused c.args.context.limit (body_context c.args.context) (flow_of c.args.at (state_in c.args.self.now) c.args.connections.now) (take (length c.args.bytes.now) c.args.bytes.now) c.if-self.true

pub returns-then-self-clause-kept : goal.returns-then-self-clause-kept
returns-then-self-clause-kept g c = lost_kept (body_context c.args.context) c.args.at (state_in c.args.self.now) c.args.connections.now c.args.bytes.now c.if-self.true

pub returns-then-self-clause-receives : goal.returns-then-self-clause-receives
returns-then-self-clause-receives g c = λ earlier was are.
    subst (λ (l : List Placed). g.S.Sink.agrees c.args.sink.now (l ++ earlier))
    (sym (lost-events (body_context c.args.context) (flow_of c.args.at (state_in c.args.self.now) c.args.connections.now) (take (length c.args.bytes.now) c.args.bytes.now) c.if-self.true)) was

pub returns-in-Err-consume_byte-clause-stops : goal.returns-in-Err-consume_byte-clause-stops
returns-in-Err-consume_byte-clause-stops g c =
    stops_front (Declines g.S.Sink.agrees g.S.Sink.refuses) c.args.context.limit (body_context c.args.context) (flow_of c.args.at (state_in c.args.self.now) c.args.connections.now) 1 c.args.bytes.now
    c.args.sink.now c.consume_byte.new.sink _
    (subst (λ (t : List ℕ). FlowStops {S = g.row.S.Denot} (Declines g.S.Sink.agrees g.S.Sink.refuses) c.args.context.limit (body_context c.args.context) (flow_of c.args.at (state_in c.args.self.now) c.args.connections.now) t
    c.args.sink.now c.consume_byte.new.sink c.in-Err-consume_byte.refusal) (first_front c.args.bytes.now c.requires.some) c.in-Err-consume_byte.ensures.stops)

pub returns-in-Ok-clause-unrefused : goal.returns-in-Ok-clause-unrefused
returns-in-Ok-clause-unrefused g c =
    let comes = stays g.S.Sink.agrees c.args.context.limit (body_context c.args.context) c.args.at c.args.connections.now (state_in c.args.self.now) (state_in c.buffer.new.self) c.args.bytes.now c.args.sink.now
    c.if-self.false c.in-Ok.ensures.ok (begun_short c.args.context.limit (state_in c.args.self.now) c.args.bytes.now c.args.step c.in-Beginning.is c.requires.step) in
    ap (flow_refused c.args.context.limit (body_context c.args.context) (flow_of c.args.at (state_in c.args.self.now) c.args.connections.now)) (take_all (length c.args.bytes.now) c.args.bytes.now (omega arith)) ∙ comes.unrefused

pub returns-in-Ok-clause-kept : goal.returns-in-Ok-clause-kept
returns-in-Ok-clause-kept g c =
    let comes = stays g.S.Sink.agrees c.args.context.limit (body_context c.args.context) c.args.at c.args.connections.now (state_in c.args.self.now) (state_in c.buffer.new.self) c.args.bytes.now c.args.sink.now
    c.if-self.false c.in-Ok.ensures.ok (begun_short c.args.context.limit (state_in c.args.self.now) c.args.bytes.now c.args.step c.in-Beginning.is c.requires.step) in
    ap (flow_after_bytes (body_context c.args.context) (flow_of c.args.at (state_in c.args.self.now) c.args.connections.now)) (take_all (length c.args.bytes.now) c.args.bytes.now (omega arith)) ∙ comes.kept

pub returns-in-Ok-clause-receives : goal.returns-in-Ok-clause-receives
returns-in-Ok-clause-receives g c =
    let comes = stays g.S.Sink.agrees c.args.context.limit (body_context c.args.context) c.args.at c.args.connections.now (state_in c.args.self.now) (state_in c.buffer.new.self) c.args.bytes.now c.args.sink.now
    c.if-self.false c.in-Ok.ensures.ok (begun_short c.args.context.limit (state_in c.args.self.now) c.args.bytes.now c.args.step c.in-Beginning.is c.requires.step) in
    subst (λ (t : List ℕ). (earlier : List Placed) → g.S.Sink.agrees c.args.sink.now earlier → AreEvents (flow_events (body_context c.args.context) (flow_of c.args.at (state_in c.args.self.now) c.args.connections.now) t ++ earlier)
    → g.S.Sink.agrees c.args.sink.now (flow_events (body_context c.args.context) (flow_of c.args.at (state_in c.args.self.now) c.args.connections.now) t ++ earlier))
    (sym (take_all (length c.args.bytes.now) c.args.bytes.now (omega arith))) comes.emitted

pub returns-in-Ok-clause-sound : goal.returns-in-Ok-clause-sound
returns-in-Ok-clause-sound g c =
    stays_unfinished c.args.context.limit (state_in c.args.self.now) (state_in c.buffer.new.self) c.args.bytes.now c.if-self.false c.in-Ok.ensures.ok
    (begun_short c.args.context.limit (state_in c.args.self.now) c.args.bytes.now c.args.step c.in-Beginning.is c.requires.step)

pub returns-in-Err-clause-stops : goal.returns-in-Err-clause-stops
returns-in-Err-clause-stops g c =
    subst (λ (refusal : Refusal). FlowStops {S = g.row.S.Denot} (Declines g.S.Sink.agrees g.S.Sink.refuses) c.args.context.limit (body_context c.args.context) (flow_of c.args.at (state_in c.args.self.now) c.args.connections.now)
    c.args.bytes.now c.args.sink.now c.args.sink.now refusal) (sym c.in-Err.ensures.err)
    (stops_memory (Declines g.S.Sink.agrees g.S.Sink.refuses) c.args.context.limit (body_context c.args.context) (flow_of c.args.at (state_in c.args.self.now) c.args.connections.now) c.args.bytes.now c.args.sink.now (omega (arith, c.requires.some)) c.if-self.false
    (begun_short c.args.context.limit (state_in c.args.self.now) c.args.bytes.now c.args.step c.in-Beginning.is c.requires.step))
