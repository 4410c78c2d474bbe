-- A whole packet at the front of a body.
use Rattle.std.proofs.Common.{◌≡◌, ◌+◌, false, ℕ, List, [], length, arith, sym, subst, ap, ◌∙◌, take, refl}
use Rattle.mq_log.specs.Context.{StreamState}
use Rattle.mq_log.specs.Reception.{Declines}
use Rattle.mq_log.specs.Flows.{flow_after_bytes}
use Rattle.mq_trace.specs.Keeping.{state_in, IsUnfinished}
use Rattle.mq_trace.specs.Deframing.{body_context, flow_of, FlowStops, FlowComes}
use Rattle.mq_trace.specs.Stepping.{context_for, deframer_for}
use Rattle.mq_trace.specs.declared.connections.Connections.{Connections}
use Rattle.mq_log.specs.declared.kind.Direction.{Direction}
use Rattle.mq_log.specs.declared.kind.Direction.TheVariants as directions
use Rattle.mq_trace.specs.declared.deframer.BodyContext.{BodyContext as ContextInMemory}
use Rattle.mq_trace.specs.declared.reading.Reading.{Reading}
use Rattle.mq_trace.proofs.DeframerLaws.{frame_front, header_front, stops_front}
use Rattle.mq_trace.proofs.reading.Reading.pass_whole.Goals as goal

-- new events leave the directions as they are
same_state : (r : Reading) (direction : Direction) (c : Connections) → state_in (deframer_for (record r { connections = c }) direction) ≡ state_in (deframer_for r direction)
same_state r directions.Sent c = refl
same_state r directions.Recv c = refl

pub slice_bounds-new-end : goal.slice_bounds-new-end
slice_bounds-new-end g c = sym (frame_front c.args.body.now c.args.size c.requires.whole.frame).2

pub consume_whole-requires-clause-some : goal.consume_whole-requires-clause-some
consume_whole-requires-clause-some g c = let known = frame_front c.args.body.now c.args.size c.requires.whole.frame in omega (arith, known.0, known.2, ap length c.new-frame.ensures.bytes)

pub new-frame-requires-clause-whole : goal.new-frame-requires-clause-whole
new-frame-requires-clause-whole g c = header_front c.args.body.now c.args.header c.args.size c.requires.whole.frame c.requires.whole.spelled

pub returns-in-Ok-clause-count : goal.returns-in-Ok-clause-count
returns-in-Ok-clause-count g c = let known = frame_front c.args.body.now c.args.size c.requires.whole.frame in (known.0, known.1)

pub returns-in-Ok-clause-kept : goal.returns-in-Ok-clause-kept
returns-in-Ok-clause-kept g c =
    let r = c.args.self.now in
    let part = take c.args.size c.args.body.now in
    let next = c.consume_whole.new.connections in
    let here = c.body_context-context.result in
    let taken = subst (λ (t : List ℕ). FlowComes {S = g.row.S.Denot} g.S.Sink.agrees here.limit (body_context here) (flow_of r.at (record { unfinished = []; lost = false }) r.connections)
    (flow_of (r.at + length t) (record { unfinished = []; lost = false }) next) t c.args.sink.now c.consume_whole.new.sink) c.new-frame.ensures.bytes c.in-Ok.ensures.comes in
    let comes = subst (λ (x : ContextInMemory). FlowComes {S = g.row.S.Denot} g.S.Sink.agrees x.limit (body_context x) (flow_of r.at (record { unfinished = []; lost = false }) r.connections)
    (flow_of (r.at + length part) (record { unfinished = []; lost = false }) next) part c.args.sink.now c.consume_whole.new.sink) c.body_context-context.ensures taken in
    ap (λ (h : StreamState). flow_after_bytes (context_for r c.args.direction) (flow_of r.at h r.connections) part) c.requires.idle
    ∙ comes.kept
    ∙ ap (λ (n : ℕ). flow_of (r.at + n) (record { unfinished = []; lost = false }) next) (frame_front c.args.body.now c.args.size c.requires.whole.frame).2
    ∙ ap (λ (h : StreamState). flow_of (r.at + c.args.size) h next) (sym (same_state r c.args.direction next ∙ c.requires.idle))

pub returns-in-Ok-clause-sound : goal.returns-in-Ok-clause-sound
returns-in-Ok-clause-sound g c =
    let r = c.args.self.now in
    subst (IsUnfinished r.limit) (sym (same_state r c.args.direction c.consume_whole.new.connections)) c.requires.unfinished

pub returns-in-Err-clause-stops : goal.returns-in-Err-clause-stops
returns-in-Err-clause-stops g c =
    let r = c.args.self.now in
    let declines = Declines g.S.Sink.agrees g.S.Sink.refuses in
    let here = c.body_context-context.result in
    let untaken = subst (λ (t : List ℕ). FlowStops {S = g.row.S.Denot} declines here.limit (body_context here) (flow_of r.at (record { unfinished = []; lost = false }) r.connections) t
    c.args.sink.now c.consume_whole.new.sink c.in-Err.refusal) c.new-frame.ensures.bytes c.in-Err.ensures.stops in
    let stops = subst (λ (x : ContextInMemory). FlowStops {S = g.row.S.Denot} declines x.limit (body_context x) (flow_of r.at (record { unfinished = []; lost = false }) r.connections) (take c.args.size c.args.body.now)
    c.args.sink.now c.consume_whole.new.sink c.in-Err.refusal) c.body_context-context.ensures untaken in
    subst (λ (h : StreamState). FlowStops {S = g.row.S.Denot} declines r.limit (context_for r c.args.direction) (flow_of r.at h r.connections) c.args.body.now c.args.sink.now c.consume_whole.new.sink c.in-Err.refusal) (sym c.requires.idle)
    (stops_front declines r.limit (context_for r c.args.direction) (flow_of r.at (record { unfinished = []; lost = false }) r.connections) c.args.size c.args.body.now c.args.sink.now c.consume_whole.new.sink c.in-Err.refusal stops)
