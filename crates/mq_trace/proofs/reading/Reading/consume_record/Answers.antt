-- A record's head and the whole packet that its body begins with.
use Rattle.std.proofs.Common.{arith, ◌≡◌, ℕ, ◌+◌, ◌-◌, ◌≤◌, List, length, min, take, drop, sym, subst, ap, ◌∙◌}
use Rattle.mq_log.specs.Framing.{head_length}
use Rattle.mq_log.specs.Context.{emptied}
use Rattle.mq_log.specs.Reception.{Declines}
use Rattle.mq_trace.specs.Keeping.{Comes}
use Rattle.mq_trace.specs.Settling.{IsWhole}
use Rattle.mq_trace.specs.declared.deframer.BodyContext.{BodyContext as ContextInMemory}
use Rattle.mq_trace.specs.Deframing.{body_context, flow_of, FlowComes, FlowStops}
use Rattle.mq_trace.specs.Stepping.{begun_body, context_for, deframer_for, leaving}
use Rattle.mq_log.specs.declared.kind.Direction.{Direction}
use Rattle.mq_log.specs.declared.kind.Direction.TheVariants as directions
use Rattle.mq_trace.specs.declared.reading.Reading.{Reading}
use Rattle.mq_trace.specs.Keeping.{state_in, IsSound, IsUnfinished}
use Rattle.mq_trace.proofs.DeframerLaws.{frame_front, header_front}
use Rattle.mq_trace.proofs.TracingLaws.{rest_same}
use Rattle.mq_trace.proofs.FrontLaws.{begun_few, headed, front_comes, front_sound, front_stops}
use Rattle.mq_trace.proofs.reading.Reading.consume_record.Goals as goal

unfinished : (r : Reading) (direction : Direction) → IsSound r → IsUnfinished r.limit (state_in (deframer_for r direction))
unfinished r directions.Sent sound = sound.sent
unfinished r directions.Recv sound = sound.recv

-- what of the body is there
there : (n ahead left k : ℕ) (bytes : List ℕ) → n ≡ ahead → k ≡ min (length (take (length bytes - n) (drop n bytes))) left → take k (take (length bytes - n) (drop n bytes)) ≡ begun_body ahead left bytes
there n ahead left k bytes is few =
    ap (λ m. take m (take (length bytes - n) (drop n bytes))) few
    ∙ ap (λ (l : List ℕ). take (min (length l) left) l) (rest_same n bytes)
    ∙ ap (λ m. begun_body m left bytes) is

pub slice_bounds-new-end : goal.slice_bounds-new-end
slice_bounds-new-end g c = sym (frame_front _ c.in-Ok.size c.in-Ok.ensures.whole.frame).2

pub new-frame-requires-clause-whole : goal.new-frame-requires-clause-whole
new-frame-requires-clause-whole g c = header_front _ c.in-Ok.header c.in-Ok.size c.in-Ok.ensures.whole.frame c.in-Ok.ensures.whole.spelled

pub returns-in-Ok-consume_whole-clause-comes : goal.returns-in-Ok-consume_whole-clause-comes
returns-in-Ok-consume_whole-clause-comes g c =
    let r = c.args.self.now in
    let size = c.in-Ok.size in
    let n = c.head_length-head.result in
    let is : n ≡ head_length r.header.version = c.head_length-head.ensures in
    let body = begun_body (head_length r.header.version) c.args.left c.args.bytes.now in
    let begun = there c.head_length-head.result (head_length r.header.version) c.args.left c.min.result c.args.bytes.now c.head_length-head.ensures c.min.ensures in
    let frame : c.new-frame.result.bytes.now ≡ take size body = c.new-frame.ensures.bytes ∙ ap (take size) begun in
    let whole = subst (λ (l : List ℕ). IsWhole r.limit l c.in-Ok.header size) begun c.in-Ok.ensures.whole in
    let front = frame_front body size whole.frame in
    let few = begun_few (head_length r.header.version) c.args.left c.args.bytes.now in
    let some : 1 ≤ c.args.left = omega (arith, front.0, front.1, few) in
    let next = c.consume_whole.new.connections in
    let here = context_for (headed r c.args.direction c.args.left c.args.moment c.args.bytes.now c.requires.sound c.requires.head some) c.args.direction in
    let known = subst (λ (x : ContextInMemory). FlowComes {S = g.row.S.Denot} g.S.Sink.agrees x.limit (body_context x) (flow_of (r.at + n) emptied r.connections) (flow_of (r.at + n + length c.new-frame.result.bytes.now) emptied next) c.new-frame.result.bytes.now
    c.args.sink.now c.consume_whole.new.sink) c.body_context-context.ensures c.in-Ok-consume_whole.ensures.comes in
    let framed = subst (λ (l : List ℕ). FlowComes {S = g.row.S.Denot} g.S.Sink.agrees r.limit here (flow_of (r.at + n) emptied r.connections) (flow_of (r.at + n + length l) emptied next) l c.args.sink.now c.consume_whole.new.sink) frame known in
    let sized = subst (λ (k : ℕ). FlowComes {S = g.row.S.Denot} g.S.Sink.agrees r.limit here (flow_of (r.at + n) emptied r.connections) (flow_of (r.at + n + k) emptied next) (take size body) c.args.sink.now c.consume_whole.new.sink) front.2 framed in
    let placed = subst (λ (k : ℕ). FlowComes {S = g.row.S.Denot} g.S.Sink.agrees r.limit here (flow_of (r.at + k) emptied r.connections) (flow_of (r.at + k + size) emptied next) (take size body) c.args.sink.now c.consume_whole.new.sink) is sized in
    let went = c.enter.ensures ∙ ap (λ (k : ℕ). leaving (record r { at = r.at + k + size; moment = c.args.moment; connections = next }) c.args.direction (c.args.left - size)) is in
    subst (λ (k : ℕ). Comes {S = g.row.S.Denot} g.S.Sink.agrees r c.enter.new.self (take (k + size) c.args.bytes.now) c.args.sink.now c.consume_whole.new.sink) (sym is)
    (front_comes r c.args.direction c.args.left c.args.moment c.args.bytes.now c.requires.sound c.requires.head some g.S.Sink.agrees size c.enter.new.self next c.args.sink.now c.consume_whole.new.sink front.1 c.in-Ok.ensures.idle went placed)

pub returns-in-Ok-consume_whole-clause-sound : goal.returns-in-Ok-consume_whole-clause-sound
returns-in-Ok-consume_whole-clause-sound g c =
    let r = c.args.self.now in
    let size = c.in-Ok.size in
    let body = begun_body (head_length r.header.version) c.args.left c.args.bytes.now in
    let begun = there c.head_length-head.result (head_length r.header.version) c.args.left c.min.result c.args.bytes.now c.head_length-head.ensures c.min.ensures in
    let whole = subst (λ (l : List ℕ). IsWhole r.limit l c.in-Ok.header size) begun c.in-Ok.ensures.whole in
    let front = frame_front body size whole.frame in
    let few = begun_few (head_length r.header.version) c.args.left c.args.bytes.now in
    let some : 1 ≤ c.args.left = omega (arith, front.0, front.1, few) in
    let next = c.consume_whole.new.connections in
    let went = c.enter.ensures ∙ ap (λ (k : ℕ). leaving (record r { at = r.at + k + size; moment = c.args.moment; connections = next }) c.args.direction (c.args.left - size)) c.head_length-head.ensures in
    front_sound r c.args.direction c.args.left c.args.moment c.args.bytes.now c.requires.sound c.requires.head some size c.enter.new.self next front.1 (unfinished r c.args.direction c.requires.sound) went

pub returns-in-Err-consume_whole-clause-stops : goal.returns-in-Err-consume_whole-clause-stops
returns-in-Err-consume_whole-clause-stops g c =
    let r = c.args.self.now in
    let size = c.in-Ok.size in
    let n = c.head_length-head.result in
    let body = begun_body (head_length r.header.version) c.args.left c.args.bytes.now in
    let begun = there c.head_length-head.result (head_length r.header.version) c.args.left c.min.result c.args.bytes.now c.head_length-head.ensures c.min.ensures in
    let frame : c.new-frame.result.bytes.now ≡ take size body = c.new-frame.ensures.bytes ∙ ap (take size) begun in
    let whole = subst (λ (l : List ℕ). IsWhole r.limit l c.in-Ok.header size) begun c.in-Ok.ensures.whole in
    let front = frame_front body size whole.frame in
    let few = begun_few (head_length r.header.version) c.args.left c.args.bytes.now in
    let some : 1 ≤ c.args.left = omega (arith, front.0, front.1, few) in
    let declines = Declines g.S.Sink.agrees g.S.Sink.refuses in
    let here = context_for (headed r c.args.direction c.args.left c.args.moment c.args.bytes.now c.requires.sound c.requires.head some) c.args.direction in
    let known = subst (λ (x : ContextInMemory). FlowStops {S = g.row.S.Denot} declines x.limit (body_context x) (flow_of (r.at + n) emptied r.connections) c.new-frame.result.bytes.now c.args.sink.now c.consume_whole.new.sink c.in-Err-consume_whole.refusal) c.body_context-context.ensures c.in-Err-consume_whole.ensures.stops in
    let framed = subst (λ (l : List ℕ). FlowStops {S = g.row.S.Denot} declines r.limit here (flow_of (r.at + n) emptied r.connections) l c.args.sink.now c.consume_whole.new.sink c.in-Err-consume_whole.refusal) frame known in
    let placed = subst (λ (k : ℕ). FlowStops {S = g.row.S.Denot} declines r.limit here (flow_of (r.at + k) emptied r.connections) (take size body) c.args.sink.now c.consume_whole.new.sink c.in-Err-consume_whole.refusal) c.head_length-head.ensures framed in
    front_stops r c.args.direction c.args.left c.args.moment c.args.bytes.now c.requires.sound c.requires.head some declines size c.args.sink.now c.consume_whole.new.sink c.in-Err-consume_whole.refusal c.in-Ok.ensures.idle placed
