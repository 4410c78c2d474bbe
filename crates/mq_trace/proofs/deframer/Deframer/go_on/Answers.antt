-- More of an unfinished packet.
use Rattle.std.proofs.Common.{◌≡◌, ◌+◌, ◌-◌, false, ℕ, List, length, arith, sym, subst, take, length-append, length-take-le}
use Rattle.std.proofs.lemmas.List.{take_all}
use Rattle.mq_log.specs.declared.refusal.Refusal.{Refusal}
use Rattle.mq_log.specs.Context.{StreamState}
use Rattle.mq_trace.specs.Deframing.{body_context, flow_of, FlowStops, FlowComes}
use Rattle.mq_trace.specs.Keeping.{state_in, IsUnfinished}
use Rattle.mq_trace.proofs.DeframerLaws.{stays, stays_unfinished, more_short, begun_some, whole_with, stops_front, stops_memory, nothing_unfinished, short_is}
use Rattle.mq_trace.proofs.ByteLaws.{still_there}
use Rattle.mq_log.specs.Reception.{Declines}
use Rattle.mq_trace.proofs.deframer.Deframer.go_on.Goals as goal

pub complete-requires-clause-begun : goal.complete-requires-clause-begun
complete-requires-clause-begun g c = begun_some c.args.self.now.unfinished.items c.args.header c.args.size c.requires.begun

pub complete-requires-clause-whole : goal.complete-requires-clause-whole
complete-requires-clause-whole g c =
    let bounds = short_is c.args.context.limit c.args.self.now.unfinished.items c.args.header c.args.size c.requires.begun c.requires.unfinished.0 in
    let front : length (take (c.args.size - c.len.result) c.args.bytes.now) ≡ c.args.size - c.len.result = length-take-le (c.args.size - c.len.result) c.args.bytes.now c.if-bytes-lacks.false in
    whole_with c.args.self.now.unfinished.items (take (c.args.size - c.len.result) c.args.bytes.now) c.args.header c.args.size c.requires.begun
    (omega (arith, bounds.0, front, c.len.ensures.value))

pub complete-requires-clause-fits : goal.complete-requires-clause-fits
complete-requires-clause-fits g c =
    let u = c.args.self.now.unfinished.items in
    let bounds = short_is c.args.context.limit u c.args.header c.args.size c.requires.begun c.requires.unfinished.0 in
    let front : length (take (c.args.size - c.len.result) c.args.bytes.now) ≡ c.args.size - c.len.result = length-take-le (c.args.size - c.len.result) c.args.bytes.now c.if-bytes-lacks.false in
    let all = length-append u (take (c.args.size - c.len.result) c.args.bytes.now) in
    omega (arith, bounds.0, front, all, c.len.ensures.value, c.requires.fits)

pub returns-in-Ok-clause-comes : goal.returns-in-Ok-clause-comes
returns-in-Ok-clause-comes g c =
    let bounds = short_is c.args.context.limit c.args.self.now.unfinished.items c.args.header c.args.size c.requires.begun c.requires.unfinished.0 in
    subst (λ (t : List ℕ). FlowComes {S = g.row.S.Denot} g.S.Sink.agrees c.args.context.limit (body_context c.args.context) (flow_of c.args.at (state_in c.args.self.now) c.args.connections.now)
    (flow_of (c.args.at + length c.args.bytes.now) (state_in c.buffer.new.self) c.args.connections.now) t c.args.sink.now c.args.sink.now)
    (sym (take_all (length c.args.bytes.now) c.args.bytes.now (omega arith)))
    (stays g.S.Sink.agrees c.args.context.limit (body_context c.args.context) c.args.at c.args.connections.now (state_in c.args.self.now) (state_in c.buffer.new.self) c.args.bytes.now c.args.sink.now
    c.requires.kept c.in-Ok.ensures.ok
    (more_short c.args.context.limit c.args.self.now.unfinished.items c.args.bytes.now c.args.header c.args.size c.requires.begun c.requires.unfinished.0 (omega (arith, bounds.0, c.len.ensures.value, c.if-bytes-lacks.true))))

pub returns-in-Ok-clause-sound : goal.returns-in-Ok-clause-sound
returns-in-Ok-clause-sound g c =
    let bounds = short_is c.args.context.limit c.args.self.now.unfinished.items c.args.header c.args.size c.requires.begun c.requires.unfinished.0 in
    stays_unfinished c.args.context.limit (state_in c.args.self.now) (state_in c.buffer.new.self) c.args.bytes.now c.requires.kept c.in-Ok.ensures.ok
    (more_short c.args.context.limit c.args.self.now.unfinished.items c.args.bytes.now c.args.header c.args.size c.requires.begun c.requires.unfinished.0 (omega (arith, bounds.0, c.len.ensures.value, c.if-bytes-lacks.true)))

pub returns-in-Err-clause-stops : goal.returns-in-Err-clause-stops
returns-in-Err-clause-stops g c =
    let bounds = short_is c.args.context.limit c.args.self.now.unfinished.items c.args.header c.args.size c.requires.begun c.requires.unfinished.0 in
    subst (λ (refusal : Refusal). FlowStops {S = g.row.S.Denot} (Declines g.S.Sink.agrees g.S.Sink.refuses) c.args.context.limit (body_context c.args.context) (flow_of c.args.at (state_in c.args.self.now) c.args.connections.now)
    c.args.bytes.now c.args.sink.now c.args.sink.now refusal) (sym c.in-Err.ensures.err)
    (stops_memory (Declines g.S.Sink.agrees g.S.Sink.refuses) c.args.context.limit (body_context c.args.context) (flow_of c.args.at (state_in c.args.self.now) c.args.connections.now) c.args.bytes.now c.args.sink.now (omega (arith, c.requires.some)) c.requires.kept
    (more_short c.args.context.limit c.args.self.now.unfinished.items c.args.bytes.now c.args.header c.args.size c.requires.begun c.requires.unfinished.0 (omega (arith, bounds.0, c.len.ensures.value, c.if-bytes-lacks.true))))

-- nothing is unfinished then, and the direction isn't lost
pub returns-in-Ok-complete-clause-sound : goal.returns-in-Ok-complete-clause-sound
returns-in-Ok-complete-clause-sound g c =
    subst (λ (u : List ℕ). IsUnfinished c.args.context.limit (record { unfinished = u; lost = c.args.self.now.lost })) (sym c.in-Ok-complete.ensures.empty) (nothing_unfinished c.args.context.limit c.args.self.now.lost)

pub returns-in-Err-complete-clause-stops : goal.returns-in-Err-complete-clause-stops
returns-in-Err-complete-clause-stops g c =
    subst (λ (state : StreamState). FlowStops {S = g.row.S.Denot} (Declines g.S.Sink.agrees g.S.Sink.refuses) c.args.context.limit (body_context c.args.context) (flow_of c.args.at state c.args.connections.now)
    c.args.bytes.now c.args.sink.now c.complete.new.sink c.in-Err-complete.refusal) (still_there (state_in c.args.self.now) c.requires.kept)
    (stops_front (Declines g.S.Sink.agrees g.S.Sink.refuses) c.args.context.limit (body_context c.args.context) (flow_of c.args.at (record { unfinished = c.args.self.now.unfinished.items; lost = false }) c.args.connections.now) (c.args.size - c.len.result) c.args.bytes.now
    c.args.sink.now c.complete.new.sink _ c.in-Err-complete.ensures.stops)
