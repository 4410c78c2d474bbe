-- The next byte, by what it is to its packet.
use Rattle.std.proofs.Common.{◌+◌, true, false, List, [], ◌∷◌, ℕ, arith, sym, subst, OnOk, IfErr}
use Rattle.std.proofs.lemmas.Result.{on_ok_weaker}
use Rattle.mq_log.specs.declared.refusal.Refusal.TheVariants.{Memory}
use Rattle.mq_log.specs.Context.{StreamState}
use Rattle.mq_trace.specs.Keeping.{state_in, IsUnfinished}
use Rattle.mq_trace.specs.Deframing.{body_context, flow_of, FlowComes, FlowStops}
use Rattle.mq_trace.proofs.DeframerLaws.{stays, stops_memory, stops_over, nothing_unfinished}
use Rattle.mq_trace.proofs.ByteLaws.{lost_comes, lost_stops, sound_nothing, kept_to, always, still_there, if_named}
use Rattle.mq_log.specs.Reception.{Declines}
use Rattle.mq_trace.proofs.deframer.Deframer.consume_byte.Goals as goal

pub returns-in-GoesOn-clause-comes : goal.returns-in-GoesOn-clause-comes
returns-in-GoesOn-clause-comes g c =
    on_ok_weaker c.buffer.result
    (λ kept. stays g.S.Sink.agrees c.args.context.limit (body_context c.args.context) c.args.at c.args.connections.now (state_in c.args.self.now) (state_in c.buffer.new.self) (c.args.byte ∷ []) c.args.sink.now
    c.requires.kept kept c.in-GoesOn.ensures)
    c.buffer.ensures.ok

pub returns-in-GoesOn-clause-stops : goal.returns-in-GoesOn-clause-stops
returns-in-GoesOn-clause-stops g c =
    if_named c.buffer.result
    (λ refusal. FlowStops {S = g.row.S.Denot} (Declines g.S.Sink.agrees g.S.Sink.refuses) c.args.context.limit (body_context c.args.context) (flow_of c.args.at (state_in c.args.self.now) c.args.connections.now)
    (c.args.byte ∷ []) c.args.sink.now c.args.sink.now refusal) (Memory c.args.at) c.buffer.ensures.err
    (stops_memory (Declines g.S.Sink.agrees g.S.Sink.refuses) c.args.context.limit (body_context c.args.context) (flow_of c.args.at (state_in c.args.self.now) c.args.connections.now) (c.args.byte ∷ []) c.args.sink.now (omega arith)
    c.requires.kept c.in-GoesOn.ensures)

pub returns-in-Ends-clause-sound : goal.returns-in-Ends-clause-sound
returns-in-Ends-clause-sound g c =
    on_ok_weaker c.complete.result
    (λ empty. subst (λ (u : List ℕ). IsUnfinished c.args.context.limit (record { unfinished = u; lost = c.args.self.now.lost })) (sym empty) (nothing_unfinished c.args.context.limit c.args.self.now.lost))
    c.complete.ensures.empty

pub returns-in-TooLarge-clause-stops : goal.returns-in-TooLarge-clause-stops
returns-in-TooLarge-clause-stops g c =
    stops_over (Declines g.S.Sink.agrees g.S.Sink.refuses) c.args.context.limit (body_context c.args.context) (flow_of c.args.at (state_in c.args.self.now) c.args.connections.now) c.args.byte c.args.sink.now
    c.requires.kept c.in-TooLarge.ensures

pub returns-in-Loses-clause-comes : goal.returns-in-Loses-clause-comes
returns-in-Loses-clause-comes g c =
    subst (λ (state : StreamState). OnOk c.mark_lost.result (FlowComes g.S.Sink.agrees c.args.context.limit (body_context c.args.context) (flow_of c.args.at state c.args.connections.now)
    (flow_of (c.args.at + 1) (state_in c.mark_lost.new.self) c.mark_lost.new.connections) (c.args.byte ∷ []) c.args.sink.now c.mark_lost.new.sink))
    (still_there (state_in c.args.self.now) c.requires.kept)
    (kept_to c.mark_lost.result g.S.Sink.agrees c.args.context.limit (body_context c.args.context) (flow_of c.args.at (record { unfinished = c.args.self.now.unfinished.items; lost = false }) c.args.connections.now) (c.args.at + 1)
    (record { unfinished = []; lost = true }) (state_in c.mark_lost.new.self) c.mark_lost.new.connections (c.args.byte ∷ []) c.args.sink.now c.mark_lost.new.sink
    (always c.mark_lost.result (state_in c.mark_lost.new.self) (record { unfinished = []; lost = true }) c.mark_lost.ensures.gone)
    (lost_comes g.S.Sink.agrees (Declines g.S.Sink.agrees g.S.Sink.refuses) c.args.context.limit c.args.context c.args.at c.args.connections.now c.args.self.now.unfinished.items c.args.byte
    c.mark_lost.result c.mark_lost.new.connections c.args.sink.now c.mark_lost.new.sink c.in-Loses.ensures c.mark_lost.ensures.met c.mark_lost.ensures.kept c.mark_lost.ensures.receives))

pub returns-in-Loses-clause-sound : goal.returns-in-Loses-clause-sound
returns-in-Loses-clause-sound g c =
    sound_nothing c.mark_lost.result c.args.context.limit (state_in c.mark_lost.new.self) true (always c.mark_lost.result (state_in c.mark_lost.new.self) (record { unfinished = []; lost = true }) c.mark_lost.ensures.gone)

pub returns-in-Loses-clause-stops : goal.returns-in-Loses-clause-stops
returns-in-Loses-clause-stops g c =
    subst (λ (state : StreamState). IfErr c.mark_lost.result (λ refusal. FlowStops (Declines g.S.Sink.agrees g.S.Sink.refuses) c.args.context.limit (body_context c.args.context) (flow_of c.args.at state c.args.connections.now)
    (c.args.byte ∷ []) c.args.sink.now c.mark_lost.new.sink refusal))
    (still_there (state_in c.args.self.now) c.requires.kept)
    (lost_stops g.S.Sink.agrees (Declines g.S.Sink.agrees g.S.Sink.refuses) c.args.context.limit c.args.context c.args.at c.args.connections.now c.args.self.now.unfinished.items c.args.byte
    c.mark_lost.result c.args.sink.now c.mark_lost.new.sink c.in-Loses.ensures c.mark_lost.ensures.err)
