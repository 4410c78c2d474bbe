use Rattle.std.proofs.Common.{◌≡◌, ◌∷◌, [], None, subst}
use Rattle.mq_log.specs.Events.{UnfinishedPackets, closed}
use Rattle.mq_log.specs.Reception.{Declines}
use Rattle.mq_trace.specs.Emission.{event_refusal, next_placed, NotEmitted}
use Rattle.mq_trace.specs.Stepping.{in_record_of}
use Rattle.mq_trace.proofs.reading.Reading.end_close.Goals as goal

pub returns-in-Ok-clause-met : goal.returns-in-Ok-clause-met
returns-in-Ok-clause-met g c =
    let r = c.args.self.now in
    subst (λ (u : UnfinishedPackets). event_refusal r.at r.header.server r.connections (closed u) ≡ None) c.unfinished_packets-unfinished.ensures
    (rw c.in-Ok.is at c.emit.ensures.met r.header.server)

pub returns-in-Err-clause-err : goal.returns-in-Err-clause-err
returns-in-Err-clause-err g c =
    let r = c.args.self.now in
    subst (λ (u : UnfinishedPackets). NotEmitted (Declines g.S.Sink.agrees g.S.Sink.refuses) r.at (event_refusal r.at r.header.server r.connections (closed u)) (next_placed r.connections (in_record_of r c.args.moment) (closed u) ∷ []) c.args.sink.now c.emit.new.sink c.in-Err.refusal)
    c.unfinished_packets-unfinished.ensures (rw c.in-Err.is at c.emit.ensures.err r.header.server)
