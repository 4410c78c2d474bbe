use Rattle.std.proofs.Common.{arith, ◌≡◌, ◌∷◌, [], subst}
use Rattle.std.specs.Int.{w16, from_be_bytes}
use Rattle.mq_log.specs.Events.{released}
use Rattle.mq_trace.proofs.EndLaws.{CompletesEvent, release_emits}
use Rattle.mq_trace.proofs.EmissionLaws.{emitted_comes, emitted_stops}
use Rattle.mq_log.specs.Reception.{Declines}
use Rattle.mq_trace.proofs.reading.Reading.end_release.Goals as goal

pub returns-clause-comes : goal.returns-clause-comes
returns-clause-comes g c =
    let r = c.args.self.now in
    let s = c.end_mark.ensures in
    let same : from_be_bytes w16 (c.args.high ∷ c.args.low ∷ []) ≡ c.from_be_bytes-identifier.result = omega (arith, c.from_be_bytes-identifier.ensures) in
    let emits : CompletesEvent r r.moment c.args.low (released c.from_be_bytes-identifier.result) = subst (λ n. CompletesEvent r r.moment c.args.low (released n)) same (release_emits r c.args.high c.args.low c.requires.sound c.requires.within) in
    emitted_comes g.S.Sink.agrees r _ r.moment c.args.low (released c.from_be_bytes-identifier.result) _ _ _ emits s.met s.kept s.receives

pub returns-clause-stops : goal.returns-clause-stops
returns-clause-stops g c =
    let r = c.args.self.now in
    let s = c.end_mark.ensures in
    let same : from_be_bytes w16 (c.args.high ∷ c.args.low ∷ []) ≡ c.from_be_bytes-identifier.result = omega (arith, c.from_be_bytes-identifier.ensures) in
    let emits : CompletesEvent r r.moment c.args.low (released c.from_be_bytes-identifier.result) = subst (λ n. CompletesEvent r r.moment c.args.low (released n)) same (release_emits r c.args.high c.args.low c.requires.sound c.requires.within) in
    emitted_stops (Declines g.S.Sink.agrees g.S.Sink.refuses) r r.moment c.args.low (released c.from_be_bytes-identifier.result) _ _ _ emits s.err
