use Rattle.std.proofs.Common.{arith, ◌≡◌, ◌<◌, ◌∷◌, [], None, rules, sym, subst}
use Rattle.std.specs.Prelude.{slice_index}
use Rattle.mq_trace.specs.declared.reading.Reading.{Reading}
use Rattle.mq_trace.specs.declared.stage.Stage.TheVariants as stages
use Rattle.mq_trace.specs.Keeping.{Advances}
use Rattle.mq_trace.proofs.ReadingLaws.{comes_quietly, first_of, comes_front, stops_front}
use Rattle.mq_trace.proofs.StageLaws.{header_advances, header_stops, stops_refused}
use Rattle.mq_trace.proofs.EndLaws.{high_advances}
use Rattle.mq_log.specs.Reception.{Declines}
use Rattle.mq_trace.proofs.reading.Reading.go_on.Goals as goal

pub returns-in-Ok-clause-comes : goal.returns-in-Ok-clause-comes
returns-in-Ok-clause-comes g c =
    let r = c.args.self.now in
    let bytes = c.args.bytes.now in
    let b = slice_index bytes 0 in
    let sink = c.args.sink.now in
    let short : r.at < 8 = omega (arith, c.if-self-lt-HEADER_LENGTH.true) in
    let s = c.in-Ok.ensures in
    comes_front g.S.Sink.agrees r c.consume_header.new.self (b ∷ []) bytes 1 sink sink (first_of bytes c.requires.some)
    (comes_quietly g.S.Sink.agrees r c.consume_header.new.self (b ∷ []) sink
    (subst (λ (x : Reading). Advances r x (b ∷ []) []) (sym s.kept) (header_advances r b short (c.requires.sound.header_first short).0 s.refused)))

pub returns-in-Err-clause-stops : goal.returns-in-Err-clause-stops
returns-in-Err-clause-stops g c =
    let r = c.args.self.now in
    let bytes = c.args.bytes.now in
    let b = slice_index bytes 0 in
    let sink = c.args.sink.now in
    let short : r.at < 8 = omega (arith, c.if-self-lt-HEADER_LENGTH.true) in
    stops_front (Declines g.S.Sink.agrees g.S.Sink.refuses) r (b ∷ []) bytes 1 sink sink c.in-Err.refusal (first_of bytes c.requires.some)
    (stops_refused (Declines g.S.Sink.agrees g.S.Sink.refuses) r b sink c.in-Err.refusal (header_stops r b c.in-Err.refusal short c.in-Err.ensures.refused))

pub returns-in-Err-go_on_head-clause-stops : goal.returns-in-Err-go_on_head-clause-stops
returns-in-Err-go_on_head-clause-stops g c =
    let bytes = c.args.bytes.now in
    stops_front (Declines g.S.Sink.agrees g.S.Sink.refuses) c.args.self.now (slice_index bytes 0 ∷ []) bytes 1 c.args.sink.now c.go_on_head.new.sink c.in-Err-go_on_head.refusal (first_of bytes c.requires.some)
    c.in-Err-go_on_head.ensures.stops

pub returns-in-Release-None-clause-comes : goal.returns-in-Release-None-clause-comes
returns-in-Release-None-clause-comes g c =
    let r = c.args.self.now in
    let bytes = c.args.bytes.now in
    let b = slice_index bytes 0 in
    let sink = c.args.sink.now in
    let staged : r.stage ≡ stages.Release None = search (rules, c.in-Release-None.is, c.in-Release-None.field-0-is) in
    comes_front g.S.Sink.agrees r _ (b ∷ []) bytes 1 sink sink (first_of bytes c.requires.some)
    (comes_quietly g.S.Sink.agrees r _ (b ∷ []) sink (high_advances r b c.requires.sound staged))

pub returns-in-Err-end_release-clause-stops : goal.returns-in-Err-end_release-clause-stops
returns-in-Err-end_release-clause-stops g c =
    let bytes = c.args.bytes.now in
    stops_front (Declines g.S.Sink.agrees g.S.Sink.refuses) c.args.self.now (slice_index bytes 0 ∷ []) bytes 1 c.args.sink.now c.end_release.new.sink c.in-Err-end_release.refusal (first_of bytes c.requires.some)
    c.in-Err-end_release.ensures.stops

pub returns-in-Err-go_on_moment-clause-stops : goal.returns-in-Err-go_on_moment-clause-stops
returns-in-Err-go_on_moment-clause-stops g c =
    let bytes = c.args.bytes.now in
    stops_front (Declines g.S.Sink.agrees g.S.Sink.refuses) c.args.self.now (slice_index bytes 0 ∷ []) bytes 1 c.args.sink.now c.go_on_moment.new.sink c.in-Err-go_on_moment.refusal (first_of bytes c.requires.some)
    c.in-Err-go_on_moment.ensures.stops
