use Rattle.std.proofs.Common.{arith, ◌∷◌, [], refl}
use Rattle.std.specs.Prelude.{slice_index}
use Rattle.mq_log.specs.Framing.{kind_named, length_end}
use Rattle.mq_trace.proofs.ReadingLaws.{comes_quietly, comes_after, stops_after, first_of, five_of, comes_front, stops_front}
use Rattle.mq_trace.proofs.StageLaws.{begins_at, first_advances, first_sound, first_refused, stops_refused}
use Rattle.mq_log.specs.Reception.{Declines}
use Rattle.mq_trace.proofs.reading.Reading.consume_head.Goals as goal

pub returns-then-bytes-lt-LENGTH_END-clause-sound : goal.returns-then-bytes-lt-LENGTH_END-clause-sound
returns-then-bytes-lt-LENGTH_END-clause-sound g c =
    let r = c.args.self.now in
    let s = c.in-Ok.ensures in
    first_sound r _ c.in-Ok.kind c.requires.sound c.requires.past_header c.requires.between s.room s.begins

pub returns-then-bytes-lt-LENGTH_END-clause-comes : goal.returns-then-bytes-lt-LENGTH_END-clause-comes
returns-then-bytes-lt-LENGTH_END-clause-comes g c =
    let r = c.args.self.now in
    let s = c.in-Ok.ensures in
    let bytes = c.args.bytes.now in
    comes_front g.S.Sink.agrees r c.begin_record.new.self (slice_index bytes 0 ∷ []) bytes 1 c.args.sink.now c.args.sink.now (first_of bytes c.requires.some)
    (comes_quietly g.S.Sink.agrees r c.begin_record.new.self (slice_index bytes 0 ∷ []) c.args.sink.now (first_advances r c.begin_record.new.self (slice_index bytes 0) c.in-Ok.kind c.requires.past_header c.requires.between s.named s.met s.begins))

pub consume_length-requires-clause-sound : goal.consume_length-requires-clause-sound
consume_length-requires-clause-sound g c =
    let r = c.args.self.now in
    let s = c.in-Ok.ensures in
    first_sound r c.begin_record.new.self c.in-Ok.kind c.requires.sound c.requires.past_header c.requires.between s.room s.begins

pub returns-in-Ok-consume_length-clause-comes : goal.returns-in-Ok-consume_length-clause-comes
returns-in-Ok-consume_length-clause-comes g c =
    let r = c.args.self.now in
    let s = c.in-Ok.ensures in
    let bytes = c.args.bytes.now in
    let more = slice_index bytes 1 ∷ slice_index bytes 2 ∷ slice_index bytes 3 ∷ slice_index bytes 4 ∷ [] in
    let quiet = first_advances r c.begin_record.new.self (slice_index bytes 0) c.in-Ok.kind c.requires.past_header c.requires.between s.named s.met s.begins in
    comes_front g.S.Sink.agrees r c.consume_length.new.self (slice_index bytes 0 ∷ more) bytes length_end c.args.sink.now c.consume_length.new.sink (five_of bytes (omega arith))
    (comes_after g.S.Sink.agrees r c.begin_record.new.self c.consume_length.new.self (slice_index bytes 0 ∷ []) more c.args.sink.now c.consume_length.new.sink quiet c.in-Ok-consume_length.ensures.comes)

pub returns-in-Err-consume_length-clause-stops : goal.returns-in-Err-consume_length-clause-stops
returns-in-Err-consume_length-clause-stops g c =
    let r = c.args.self.now in
    let s = c.in-Ok.ensures in
    let bytes = c.args.bytes.now in
    let more = slice_index bytes 1 ∷ slice_index bytes 2 ∷ slice_index bytes 3 ∷ slice_index bytes 4 ∷ [] in
    let quiet = first_advances r c.begin_record.new.self (slice_index bytes 0) c.in-Ok.kind c.requires.past_header c.requires.between s.named s.met s.begins in
    stops_front (Declines g.S.Sink.agrees g.S.Sink.refuses) r (slice_index bytes 0 ∷ more) bytes length_end c.args.sink.now c.consume_length.new.sink _ (five_of bytes (omega arith))
    (stops_after (Declines g.S.Sink.agrees g.S.Sink.refuses) r c.begin_record.new.self (slice_index bytes 0 ∷ []) more c.args.sink.now c.consume_length.new.sink _ quiet (begins_at r c.begin_record.new.self c.in-Ok.kind s.begins) c.in-Err-consume_length.ensures.stops)

pub returns-in-Err-clause-stops : goal.returns-in-Err-clause-stops
returns-in-Err-clause-stops g c =
    let r = c.args.self.now in
    let bytes = c.args.bytes.now in
    stops_front (Declines g.S.Sink.agrees g.S.Sink.refuses) r (slice_index bytes 0 ∷ []) bytes 1 c.args.sink.now c.args.sink.now c.in-Err.refusal (first_of bytes c.requires.some)
    (stops_refused (Declines g.S.Sink.agrees g.S.Sink.refuses) r (slice_index bytes 0) c.args.sink.now c.in-Err.refusal
    (first_refused r (slice_index bytes 0) (kind_named (slice_index bytes 0)) c.in-Err.refusal c.requires.past_header c.requires.between refl c.in-Err.ensures.refused))
