use Rattle.std.proofs.Common.{arith, ◌≡◌, ℕ, ◌≤◌, List, length, min, take, drop, sym, subst}
use Rattle.std.proofs.lemmas.List.{take-append-drop, length-take}
use Rattle.mq_trace.specs.Keeping.{StepStops}
use Rattle.mq_trace.proofs.ReadingLaws.{stops_longer}
use Rattle.mq_trace.proofs.BodyLaws.{body_comes, body_stops}
use Rattle.mq_log.specs.Reception.{Declines}
use Rattle.mq_trace.proofs.reading.Reading.consume_body.Goals as goal

within : (m n left : ℕ) (bytes : List ℕ) → m ≡ min n left → length (take m bytes) ≤ left
within m n left bytes is = let l = length-take m bytes in omega arith

pub returns-in-Ok-pass_whole-clause-comes : goal.returns-in-Ok-pass_whole-clause-comes
returns-in-Ok-pass_whole-clause-comes g c =
    let r = c.args.self.now in
    let s = c.in-Ok-pass_whole.ensures in
    let m = c.min.result in
    let bytes = c.args.bytes.now in
    body_comes r c.args.direction c.args.left c.requires.sound c.requires.within g.S.Sink.agrees bytes (take m bytes) (drop m bytes) c.in-Ok-pass_whole.count c.pass_whole.new.self _ _ _ (sym (take-append-drop m bytes)) s.count.1
    (within m (length bytes) c.args.left bytes c.min.ensures) s.is c.leave.ensures s.unrefused s.kept s.receives

pub returns-in-Err-pass_whole-clause-stops : goal.returns-in-Err-pass_whole-clause-stops
returns-in-Err-pass_whole-clause-stops g c =
    let r = c.args.self.now in
    let m = c.min.result in
    let bytes = c.args.bytes.now in
    let stop = body_stops r c.args.direction c.args.left c.requires.sound c.requires.within (Declines g.S.Sink.agrees g.S.Sink.refuses) (take m bytes) _ _ _ (within m (length bytes) c.args.left bytes c.min.ensures) c.in-Err-pass_whole.ensures.stops in
    subst (λ (l : List ℕ). StepStops (Declines g.S.Sink.agrees g.S.Sink.refuses) r l c.args.sink.now c.pass_whole.new.sink c.in-Err-pass_whole.refusal) (take-append-drop m bytes) (stops_longer (Declines g.S.Sink.agrees g.S.Sink.refuses) r (take m bytes) (drop m bytes) _ _ _ stop)
