use Rattle.std.proofs.Common.{arith, ◌≡◌, ◌+◌, ◌≤◌, ℕ, [], take, length, sym, subst, ◌∙◌, ap}
use Rattle.mq_log.specs.Framing.{head_length}
use Rattle.mq_trace.specs.declared.reading.Reading.{Reading}
use Rattle.mq_log.specs.Reception.{Declines}
use Rattle.mq_trace.specs.Keeping.{begun_in, Advances}
use Rattle.mq_trace.proofs.ReadingLaws.{comes_quietly}
use Rattle.mq_trace.proofs.TracingLaws.{rest_same}
use Rattle.mq_log.proofs.Exports.{head_least}
use Rattle.mq_trace.proofs.MomentLaws.{head_most}
use Rattle.mq_trace.proofs.HeadLaws.{head_taken, head_sound, comes_after_head, stops_after_head}
use Rattle.mq_trace.proofs.reading.Reading.consume_parts.Goals as goal

pub skip_head-requires-clause-room : goal.skip_head-requires-clause-room
skip_head-requires-clause-room g c =
    let r = c.args.self.now in
    let most = head_most r.header.version in
    let none : begun_in r.stage ≡ 0 = ap begun_in c.requires.head.between in
    let room = c.requires.head.room in
    omega (arith, c.requires.sound.counted)

pub returns-then-left-eq0-clause-comes : goal.returns-then-left-eq0-clause-comes
returns-then-left-eq0-clause-comes g c =
    let r = c.args.self.now in
    let bytes = c.args.bytes.now in
    let n = c.head_length-head.result in
    let is : n ≡ head_length r.header.version = c.head_length-head.ensures in
    comes_quietly g.S.Sink.agrees r c.skip_head.new.self (take n bytes) c.args.sink.now
    (subst (λ (k : ℕ). Advances r c.skip_head.new.self (take k bytes) []) (sym is) (head_taken r c.skip_head.new.self c.args.direction c.args.left c.args.moment bytes c.requires.head c.skip_head.ensures))

pub returns-in-Ok-clause-comes : goal.returns-in-Ok-clause-comes
returns-in-Ok-clause-comes g c =
    let r = c.args.self.now in
    let bytes = c.args.bytes.now in
    let n = c.head_length-head.result in
    let is : n ≡ head_length r.header.version = c.head_length-head.ensures in
    comes_after_head g.S.Sink.agrees r c.skip_head.new.self c.consume_part.new.self n c.in-Ok.count bytes _ c.args.sink.now c.consume_part.new.sink
    (rest_same n bytes)
    (subst (λ (k : ℕ). Advances r c.skip_head.new.self (take k bytes) []) (sym is) (head_taken r c.skip_head.new.self c.args.direction c.args.left c.args.moment bytes c.requires.head c.skip_head.ensures))
    c.in-Ok.ensures.comes

pub returns-in-Err-clause-stops : goal.returns-in-Err-clause-stops
returns-in-Err-clause-stops g c =
    let r = c.args.self.now in
    let bytes = c.args.bytes.now in
    let n = c.head_length-head.result in
    let is : n ≡ head_length r.header.version = c.head_length-head.ensures in
    let there : head_length r.header.version ≤ length bytes = c.requires.head.whole in
    stops_after_head (Declines g.S.Sink.agrees g.S.Sink.refuses) r c.skip_head.new.self n bytes _ c.args.sink.now c.consume_part.new.sink c.in-Err.refusal
    (rest_same n bytes) (omega (arith, is, there))
    (subst (λ (k : ℕ). Advances r c.skip_head.new.self (take k bytes) []) (sym is) (head_taken r c.skip_head.new.self c.args.direction c.args.left c.args.moment bytes c.requires.head c.skip_head.ensures))
    (ap (λ (x : Reading). x.at) c.skip_head.ensures ∙ ap (λ k. r.at + k) (sym is)) c.in-Err.ensures.stops

pub returns-then-left-eq0-clause-count : goal.returns-then-left-eq0-clause-count
returns-then-left-eq0-clause-count g c =
    let r = c.args.self.now in
    let least = head_least r.header.version in
    let is : c.head_length-head.result ≡ head_length r.header.version = c.head_length-head.ensures in
    let there : head_length r.header.version ≤ length c.args.bytes.now = c.requires.head.whole in
    (omega arith, omega arith)

pub returns-then-left-eq0-clause-sound : goal.returns-then-left-eq0-clause-sound
returns-then-left-eq0-clause-sound g c =
    head_sound c.args.self.now c.skip_head.new.self c.args.direction c.args.left c.args.moment c.args.bytes.now c.requires.sound c.requires.head c.skip_head.ensures

pub consume_part-requires-clause-sound : goal.consume_part-requires-clause-sound
consume_part-requires-clause-sound g c =
    head_sound c.args.self.now c.skip_head.new.self c.args.direction c.args.left c.args.moment c.args.bytes.now c.requires.sound c.requires.head c.skip_head.ensures
