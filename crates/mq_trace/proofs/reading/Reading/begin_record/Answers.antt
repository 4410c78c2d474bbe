use Rattle.std.proofs.Common.{arith, ◌≡◌, ◌+◌, ◌∙◌, ap}
use Rattle.mq_trace.specs.declared.head.Head.{Head}
use Rattle.mq_trace.specs.declared.stage.Stage.TheVariants as stages
use Rattle.mq_trace.specs.Keeping.{begun_in}
use Rattle.mq_trace.proofs.reading.Reading.begin_record.Goals as goal

pub begin-requires : goal.begin-requires
begin-requires c =
    let none : begun_in c.args.self.now.stage ≡ 0 = ap begun_in c.requires.between in
    let counted = c.requires.sound.counted in
    let room = c.in-Ok.ensures.room in
    omega arith

pub returns-in-Ok-clause-begins : goal.returns-in-Ok-clause-begins
returns-in-Ok-clause-begins c =
    let r = c.args.self.now in
    let r' = c.begin.new.self in
    record {
      is = c.begin.ensures.is ∙ ap (λ (h : Head). record r { at = r.at + 1; stage = stages.Head h; sent = r'.sent; recv = r'.recv }) c.in-Ok.ensures.begun;
      sent = c.begin.ensures.sent;
      recv = c.begin.ensures.recv;
    }
