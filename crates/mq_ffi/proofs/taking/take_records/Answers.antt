use Rattle.std.proofs.Common.{subst}
use Rattle.mq_trace.specs.Writing.{framed}
use Rattle.mq_ffi.specs.Living.{Answer, TakesIn}
use Rattle.mq_ffi.proofs.TakingLaws.{taken_last, taken_more, taken_none, taken_stops}
use Rattle.mq_ffi.proofs.taking.take_records.Goals as goal

pub loop-rest-init : goal.loop-rest-init
loop-rest-init c = taken_none (framed 1 0 c.args.kind) c.args.bytes.now c.args.judge.now c.args.refused.now

pub loop-rest-preserved : goal.loop-rest-preserved
loop-rest-preserved c =
    taken_more (framed 1 0 c.args.kind) c.args.bytes.now c.loop-rest.rest.now c.split_at.result.0.now c.split_at.result.1.now c.args.judge.now c.loop-rest.judge c.take_record.new.judge
    c.args.refused.now c.loop-rest.refused c.take_record.new.refused c.loop-rest.invariant c.loop-rest-test.true c.split_at.ensures.front c.split_at.ensures.back
    (subst (λ (a : Answer). TakesIn (framed 1 0 c.args.kind c.split_at.result.0.now) c.loop-rest.judge c.take_record.new.judge c.loop-rest.refused c.take_record.new.refused a) c.in-Ok.is c.take_record.ensures)

pub returns-in-Err : goal.returns-in-Err
returns-in-Err c =
    taken_stops (framed 1 0 c.args.kind) c.args.bytes.now c.loop-rest.rest.now c.split_at.result.0.now c.split_at.result.1.now c.args.judge.now c.loop-rest.judge c.take_record.new.judge
    c.args.refused.now c.loop-rest.refused c.take_record.new.refused c.in-Err.trouble c.loop-rest.invariant c.loop-rest-test.true c.split_at.ensures.front c.split_at.ensures.back
    (subst (λ (a : Answer). TakesIn (framed 1 0 c.args.kind c.split_at.result.0.now) c.loop-rest.judge c.take_record.new.judge c.loop-rest.refused c.take_record.new.refused a) c.in-Err.is c.take_record.ensures)

pub returns : goal.returns
returns c =
    taken_last (framed 1 0 c.args.kind) c.args.bytes.now c.loop-rest.rest.now c.args.judge.now c.loop-rest.judge c.take_record-2.new.judge
    c.args.refused.now c.loop-rest.refused c.take_record-2.new.refused c.take_record-2.result c.loop-rest.invariant c.loop-rest-test.false c.take_record-2.ensures
