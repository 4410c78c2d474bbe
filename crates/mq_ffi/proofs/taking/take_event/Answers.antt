use Rattle.std.proofs.Common.{ℕ, List, subst, sym}
use Rattle.mq_trace.specs.Writing.{framed}
use Rattle.mq_ffi.specs.declared.event.Event.{Event}
use Rattle.mq_ffi.specs.Living.{TakesIn}
use Rattle.mq_ffi.specs.Telling.{bytes_of}
use Rattle.mq_ffi.proofs.taking.take_event.Goals as goal

pub returns-in-Open : goal.returns-in-Open
returns-in-Open c = subst (λ (e : Event). TakesIn (bytes_of e) c.args.judge.now c.take_record.new.judge c.args.refused.now c.take_record.new.refused c.take_record.result) (sym c.in-Open.is) c.take_record.ensures

pub returns-in-Sent : goal.returns-in-Sent
returns-in-Sent c = subst (λ (e : Event). TakesIn (bytes_of e) c.args.judge.now c.take_records.new.judge c.args.refused.now c.take_records.new.refused c.take_records.result) (sym c.in-Sent.is) c.take_records.ensures

pub returns-in-Received : goal.returns-in-Received
returns-in-Received c = subst (λ (e : Event). TakesIn (bytes_of e) c.args.judge.now c.take_records-in-Received.new.judge c.args.refused.now c.take_records-in-Received.new.refused c.take_records-in-Received.result) (sym c.in-Received.is) c.take_records-in-Received.ensures

pub returns-in-Close : goal.returns-in-Close
returns-in-Close c = subst (λ (e : Event). TakesIn (bytes_of e) c.args.judge.now c.take_record-in-Close.new.judge c.args.refused.now c.take_record-in-Close.new.refused c.take_record-in-Close.result) (sym c.in-Close.is) c.take_record-in-Close.ensures

pub returns-in-Rest : goal.returns-in-Rest
returns-in-Rest c = subst (λ (e : Event). TakesIn (bytes_of e) c.args.judge.now c.take_record-in-Rest.new.judge c.args.refused.now c.take_record-in-Rest.new.refused c.take_record-in-Rest.result) (sym c.in-Rest.is) c.take_record-in-Rest.ensures

pub returns-in-Release : goal.returns-in-Release
returns-in-Release c =
    subst (λ (e : Event). TakesIn (bytes_of e) c.args.judge.now c.take_record-in-Release.new.judge c.args.refused.now c.take_record-in-Release.new.refused c.take_record-in-Release.result) (sym c.in-Release.is)
    (subst (λ (body : List ℕ). TakesIn (framed 1 0 6 body) c.args.judge.now c.take_record-in-Release.new.judge c.args.refused.now c.take_record-in-Release.new.refused c.take_record-in-Release.result) c.to_be_bytes.ensures c.take_record-in-Release.ensures)
