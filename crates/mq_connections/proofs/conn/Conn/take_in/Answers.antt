use Rattle.std.specs.BTreeSet.{contains}
use Rattle.std.specs.Ordering.{nat_cmp}
use Rattle.mq_connections.specs.Finding.{is_found}
use Rattle.mq_rules.proofs.Exports.{on_err}
use Rattle.mq_connections.proofs.AtPlaceLaws.{within-all}
use Rattle.mq_connections.proofs.FindLaws.{agrees-next, step-grows, step-within, StepWithin}
use Rattle.mq_connections.proofs.conn.Conn.take_in.Goals as goal

pub returns-clause-agrees : goal.returns-clause-agrees
returns-clause-agrees c = λ tested past here.
    agrees-next c.args.self.now c.consume.new.self tested (record { place = c.args.place; note = c.args.note.now }) past here
    c.in_ok-consume.ensures.role c.in_ok-consume.ensures.state c.in_ok-consume.ensures.aliases

pub returns-clause-grows : goal.returns-clause-grows
returns-clause-grows c = λ tested past here placed.
    step-grows c.args.self.now tested c.args.place c.args.note.now past c.args.faults.now c.judge.new.faults here placed c.in_ok-judge.ensures.ok

pub returns-in_err-judge-clause-memory : goal.returns-in_err-judge-clause-memory
returns-in_err-judge-clause-memory c =
    on_err c.from_residual.result (StepWithin c.args.self.now c.args.place c.args.note.now c.args.faults.now c.judge.new.faults)
    (step-within c.args.self.now c.args.place c.args.note.now c.args.faults.now c.judge.new.faults c.in_err-judge.ensures.memory)

pub returns-in_err-consume-clause-memory : goal.returns-in_err-consume-clause-memory
returns-in_err-consume-clause-memory c =
    on_err c.from_residual-in_err-consume.result (StepWithin c.args.self.now c.args.place c.args.note.now c.args.faults.now c.judge.new.faults)
    (step-within c.args.self.now c.args.place c.args.note.now c.args.faults.now c.judge.new.faults
    (within-all (is_found c.args.self.now.role c.args.self.now.state (contains nat_cmp c.args.self.now.aliases) c.args.note.now) c.args.place c.args.faults.now c.judge.new.faults c.in_ok-judge.ensures.ok))
