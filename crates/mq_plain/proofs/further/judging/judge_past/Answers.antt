use Rattle.std.specs.Prelude.{reverse}
use Rattle.mq_rules.specs.Steps.{turns}
use Rattle.mq_plain.proofs.JudgedLaws.{broken-gains, unbroken-gains, past-plain, past-at}
use Rattle.mq_plain.proofs.further.judging.judge_past.Goals as goal

pub returns-then-not-broken-clause-ok : goal.returns-then-not-broken-clause-ok
returns-then-not-broken-clause-ok g c = λ binds_it placed.
    let tested = c.args.tested in
    let rule = g.T.PastStatement.judged in
    let breaks = g.T.PastStatement.breaks tested.role in
    let says = g.met.T.PastStatement.says tested.role in
    let e = c.args.event.now in
    let past = reverse c.args.before.now in
    unbroken-gains tested rule (turns tested e past) e past e.place.position c.is_fault_at-broken.result c.args.faults.now
    (past-at tested rule breaks e past c.args.binds c.is_fault_at-broken.result says binds_it c.is_fault_at-broken.ensures) c.if-not-broken.true

pub returns-clause-ok : goal.returns-clause-ok
returns-clause-ok g c = λ binds_it placed.
    let tested = c.args.tested in
    let rule = g.T.PastStatement.judged in
    let breaks = g.T.PastStatement.breaks tested.role in
    let says = g.met.T.PastStatement.says tested.role in
    let e = c.args.event.now in
    let past = reverse c.args.before.now in
    broken-gains tested rule c.rule.result (turns tested e past) e past e.place.position c.is_fault_at-broken.result c.args.faults.now c.add_fault.new.faults placed
    (past-plain tested rule breaks says)
    (past-at tested rule breaks e past c.args.binds c.is_fault_at-broken.result says binds_it c.is_fault_at-broken.ensures) c.if-not-broken.false c.rule.ensures c.in_ok-add_fault.ensures.ok
