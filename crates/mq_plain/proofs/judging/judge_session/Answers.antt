use Rattle.std.specs.Prelude.{reverse}
use Rattle.mq_rules.specs.Under.{turns_with}
use Rattle.mq_plain.proofs.JudgedLaws.{broken-gains, unbroken-gains, session-plain, session-at}
use Rattle.mq_plain.proofs.judging.judge_session.Goals as goal

pub returns-then-not-broken-clause-ok : goal.returns-then-not-broken-clause-ok
returns-then-not-broken-clause-ok g c = λ binds_it comes.
    let turn = c.args.turn in
    let rule = g.T.SessionStatement.judged in
    let breaks = g.T.SessionStatement.breaks turn.tested.role in
    let says = g.met.T.SessionStatement.says turn.tested.role in
    let e = c.args.event.now in
    let past = reverse c.args.before.now in
    unbroken-gains turn.tested rule (turns_with turn.tested turn.fate e past) e past turn.decided c.in_ok-broken.broken c.args.faults.now
    (session-at turn rule breaks e past c.args.binds c.in_ok-broken.broken says binds_it c.in_ok-broken.ensures) c.if-not-broken.true

pub returns-clause-ok : goal.returns-clause-ok
returns-clause-ok g c = λ binds_it comes.
    let turn = c.args.turn in
    let rule = g.T.SessionStatement.judged in
    let breaks = g.T.SessionStatement.breaks turn.tested.role in
    let says = g.met.T.SessionStatement.says turn.tested.role in
    let e = c.args.event.now in
    let past = reverse c.args.before.now in
    broken-gains turn.tested rule c.rule.result (turns_with turn.tested turn.fate e past) e past turn.decided c.in_ok-broken.broken c.args.faults.now c.add_fault.new.faults comes.is_placed.0
    (session-plain turn.tested rule breaks says)
    (session-at turn rule breaks e past c.args.binds c.in_ok-broken.broken says binds_it c.in_ok-broken.ensures) c.if-not-broken.false c.rule.ensures c.in_ok-add_fault.ensures.ok
