use Rattle.std.proofs.Common.{arith, subst, sym}
use Rattle.mq_connections.specs.Finding.{IsConn}
use Rattle.mq_rules.proofs.Exports.{on_err}
use Rattle.mq_connections.proofs.conn.counting.CountingConnWatch.step.Goals as goal

pub returns-clause-agrees : goal.returns-clause-agrees
returns-clause-agrees c = λ tested taken past follows on was.
    let conn = subst (λ conn. IsConn conn tested taken past) (sym c.count.ensures.conn) was.0 in
    let placed = follows.placed.0 in
    (c.in_ok-step.ensures.agrees tested taken past follows on conn, c.count.ensures.counts tested taken past was.0 placed was.1, omega arith)

pub returns-clause-grows : goal.returns-clause-grows
returns-clause-grows c = λ tested taken past follows on was.
    c.in_ok-step.ensures.grows tested taken past follows on (subst (λ conn. IsConn conn tested taken past) (sym c.count.ensures.conn) was.0)

pub returns-in_err-step-clause-memory : goal.returns-in_err-step-clause-memory
returns-in_err-step-clause-memory c =
    on_err c.from_residual.result _
    (λ tested taken past follows on was. c.in_err-step.ensures.memory tested taken past follows on (subst (λ conn. IsConn conn tested taken past) (sym c.count.ensures.conn) was.0))
