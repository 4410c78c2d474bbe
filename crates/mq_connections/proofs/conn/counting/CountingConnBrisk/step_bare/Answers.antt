use Rattle.std.proofs.Common.{arith, refl, subst, sym, ◌∙◌}
use Rattle.mq_rules.specs.Notes.{note_of_bare}
use Rattle.mq_rules.specs.Under.{seen}
use Rattle.mq_connections.specs.Finding.{IsConn}
use Rattle.mq_rules.proofs.Exports.{on_err}
use Rattle.mq_connections.proofs.conn.counting.CountingConnBrisk.step_bare.Goals as goal

pub returns-clause-agrees : goal.returns-clause-agrees
returns-clause-agrees c = λ tested taken past follows on was.
    let conn = subst (λ conn. IsConn conn tested taken past) (sym c.count_harmless.ensures.conn) was.0 in
    let placed = follows.placed.0 in (
      c.in_ok-step_bare.ensures.agrees tested taken past follows on conn,
      c.count_harmless.ensures.counts tested taken past (seen c.args.at (note_of_bare c.args.bare)) refl (sym c.is_bare_harmless.ensures ∙ c.if-not-is_bare_harmless.false) was.0 placed was.1,
      omega arith,
    )

pub returns-clause-grows : goal.returns-clause-grows
returns-clause-grows c = λ tested taken past follows on was.
    c.in_ok-step_bare.ensures.grows tested taken past follows on (subst (λ conn. IsConn conn tested taken past) (sym c.count_harmless.ensures.conn) was.0)

pub returns-in_err-step_bare-clause-memory : goal.returns-in_err-step_bare-clause-memory
returns-in_err-step_bare-clause-memory c =
    on_err c.from_residual-in_err-step_bare.result _
    (λ tested taken past follows on was. c.in_err-step_bare.ensures.memory tested taken past follows on (subst (λ conn. IsConn conn tested taken past) (sym c.count_harmless.ensures.conn) was.0))
