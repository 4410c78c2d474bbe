use Rattle.std.proofs.Common.{◌≡◌, true, sym, subst, ◌∙◌}
use Rattle.mq_connections.specs.Finding.{is_harmless}
use Rattle.mq_rules.specs.Notes.{note_of_bare}
use Rattle.mq_rules.specs.Under.{seen}
use Rattle.mq_connections.proofs.HarmlessLaws.{harmless-skips}
use Rattle.mq_connections.proofs.conn.ConnBrisk.step_bare.Goals as goal

pub returns-then-is_bare_harmless-clause-agrees : goal.returns-then-is_bare_harmless-clause-agrees
returns-then-is_bare_harmless-clause-agrees c = λ tested taken past follows on here.
    let n = note_of_bare c.args.bare in
    (harmless-skips c.args.self.now tested taken (seen c.args.at n) past follows on
    (subst (λ b. is_harmless b n ≡ true) here.same_bounds (sym c.is_bare_harmless.ensures ∙ c.if-is_bare_harmless.true)) here).stays

pub returns-then-is_bare_harmless-clause-grows : goal.returns-then-is_bare_harmless-clause-grows
returns-then-is_bare_harmless-clause-grows c = λ tested taken past follows on here.
    let n = note_of_bare c.args.bare in
    (harmless-skips c.args.self.now tested taken (seen c.args.at n) past follows on
    (subst (λ b. is_harmless b n ≡ true) here.same_bounds (sym c.is_bare_harmless.ensures ∙ c.if-is_bare_harmless.true)) here).shows c.args.faults.now
