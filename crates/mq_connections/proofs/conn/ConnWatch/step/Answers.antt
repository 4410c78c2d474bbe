use Rattle.std.proofs.Common.{◌≡◌, ap, sym, subst, ◌∙◌, ◌∷◌, ◌&&◌, not, cond, true}
use Rattle.std.specs.BTreeSet.{contains}
use Rattle.std.specs.Ordering.{nat_cmp}
use Rattle.mq_rules.specs.Notes.{is_close}
use Rattle.mq_rules.specs.Connections.{latest_fate}
use Rattle.mq_rules.specs.Under.{seen}
use Rattle.mq_connections.specs.Finding.{is_found, is_harmless}
use Rattle.mq_rules.proofs.Exports.{on_err}
use Rattle.mq_connections.proofs.AtPlaceLaws.{within-all}
use Rattle.mq_connections.proofs.HarmlessLaws.{harmless-skips}
use Rattle.mq_connections.proofs.WatchLaws.{conn-next, conn-gains, conn-within, ConnWithin}
use Rattle.mq_connections.proofs.conn.ConnWatch.step.Goals as goal

pub returns-clause-agrees : goal.returns-clause-agrees
returns-clause-agrees c = λ tested taken past follows on here.
    let n = c.args.note.now in
    let e = seen c.args.at n in
    conn-next c.args.self.now (record { role = c.end_aliases.new.self.role; state = c.end_aliases.new.self.state; bounds = c.send_bounds-self.result; aliases = c.end_aliases.new.self.aliases }) tested taken (latest_fate tested.role (e ∷ past)) e past on here
    (c.end_aliases.ensures.role ∙ c.in_ok-consume.ensures.role)
    (c.end_aliases.ensures.state ∙ c.in_ok-consume.ensures.state)
    c.send_bounds-self.ensures
    (λ alias. c.end_aliases.ensures.aliases alias ∙ ap (λ b. not (is_close n) && b) (c.in_ok-consume.ensures.aliases alias))
    (c.end_aliases.ensures.as_many ∙ ap (cond (is_close n) 0) c.in_ok-consume.ensures.as_many)

pub returns-clause-grows : goal.returns-clause-grows
returns-clause-grows c = λ tested taken past follows on here.
    conn-gains c.args.self.now tested taken (seen c.args.at c.args.note.now) past c.args.faults.now c.judge.new.faults follows on here c.in_ok-judge.ensures.ok

pub returns-in_err-judge-clause-memory : goal.returns-in_err-judge-clause-memory
returns-in_err-judge-clause-memory c =
    let e = seen c.args.at c.args.note.now in
    on_err c.from_residual.result (ConnWithin c.args.self.now e c.args.faults.now c.judge.new.faults)
    (λ tested taken past follows on here. conn-within c.args.self.now tested taken e past c.args.faults.now c.judge.new.faults follows on here c.in_err-judge.ensures.memory)

pub returns-in_err-consume-clause-memory : goal.returns-in_err-consume-clause-memory
returns-in_err-consume-clause-memory c =
    let e = seen c.args.at c.args.note.now in
    on_err c.from_residual-in_err-consume.result (ConnWithin c.args.self.now e c.args.faults.now c.judge.new.faults)
    (λ tested taken past follows on here. conn-within c.args.self.now tested taken e past c.args.faults.now c.judge.new.faults follows on here
    (within-all (is_found c.args.self.now.role c.args.self.now.state (contains nat_cmp c.args.self.now.aliases) c.args.note.now) e.place c.args.faults.now c.judge.new.faults c.in_ok-judge.ensures.ok))

pub returns-then-is_harmless-clause-agrees : goal.returns-then-is_harmless-clause-agrees
returns-then-is_harmless-clause-agrees c = λ tested taken past follows on here.
    let n = c.args.note.now in
    (harmless-skips c.args.self.now tested taken (seen c.args.at n) past follows on
    (subst (λ b. is_harmless b n ≡ true) here.same_bounds (sym c.is_harmless.ensures ∙ c.if-is_harmless.true)) here).stays

pub returns-then-is_harmless-clause-grows : goal.returns-then-is_harmless-clause-grows
returns-then-is_harmless-clause-grows c = λ tested taken past follows on here.
    let n = c.args.note.now in
    (harmless-skips c.args.self.now tested taken (seen c.args.at n) past follows on
    (subst (λ b. is_harmless b n ≡ true) here.same_bounds (sym c.is_harmless.ensures ∙ c.if-is_harmless.true)) here).shows c.args.faults.now
