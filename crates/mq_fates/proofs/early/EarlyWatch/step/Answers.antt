use Rattle.std.specs.Prelude.{reverse}
use Rattle.mq_rules.proofs.Exports.{on_err}
use Rattle.mq_rules.specs.Under.{seen}
use Rattle.mq_fates.proofs.StepLaws.{history-goes, holds-more, holding-gains, ready, holds-none, ready-gains, ready-within}
use Rattle.mq_fates.proofs.early.EarlyWatch.step.Goals as goal

pub returns-in_ok-hold-in-None-clause-agrees : goal.returns-in_ok-hold-in-None-clause-agrees
returns-in_ok-hold-in-None-clause-agrees g c = λ tested taken past follows takes h.
    let s = c.args.self.now in
    holds-more (g.W.Fated.agrees s.watcher tested) s.role s.fate c.fate_next-self.result s.history c.consume.new.self s.held.items c.hold.new.held.items tested (seen c.args.at c.args.note.now) past h follows c.fate_next-self.ensures c.consume.ensures c.in-None.is c.in_ok-hold-in-None.ensures

pub returns-in_ok-hold-in-None-clause-grows : goal.returns-in_ok-hold-in-None-clause-grows
returns-in_ok-hold-in-None-clause-grows g c = λ tested taken past follows takes h.
    let s = c.args.self.now in
    holding-gains (g.W.Fated.agrees s.watcher tested) g.W.Fated.judges s.role s.fate c.fate_next-self.result s.history s.held.items tested (seen c.args.at c.args.note.now) past c.args.faults.now h c.fate_next-self.ensures c.in-None.is

pub returns-in_ok-pass-in-Some-clause-agrees : goal.returns-in_ok-pass-in-Some-clause-agrees
returns-in_ok-pass-in-Some-clause-agrees g c = λ tested taken past follows takes h.
    let s = c.args.self.now in
    let e = seen c.args.at c.args.note.now in
    let given = c.deref.result.now in
    let A = g.W.Fated.agrees s.watcher tested in
    let r = ready A s.role s.fate c.fate_next-self.result s.history s.held.items given tested c.in-Some.fate e past h follows c.fate_next-self.ensures c.in-Some.is c.deref.ensures.value in
    holds-none A s.role c.fate_next-self.result c.consume.new.self c.clear.new.self.items tested c.in-Some.fate e past (reverse given) r h.same_role
    (history-goes s.role tested s.history c.consume.new.self e past h.same_role h.same_history c.consume.ensures) c.in-Some.is c.clear.ensures.items
    (g.W.Fated.agrees c.pass.new.watcher tested) (c.in_ok-pass-in-Some.ensures.agrees tested r.base r.can r.before)

pub returns-in_ok-pass-in-Some-clause-grows : goal.returns-in_ok-pass-in-Some-clause-grows
returns-in_ok-pass-in-Some-clause-grows g c = λ tested taken past follows takes h.
    let s = c.args.self.now in
    let e = seen c.args.at c.args.note.now in
    let given = c.deref.result.now in
    let A = g.W.Fated.agrees s.watcher tested in
    let r = ready A s.role s.fate c.fate_next-self.result s.history s.held.items given tested c.in-Some.fate e past h follows c.fate_next-self.ensures c.in-Some.is c.deref.ensures.value in
    ready-gains A g.W.Fated.judges tested c.in-Some.fate e past (reverse given) c.args.faults.now c.pass.new.faults r (c.in_ok-pass-in-Some.ensures.grows tested r.base r.can r.before)

pub returns-in_err-pass-in-Some-clause-memory : goal.returns-in_err-pass-in-Some-clause-memory
returns-in_err-pass-in-Some-clause-memory g c =
    on_err c.from_residual-in_err-pass-in-Some.result _ (λ tested taken past follows takes h.
    let s = c.args.self.now in
    let e = seen c.args.at c.args.note.now in
    let given = c.deref.result.now in
    let A = g.W.Fated.agrees s.watcher tested in
    let r = ready A s.role s.fate c.fate_next-self.result s.history s.held.items given tested c.in-Some.fate e past h follows c.fate_next-self.ensures c.in-Some.is c.deref.ensures.value in
    ready-within A g.W.Fated.judges tested c.in-Some.fate e past (reverse given) c.args.faults.now c.pass.new.faults r (c.in_err-pass-in-Some.ensures.memory tested r.base r.can r.before))
