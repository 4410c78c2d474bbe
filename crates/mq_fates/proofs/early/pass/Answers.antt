use Rattle.std.proofs.Common.{◌++◌}
use Rattle.std.specs.Prelude.{reverse}
use Rattle.mq_rules.proofs.Exports.{on_err}
use Rattle.mq_rules.specs.Under.{seen}
use Rattle.mq_fates.proofs.EarlyLaws.{passes, passed-gains, passed-first, passed-second}
use Rattle.std.proofs.Common.{subst}
use Rattle.mq_fates.proofs.early.pass.Goals as goal

pub returns-clause-agrees : goal.returns-clause-agrees
returns-clause-agrees g c = λ tested base can agrees.
    let hs = reverse c.args.held.now in
    let e = seen c.args.at c.args.note.now in
    let p = passes tested c.args.fate e hs base can in
    c.in_ok-fated.ensures.agrees tested (hs ++ base) p.under (subst (λ o. g.W.Fated.agrees c.hand.new.watcher tested o (hs ++ base)) p.before (c.in_ok-hand.ensures.agrees tested base can.hand agrees))

pub returns-clause-grows : goal.returns-clause-grows
returns-clause-grows g c = λ tested base can agrees.
    let hs = reverse c.args.held.now in
    let e = seen c.args.at c.args.note.now in
    let p = passes tested c.args.fate e hs base can in
    passed-gains g.W.Fated.judges tested c.args.fate e hs base c.args.at.position c.args.faults.now c.hand.new.faults c.fated.new.faults can
    (c.in_ok-hand.ensures.grows tested base can.hand agrees)
    (c.in_ok-fated.ensures.grows tested (hs ++ base) p.under (subst (λ o. g.W.Fated.agrees c.hand.new.watcher tested o (hs ++ base)) p.before (c.in_ok-hand.ensures.agrees tested base can.hand agrees)))

pub returns-in_err-hand-clause-memory : goal.returns-in_err-hand-clause-memory
returns-in_err-hand-clause-memory g c =
    on_err c.from_residual.result _ (λ tested base can agrees.
    passed-first g.W.Fated.judges tested c.args.fate (seen c.args.at c.args.note.now) (reverse c.args.held.now) base c.args.at.position c.args.faults.now c.hand.new.faults can
    (c.in_err-hand.ensures.memory tested base can.hand agrees))

pub returns-in_err-fated-clause-memory : goal.returns-in_err-fated-clause-memory
returns-in_err-fated-clause-memory g c =
    on_err c.from_residual-in_err-fated.result _ (λ tested base can agrees.
    let hs = reverse c.args.held.now in
    let e = seen c.args.at c.args.note.now in
    let p = passes tested c.args.fate e hs base can in
    passed-second g.W.Fated.judges tested c.args.fate e hs base c.args.at.position c.args.faults.now c.hand.new.faults c.fated.new.faults can
    (c.in_ok-hand.ensures.grows tested base can.hand agrees)
    (c.in_err-fated.ensures.memory tested (hs ++ base) p.under (subst (λ o. g.W.Fated.agrees c.hand.new.watcher tested o (hs ++ base)) p.before (c.in_ok-hand.ensures.agrees tested base can.hand agrees))))
