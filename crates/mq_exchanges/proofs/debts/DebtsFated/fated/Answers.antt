use Rattle.std.proofs.Common.{refl}
use Rattle.mq_rules.specs.Under.{seen, fate_before}
use Rattle.mq_exchanges.proofs.debts.DebtsFated.fated.Goals as goal

pub returns-then-not-may_concern-clause-agrees : goal.returns-then-not-may_concern-clause-agrees
returns-then-not-may_concern-clause-agrees g c = λ tested past under agree.
    let e = seen c.args.at (g.E.Noted.note c.args.event.now) in
    (c.passes.ensures tested c.args.fate c.args.decided e past (c.if-not-may_concern.ensures refl tested (fate_before tested c.args.fate e past) past agree) under agree).stays

pub returns-then-not-may_concern-clause-grows : goal.returns-then-not-may_concern-clause-grows
returns-then-not-may_concern-clause-grows g c = λ tested past under agree.
    let e = seen c.args.at (g.E.Noted.note c.args.event.now) in
    (c.passes.ensures tested c.args.fate c.args.decided e past (c.if-not-may_concern.ensures refl tested (fate_before tested c.args.fate e past) past agree) under agree).shows c.args.faults.now
