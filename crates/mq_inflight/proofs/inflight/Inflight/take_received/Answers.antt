use Rattle.mq_rules.specs.Notes.{note_of_bare}
use Rattle.mq_inflight.proofs.MovingLaws.{puback-moves, pubcomp-moves, pubrec-moves}
use Rattle.mq_inflight.proofs.inflight.Inflight.take_received.Goals as goal

pub returns-in_ok-set_free-in-Puback-clause-agrees : goal.returns-in_ok-set_free-in-Puback-clause-agrees
returns-in_ok-set_free-in-Puback-clause-agrees c = λ accepted way tested taken past follows known u.
    let i = c.in-Puback in
    c.in_ok-set_free-in-Puback.ensures accepted (note_of_bare c.args.bare) tested taken past c.args.faults.now (puback-moves c.args.bare i.identifier i.code way i.is) follows known u

pub returns-in_ok-set_free-in-Pubcomp-clause-agrees : goal.returns-in_ok-set_free-in-Pubcomp-clause-agrees
returns-in_ok-set_free-in-Pubcomp-clause-agrees c = λ accepted way tested taken past follows known u.
    let i = c.in-Pubcomp in
    c.in_ok-set_free-in-Pubcomp.ensures accepted (note_of_bare c.args.bare) tested taken past c.args.faults.now (pubcomp-moves c.args.bare i.identifier i.code way i.is) follows known u

pub returns-in_ok-take_pubrec-in-Pubrec-clause-agrees : goal.returns-in_ok-take_pubrec-in-Pubrec-clause-agrees
returns-in_ok-take_pubrec-in-Pubrec-clause-agrees c = λ accepted way tested taken past follows known u.
    let i = c.in-Pubrec in
    c.in_ok-take_pubrec-in-Pubrec.ensures accepted (note_of_bare c.args.bare) tested taken past c.args.faults.now (pubrec-moves c.args.bare i.identifier i.code way i.is) follows known u
