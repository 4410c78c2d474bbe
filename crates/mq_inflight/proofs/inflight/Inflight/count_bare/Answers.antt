use Rattle.std.proofs.Common.{arith, sym, ◌∙◌}
use Rattle.mq_rules.specs.Notes.{note_of_bare, is_exactly_once}
use Rattle.mq_inflight.proofs.MovingLaws.{publish-moves, puback-moves, pubcomp-moves}
use Rattle.mq_inflight.proofs.inflight.Inflight.count_bare.Goals as goal

pub returns-in-Some : goal.returns-in-Some
returns-in-Some c = λ tested past under kept was.
    let p = c.in-Publish in
    c.count_new.ensures (sym c.accepts.ensures ∙ c.if-not-accepts.false) (note_of_bare c.args.bare) (is_exactly_once p.qos) tested past
    (publish-moves c.args.bare p.identifier p.qos p.duplicate p.topic c.in-Some.i c.in-Sent.is p.is (sym c.opened_by.ensures ∙ c.in-Some.is)) under kept was

pub returns-in-Puback : goal.returns-in-Puback
returns-in-Puback c = λ tested past under kept was.
    let p = c.in-Puback in
    c.count_freed.ensures (note_of_bare c.args.bare) c.args.at c.args.fate tested past (sym c.accepts.ensures ∙ c.if-not-accepts.false) (omega arith)
    (puback-moves c.args.bare p.identifier p.code c.in-Recv.is p.is) under kept was

pub returns-in-Pubcomp : goal.returns-in-Pubcomp
returns-in-Pubcomp c = λ tested past under kept was.
    let p = c.in-Pubcomp in
    c.count_freed-in-Pubcomp.ensures (note_of_bare c.args.bare) c.args.at c.args.fate tested past (sym c.accepts.ensures ∙ c.if-not-accepts.false) (omega arith)
    (pubcomp-moves c.args.bare p.identifier p.code c.in-Recv.is p.is) under kept was
