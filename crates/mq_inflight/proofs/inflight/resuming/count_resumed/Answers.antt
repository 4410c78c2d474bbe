use Rattle.std.proofs.Common.{cond, ap, sym, subst, ◌∙◌, ◌∷◌, arith, nat_eq, Some}
use Rattle.mq_rules.specs.KeptOrder.{value_under}
use Rattle.mq_rules.specs.Connections.{latest_fate}
use Rattle.mq_rules.specs.Notes.{note_in}
use Rattle.mq_rules.specs.Under.{seen}
use Rattle.mq_inflight.specs.Resumings.{CountsResumed, ended_at}
use Rattle.mq_inflight.specs.declared.inflight.resuming.ResumedPlaces.{ResumedPlaces}
use Rattle.mq_inflight.proofs.ResumingLaws.{begin-next, settle-next, go-on-next}
use Rattle.mq_inflight.proofs.inflight.resuming.count_resumed.Goals as goal

pub returns-then-is_open : goal.returns-then-is_open
returns-then-is_open c = λ tested past under kept was.
    let opens = sym c.is_open.ensures ∙ c.if-is_open.true in
    subst (λ (p : ResumedPlaces). CountsResumed p tested (Some c.args.fate) (seen c.args.at (note_in c.args.event) ∷ past)) (sym c.begin.ensures)
    (begin-next tested c.args.fate (seen c.args.at (note_in c.args.event)) past c.args.places.now opens
    (subst (λ b. CountsResumed c.args.places.now tested (cond b (latest_fate tested.role past) (Some c.args.fate)) past) opens was))

pub returns-then-settles_now : goal.returns-then-settles_now
returns-then-settles_now c = λ tested past under kept was.
    settle-next tested c.args.flight.now c.args.fate c.args.decided (seen c.args.at (note_in c.args.event)) past c.args.places.now c.settle.new.self under kept
    (sym c.settles_now.ensures ∙ c.if-settles_now.true) (sym c.is_open.ensures ∙ c.if-is_open.false) was (omega arith) c.settle.ensures

pub returns : goal.returns
returns c = λ tested past under kept was.
    let same = c.go_on.ensures.same in
    go-on-next tested c.args.flight.now c.args.fate c.args.decided (seen c.args.at (note_in c.args.event)) past c.args.places.now c.go_on.new.self c.opens_one.result c.opener_place-ended.result under kept
    (sym c.settles_now.ensures ∙ c.if-settles_now.false) (sym c.is_open.ensures ∙ c.if-is_open.false) was (omega arith)
    c.opens_one.ensures (c.opener_place-ended.ensures ∙ ap (ended_at (value_under c.args.flight.now.entries)) c.moved_identifier.ensures)
    (ap (λ (p : ResumedPlaces). p.counted) same) (ap (λ (p : ResumedPlaces). p.due) same) (ap (λ (p : ResumedPlaces). p.settled) same)
    c.go_on.ensures.fresh c.go_on.ensures.opened
