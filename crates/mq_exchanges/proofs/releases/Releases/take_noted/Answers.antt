use Rattle.std.proofs.Common.{◌&&◌, ap, ◌∙◌}
use Rattle.mq_rules.specs.Notes.{received_exactly_once, released_id, sent_as, unmatched_pubrec_in}
use Rattle.mq_rules.proofs.Exports.{on_err}
use Rattle.mq_rules.specs.Under.{seen}
use Rattle.mq_exchanges.specs.Releasing.{kept_next, lasting, lasting_of, due_by, completes_unreleased, is_unreceived, is_repeated, has_id}
use Rattle.mq_exchanges.proofs.ReleaseLaws.{releasing-next, within-first, within-both, releases-gains}
use Rattle.mq_exchanges.proofs.releases.Releases.take_noted.Goals as goal

pub returns-clause-agrees : goal.returns-clause-agrees
returns-clause-agrees c = λ tested past under u.
    let s = c.args.self.now in
    let n = c.args.note.now in
    let over = c.starts_over-over.result in
    let inside = c.is_inside-inside.result in
    let ender = c.ender-ender.result in
    releasing-next tested s.role s.releases s.fate c.args.fate s.has_accepted (has_id s.brought) (has_id s.released) (has_id s.due)
    inside over c.has_accepted-self.result (has_id c.revise.new.set) (has_id c.revise-2.new.set) (has_id c.revise_due.new.due) (seen c.args.at n) past u
    c.is_inside-inside.ensures c.starts_over-over.ensures c.has_accepted-self.ensures
    (λ i. c.in_ok-revise_due.ensures i
    ∙ ap (λ o. due_by over inside o c.lasting-lasts.result ender i (has_id s.due i)) c.sent_unmatched_pubrec-unmatched.ensures
    ∙ ap (λ o. due_by over inside (sent_as unmatched_pubrec_in n) o ender i (has_id s.due i)) c.lasting-lasts.ensures
    ∙ ap (λ o. due_by over inside (sent_as unmatched_pubrec_in n) (lasting_of o c.expires.result (has_id s.brought)) ender i (has_id s.due i)) c.received_exactly_once-brings.ensures
    ∙ ap (λ b. due_by over inside (sent_as unmatched_pubrec_in n) (lasting_of (received_exactly_once n) b (has_id s.brought)) ender i (has_id s.due i)) c.expires.ensures
    ∙ ap (λ o. due_by over inside (sent_as unmatched_pubrec_in n) (lasting n (has_id s.brought)) o i (has_id s.due i)) c.ender-ender.ensures)
    (λ i. c.in_ok-revise.ensures i
    ∙ ap (λ o. kept_next over inside o ender i (has_id s.brought i)) c.received_exactly_once-brings.ensures
    ∙ ap (λ o. kept_next over inside (received_exactly_once n) o i (has_id s.brought i)) c.ender-ender.ensures)
    (λ i. c.in_ok-revise-2.ensures i
    ∙ ap (λ o. kept_next over inside o ender i (has_id s.released i)) c.released_identifier-frees.ensures
    ∙ ap (λ o. kept_next over inside (released_id n) o i (has_id s.released i)) c.ender-ender.ensures)

pub returns-clause-grows : goal.returns-clause-grows
returns-clause-grows c = λ tested past under u.
    let s = c.args.self.now in
    releases-gains tested s.role s.releases s.fate c.args.fate s.has_accepted (has_id s.brought) (has_id s.released) (has_id s.due)
    c.args.decided (seen c.args.at c.args.note.now) past c.args.faults.now c.judge_by.new.faults c.judge_by-2.new.faults c.judge_by-3.new.faults
    c.place-unreceived.result c.place-repeated.result c.is_unreleased-unreleased.result under u
    (c.place-unreceived.ensures ∙ ap (λ b. b && c.is_placed-placed.result) c.is_unreceived.ensures ∙ ap (λ b. (s.releases && is_unreceived c.args.note.now (has_id s.brought)) && b) c.is_placed-placed.ensures) c.in_ok-judge_by.ensures.ok (c.place-repeated.ensures ∙ ap (λ b. b && c.is_placed-placed.result) c.is_repeated.ensures ∙ ap (λ b. (s.releases && is_repeated c.args.note.now (has_id s.released)) && b) c.is_placed-placed.ensures) c.in_ok-judge_by-2.ensures.ok
    (c.is_unreleased-unreleased.ensures ∙ ap (λ o. s.releases && completes_unreleased c.args.fate o (has_id s.released) (has_id s.due)) c.sent_success_pubcomp-completed.ensures) c.in_ok-judge_by-3.ensures.ok

pub returns-in_err-judge_by-2-clause-memory : goal.returns-in_err-judge_by-2-clause-memory
returns-in_err-judge_by-2-clause-memory c =
    on_err c.from_residual-in_err-judge_by-2.result _ (λ tested past under u.
    let s = c.args.self.now in
    within-first tested s.role s.releases s.fate c.args.fate s.has_accepted (has_id s.brought) (has_id s.released) (has_id s.due)
    c.args.decided (seen c.args.at c.args.note.now) past c.args.faults.now c.judge_by-2.new.faults c.place-unreceived.result under u
    (c.place-unreceived.ensures ∙ ap (λ b. b && c.is_placed-placed.result) c.is_unreceived.ensures ∙ ap (λ b. (s.releases && is_unreceived c.args.note.now (has_id s.brought)) && b) c.is_placed-placed.ensures) (c.in_err-judge_by-2.ensures.unchanged ∙ c.in_ok-judge_by.ensures.ok))

pub returns-in_err-judge_by-3-clause-memory : goal.returns-in_err-judge_by-3-clause-memory
returns-in_err-judge_by-3-clause-memory c =
    on_err c.from_residual-in_err-judge_by-3.result _ (λ tested past under u.
    let s = c.args.self.now in
    within-both tested s.role s.releases s.fate c.args.fate s.has_accepted (has_id s.brought) (has_id s.released) (has_id s.due)
    c.args.decided (seen c.args.at c.args.note.now) past c.args.faults.now c.judge_by.new.faults c.judge_by-3.new.faults c.place-unreceived.result c.place-repeated.result under u
    (c.place-unreceived.ensures ∙ ap (λ b. b && c.is_placed-placed.result) c.is_unreceived.ensures ∙ ap (λ b. (s.releases && is_unreceived c.args.note.now (has_id s.brought)) && b) c.is_placed-placed.ensures) c.in_ok-judge_by.ensures.ok (c.place-repeated.ensures ∙ ap (λ b. b && c.is_placed-placed.result) c.is_repeated.ensures ∙ ap (λ b. (s.releases && is_repeated c.args.note.now (has_id s.released)) && b) c.is_placed-placed.ensures) (c.in_err-judge_by-3.ensures.unchanged ∙ c.in_ok-judge_by-2.ensures.ok))
