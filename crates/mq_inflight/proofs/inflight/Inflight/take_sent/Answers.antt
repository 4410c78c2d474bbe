use Rattle.std.proofs.Common.{Some, None, subst, sym, ◌∙◌}
use Rattle.mq_rules.specs.Notes.{note_of_bare}
use Rattle.mq_rules.proofs.Exports.{on_err}
use Rattle.mq_inflight.specs.Moving.{Moves}
use Rattle.mq_inflight.proofs.MovingLaws.{publish-moves, pubrel-moves}
use Rattle.mq_inflight.proofs.inflight.Inflight.take_sent.Goals as goal

pub returns-in_ok-open-in-Some-clause-agrees : goal.returns-in_ok-open-in-Some-clause-agrees
returns-in_ok-open-in-Some-clause-agrees c = λ accepted way tested taken past follows known u.
    let p = c.in-Publish in
    c.in_ok-open-in-Some.ensures.ok accepted (note_of_bare c.args.bare) tested taken past (subst (λ x. Moves (note_of_bare c.args.bare) (Some c.in-Some.i) x None None None) (sym c.is_exactly_once.ensures) (publish-moves c.args.bare p.identifier p.qos p.duplicate p.topic c.in-Some.i way p.is (sym c.opened_by.ensures ∙ c.in-Some.is))) follows known u

pub returns-in_err-open-in-Some-clause-memory : goal.returns-in_err-open-in-Some-clause-memory
returns-in_err-open-in-Some-clause-memory c = λ accepted way. on_err c.from_residual.result _ (λ tested taken past follows known u.
    let p = c.in-Publish in
    c.in_err-open-in-Some.ensures.memory accepted (note_of_bare c.args.bare) tested taken past (subst (λ x. Moves (note_of_bare c.args.bare) (Some c.in-Some.i) x None None None) (sym c.is_exactly_once.ensures) (publish-moves c.args.bare p.identifier p.qos p.duplicate p.topic c.in-Some.i way p.is (sym c.opened_by.ensures ∙ c.in-Some.is))) follows known u)

pub returns-in_ok-send_pubrel-in-Pubrel-clause-agrees : goal.returns-in_ok-send_pubrel-in-Pubrel-clause-agrees
returns-in_ok-send_pubrel-in-Pubrel-clause-agrees c = λ accepted way tested taken past follows known u.
    let p = c.in-Pubrel in
    c.in_ok-send_pubrel-in-Pubrel.ensures accepted (note_of_bare c.args.bare) tested taken past c.args.faults.now (pubrel-moves c.args.bare p.identifier p.code way p.is) follows known u
