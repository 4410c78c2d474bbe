use Rattle.std.proofs.Common.{ap, sym, ◌∙◌, true, false, cond}
use Rattle.std.specs.Prelude.{option_map}
use Rattle.mq_rules.specs.ByIdentifier.{kept}
use Rattle.mq_rules.specs.Words.{only}
use Rattle.mq_rules.specs.Notes.{received_exactly_once, sent_as, ended_in}
use Rattle.mq_rules.specs.Moments.{position, latest}
use Rattle.mq_evidence.specs.Evidence.{some_session}
use Rattle.mq_evidence.specs.Stretches.{has_id}
use Rattle.mq_evidence.proofs.KeptLaws.{some-kept}
use Rattle.mq_evidence.proofs.received.Received.end_of_received.Goals as goal

pub returns-then-contains : goal.returns-then-contains
returns-then-contains c = λ s before.
    c.position_of.ensures
    ∙ before.in_session.enders_are c.args.i
    ∙ ap (λ b. cond b (option_map position (latest (has_id (sent_as ended_in) c.args.i) s.session)) (only (some_session (has_id received_exactly_once c.args.i) s.earlier) c.args.begun))
    (sym (some-kept (kept c.args.self.now.in_session.brought) received_exactly_once s.session c.args.i c.contains.result true before.in_session.brought_are c.contains.ensures c.if-contains.true))

pub returns : goal.returns
returns c = λ s before.
    c.only_among.ensures
    ∙ ap (λ b. only b c.args.begun) (before.earlier_are c.args.i)
    ∙ ap (λ b. cond b (option_map position (latest (has_id (sent_as ended_in) c.args.i) s.session)) (only (some_session (has_id received_exactly_once c.args.i) s.earlier) c.args.begun))
    (sym (some-kept (kept c.args.self.now.in_session.brought) received_exactly_once s.session c.args.i c.contains.result false before.in_session.brought_are c.contains.ensures c.if-contains.false))
