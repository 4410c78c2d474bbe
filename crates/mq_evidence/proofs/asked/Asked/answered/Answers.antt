use Rattle.std.proofs.Common.{ap, sym, ◌∙◌, true, false}
use Rattle.std.specs.Prelude.{option_map}
use Rattle.mq_rules.specs.ByIdentifier.{kept}
use Rattle.mq_rules.specs.Words.{only}
use Rattle.mq_rules.specs.Moments.{position, latest}
use Rattle.mq_evidence.specs.Stretches.{has_id}
use Rattle.mq_evidence.proofs.KeptLaws.{some-kept}
use Rattle.mq_evidence.proofs.asked.Asked.answered.Goals as goal

pub returns-then-contains : goal.returns-then-contains
returns-then-contains c = λ x s before.
    c.position_of.ensures
    ∙ before.answers_are c.args.i
    ∙ ap (λ b. option_map position (only b (latest (has_id x.answer c.args.i) s.connection)))
    (sym (some-kept (kept c.args.self.now.causes) x.cause s.session c.args.i c.contains.result true before.causes_are c.contains.ensures c.if-contains.true))

pub returns-else-contains : goal.returns-else-contains
returns-else-contains c = λ x s before.
    ap (λ b. option_map position (only b (latest (has_id x.answer c.args.i) s.connection)))
    (sym (some-kept (kept c.args.self.now.causes) x.cause s.session c.args.i c.contains.result false before.causes_are c.contains.ensures c.if-contains.false))
