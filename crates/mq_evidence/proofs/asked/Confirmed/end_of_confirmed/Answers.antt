use Rattle.std.proofs.Common.{ap, sym, ◌∙◌}
use Rattle.std.specs.Prelude.{option_map}
use Rattle.std.specs.Option.{option_or}
use Rattle.mq_rules.specs.Words.{only}
use Rattle.mq_rules.specs.Notes.{received_as}
use Rattle.mq_rules.specs.Exchanges.{pubrec_pubrel}
use Rattle.mq_rules.specs.Moments.{position, some, latest}
use Rattle.mq_evidence.specs.Evidence.{refusing_pubrec_in, later}
use Rattle.mq_evidence.specs.Stretches.{has_id, later_at}
use Rattle.mq_evidence.proofs.StretchLaws.{later-positions}
use Rattle.mq_evidence.proofs.asked.Confirmed.end_of_confirmed.Goals as goal

pub returns : goal.returns
returns c = λ s kept.
    let refused = latest (has_id (received_as refusing_pubrec_in) c.args.i) s.session in
    let answered = only (some (has_id pubrec_pubrel.cause c.args.i) s.session) (latest (has_id pubrec_pubrel.answer c.args.i) s.connection) in
    c.or.ensures
    ∙ ap (λ o. option_or o c.ended_with_session-ended.result)
    (c.later.ensures
    ∙ ap (λ o. later_at o c.answered-answered.result) (c.position_of.ensures ∙ kept.refusals_are c.args.i)
    ∙ ap (later_at (option_map position refused)) (c.answered-answered.ensures pubrec_pubrel s kept.asked_is)
    ∙ sym (later-positions refused answered))
    ∙ ap (option_or (option_map position (later refused answered))) (c.ended_with_session-ended.ensures pubrec_pubrel s kept.asked_is)
