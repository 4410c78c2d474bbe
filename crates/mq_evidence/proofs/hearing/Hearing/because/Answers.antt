use Rattle.std.proofs.Common.{ap, ◌∙◌}
use Rattle.std.specs.Prelude.{option_map, unwrap_or, ◌-◌}
use Rattle.mq_rules.specs.Moments.{latest, position, newest}
use Rattle.mq_rules.specs.Connections.{connection}
use Rattle.mq_rules.specs.KeepAlive.{is_heard, silence}
use Rattle.mq_rules.specs.Under.{seen}
use Rattle.mq_rules.specs.declared.evidence.Numbers.TheVariants.{Two}
use Rattle.mq_evidence.specs.declared.hearing.Heard.{Heard}
use Rattle.mq_evidence.proofs.HandshakeLaws.{same-parts}
use Rattle.mq_evidence.proofs.HearingLaws.{heard-position, heard-since}
use Rattle.mq_evidence.proofs.hearing.Hearing.because.Goals as goal

pub returns : goal.returns
returns c = λ role note past is.
    let last = latest (is_heard role) (connection past) in
    same-parts c.position.result (option_map position last) (Two c.silence-silence.result c.args.limit) (Two (silence role (newest (seen c.args.at note) past)) c.args.limit) c.it_with.result c.it_with.ensures
    (c.position.ensures ∙ ap (option_map (λ (h : Heard). h.position)) is.heard_is ∙ heard-position last)
    (ap (λ s. Two s c.args.limit) (c.silence-silence.ensures ∙ ap (λ o. unwrap_or (option_map (λ (h : Heard). c.args.at.moment - h.moment) o) 0) is.heard_is ∙ heard-since c.args.at.moment last))
