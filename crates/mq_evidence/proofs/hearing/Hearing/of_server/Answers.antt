use Rattle.std.proofs.Common.{ap, ◌∙◌, ℕ, Option}
use Rattle.std.specs.Prelude.{unwrap_or}
use Rattle.mq_rules.specs.declared.role.Role.TheVariants.{Server}
use Rattle.mq_rules.specs.Moments.{latest, newest}
use Rattle.mq_rules.specs.Connections.{connection}
use Rattle.mq_rules.specs.KeepAlive.{server_limit, is_heard, silence}
use Rattle.mq_rules.specs.Under.{seen}
use Rattle.mq_rules.specs.declared.evidence.Numbers.TheVariants.{Two}
use Rattle.mq_evidence.specs.Evidence.{it_with}
use Rattle.mq_evidence.proofs.hearing.Hearing.of_server.Goals as goal

pub returns : goal.returns
returns c = λ note past is.
    c.because.ensures Server note past is
    ∙ ap (λ most. it_with (latest (is_heard Server) (connection past)) (Two (silence Server (newest (seen c.args.at note) past)) most))
    (c.server_limit-limit.ensures ∙ ap server_limit c.seconds.ensures ∙ ap (λ (o : Option ℕ). server_limit (unwrap_or o 0)) is.given_is)
