use Rattle.std.proofs.Common.{ap, ◌∙◌, ℕ, Option}
use Rattle.std.specs.Prelude.{unwrap_or}
use Rattle.mq_rules.specs.declared.role.Role.TheVariants.{Client}
use Rattle.mq_rules.specs.Moments.{latest, newest}
use Rattle.mq_rules.specs.Connections.{connection}
use Rattle.mq_rules.specs.KeepAlive.{client_limit, is_heard, silence}
use Rattle.mq_rules.specs.Under.{seen}
use Rattle.mq_rules.specs.declared.evidence.Numbers.TheVariants.{Two}
use Rattle.mq_evidence.specs.Evidence.{it_with}
use Rattle.mq_evidence.proofs.hearing.Hearing.of_client.Goals as goal

pub returns : goal.returns
returns c = λ note past is.
    c.because.ensures Client note past is
    ∙ ap (λ most. it_with (latest (is_heard Client) (connection past)) (Two (silence Client (newest (seen c.args.at note) past)) most))
    (c.client_limit-limit.ensures ∙ ap client_limit c.seconds.ensures ∙ ap (λ (o : Option ℕ). client_limit (unwrap_or o 0)) is.given_is)
