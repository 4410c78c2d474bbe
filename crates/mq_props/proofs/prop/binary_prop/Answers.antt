use Rattle.std.proofs.Common.{arith}
use Rattle.mq_props.proofs.OfType.{no_binary}
use Rattle.mq_props.proofs.prop.binary_prop.Goals as goal

pub returns-in_default-clause-each : goal.returns-in_default-clause-each
returns-in_default-clause-each c = λ h. absurd (no_binary c.args.id (λ e. omega (arith, e)) (λ e. omega (arith, e)) h)
