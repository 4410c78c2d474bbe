use Rattle.std.proofs.Common.{arith}
use Rattle.mq_props.proofs.OfType.{no_varint}
use Rattle.mq_props.proofs.prop.varint_prop.Goals as goal

pub returns-in_default-clause-each : goal.returns-in_default-clause-each
returns-in_default-clause-each c = λ h. absurd (no_varint c.args.id (λ e. omega (arith, e)) h)
