use Rattle.std.proofs.Common.{arith}
use Rattle.mq_report.proofs.DigitLaws.{no_digit_written, digit_written, last_digit_written}
use Rattle.mq_report.proofs.lines.write_long_digits.Goals as goal

pub loop-rest-init : goal.loop-rest-init
loop-rest-init c = no_digit_written c.args.number c.args.digits.now (omega arith) c.requires

pub loop-rest-preserved : goal.loop-rest-preserved
loop-rest-preserved c =
    digit_written c.args.number c.loop-rest.rest c.loop-rest.at c.loop-rest.digits c.loop-rest.invariant c.loop-rest-test.true (omega arith)

pub returns : goal.returns
returns c = last_digit_written c.args.number c.loop-rest.rest c.loop-rest.at c.loop-rest.digits c.loop-rest.invariant (omega (arith, c.loop-rest-test.false))
