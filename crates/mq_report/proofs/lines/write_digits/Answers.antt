use Rattle.std.proofs.Common.{arith}
use Rattle.mq_report.proofs.DigitLaws.{no_digit_written, two_left, pair_written, digit_written, last_digit_written}
use Rattle.mq_report.proofs.lines.write_digits.Goals as goal

pub loop-rest-init : goal.loop-rest-init
loop-rest-init c = no_digit_written c.args.number c.args.digits.now (omega arith) c.requires

pub overflow_sub-at : goal.overflow_sub-at
overflow_sub-at c = two_left c.args.number c.loop-rest.rest c.loop-rest.at c.loop-rest.digits c.loop-rest.invariant (omega (arith, c.loop-rest-test.true)) (omega arith)

pub loop-rest-preserved : goal.loop-rest-preserved
loop-rest-preserved c =
    pair_written c.args.number c.loop-rest.rest c.loop-rest.at c.loop-rest.digits c.loop-rest.invariant c.loop-rest-test.true (omega arith)

pub loop-rest-2-preserved : goal.loop-rest-2-preserved
loop-rest-2-preserved c =
    digit_written c.args.number c.loop-rest-2.rest c.loop-rest-2.at c.loop-rest-2.digits c.loop-rest-2.invariant c.loop-rest-2-test.true (omega arith)

pub returns : goal.returns
returns c = last_digit_written c.args.number c.loop-rest-2.rest c.loop-rest-2.at c.loop-rest-2.digits c.loop-rest-2.invariant (omega (arith, c.loop-rest-2-test.false))
