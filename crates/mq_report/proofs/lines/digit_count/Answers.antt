use Rattle.std.proofs.Common.{sym, arith}
use Rattle.mq_report.proofs.DigitLaws.{one_digit, digits_between}
use Rattle.mq_report.proofs.lines.digit_count.Goals as goal

pub returns-in-0-to-9-clause-count : goal.returns-in-0-to-9-clause-count
returns-in-0-to-9-clause-count c = sym (one_digit c.args.number (omega arith))

pub returns-in-10-to-99-clause-count : goal.returns-in-10-to-99-clause-count
returns-in-10-to-99-clause-count c = sym (digits_between 1 c.args.number (omega arith) (omega arith) (omega arith))

pub returns-in-100-to-999-clause-count : goal.returns-in-100-to-999-clause-count
returns-in-100-to-999-clause-count c = sym (digits_between 2 c.args.number (omega arith) (omega arith) (omega arith))

pub returns-in-1000-to-9999-clause-count : goal.returns-in-1000-to-9999-clause-count
returns-in-1000-to-9999-clause-count c = sym (digits_between 3 c.args.number (omega arith) (omega arith) (omega arith))

pub returns-in-10000-to-99999-clause-count : goal.returns-in-10000-to-99999-clause-count
returns-in-10000-to-99999-clause-count c = sym (digits_between 4 c.args.number (omega arith) (omega arith) (omega arith))

pub returns-in-100000-to-999999-clause-count : goal.returns-in-100000-to-999999-clause-count
returns-in-100000-to-999999-clause-count c = sym (digits_between 5 c.args.number (omega arith) (omega arith) (omega arith))

pub returns-in-1000000-to-9999999-clause-count : goal.returns-in-1000000-to-9999999-clause-count
returns-in-1000000-to-9999999-clause-count c = sym (digits_between 6 c.args.number (omega arith) (omega arith) (omega arith))

pub returns-in-10000000-to-99999999-clause-count : goal.returns-in-10000000-to-99999999-clause-count
returns-in-10000000-to-99999999-clause-count c = sym (digits_between 7 c.args.number (omega arith) (omega arith) (omega arith))

pub returns-in-100000000-to-999999999-clause-count : goal.returns-in-100000000-to-999999999-clause-count
returns-in-100000000-to-999999999-clause-count c = sym (digits_between 8 c.args.number (omega arith) (omega arith) (omega arith))

pub returns-in_default-clause-count : goal.returns-in_default-clause-count
returns-in_default-clause-count c = sym (digits_between 9 c.args.number (omega arith) (omega arith) (omega arith))
