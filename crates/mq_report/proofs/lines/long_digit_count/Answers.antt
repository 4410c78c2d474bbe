use Rattle.std.proofs.Common.{sym, arith}
use Rattle.mq_report.proofs.DigitLaws.{digits_between}
use Rattle.mq_report.proofs.lines.long_digit_count.Goals as goal

pub returns-in-1000000000-to-9999999999-clause-count : goal.returns-in-1000000000-to-9999999999-clause-count
returns-in-1000000000-to-9999999999-clause-count c = sym (digits_between 9 c.args.number (omega arith) (omega arith) (omega arith))

pub returns-in-10000000000-to-99999999999-clause-count : goal.returns-in-10000000000-to-99999999999-clause-count
returns-in-10000000000-to-99999999999-clause-count c = sym (digits_between 10 c.args.number (omega arith) (omega arith) (omega arith))

pub returns-in-100000000000-to-999999999999-clause-count : goal.returns-in-100000000000-to-999999999999-clause-count
returns-in-100000000000-to-999999999999-clause-count c = sym (digits_between 11 c.args.number (omega arith) (omega arith) (omega arith))

pub returns-in-1000000000000-to-9999999999999-clause-count : goal.returns-in-1000000000000-to-9999999999999-clause-count
returns-in-1000000000000-to-9999999999999-clause-count c = sym (digits_between 12 c.args.number (omega arith) (omega arith) (omega arith))

pub returns-in-10000000000000-to-99999999999999-clause-count : goal.returns-in-10000000000000-to-99999999999999-clause-count
returns-in-10000000000000-to-99999999999999-clause-count c = sym (digits_between 13 c.args.number (omega arith) (omega arith) (omega arith))

pub returns-in-100000000000000-to-999999999999999-clause-count : goal.returns-in-100000000000000-to-999999999999999-clause-count
returns-in-100000000000000-to-999999999999999-clause-count c = sym (digits_between 14 c.args.number (omega arith) (omega arith) (omega arith))

pub returns-in-1000000000000000-to-9999999999999999-clause-count : goal.returns-in-1000000000000000-to-9999999999999999-clause-count
returns-in-1000000000000000-to-9999999999999999-clause-count c = sym (digits_between 15 c.args.number (omega arith) (omega arith) (omega arith))

pub returns-in-10000000000000000-to-99999999999999999-clause-count : goal.returns-in-10000000000000000-to-99999999999999999-clause-count
returns-in-10000000000000000-to-99999999999999999-clause-count c = sym (digits_between 16 c.args.number (omega arith) (omega arith) (omega arith))

pub returns-in-100000000000000000-to-999999999999999999-clause-count : goal.returns-in-100000000000000000-to-999999999999999999-clause-count
returns-in-100000000000000000-to-999999999999999999-clause-count c = sym (digits_between 17 c.args.number (omega arith) (omega arith) (omega arith))

pub returns-in-1000000000000000000-to-9999999999999999999-clause-count : goal.returns-in-1000000000000000000-to-9999999999999999999-clause-count
returns-in-1000000000000000000-to-9999999999999999999-clause-count c = sym (digits_between 18 c.args.number (omega arith) (omega arith) (omega arith))

pub returns-in_default-clause-count : goal.returns-in_default-clause-count
returns-in_default-clause-count c = sym (digits_between 19 c.args.number (omega arith) (omega arith) (omega arith))
