use Rattle.std.proofs.Common.{◌++◌, ◌∷◌, [], rules, sym, subst}
use Rattle.mq_trace.specs.Copying.{IsCopyOf}
use Rattle.mq_trace.proofs.CopyLaws.{begin_err, begin_ok, body_copied, extend_err, extend_ok, header_err, header_ok}
use Rattle.mq_trace.proofs.converting.Copying.take_byte.Goals as goal

pub returns-then-self-lt-HEADER_LENGTH-clause-copied : goal.returns-then-self-lt-HEADER_LENGTH-clause-copied
returns-then-self-lt-HEADER_LENGTH-clause-copied c = λ log was. header_ok _ _ log _ c.take_header_byte.result was c.if-self-lt-HEADER_LENGTH.true c.take_header_byte.ensures.kept

pub returns-then-self-lt-HEADER_LENGTH-clause-refused : goal.returns-then-self-lt-HEADER_LENGTH-clause-refused
returns-then-self-lt-HEADER_LENGTH-clause-refused c = λ log was. header_err _ _ log _ c.take_header_byte.result was c.if-self-lt-HEADER_LENGTH.true c.take_header_byte.ensures.refused

pub returns-in-Between-clause-copied : goal.returns-in-Between-clause-copied
returns-in-Between-clause-copied c = λ log was. begin_ok _ _ log _ c.begin_record.result was c.if-self-lt-HEADER_LENGTH.false c.in-Between.is c.begin_record.ensures.kept

pub returns-in-Between-clause-refused : goal.returns-in-Between-clause-refused
returns-in-Between-clause-refused c = λ log was. begin_err _ _ log _ c.begin_record.result was c.if-self-lt-HEADER_LENGTH.false c.in-Between.is c.begin_record.ensures.refused

pub returns-in-Head-clause-copied : goal.returns-in-Head-clause-copied
returns-in-Head-clause-copied c = λ log was. extend_ok _ _ log _ c.in-Head.kind c.in-Head.count c.in-Head.number c.extend_length.result was c.if-self-lt-HEADER_LENGTH.false c.in-Head.is (search rules) c.extend_length.ensures.more c.extend_length.ensures.last

pub returns-in-Head-clause-refused : goal.returns-in-Head-clause-refused
returns-in-Head-clause-refused c = λ log was. extend_err _ _ log _ c.in-Head.kind c.in-Head.count c.in-Head.number c.extend_length.result was c.if-self-lt-HEADER_LENGTH.false c.in-Head.is c.extend_length.ensures.refused

pub returns-in-Body-clause-copied : goal.returns-in-Body-clause-copied
returns-in-Body-clause-copied c = λ log was.
    let one = body_copied c.args.self.now log _ c.args.byte was c.if-self-lt-HEADER_LENGTH.false (search rules) in
    (subst (λ copying. IsCopyOf copying (log ++ c.args.byte ∷ [])) (sym c.skip_body.ensures.is) one.0, one.1)
