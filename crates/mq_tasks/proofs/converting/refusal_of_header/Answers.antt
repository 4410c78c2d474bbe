use Rattle.mq_tasks.proofs.ConvertingLaws.{told_refusal}
use Rattle.mq_tasks.proofs.converting.refusal_of_header.Goals as goal

pub returns-in-Err-Refused-clause-refused : goal.returns-in-Err-Refused-clause-refused
returns-in-Err-Refused-clause-refused c =
    let named = c.in-Err-Refused.field-0-is in
    told_refusal c.args.start.now _ _ _ c.in-Err-Refused.refusal c.refusal_of_log.result (rw named at c.in-Err-Refused.ensures) c.refusal_of_log.ensures.own
