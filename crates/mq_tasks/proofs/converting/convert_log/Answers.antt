use Rattle.mq_tasks.proofs.ConvertingLaws.{conversion_is_refused, conversion_passes, conversion_stops, refusal_is_saved, saving_stops, writing_stops}
use Rattle.mq_tasks.proofs.converting.convert_log.Goals as goal

pub returns-in-Ok-clause-passed : goal.returns-in-Ok-clause-passed
returns-in-Ok-clause-passed g c = conversion_passes _ (g.R.Read.remaining c.convert.new.reader) _ _ _ c.save.result c.in-Ok.ensures c.save.ensures.kept

pub returns-in-Ok-clause-stops : goal.returns-in-Ok-clause-stops
returns-in-Ok-clause-stops g c =
    saving_stops _ (g.R.Read.remaining c.convert.new.reader) _ _ _ (g.W.Write.contents c.args.output.now) c.save.result c.in-Ok.ensures c.save.ensures.kept c.save.ensures.failed

pub returns-in-Err-Refused-clause-refused : goal.returns-in-Err-Refused-clause-refused
returns-in-Err-Refused-clause-refused g c =
    let named = c.in-Err-Refused.field-0-is in
    conversion_is_refused _ (g.R.Read.remaining c.convert.new.reader) _ _ _ _ c.in-Err-Refused.refusal c.refuse_saved.result
    (refusal_is_saved _ (g.R.Read.remaining c.convert.new.reader) _ _ _ _ (rw named at c.in-Err-Refused.ensures) c.refuse_saved.ensures.kept)
    c.refuse_saved.ensures.own c.refuse_saved.ensures.written

pub returns-in-Err-Refused-clause-stops : goal.returns-in-Err-Refused-clause-stops
returns-in-Err-Refused-clause-stops g c =
    let named = c.in-Err-Refused.field-0-is in
    conversion_stops _ (g.R.Read.remaining c.convert.new.reader) _ _ _ _ c.in-Err-Refused.refusal c.refuse_saved.result
    (refusal_is_saved _ (g.R.Read.remaining c.convert.new.reader) _ _ _ _ (rw named at c.in-Err-Refused.ensures) c.refuse_saved.ensures.kept)
    c.refuse_saved.ensures.failed c.refuse_saved.ensures.begun

pub returns-in-Err-Write-clause-stops : goal.returns-in-Err-Write-clause-stops
returns-in-Err-Write-clause-stops g c =
    writing_stops _ (g.R.Read.remaining c.convert.new.reader) _ _ (g.W.Write.contents c.args.output.now) (rw c.in-Err-Write.field-0-is at c.in-Err-Write.ensures)
