use Rattle.mq_display.specs.Display.{is_timed}
use Rattle.mq_tasks.specs.Messages.{text_in_view}
use Rattle.mq_tasks.proofs.MessageLaws.{lines_stop, shown_refusal_is_printed, shown_refusal_stops}
use Rattle.mq_tasks.proofs.tasks.show_log.Goals as goal

pub returns-in-Ok-clause-stops : goal.returns-in-Ok-clause-stops
returns-in-Ok-clause-stops g c =
    lines_stop (λ log. text_in_view (is_timed log) c.args.view) _ (g.R.Read.remaining c.show_lines.new.input) _ _ _ c.see_out.result c.in-Ok.ensures c.see_out.ensures.kept c.see_out.ensures.failed

pub returns-in-Err-Refused-clause-refused : goal.returns-in-Err-Refused-clause-refused
returns-in-Err-Refused-clause-refused g c =
    let named = c.in-Err-Refused.field-0-is in
    shown_refusal_is_printed (λ log. text_in_view (is_timed log) c.args.view) _ (g.R.Read.remaining c.show_lines.new.input) _ _ _ c.in-Err-Refused.why c.refuse.result
    (rw named at c.in-Err-Refused.ensures) c.refuse.ensures.own c.refuse.ensures.written

pub returns-in-Err-Refused-clause-stops : goal.returns-in-Err-Refused-clause-stops
returns-in-Err-Refused-clause-stops g c =
    let named = c.in-Err-Refused.field-0-is in
    shown_refusal_stops (λ log. text_in_view (is_timed log) c.args.view) _ (g.R.Read.remaining c.show_lines.new.input) _ _ _ c.in-Err-Refused.why c.refuse.result
    (rw named at c.in-Err-Refused.ensures) c.refuse.ensures.failed c.refuse.ensures.begun
