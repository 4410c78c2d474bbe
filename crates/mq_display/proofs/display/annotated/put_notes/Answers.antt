use Rattle.std.proofs.Common.{◌∙◌}
use Rattle.mq_display.proofs.ViewLaws.{notes_begin, notes_end, notes_go_on, notes_left}
use Rattle.mq_display.proofs.display.annotated.put_notes.Goals as goal

pub loop-key-init : goal.loop-key-init
loop-key-init g c = notes_begin g.W.Write.contents _ _ _ _ _ _ (c.into_iter-key-iterator.ensures.into_iter_gives ∙ c.at-key-items.ensures.rest)

pub loop-key-preserved : goal.loop-key-preserved
loop-key-preserved g c =
    notes_go_on g.W.Write.contents _ (c.in-Some.key.now, c.in-Some.fault.now) _ _ _ c.loop-key.invariant c.in-Some.ensures.steps c.first_of-reason.ensures c.later_reasons-left.ensures c.put_note.ensures

pub returns-clause-left : goal.returns-clause-left
returns-clause-left g c = notes_left g.W.Write.contents c.loop-key.invariant c.in-None.ensures.steps.0

pub returns-clause-puts : goal.returns-clause-puts
returns-clause-puts g c = notes_end g.W.Write.contents c.loop-key.invariant c.in-None.ensures.steps.0
