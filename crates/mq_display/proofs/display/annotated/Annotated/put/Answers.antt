use Rattle.std.proofs.Common.{◌∙◌, subst, List, ℕ}
use Rattle.mq_log.specs.Reception.{placed_at}
use Rattle.mq_display.specs.Outgoing.{Puts}
use Rattle.mq_display.proofs.ExplainedLaws.{left_after, shown_here}
use Rattle.mq_display.proofs.display.annotated.Annotated.put.Goals as goal

pub returns-clause-puts : goal.returns-clause-puts
returns-clause-puts g c = λ passed.
    subst (λ (text : List ℕ). Puts g.W.Write.contents c.args.out.now text c.put_event-self.new.out)
    (shown_here c.is_near-shown.result c.args.timed c.args.self.now (placed_at c.args.place c.args.event.now) c.is_near-shown.ensures passed) c.put_event-self.ensures.puts

pub returns-clause-passes : goal.returns-clause-passes
returns-clause-passes g c = λ passed.
    c.put_event-self.ensures.left ∙ left_after c.is_near-shown.result c.args.self.now c.args.place.position c.is_near-shown.ensures passed
