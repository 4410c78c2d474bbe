use Rattle.mq_log.specs.Reception.{placed_at}
use Rattle.mq_display.proofs.ExplainedLaws.{puts_next, stands_next}
use Rattle.mq_display.proofs.display.view.View.put.Goals as goal

pub returns-in-Annotated-clause-stands : goal.returns-in-Annotated-clause-stands
returns-in-Annotated-clause-stands g c = rw c.in-Annotated.is (λ earlier are stands.
    stands_next (placed_at c.args.place c.args.event.now) earlier c.in-Annotated.annotated c.put.new.self are c.put.ensures.same c.put.ensures.gap c.put.ensures.passes stands)

pub returns-in-Annotated-clause-puts : goal.returns-in-Annotated-clause-puts
returns-in-Annotated-clause-puts g c = rw c.in-Annotated.is (λ held earlier are stands so_far.
    puts_next g.W.Write.contents held c.args.timed (placed_at c.args.place c.args.event.now) earlier c.in-Annotated.annotated c.args.out.now c.put.new.out are c.put.ensures.puts stands so_far)
