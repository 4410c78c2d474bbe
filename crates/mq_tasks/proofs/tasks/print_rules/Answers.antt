use Rattle.mq_choice.specs.Choices.{in_choice}
use Rattle.mq_host.specs.Streams.{no_role_line}
use Rattle.mq_tasks.proofs.MessageLaws.{end_stops}
use Rattle.mq_tasks.proofs.tasks.print_rules.Goals as goal

pub returns-in-Some-clause-stops : goal.returns-in-Some-clause-stops
returns-in-Some-clause-stops g c =
    end_stops (in_choice c.args.choice) c.args.word.now c.in-Some.role (g.W.Write.contents c.args.output.now) (g.W.Write.contents c.list.new.output) c.list.result c.in-Some.ensures
    (c.list.ensures.stops (no_role_line c.args.word.now))
