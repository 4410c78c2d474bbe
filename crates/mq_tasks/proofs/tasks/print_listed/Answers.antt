use Rattle.std.specs.Prelude.{option_map, string_bytes}
use Rattle.mq_tasks.specs.Choosing.{chosen_as}
use Rattle.mq_tasks.proofs.MessageLaws.{listed_passed, listed_reported, rules_misused, rules_stop}
use Rattle.mq_tasks.proofs.tasks.print_listed.Goals as goal

pub returns-in-Ok-clause-passed : goal.returns-in-Ok-clause-passed
returns-in-Ok-clause-passed g c =
    listed_passed c.args.scope c.args.statements.now (chosen_as c.in-Ok.choice) (option_map string_bytes c.args.role.now) (g.W.Write.contents c.args.output.now)
    (g.W.Write.contents c.print_chosen.new.output) c.print_chosen.result c.in-Ok.ensures.ok c.print_chosen.ensures.printed

pub returns-in-Ok-clause-reported : goal.returns-in-Ok-clause-reported
returns-in-Ok-clause-reported g c =
    listed_reported c.args.scope c.args.statements.now (chosen_as c.in-Ok.choice) (option_map string_bytes c.args.role.now) (g.W.Write.contents c.args.output.now)
    (g.W.Write.contents c.print_chosen.new.output) c.print_chosen.result c.in-Ok.ensures.ok c.print_chosen.ensures.printed

pub returns-in-Ok-clause-stops : goal.returns-in-Ok-clause-stops
returns-in-Ok-clause-stops g c = λ input left.
    rules_stop c.args.role.now c.args.scope c.args.statements.now (chosen_as c.in-Ok.choice) input left (g.W.Write.contents c.args.output.now) (g.W.Write.contents c.print_chosen.new.output)
    c.print_chosen.result c.in-Ok.ensures.ok c.print_chosen.ensures.stops

pub returns-in-Err-clause-stops : goal.returns-in-Err-clause-stops
returns-in-Err-clause-stops g c = λ input left. rules_misused c.args.role.now c.args.scope c.args.statements.now c.in-Err.misuse input left (g.W.Write.contents c.args.output.now) c.in-Err.ensures.err
