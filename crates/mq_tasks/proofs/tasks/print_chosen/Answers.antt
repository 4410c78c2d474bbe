use Rattle.std.proofs.Common.{rules, ◌≡◌, [], Some}
use Rattle.std.specs.Prelude.{string_bytes}
use Rattle.mq_choice.specs.Choices.{in_choice}
use Rattle.mq_host.specs.Streams.{no_role_line}
use Rattle.mq_tasks.proofs.MessageLaws.{all_stop, word_stops}
use Rattle.mq_tasks.proofs.tasks.print_chosen.Goals as goal

pub returns-in-None-clause-stops : goal.returns-in-None-clause-stops
returns-in-None-clause-stops g c =
    all_stop (in_choice c.args.choice) c.args.role.now (g.W.Write.contents c.args.output.now) (g.W.Write.contents c.list.new.output) c.list.result (search rules) (c.list.ensures.stops (no_role_line []))

pub returns-in-Some-clause-stops : goal.returns-in-Some-clause-stops
returns-in-Some-clause-stops g c =
    let word : c.args.role.now ≡ Some c.in-Some.word = search rules in
    let same : c.as_str.result.now ≡ string_bytes c.in-Some.word = search rules in
    word_stops (in_choice c.args.choice) c.args.role.now c.in-Some.word c.as_str.result.now (g.W.Write.contents c.args.output.now) (g.W.Write.contents c.print_rules.new.output) c.print_rules.result
    word same c.print_rules.ensures.stops
