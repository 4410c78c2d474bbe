use Rattle.std.proofs.Common.{ap, sym, ◌∙◌}
use Rattle.mq_command.specs.CommandLine.{is_true}
use Rattle.mq_command.proofs.CommandLineLemmas.{scope_with_all, scope_with_neither, scope_with_times}
use Rattle.mq_command.proofs.command_line.scope_in.Goals as goal

pub returns-then-is_true : goal.returns-then-is_true
returns-then-is_true c = scope_with_times c.args.found.now (sym (c.if-is_true.ensures ∙ ap is_true c.get_str.ensures))

pub returns-then-is_true-2 : goal.returns-then-is_true-2
returns-then-is_true-2 c =
    scope_with_all c.args.found.now (sym (c.if-is_true.ensures ∙ ap is_true c.get_str.ensures)) (sym (c.if-is_true-2.ensures ∙ ap is_true c.get_str-2.ensures))

pub returns-else-is_true-2 : goal.returns-else-is_true-2
returns-else-is_true-2 c =
    scope_with_neither c.args.found.now (sym (c.if-is_true.ensures ∙ ap is_true c.get_str.ensures)) (sym (c.if-is_true-2.ensures ∙ ap is_true c.get_str-2.ensures))
