use Rattle.std.proofs.Common.{ap, ap₂, ◌≡◌, ◌∙◌}
use Rattle.std.proofs.lemmas.Result.{IfOk-weaker}
use Rattle.clap.specs.Words.{App, app_of, with_subcommand}
use Rattle.mq_command.specs.CommandLine.{rules_command, explain_command}
use Rattle.mq_command.proofs.command_line.with_rules_explain_and_convert.Goals as goal

pub returns : goal.returns
returns c =
    let with_rules : app_of c.in_ok-with_rules.with_rules ≡ with_subcommand (app_of c.args.top) rules_command.top =
    c.in_ok-with_rules.ensures.shape c.in_ok-rules.ensures.local ∙ ap (with_subcommand (app_of c.args.top)) (ap (λ (a : App). a.top) c.in_ok-rules.ensures.app) in
    let with_explain : app_of c.in_ok-with_explain.with_explain ≡ with_subcommand (with_subcommand (app_of c.args.top) rules_command.top) explain_command.top =
    c.in_ok-with_explain.ensures.shape c.in_ok-explain.ensures.local ∙ ap₂ with_subcommand with_rules (ap (λ (a : App). a.top) c.in_ok-explain.ensures.app) in
    IfOk-weaker c.subcommand-3.result _ _ (λ r h. h.shape c.in_ok-convert.ensures.local
    ∙ ap₂ with_subcommand with_explain (ap (λ (a : App). a.top) c.in_ok-convert.ensures.app)) c.subcommand-3.ensures
