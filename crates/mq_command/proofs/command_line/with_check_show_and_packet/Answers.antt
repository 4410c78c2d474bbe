use Rattle.std.proofs.Common.{ap, ap₂, ◌≡◌, ◌∙◌}
use Rattle.std.proofs.lemmas.Result.{IfOk-weaker}
use Rattle.clap.specs.Words.{App, app_of, with_subcommand}
use Rattle.mq_command.specs.CommandLine.{check_command, show_command}
use Rattle.mq_command.proofs.command_line.with_check_show_and_packet.Goals as goal

pub returns : goal.returns
returns c =
    let with_check : app_of c.in_ok-with_check.with_check ≡ with_subcommand (app_of c.args.top) check_command.top =
    c.in_ok-with_check.ensures.shape c.in_ok-check.ensures.local ∙ ap (with_subcommand (app_of c.args.top)) (ap (λ (a : App). a.top) c.in_ok-check.ensures.app) in
    let with_show : app_of c.in_ok-with_show.with_show ≡ with_subcommand (with_subcommand (app_of c.args.top) check_command.top) show_command.top =
    c.in_ok-with_show.ensures.shape c.in_ok-show.ensures.local ∙ ap₂ with_subcommand with_check (ap (λ (a : App). a.top) c.in_ok-show.ensures.app) in
    IfOk-weaker c.subcommand-3.result _ _ (λ r h. h.shape c.in_ok-packet.ensures.local
    ∙ ap₂ with_subcommand with_show (ap (λ (a : App). a.top) c.in_ok-packet.ensures.app)) c.subcommand-3.ensures
