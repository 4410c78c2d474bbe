use Rattle.std.proofs.Common.{ap, codes, true, ◌≡◌, ◌∙◌}
use Rattle.std.proofs.lemmas.Result.{IfOk-weaker}
use Rattle.clap.specs.Words.{App, Shape, app_of, new_app, with_subcommand}
use Rattle.clap.specs.Simple.{app_of_fields, on_top}
use Rattle.mq_command.specs.CommandLine.{check_command, convert_command, explain_command, packet_command, rules_command, show_command}
use Rattle.mq_command.proofs.command_line.command_line.Goals as goal

abbrev versioned : Shape → Shape
versioned s = record s { has_version = true }

abbrev required : Shape → Shape
required s = record s { subcommand_required = true }

pub returns : goal.returns
returns c =
    let about_is : app_of c.about.result ≡ new_app (codes "mqjudge") = ap app_of_fields c.about.ensures ∙ c.new.ensures.app in
    let version_is : app_of c.version.result ≡ on_top versioned (app_of c.about.result) = ap app_of_fields c.version.ensures in
    let helped_is : app_of c.after_help.result ≡ app_of c.version.result = ap app_of_fields c.after_help.ensures in
    let required_is : app_of c.subcommand_required-top.result ≡ on_top required (app_of c.version.result) = ap app_of_fields c.subcommand_required-top.ensures ∙ ap (on_top required) helped_is in
    let top_is = required_is ∙ ap (on_top required) (version_is ∙ ap (on_top versioned) about_is) in
    let with_some = c.in_ok-with_some.ensures ∙ ap (λ (a : App). with_subcommand (with_subcommand (with_subcommand a check_command.top) show_command.top) packet_command.top) top_is in
    IfOk-weaker c.with_rules_explain_and_convert.result _ _ (λ r h. h
    ∙ ap (λ (a : App). with_subcommand (with_subcommand (with_subcommand a rules_command.top) explain_command.top) convert_command.top) with_some) c.with_rules_explain_and_convert.ensures
