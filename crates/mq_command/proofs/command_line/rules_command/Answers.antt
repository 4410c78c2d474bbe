use Rattle.std.proofs.Common.{rules, ap, ap₂, codes, false, Some, ◌≡◌, ◌∙◌, ◌||◌}
use Rattle.std.proofs.lemmas.Result.{IfOk-weaker}
use Rattle.clap.specs.Words.{Rule, app_of, new_app, new_rule, rule_of, with_rule}
use Rattle.clap.specs.Simple.{app_of_fields}
use Rattle.clap.specs.declared.builder.command.Command.{Command}
use Rattle.clap.specs.declared.builder.command.Command.TheOpen.{Command-F}
use Rattle.mq_command.proofs.command_line.rules_command.Goals as goal

abbrev named : Rule → Rule
named r = record r { long = Some (codes "role") }

pub returns-clause-app : goal.returns-clause-app
returns-clause-app c =
    let role_is : rule_of c.long-role.result ≡ named (new_rule (codes "role")) = search rules in
    let about_is : app_of c.after_help.result ≡ new_app (codes "rules") = ap app_of_fields c.after_help.ensures ∙ ap app_of_fields c.about.ensures ∙ c.new-2.ensures.app in
    let with_role = c.in_ok-arg.ensures.shape (search rules) ∙ ap₂ with_rule about_is role_is in
    let with_all = c.in_ok-arg-2.ensures.shape c.flag.ensures.local ∙ ap₂ with_rule with_role c.flag.ensures.rule in
    let with_times = c.in_ok-arg-3.ensures.shape c.flag-2.ensures.local ∙ ap₂ with_rule with_all c.flag-2.ensures.rule in
    IfOk-weaker c.arg-4.result _ _ (λ r h. h.shape c.statements_option.ensures.local ∙ ap₂ with_rule with_times c.statements_option.ensures.rule) c.arg-4.ensures

pub returns-clause-local : goal.returns-clause-local
returns-clause-local c =
    let before = ap (λ (f : Command-F Command). f.has_globals) c.after_help.ensures ∙ ap (λ (f : Command-F Command). f.has_globals) c.about.ensures ∙ c.new-2.ensures.local in
    let role_local : c.long-role.result.global ≡ false = search rules in
    let with_role = c.in_ok-arg.ensures.globals ∙ ap₂ (λ x y. x || y) before role_local in
    let with_all = c.in_ok-arg-2.ensures.globals ∙ ap₂ (λ x y. x || y) with_role c.flag.ensures.local in
    let with_times = c.in_ok-arg-3.ensures.globals ∙ ap₂ (λ x y. x || y) with_all c.flag-2.ensures.local in
    IfOk-weaker c.arg-4.result _ _ (λ r h. h.globals ∙ ap₂ (λ x y. x || y) with_times c.statements_option.ensures.local) c.arg-4.ensures
