use Rattle.std.proofs.Common.{ap, ap₂, codes, ◌≡◌, ◌∙◌, ◌||◌}
use Rattle.std.proofs.lemmas.Result.{IfOk-weaker}
use Rattle.clap.specs.Words.{app_of, new_app, with_rule}
use Rattle.clap.specs.Simple.{app_of_fields}
use Rattle.clap.specs.declared.builder.command.Command.{Command}
use Rattle.clap.specs.declared.builder.command.Command.TheOpen.{Command-F}
use Rattle.mq_command.proofs.command_line.show_command.Goals as goal

pub returns-clause-app : goal.returns-clause-app
returns-clause-app c =
    let about_is : app_of c.after_help.result ≡ new_app (codes "show") = ap app_of_fields c.after_help.ensures ∙ ap app_of_fields c.about.ensures ∙ c.new.ensures.app in
    let with_file = c.in_ok-arg.ensures.shape c.log_operand.ensures.local ∙ ap₂ with_rule about_is c.log_operand.ensures.rule in
    let with_long = c.in_ok-arg-2.ensures.shape c.flag.ensures.local ∙ ap₂ with_rule with_file c.flag.ensures.rule in
    let with_faults = c.in_ok-arg-3.ensures.shape c.flag-2.ensures.local ∙ ap₂ with_rule with_long c.flag-2.ensures.rule in
    let with_around = c.in_ok-arg-4.ensures.shape c.around_option.ensures.local ∙ ap₂ with_rule with_faults c.around_option.ensures.rule in
    let with_all = c.in_ok-arg-5.ensures.shape c.flag-3.ensures.local ∙ ap₂ with_rule with_around c.flag-3.ensures.rule in
    IfOk-weaker c.arg-6.result _ _ (λ r h. h.shape c.flag-4.ensures.local ∙ ap₂ with_rule with_all c.flag-4.ensures.rule) c.arg-6.ensures

pub returns-clause-local : goal.returns-clause-local
returns-clause-local c =
    let before = ap (λ (f : Command-F Command). f.has_globals) c.after_help.ensures ∙ ap (λ (f : Command-F Command). f.has_globals) c.about.ensures ∙ c.new.ensures.local in
    let with_file = c.in_ok-arg.ensures.globals ∙ ap₂ (λ x y. x || y) before c.log_operand.ensures.local in
    let with_long = c.in_ok-arg-2.ensures.globals ∙ ap₂ (λ x y. x || y) with_file c.flag.ensures.local in
    let with_faults = c.in_ok-arg-3.ensures.globals ∙ ap₂ (λ x y. x || y) with_long c.flag-2.ensures.local in
    let with_around = c.in_ok-arg-4.ensures.globals ∙ ap₂ (λ x y. x || y) with_faults c.around_option.ensures.local in
    let with_all = c.in_ok-arg-5.ensures.globals ∙ ap₂ (λ x y. x || y) with_around c.flag-3.ensures.local in
    IfOk-weaker c.arg-6.result _ _ (λ r h. h.globals ∙ ap₂ (λ x y. x || y) with_all c.flag-4.ensures.local) c.arg-6.ensures
