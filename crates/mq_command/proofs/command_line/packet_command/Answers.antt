use Rattle.std.proofs.Common.{rules, Option, ap, ap₂, codes, true, false, ◌≡◌, ◌∙◌, ◌||◌}
use Rattle.std.proofs.lemmas.Result.{IfOk-weaker}
use Rattle.clap.specs.Words.{Rule, app_of, new_app, new_rule, rule_of, with_rule}
use Rattle.clap.specs.Simple.{app_of_fields}
use Rattle.clap.specs.declared.builder.command.Command.{Command}
use Rattle.clap.specs.declared.builder.command.Command.TheOpen.{Command-F}
use Rattle.clap.specs.declared.builder.range.ValueRange.{ValueRange}
use Rattle.mq_command.proofs.CommandLineLemmas.{range_is_several}
use Rattle.mq_command.proofs.command_line.packet_command.Goals as goal

abbrev required : Rule → Rule
required r = record r { required = true }

abbrev ranged : Rule → Option ValueRange → Rule
ranged r range = record r { range = range }

pub returns-clause-app : goal.returns-clause-app
returns-clause-app c =
    let once_is : rule_of c.required.result ≡ required (new_rule (codes "HEX")) = search rules in
    let hex_is = ap rule_of c.num_args-hex.ensures.0 ∙ ap₂ ranged once_is (range_is_several c.num_args-hex.result.num_vals c.num_args-hex.ensures.1) in
    let about_is : app_of c.after_help.result ≡ new_app (codes "packet") = ap app_of_fields c.after_help.ensures ∙ ap app_of_fields c.about.ensures ∙ c.new-2.ensures.app in
    let with_hex = c.in_ok-arg.ensures.shape (search rules) ∙ ap₂ with_rule about_is hex_is in
    IfOk-weaker c.arg-2.result _ _ (λ r h. h.shape c.flag.ensures.local ∙ ap₂ with_rule with_hex c.flag.ensures.rule) c.arg-2.ensures

pub returns-clause-local : goal.returns-clause-local
returns-clause-local c =
    let before = ap (λ (f : Command-F Command). f.has_globals) c.after_help.ensures ∙ ap (λ (f : Command-F Command). f.has_globals) c.about.ensures ∙ c.new-2.ensures.local in
    let hex_local : c.num_args-hex.result.global ≡ false = search rules in
    let with_hex = c.in_ok-arg.ensures.globals ∙ ap₂ (λ x y. x || y) before hex_local in
    IfOk-weaker c.arg-2.result _ _ (λ r h. h.globals ∙ ap₂ (λ x y. x || y) with_hex c.flag.ensures.local) c.arg-2.ensures
