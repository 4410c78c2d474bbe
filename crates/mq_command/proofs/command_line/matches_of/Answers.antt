use Rattle.std.proofs.Common.{rules, ap, subst, map, ◌∙◌}
use Rattle.std.proofs.lemmas.Result.{IfOk-weaker}
use Rattle.clap.specs.Words.{App, FailsBy, fault_of, subcommand_of}
use Rattle.mq_command.proofs.CommandLineLemmas.{refused-kind, taken-faultless}
use Rattle.mq_command.proofs.command_line.matches_of.Goals as goal

pub returns-clause-taken : goal.returns-clause-taken
returns-clause-taken g c =
    let words = map g.S.AsStr.text c.args.words.now in
    let P : App → Type 0 = λ app. FailsBy (fault_of app words) c.try_get_matches_from.result in
    taken-faultless _ c.try_get_matches_from.result (subst P c.in_ok-command_line.ensures (c.try_get_matches_from.ensures.kinds (search rules)))

pub returns-clause-met : goal.returns-clause-met
returns-clause-met g c =
    let words = map g.S.AsStr.text c.args.words.now in
    IfOk-weaker c.try_get_matches_from.result _ _ (λ m h. (h (search rules)).1 ∙ ap (λ (app : App). subcommand_of app words) c.in_ok-command_line.ensures)
    c.try_get_matches_from.ensures.matches

pub returns-clause-fault : goal.returns-clause-fault
returns-clause-fault g c =
    let words = map g.S.AsStr.text c.args.words.now in
    let P : App → Type 0 = λ app. FailsBy (fault_of app words) c.try_get_matches_from.result in
    refused-kind _ c.try_get_matches_from.result (subst P c.in_ok-command_line.ensures (c.try_get_matches_from.ensures.kinds (search rules)))
