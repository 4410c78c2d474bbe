use Rattle.std.proofs.Common.{⊎_elim, ◌∙◌, subst}
use Rattle.mq_command.specs.CommandLine.{IsHelpOrVersion}
use Rattle.mq_command.proofs.CommandLineLemmas.{StopsFor-misused, StopsFor-shown}
use Rattle.mq_command.proofs.command_line.stop_for.Goals as goal

pub returns-in-DisplayHelp : goal.returns-in-DisplayHelp
returns-in-DisplayHelp c =
    StopsFor-shown c.args.error.now c.map_or.result c.to_string.result (subst IsHelpOrVersion c.kind.ensures c.in-DisplayHelp.is) c.map_or.ensures

pub returns-in_default : goal.returns-in_default
returns-in_default c =
    StopsFor-misused c.args.error.now c.map_or-in_default.result c.to_string-in_default.result
    (λ shown. ⊎_elim (λ h. c.in_default.not-DisplayHelp (c.kind.ensures ∙ h)) (λ h. c.in_default.not-DisplayVersion (c.kind.ensures ∙ h)) shown)
    (λ h. c.in_default.not-OutOfMemory (c.kind.ensures ∙ h)) c.map_or-in_default.ensures
