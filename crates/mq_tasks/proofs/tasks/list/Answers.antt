use Rattle.std.proofs.Common.{rules, subst, ◌≡◌, List, ℕ, IfErr, Some}
use Rattle.mq_choice.specs.Choices.{in_choice}
use Rattle.mq_explain.specs.Listing.{statement_lines}
use Rattle.mq_tasks.specs.Messages.{StopsText}
use Rattle.mq_tasks.proofs.tasks.list.Goals as goal

pub returns-in-Ok-clause-stops : goal.returns-in-Ok-clause-stops
returns-in-Ok-clause-stops g c = λ line.
    let lines : c.as_str.result.now ≡ statement_lines (in_choice c.args.choice) c.args.role = search rules in
    let P : List ℕ → Type 0 = λ text. IfErr c.print.result (StopsText (Some text) line (g.W.Write.contents c.args.output.now) (g.W.Write.contents c.print.new.output)) in
    subst P lines (c.print.ensures.stops line)
