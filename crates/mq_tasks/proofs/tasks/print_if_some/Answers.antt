use Rattle.std.proofs.Common.{rules, sym, subst, ◌≡◌, List, ℕ, IfErr, Option, Some}
use Rattle.mq_explain.specs.Citing.{if_some}
use Rattle.mq_tasks.specs.Messages.{StopsText}
use Rattle.mq_host.specs.Streams.{no_statement_line}
use Rattle.mq_tasks.proofs.tasks.print_if_some.Goals as goal

pub returns-else-is_empty-clause-stops : goal.returns-else-is_empty-clause-stops
returns-else-is_empty-clause-stops g c =
    let there : if_some c.args.text.now ≡ Some c.args.text.now = search rules in
    let P : Option (List ℕ) → Type 0 = λ text. IfErr c.print.result
    (StopsText text (no_statement_line c.args.word.now) (g.W.Write.contents c.args.output.now) (g.W.Write.contents c.print.new.output)) in
    subst P (sym there) (c.print.ensures.stops (no_statement_line c.args.word.now))
