use Rattle.std.proofs.Common.{rules, sym, subst, ◌≡◌, List, ℕ, IfErr, Option, Some}
use Rattle.mq_explain.specs.Citing.{explained_for}
use Rattle.mq_tasks.specs.Messages.{StopsText}
use Rattle.mq_host.specs.Streams.{no_statement_line}
use Rattle.mq_tasks.proofs.tasks.explain.Goals as goal

pub returns-in-Some-clause-stops : goal.returns-in-Some-clause-stops
returns-in-Some-clause-stops g c =
    let explained : explained_for c.args.word.now ≡ Some c.explanation.result.now = search rules in
    let P : Option (List ℕ) → Type 0 = λ text. IfErr c.print.result
    (StopsText text (no_statement_line c.args.word.now) (g.W.Write.contents c.args.output.now) (g.W.Write.contents c.print.new.output)) in
    subst P (sym explained) (c.print.ensures.stops (no_statement_line c.args.word.now))
