use Rattle.std.proofs.Common.{sym, ap, ◌∙◌}
use Rattle.std.specs.Prelude.{reverse}
use Rattle.std.specs.Option.{option_and_then}
use Rattle.mq_rules.specs.Notes.{connect_method}
use Rattle.mq_rules.specs.Moments.{note}
use Rattle.mq_rules.specs.Connections.{connection}
use Rattle.mq_plain.specs.Finding.{moment_in}
use Rattle.mq_plain.proofs.FurtherLaws.{earliest-found}
use Rattle.mq_plain.proofs.further.authentication.connect_before.Goals as goal

pub returns-in-Some : goal.returns-in-Some
returns-in-Some c =
    let found = connect_method c.args.role in
    c.connect_method.ensures
    ∙ ap (option_and_then (λ m. found (note m))) (ap moment_in (sym c.in-Some.is) ∙ c.earliest_on_connection.ensures)
    ∙ sym (earliest-found found (connection (reverse c.args.before.now)))

pub returns-in-None : goal.returns-in-None
returns-in-None c =
    let found = connect_method c.args.role in
    ap (option_and_then (λ m. found (note m))) (ap moment_in (sym c.in-None.is) ∙ c.earliest_on_connection.ensures)
    ∙ sym (earliest-found found (connection (reverse c.args.before.now)))
