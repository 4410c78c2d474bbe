use Rattle.std.proofs.Common.{sym, ap, ◌∙◌}
use Rattle.std.specs.Prelude.{reverse, is_some, unwrap_or}
use Rattle.std.specs.Option.{option_and_then}
use Rattle.mq_rules.specs.Notes.{connack_of}
use Rattle.mq_rules.specs.Moments.{note}
use Rattle.mq_rules.specs.Connections.{connection}
use Rattle.mq_rules.specs.KeepAlive.{keep_alive_by}
use Rattle.mq_plain.specs.Finding.{moment_in}
use Rattle.mq_plain.proofs.SilenceLaws.{mapped, given-found}
use Rattle.mq_plain.proofs.further.silences.keep_alive_of.Goals as goal

pub returns-in-Some : goal.returns-in-Some
returns-in-Some c =
    let role = c.args.role in
    c.keep_alive_by.ensures
    ∙ ap (λ o. unwrap_or (option_and_then (keep_alive_by role) o) 0) (ap moment_in (sym c.in-Some.is) ∙ c.earliest_on_connection.ensures)
    ∙ ap (λ o. unwrap_or o 0) (sym (given-found (keep_alive_by role) (λ n. is_some (connack_of role n)) (λ m. mapped _ (connack_of role (note m))) (connection (reverse c.args.before.now))))

pub returns-in-None : goal.returns-in-None
returns-in-None c =
    let role = c.args.role in
    ap (λ o. unwrap_or (option_and_then (keep_alive_by role) o) 0) (ap moment_in (sym c.in-None.is) ∙ c.earliest_on_connection.ensures)
    ∙ ap (λ o. unwrap_or o 0) (sym (given-found (keep_alive_by role) (λ n. is_some (connack_of role n)) (λ m. mapped _ (connack_of role (note m))) (connection (reverse c.args.before.now))))
