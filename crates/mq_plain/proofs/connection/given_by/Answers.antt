use Rattle.std.proofs.Common.{ap, sym, ◌∙◌}
use Rattle.std.specs.Prelude.{reverse}
use Rattle.mq_rules.specs.Histories.{gives_now}
use Rattle.mq_rules.proofs.Exports.{gives-is}
use Rattle.mq_plain.proofs.connection.given_by.Goals as goal

pub returns : goal.returns
returns c =
    let role = c.args.role in
    let e = c.args.event.now in
    c.gives.ensures ∙ ap (λ h. gives_now role h e.note) c.history_of.ensures ∙ sym (gives-is role e (reverse c.args.before.now))
