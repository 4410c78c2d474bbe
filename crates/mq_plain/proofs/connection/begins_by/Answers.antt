use Rattle.std.proofs.Common.{ap, sym, ◌∙◌}
use Rattle.std.specs.Prelude.{reverse}
use Rattle.mq_rules.specs.Histories.{begins_now}
use Rattle.mq_rules.proofs.Exports.{begins-is}
use Rattle.mq_plain.proofs.connection.begins_by.Goals as goal

pub returns : goal.returns
returns c =
    let role = c.args.role in
    let e = c.args.event.now in
    c.begins.ensures ∙ ap (λ h. begins_now role h e.note) c.history_of.ensures ∙ sym (begins-is role e (reverse c.args.before.now))
