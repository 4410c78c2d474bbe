use Rattle.std.proofs.Common.{◌&&◌, not, ap, ◌∙◌, reverse}
use Rattle.mq_rules.specs.Moments.{newest}
use Rattle.mq_rules.specs.Identifiers.{breaks_S02}
use Rattle.mq_plain.proofs.resends.ResendsOpenSessionStatement.is_broken.Goals as goal

pub returns : goal.returns
returns c =
    c.unless_unknown.ensures ∙ ap (λ b. b && not c.couldnt_know-unknown.result) c.resends_unopened.ensures
    ∙ ap (λ b. breaks_S02 c.args.role c.args.fate (newest c.args.event.now (reverse c.args.before.now)) && not b) (c.couldnt_know-unknown.ensures c.args.event.now)
