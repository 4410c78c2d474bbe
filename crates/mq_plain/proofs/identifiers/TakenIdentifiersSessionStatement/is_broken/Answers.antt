use Rattle.std.proofs.Common.{◌&&◌, not, ap, ◌∙◌, reverse}
use Rattle.mq_rules.specs.Moments.{newest}
use Rattle.mq_rules.specs.Identifiers.{breaks_S01}
use Rattle.mq_plain.proofs.identifiers.TakenIdentifiersSessionStatement.is_broken.Goals as goal

pub returns : goal.returns
returns c =
    c.unless_unknown.ensures ∙ ap (λ b. b && not c.couldnt_know_resumed-unknown.result) c.takes_busy.ensures
    ∙ ap (λ b. breaks_S01 c.args.role c.args.fate (newest c.args.event.now (reverse c.args.before.now)) && not b) (c.couldnt_know_resumed-unknown.ensures c.args.event.now)
