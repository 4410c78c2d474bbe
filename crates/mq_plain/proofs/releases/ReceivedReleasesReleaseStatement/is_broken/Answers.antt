use Rattle.std.proofs.Common.{◌&&◌, ap, ◌∙◌, reverse}
use Rattle.mq_rules.specs.Moments.{newest}
use Rattle.mq_rules.specs.Releases.{breaks_L1}
use Rattle.mq_plain.proofs.releases.ReceivedReleasesReleaseStatement.is_broken.Goals as goal

pub returns : goal.returns
returns c =
    c.where_placed.ensures ∙ ap (λ b. b && c.is_placed.result) c.releases_nothing.ensures
    ∙ ap (λ b. breaks_L1 c.args.role c.args.fate (newest c.args.event.now (reverse c.args.before.now)) && b) (c.is_placed.ensures c.args.event.now)
