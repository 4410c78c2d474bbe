use Rattle.std.proofs.Common.{◌∙◌}
use Rattle.std.specs.Prelude.{reverse}
use Rattle.mq_plain.proofs.ResendLaws.{since_latest}
use Rattle.mq_plain.proofs.resends.is_opened_exactly_once.Goals as goal

pub returns : goal.returns
returns c = c.since_in_session.ensures ∙ since_latest c.args.role c.args.fate c.args.identifier (reverse c.args.before.now)
