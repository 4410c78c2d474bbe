use Rattle.std.proofs.Common.{nat_le, ap, ◌∙◌}
use Rattle.mq_filters.specs.Standings.{has_ceiling}
use Rattle.mq_evidence.proofs.CeilingLaws.{later-has}
use Rattle.mq_evidence.proofs.last_requests.later_of.Goals as goal

pub returns : goal.returns
returns c = λ first. ap (has_ceiling (nat_le first)) c.later.ensures ∙ later-has first c.args.a c.args.b
