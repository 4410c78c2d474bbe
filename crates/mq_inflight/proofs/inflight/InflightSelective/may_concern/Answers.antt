use Rattle.std.proofs.Common.{sym, ◌∙◌}
use Rattle.mq_inflight.proofs.SelectingLaws.{identifiers-unconcerned}
use Rattle.mq_inflight.proofs.inflight.InflightSelective.may_concern.Goals as goal

pub returns : goal.returns
returns g c = λ h tested taken past agree. identifiers-unconcerned tested.role tested.releases tested.further (g.E.Noted.note c.args.event.now) (sym c.may_concern_identifiers.ensures ∙ h)
