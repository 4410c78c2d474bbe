use Rattle.std.proofs.Common.{sym, ◌∙◌}
use Rattle.mq_inflight.proofs.SelectingLaws.{quota-unconcerned}
use Rattle.mq_inflight.proofs.quota.QuotaSelective.may_concern.Goals as goal

pub returns : goal.returns
returns g c = λ h tested taken past agree. quota-unconcerned tested.role tested.releases tested.further (g.E.Noted.note c.args.event.now) (sym c.may_concern_quota.ensures ∙ h)
