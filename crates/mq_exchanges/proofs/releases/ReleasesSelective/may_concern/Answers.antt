use Rattle.std.proofs.Common.{sym, ◌∙◌}
use Rattle.mq_exchanges.proofs.SelectingLaws.{releases-unconcerned}
use Rattle.mq_exchanges.proofs.releases.ReleasesSelective.may_concern.Goals as goal

pub returns : goal.returns
returns g c = λ h tested taken past agree. releases-unconcerned (g.E.Noted.note c.args.event.now) (sym c.may_concern_releases.ensures ∙ h)
