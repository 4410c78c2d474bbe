use Rattle.std.proofs.Common.{sym, ◌∙◌}
use Rattle.mq_exchanges.proofs.SelectingLaws.{pings-unconcerned}
use Rattle.mq_exchanges.proofs.pings.PingsSelective.may_concern.Goals as goal

pub returns : goal.returns
returns g c = λ h tested taken past agree. pings-unconcerned (g.E.Noted.note c.args.event.now) (sym c.may_concern_pings.ensures ∙ h)
