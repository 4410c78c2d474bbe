use Rattle.std.proofs.Common.{sym, ◌∙◌}
use Rattle.mq_exchanges.proofs.SelectingLaws.{requests-unconcerned}
use Rattle.mq_exchanges.proofs.requests.RequestsSelective.may_concern.Goals as goal

pub returns : goal.returns
returns g c = λ h tested taken past agree. requests-unconcerned (g.E.Noted.note c.args.event.now) (sym c.may_concern_requests.ensures ∙ h)
