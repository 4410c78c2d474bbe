use Rattle.std.proofs.Common.{sym, ◌∙◌}
use Rattle.mq_exchanges.proofs.SelectingLaws.{messages-unconcerned}
use Rattle.mq_exchanges.proofs.messages.MessagesSelective.may_concern.Goals as goal

pub returns : goal.returns
returns g c = λ h tested taken past agree. messages-unconcerned (g.E.Noted.note c.args.event.now) (sym c.may_concern_messages.ensures ∙ h)
