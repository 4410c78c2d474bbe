use Rattle.std.proofs.Common.{◌&&◌, ap, sym, ◌∙◌}
use Rattle.mq_rules.specs.Notes.{note_in}
use Rattle.mq_subscriptions.specs.Concerns.{concerns_count}
use Rattle.mq_subscriptions.specs.Countings.{subscribes}
use Rattle.mq_subscriptions.proofs.grants.GrantsSelective.may_concern.Goals as goal

pub returns : goal.returns
returns g c = rw (sym c.as_ref.ensures) (λ h tested taken past agree. ap (λ b. b && concerns_count subscribes (note_in c.as_ref.result)) (sym agree.0) ∙ sym c.may_take.ensures ∙ h)
