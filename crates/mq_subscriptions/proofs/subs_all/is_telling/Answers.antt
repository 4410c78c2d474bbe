use Rattle.std.proofs.Common.{◌||◌, ap, sym, ◌∙◌}
use Rattle.std.specs.Prelude.{is_some}
use Rattle.mq_rules.specs.Notes.{note_in, receives_unclear, sent_connack}
use Rattle.mq_subscriptions.proofs.SelectingLaws.{bare-untold}
use Rattle.mq_subscriptions.proofs.subs_all.is_telling.Goals as goal

pub returns-in-Bare : goal.returns-in-Bare
returns-in-Bare c = sym (ap (λ r. receives_unclear (note_in r) || is_some (sent_connack (note_in r))) c.in-Bare.is ∙ bare-untold c.in-Bare.field-0)
