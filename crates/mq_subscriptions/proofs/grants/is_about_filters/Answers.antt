use Rattle.std.proofs.Common.{ap, sym, ◌∙◌}
use Rattle.mq_rules.specs.Notes.{note_in}
use Rattle.mq_subscriptions.specs.Concerns.{concerns_count}
use Rattle.mq_subscriptions.specs.Countings.{subscribes}
use Rattle.mq_subscriptions.proofs.SelectingLaws.{asking-unconcerned}
use Rattle.mq_subscriptions.proofs.grants.is_about_filters.Goals as goal

pub returns-in-Bare : goal.returns-in-Bare
returns-in-Bare c = sym (asking-unconcerned c.in-Bare.field-0) ∙ sym (ap (λ e. concerns_count subscribes (note_in e)) c.in-Bare.is)
