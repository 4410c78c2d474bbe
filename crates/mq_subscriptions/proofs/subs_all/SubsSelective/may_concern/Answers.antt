use Rattle.std.proofs.Common.{◌||◌, ◌&&◌, sym, ap, ◌∙◌}
use Rattle.std.specs.Prelude.{is_some}
use Rattle.mq_rules.specs.Notes.{note_in, receives_unclear, sent_connack}
use Rattle.mq_fates.specs.Selecting.{may_concern_subscriptions}
use Rattle.mq_subscriptions.proofs.SelectingLaws.{subscriptions-unconcerned}
use Rattle.mq_subscriptions.proofs.subs_all.SubsSelective.may_concern.Goals as goal

pub returns : goal.returns
returns g c = λ h tested taken past agree.
    subscriptions-unconcerned tested c.is_bound.result c.is_bound-2.result (c.is_bound.ensures ∙ agree.0.0) (c.is_bound-2.ensures ∙ agree.1.1.1.1.0.0) (g.E.Noted.note c.args.event.now)
    (sym (
    c.may_tell.ensures
    ∙ ap (λ b. b || (c.is_bound-2.result && (receives_unclear (note_in c.as_ref.result) || is_some (sent_connack (note_in c.as_ref.result))))) c.may_concern_subscriptions-first.ensures
    ∙ ap (λ n. may_concern_subscriptions c.is_bound.result (g.E.Noted.note c.args.event.now) || (c.is_bound-2.result && (receives_unclear n || is_some (sent_connack n)))) c.as_ref.ensures)
    ∙ h)
