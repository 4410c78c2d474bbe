use Rattle.std.proofs.Common.{Some, ap, sym, ◌∙◌, nat_eq}
use Rattle.std.specs.Prelude.{option_map}
use Rattle.std.specs.Option.{option_or}
use Rattle.indexmap.specs.IndexMap.{get, get_by_text}
use Rattle.mq_rules.specs.Notes.{received_fields}
use Rattle.mq_rules.specs.FurtherSubscriptions.{subscribed_each}
use Rattle.mq_subscriptions.specs.Deletings.{is_granted}
use Rattle.mq_subscriptions.proofs.DeletionLaws.{removal-kept}
use Rattle.mq_subscriptions.proofs.deletions.take_removal.Goals as goal

pub returns-in_ok-wait-in-Some-Unsubscribe-clause-removing : goal.returns-in_ok-wait-in-Some-Unsubscribe-clause-removing
returns-in_ok-wait-in-Some-Unsubscribe-clause-removing c = λ i.
    let p = c.in-Some-Unsubscribe in
    c.in_ok-wait-in-Some-Unsubscribe.ensures i
    ∙ ap (option_or (get nat_eq c.args.removing.now i))
    (removal-kept (received_fields c.args.note.now) _ _ c.args.at _ (get_by_text c.args.states.now) i (sym c.received_fields.ensures ∙ ap (option_map (λ f. f.now)) p.is ∙ ap Some p.field-0-is) (c.in_ok-subscribed-in-Some-Unsubscribe.ensures.subscribed ∙ ap (subscribed_each (λ f. is_granted (get_by_text c.args.states.now f))) c.as_slice.ensures))
