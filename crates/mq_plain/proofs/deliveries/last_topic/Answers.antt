use Rattle.std.proofs.Common.{rules, ◌≡◌, [], ◌∷◌, ◌++◌, None, option_map, sym, ap, ◌∙◌, true}
use Rattle.std.specs.Prelude.{reverse}
use Rattle.std.proofs.lemmas.List.{reverse-append}
use Rattle.mq_rules.specs.Notes.{is_open}
use Rattle.mq_rules.specs.Connections.{connection}
use Rattle.mq_rules.specs.Subscriptions.{topic_set, last_set}
use Rattle.mq_plain.proofs.DeliveryLaws.{last_set-open}
use Rattle.mq_plain.proofs.deliveries.last_topic.Goals as goal

pub returns-then-is_open : goal.returns-then-is_open
returns-then-is_open c =
    let e = c.in-Some.event.now in
    let rest = c.in-Some.rest.now in
    let parts : c.loop-event.earlier.now ≡ rest ++ e ∷ [] = search rules in
    let front : reverse c.loop-event.earlier.now ≡ e ∷ reverse rest = ap reverse parts ∙ reverse-append rest (e ∷ []) in
    let unset : topic_set c.args.alias e.note ≡ None = sym c.topic_set.ensures ∙ ap (λ o. option_map (λ t. t.now) o) c.in_default-topic_set.is in
    let opens : is_open e.note ≡ true = search rules in
    sym (ap (λ es. last_set c.args.alias (connection es)) front ∙ last_set-open c.args.alias e (reverse rest) unset opens) ∙ c.loop-event.invariant
