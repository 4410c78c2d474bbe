use Rattle.std.proofs.Common.{◌&&◌, not, sym, ap, ◌∙◌}
use Rattle.std.specs.Prelude.{reverse}
use Rattle.std.specs.List.{list_any}
use Rattle.mq_rules.specs.Words.{is_some_and}
use Rattle.mq_rules.specs.Notes.{qos_number}
use Rattle.mq_rules.specs.Moments.{newest}
use Rattle.mq_rules.specs.Subscriptions.{standing_at}
use Rattle.mq_plain.specs.Deliveries.{allows, judged_topic}
use Rattle.mq_plain.proofs.DeliveryLaws.{B02-judged}
use Rattle.mq_plain.proofs.deliveries.delivers_above.Goals as goal

pub returns-in-Some : goal.returns-in-Some
returns-in-Some c =
    let past = reverse c.args.before.now in
    c.is_above_granted.ensures c.args.event.now ∙ sym (B02-judged c.args.role c.args.fate c.args.event.now past ∙ ap (is_some_and (λ p. is_some_and (λ topic. list_any (allows topic 0) (standing_at c.args.role c.args.fate (newest c.args.event.now past)) && not (list_any (allows topic (qos_number p.qos)) (standing_at c.args.role c.args.fate (newest c.args.event.now past)))) (judged_topic c.args.role c.args.fate past p))) (sym c.in-Some.ensures))

pub returns-in-None : goal.returns-in-None
returns-in-None c =
    let past = reverse c.args.before.now in
    sym (B02-judged c.args.role c.args.fate c.args.event.now past ∙ ap (is_some_and (λ p. is_some_and (λ topic. list_any (allows topic 0) (standing_at c.args.role c.args.fate (newest c.args.event.now past)) && not (list_any (allows topic (qos_number p.qos)) (standing_at c.args.role c.args.fate (newest c.args.event.now past)))) (judged_topic c.args.role c.args.fate past p))) (sym c.in-None.ensures))
