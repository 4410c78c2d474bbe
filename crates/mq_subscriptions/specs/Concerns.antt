-- Which events concern a watcher of subscriptions.
use Rattle.std.specs.Prelude.{Bool, ◌&&◌, ◌||◌, is_some}
use Rattle.mq_rules.specs.declared.role.Tested.{Tested}
use Rattle.mq_rules.specs.declared.rule.Rule.TheVariants.{B01, B05, B06, B08}
use Rattle.mq_rules.specs.declared.note.Note.{Note}
use Rattle.mq_rules.specs.Notes.{is_boundary, received_subscription, received_unsubscription, sent_grant, sent_connack, sent_deletion, sent_publish, receives_unclear}
use Rattle.mq_rules.specs.Pasts.{set_alias}
use Rattle.mq_rules.specs.Rules.{binds}
use Rattle.mq_subscriptions.specs.Countings.{Counting, subscribes}

abbrev pub concerns_count : Counting → Note → Bool
concerns_count c n = is_boundary n || (is_some (c.request n) || is_some (c.reply n))

-- what a SUBACK grants, if that is judged
abbrev pub concerns_grants : Tested → Note → Bool
concerns_grants tested n = binds B05 tested && concerns_count subscribes n

-- requests and their answers, and what an UNSUBACK says, if that is judged
abbrev pub has_request : Note → Bool
has_request n =
    is_boundary n || ((is_some (received_subscription n) || is_some (received_unsubscription n)) || ((is_some (sent_grant n) || is_some (sent_deletion n)) || receives_unclear n))

abbrev pub concerns_deletions : Tested → Note → Bool
concerns_deletions tested n = binds B06 tested && has_request n

abbrev pub concerns_deliveries : Tested → Note → Bool
concerns_deliveries tested n = is_boundary n || (is_some (received_subscription n) || (is_some (sent_grant n) || (is_some (set_alias n) || (is_some (sent_publish n) && binds B01 tested))))

-- subscriptions, what is delivered and by which subscriptions, if that is judged
abbrev pub has_delivery : Note → Bool
has_delivery n = is_boundary n || ((is_some (received_subscription n) || is_some (sent_grant n)) || ((is_some (sent_publish n) || is_some (sent_connack n)) || receives_unclear n))

abbrev pub concerns_matching : Tested → Note → Bool
concerns_matching tested n = binds B08 tested && has_delivery n
