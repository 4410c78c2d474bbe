-- How much a log gives its watchers to keep: the sum of what it gives those of exchanges, of what is sent and of subscriptions. Where an item is about a session, the latest connection of the log is taken to have a fate.
use Rattle.std.specs.Prelude.{ℕ, ◌+◌, cond, List, Option, is_some}
use Rattle.mq_rules.specs.declared.role.Role.{Role}
use Rattle.mq_rules.specs.declared.role.Tested.{Tested}
use Rattle.mq_rules.specs.declared.fate.Fate.{Fate}
use Rattle.mq_rules.specs.declared.rule.Rule.TheVariants.{E1R, E2R, E3R, E4R, E5R, E6R}
use Rattle.mq_rules.specs.declared.note.Seen.{Seen}
use Rattle.mq_rules.specs.Burden.{aliases_sent, further_burden, methods_kept}
use Rattle.mq_rules.specs.Connections.{latest_fate}
use Rattle.mq_rules.specs.Exchanges.{publish_puback, publish_pubrec, pubrec_pubrel, pubrel_pubcomp, subscribe_suback, unsubscribe_unsuback}
use Rattle.mq_fates.specs.Holding.{settled, waiting}
use Rattle.mq_subscriptions.specs.Burden.{asked_filters, deletions_burden, matching_burden, standing_count, unanswered_ids}
use Rattle.mq_exchanges.specs.Burden.{brought_ids, owing_ids, released_ids}
use Rattle.mq_inflight.specs.Burden.{delivering_ids, first_ids, open_ids, subscribing_ids, unsubscribing_ids, void_ids}

-- what is sent under Packet Identifiers
abbrev pub sending_burden : Role → Option Fate → List Seen → ℕ
sending_burden role taken log = open_ids role taken log + delivering_ids log + void_ids role taken log + first_ids role taken log + subscribing_ids log + unsubscribing_ids log

-- the causes of the exchanges that bind the tested end
abbrev pub exchange_burden : Role → Option Fate → List Seen → ℕ
exchange_burden role taken log =
    owing_ids E1R publish_puback role taken log + owing_ids E2R publish_pubrec role taken log + owing_ids E3R pubrec_pubrel role taken log
    + owing_ids E4R pubrel_pubcomp role taken log + owing_ids E5R subscribe_suback role taken log + owing_ids E6R unsubscribe_unsuback role taken log

-- QoS 2 messages that are received
abbrev pub release_burden : Role → Option Fate → List Seen → ℕ
release_burden role taken log = brought_ids role taken log + released_ids role taken log

-- filters that stand or are asked for, UNSUBSCRIBEs without their answer, and Topic Aliases that are set on the open connection
abbrev pub subscription_burden : Role → Option Fate → List Seen → ℕ
subscription_burden role taken log =
    standing_count role taken log + asked_filters log + unanswered_ids unsubscribe_unsuback log + aliases_sent log

-- What these events give the statements on sessions to keep, where the latest connection is taken to have this fate. Requests are kept
-- only if B06 and B07 are judged, and subscriptions only if B08, B09, P01, P02, R01 and R02 are.
abbrev pub session_burden : Tested → Option Fate → List Seen → ℕ
session_burden tested taken log =
    sending_burden tested.role taken log + exchange_burden tested.role taken log + release_burden tested.role taken log + subscription_burden tested.role taken log
    + deletions_burden tested taken log + matching_burden tested taken log

-- how many Topic Aliases have a topic that was sent on the open connection, while that is undecided
abbrev pub aliases_undecided : Role → List Seen → ℕ
aliases_undecided role log = cond (is_some (latest_fate role log)) 0 (aliases_sent log)

-- How much a log gives its watchers to keep: what the events up to the latest decided connection give the statements on sessions, and of an undecided connection after
-- them its events, with their filters and Reason Codes, and its Topic Aliases; and, if D03 and D05 are judged, the Topic Aliases that the client has set and its unfinished
-- messages of QoS 2, and, if A03 is, the Authentication Method of the CONNECT.
unfoldable pub burden : Tested → List Seen → ℕ
burden tested log =
    session_burden tested (latest_fate tested.role (settled tested.role log)) (settled tested.role log) + waiting tested.role log + aliases_undecided tested.role log
    + further_burden tested log + methods_kept tested log
