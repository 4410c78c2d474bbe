-- What a server may deliver, found by looking back over a session.
use Rattle.std.specs.Prelude.{ℕ, ◌==◌, nat_le, Bool, ◌&&◌, cond, List, [], ◌∷◌, length, Option, Some, None, not, unwrap_or}
use Rattle.std.specs.Option.{option_and_then, option_or}
use Rattle.std.specs.List.{list_any}
use Rattle.mq_topic.specs.Matching.{matches}
use Rattle.mq_rules.specs.declared.role.Role.{Role}
use Rattle.mq_rules.specs.declared.fate.Fate.{Fate}
use Rattle.mq_rules.specs.declared.note.Note.{Note}
use Rattle.mq_rules.specs.declared.note.Seen.{Seen}
use Rattle.mq_rules.specs.declared.text.NotedFilter.{NotedFilter}
use Rattle.mq_rules.specs.declared.packet_note.PublishNote.{PublishNote}
use Rattle.mq_rules.specs.Words.{is_some_and}
use Rattle.mq_rules.specs.Notes.{is_open, received_subscription, refuses}
use Rattle.mq_rules.specs.Moments.{some}
use Rattle.mq_rules.specs.Connections.{connection, session}
use Rattle.mq_rules.specs.Subscriptions.{Standing, requested, granted, codes_under, last_set, asks_to_share}

-- a standing filter matches the topic, and its ceiling is at least this QoS
abbrev pub allows : List ℕ → ℕ → Standing → Bool
allows topic least s = matches s.filter topic && nat_le least s.ceiling

-- the same for a filter of a SUBSCRIBE, given its Reason Code if there is one
abbrev pub allows_by : List ℕ → ℕ → NotedFilter → Option ℕ → Bool
allows_by topic least f None = allows topic least (record { filter = f.filter; ceiling = requested f })
allows_by topic least f (Some code) = not (refuses code) && allows topic least (record { filter = f.filter; ceiling = code })

-- the first of the Reason Codes that are left, and the others
abbrev pub first_code : List ℕ → Option ℕ
first_code [] = None
first_code (code ∷ codes) = Some code

abbrev pub other_codes : List ℕ → List ℕ
other_codes [] = []
other_codes (code ∷ codes) = codes

-- the Reason Codes of the first SUBACK that is sent under this identifier, among events with the oldest first, up to the next OPEN
abbrev pub codes_ahead : ℕ → List Seen → Option (List ℕ)
codes_ahead i [] = None
codes_ahead i (e ∷ later) = cond (is_open e.note) None (option_or (codes_under i e.note) (codes_ahead i later))

-- some standing filter of a SUBSCRIBE allows the topic, given the events after it, the oldest first
abbrev pub subscribes_to : List ℕ → ℕ → List Seen → Note → Bool
subscribes_to topic least later n = is_some_and (λ s. list_any (allows topic least) (granted s.filters (unwrap_or (codes_ahead s.identifier later) []))) (received_subscription n)

-- what B01 and B02 look at in a PUBLISH after these events: its topic, if that is known, DUP is 0, and no subscription of the session is shared
abbrev pub topic_after : List Seen → PublishNote → Option (List ℕ)
topic_after past p = cond (length p.topic == 0) (option_and_then (λ alias. last_set alias (connection past)) p.topic_alias) (Some p.topic)

abbrev pub judged_topic : Role → Fate → List Seen → PublishNote → Option (List ℕ)
judged_topic role f past p = cond p.duplicate None (cond (some asks_to_share (session role (Some f) past)) None (topic_after past p))
