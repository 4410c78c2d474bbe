-- How much a log gives the watchers of what is sent under Packet Identifiers to keep. Where an item is about a session, the latest connection of the log is taken to have a fate.
use Rattle.std.specs.Prelude.{ℕ, ◌&&◌, List, Option}
use Rattle.mq_rules.specs.declared.role.Role.{Role}
use Rattle.mq_rules.specs.declared.fate.Fate.{Fate}
use Rattle.mq_rules.specs.declared.note.Seen.{Seen}
use Rattle.mq_rules.specs.Words.{is_id}
use Rattle.mq_rules.specs.Notes.{sent_as, received_as, subscribe_in, suback_in, unsubscribe_in, unsuback_in}
use Rattle.mq_rules.specs.Moments.{note, moments, some, since}
use Rattle.mq_rules.specs.IdentifierCounts.{ids_where}
use Rattle.mq_rules.specs.Connections.{number, on_open, voided, fate_under, session}
use Rattle.mq_rules.specs.Identifiers.{opens_id, closes_id, delivers, sent_under}
use Rattle.mq_inflight.specs.Earlier.{sent_first}

-- how many Packet Identifiers are open in the session
unfoldable pub open_ids : Role → Option Fate → List Seen → ℕ
open_ids role taken log = ids_where (λ i. since (opens_id i) (closes_id i) (session role taken log))

-- how many have a PUBLISH of QoS above 0 or a PUBREL sent on the open connection, and no closer after it
unfoldable pub delivering_ids : List Seen → ℕ
delivering_ids log = ids_where (λ i. since (λ m. is_id i (sent_under (note m))) (closes_id i) (on_open log))

-- how many have a PUBLISH of QoS above 0 sent on a void connection
unfoldable pub void_ids : Role → Option Fate → List Seen → ℕ
void_ids role taken log = ids_where (λ i. some (λ m. delivers i m && voided (fate_under role taken log (number m))) (moments log))

-- how many have a PUBLISH of QoS above 0 that a client sent before the CONNACK with which the session began, or begins
unfoldable pub first_ids : Role → Option Fate → List Seen → ℕ
first_ids role taken log = ids_where (λ i. sent_first role i taken log)

-- how many have a SUBSCRIBE sent on the open connection, and no SUBACK received after it there
unfoldable pub subscribing_ids : List Seen → ℕ
subscribing_ids log = ids_where (λ i. since (λ m. is_id i (sent_as subscribe_in (note m))) (λ m. is_id i (received_as suback_in (note m))) (on_open log))

-- how many have an UNSUBSCRIBE sent on the open connection, and no UNSUBACK received after it there
unfoldable pub unsubscribing_ids : List Seen → ℕ
unsubscribing_ids log = ids_where (λ i. since (λ m. is_id i (sent_as unsubscribe_in (note m))) (λ m. is_id i (received_as unsuback_in (note m))) (on_open log))
