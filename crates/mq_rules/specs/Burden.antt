-- How much a log gives its watchers to keep.
use Rattle.std.specs.Prelude.{ℕ, ◌+◌, Bool, ◌&&◌, not, cond, List, is_some}
use Rattle.std.specs.Option.{option_and_then}
use Rattle.mq_rules.specs.declared.note.Seen.{Seen}
use Rattle.mq_rules.specs.Words.{is_some_and, is_id}
use Rattle.mq_rules.specs.Notes.{connect_method}
use Rattle.mq_rules.specs.Moments.{Moment, note, count, first_found}
use Rattle.mq_rules.specs.Connections.{is_connected, connection, on_open}
use Rattle.mq_rules.specs.declared.role.Tested.{Tested}
use Rattle.mq_rules.specs.declared.rule.Rule.TheVariants.{D03, D05, A03}
use Rattle.mq_rules.specs.Pasts.{came_before, set_alias}
use Rattle.mq_rules.specs.ProtocolErrors.{alias_received}
use Rattle.mq_rules.specs.ReceiveMaximum.{unfinished}
use Rattle.mq_rules.specs.Rules.{binds}

-- A PUBLISH is sent that sets a Topic Alias, and none before it on its connection set that one (MQTT 5.0, section 3.3.2.3.4).
abbrev pub sets_another : Moment → Bool
sets_another m = is_some_and (λ alias. not (came_before (λ n. is_id alias (set_alias n)) m)) (set_alias (note m))

-- how many Topic Aliases the tested end has set on the connection that is open; none if none is open
unfoldable pub aliases_sent : List Seen → ℕ
aliases_sent log = cond (is_connected log) (count sets_another (connection log)) 0

-- The same of a PUBLISH that is received, and of the Topic Aliases that the other end has set.
abbrev pub sets_another_here : Moment → Bool
sets_another_here m = is_some_and (λ alias. not (came_before (λ n. is_id alias (alias_received n)) m)) (alias_received (note m))

unfoldable pub aliases_received : List Seen → ℕ
aliases_received log = cond (is_connected log) (count sets_another_here (connection log)) 0

-- those that are kept: only D03 looks at them
abbrev pub aliases_heard : Tested → List Seen → ℕ
aliases_heard tested log = cond (binds D03 tested) (aliases_received log) 0

-- How many Packet Identifiers have a PUBLISH of QoS 2 that was received on the connection that is open, and isn't finished (MQTT 5.0, section 3.3.4). They are kept if D05 is judged.
abbrev pub identifiers_heard : Tested → List Seen → ℕ
identifiers_heard tested log = cond (binds D05 tested) (unfinished (on_open log)) 0

-- what the client gives the further statements to keep
abbrev pub further_burden : Tested → List Seen → ℕ
further_burden tested log = aliases_heard tested log + identifiers_heard tested log

-- One Authentication Method, if the CONNECT of the latest connection has one (MQTT 5.0, section 3.1.2.11.9). It counts once, as a Topic Filter does, whatever its length; and only A03 looks at it.
unfoldable pub methods_kept : Tested → List Seen → ℕ
methods_kept tested log = cond (binds A03 tested && is_some (option_and_then (λ method. method) (first_found (connect_method tested.role) (connection log)))) 1 0
