-- Where the statements on a packet's bytes (W) are put to the test. They are about the packets themselves, since a note doesn't keep the whole packet.
use Rattle.std.specs.Prelude.{ℕ, ◌+◌, ◌==◌, Bool, true, false, ◌&&◌, cond, List, [], ◌∷◌, length, map, Option, Some, None}
use denote.Enum.Bare.{sameb}
use Rattle.mq_packet.specs.declared.rule.PacketRule.{PacketRule}
use Rattle.mq_packet.specs.declared.rule.PacketRule.TheVariants as packets
use Rattle.mq_packet.specs.contracts.rule.PacketRule.{the_type}
use Rattle.mq_packet.specs.Tries.{tries}
use Rattle.mq_log.specs.Events.{Item, Event, Placed, packet, bad, lost, sent}
use Rattle.mq_rules.specs.declared.role.Tested.{Tested}
use Rattle.mq_rules.specs.declared.rule.Rule.{Rule}
use Rattle.mq_rules.specs.Words.{is_some_and}
use Rattle.mq_rules.specs.Rules.{binds}
use Rattle.mq_rules.specs.Statements.{Statement, on_bytes, on_past, in_session, at_release, at_rest, by_later, statement}

-- What is sent puts a rule on a packet's bytes to the test. A packet tries each rule on a part that it has. Bytes that break a rule try that rule alone, since what follows
-- isn't read; and where a Remaining Length is invalid, so that no more packets are found, what is tried is the rule on such numbers (W03).
abbrev pub tried_by : PacketRule → Item → Bool
tried_by rule (packet size entry) = tries rule size entry
tried_by rule (bad bytes broken at) = sameb the_type rule broken
tried_by rule lost = sameb the_type rule packets.W03

-- the item that the tested end sends with an event
abbrev pub item_sent : Event → Option Item
item_sent (sent item) = Some item
item_sent _ = None

-- the event puts the statement to the test, if that is one on a packet's bytes
abbrev pub tries_statement : Statement → Event → Bool
tries_statement (on_bytes rule) event = is_some_and (tried_by rule) (item_sent event)
tries_statement (on_past breaks) event = false
tries_statement (in_session breaks) event = false
tries_statement (at_release breaks) event = false
tries_statement (at_rest shows) event = false
tries_statement (by_later shows) event = false

-- the event at a position, if there is that position; the newest event stands first
abbrev pub event_of : List Placed → ℕ → Option Event
event_of [] k = None
event_of (p ∷ past) k = cond (k == length past + 1) (Some p.event) (event_of past k)

-- A statement on a packet's bytes binds the tested end, and is put to the test at position k of the events: that is a place of it.
unfoldable pub applies_bytes : Tested → List Placed → ℕ → Rule → Bool
applies_bytes tested events k rule = binds rule tested && is_some_and (tries_statement (statement tested.role rule)) (event_of events k)

-- how many places such a statement has among the events
unfoldable pub places_bytes : Tested → List Placed → Rule → ℕ
places_bytes tested [] rule = 0
places_bytes tested (p ∷ past) rule = cond (binds rule tested && tries_statement (statement tested.role rule) p.event) 1 0 + places_bytes tested past rule
