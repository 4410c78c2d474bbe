-- An event that is judged part by part, where each part may be refused.
use Rattle.std.proofs.Common.{◌≡◌, ℕ, Bool, true, false, ◌&&◌, ◌||◌, Option, None, is_some, refl, ap}
use Rattle.mq_log.specs.declared.place.Place3.{Place3}
use Rattle.mq_rules.specs.declared.role.Role.{Role}
use Rattle.mq_rules.specs.declared.role.Role.TheVariants.{Client, Server}
use Rattle.mq_rules.specs.declared.rule.Rule.{Rule}
use Rattle.mq_rules.specs.declared.rule.Rule.TheVariants.{C15}
use Rattle.mq_rules.specs.declared.note.Note.{Note}
use Rattle.mq_rules.specs.declared.packet_note.ConnackNote.{ConnackNote}
use Rattle.mq_rules.specs.declared.connection_state.ConnectionState.{ConnectionState}
use Rattle.mq_rules.specs.Notes.{is_rest, sent_item, sent_packet, sent_publish, sent_connack, sent_disconnect}
use Rattle.mq_rules.specs.Rules.{same_rule}
use Rattle.mq_rules.specs.FaultKeys.{FaultMap}
use Rattle.mq_rules.specs.Growing.{Judges, JudgesWithin}
use Rattle.mq_connections.specs.Finding.{item_verdicts, packet_verdicts, publish_verdicts, connack_verdicts, disconnect_verdicts, rest_verdicts, is_among, is_found}
use Rattle.mq_connections.proofs.AtPlaceLaws.{judges-none, judges-same, judges-then, within-first, within-second}

-- ---- nothing is found of what the event is not

pub no_item : (role : Role) (s : ConnectionState) (place : Place3) (faults : FaultMap) → Judges (is_among (item_verdicts role s None)) place faults faults
no_item Client s place faults = judges-none place faults
no_item Server s place faults = judges-none place faults

pub no_packet : (role : Role) (s : ConnectionState) (place : Place3) (faults : FaultMap) → Judges (is_among (packet_verdicts role s None)) place faults faults
no_packet Client s place faults = judges-none place faults
no_packet Server s place faults = judges-none place faults

pub no_publish : (role : Role) (s : ConnectionState) (aliases : ℕ → Bool) (place : Place3) (faults : FaultMap) → Judges (is_among (publish_verdicts role s aliases None)) place faults faults
no_publish Client s aliases place faults = judges-same (λ rule. false) (is_among (publish_verdicts Client s aliases None)) place faults faults (λ rule. ap (λ b. (b && same_rule rule C15) || false) (flip (is_some s.connack))) (judges-none place faults)
  where
    flip : (b : Bool) → false ≡ (b && false)
    flip true = refl
    flip false = refl
no_publish Server s aliases place faults = judges-none place faults

pub no_connack : (role : Role) (s : ConnectionState) (place : Place3) (faults : FaultMap) → Judges (is_among (connack_verdicts role s None)) place faults faults
no_connack Client s place faults = judges-none place faults
no_connack Server s place faults = judges-none place faults

pub no_disconnect : (role : Role) (s : ConnectionState) (place : Place3) (faults : FaultMap) → Judges (is_among (disconnect_verdicts role s None)) place faults faults
no_disconnect Client s place faults = judges-none place faults
no_disconnect Server s place faults = judges-none place faults

-- a client judges no CONNACK
pub clients_connack : (s : ConnectionState) (connack : Option ConnackNote) (place : Place3) (faults : FaultMap) → Judges (is_among (connack_verdicts Client s connack)) place faults faults
clients_connack s connack place faults = judges-none place faults

-- ---- the parts of what is found

abbrev from_rest : Role → ConnectionState → (ℕ → Bool) → Note → Rule → Bool
from_rest role s aliases n rule = is_among (rest_verdicts role s (is_rest n)) rule || false

abbrev from_disconnect : Role → ConnectionState → (ℕ → Bool) → Note → Rule → Bool
from_disconnect role s aliases n rule = is_among (disconnect_verdicts role s (sent_disconnect n)) rule || from_rest role s aliases n rule

abbrev from_connack : Role → ConnectionState → (ℕ → Bool) → Note → Rule → Bool
from_connack role s aliases n rule = is_among (connack_verdicts role s (sent_connack n)) rule || from_disconnect role s aliases n rule

abbrev from_publish : Role → ConnectionState → (ℕ → Bool) → Note → Rule → Bool
from_publish role s aliases n rule = is_among (publish_verdicts role s aliases (sent_publish n)) rule || from_connack role s aliases n rule

abbrev from_packet : Role → ConnectionState → (ℕ → Bool) → Note → Rule → Bool
from_packet role s aliases n rule = is_among (packet_verdicts role s (sent_packet n)) rule || from_publish role s aliases n rule

abbrev from_item : Role → ConnectionState → (ℕ → Bool) → Note → Rule → Bool
from_item role s aliases n rule = is_among (item_verdicts role s (sent_item n)) rule || from_packet role s aliases n rule

pub judged-all : (role : Role) (s : ConnectionState) (aliases : ℕ → Bool) (n : Note) (place : Place3) (f0 f1 f2 f3 f4 f5 f6 : FaultMap)
    → Judges (is_among (item_verdicts role s (sent_item n))) place f0 f1 → Judges (is_among (packet_verdicts role s (sent_packet n))) place f1 f2 → Judges (is_among (publish_verdicts role s aliases (sent_publish n))) place f2 f3 → Judges (is_among (connack_verdicts role s (sent_connack n))) place f3 f4 → Judges (is_among (disconnect_verdicts role s (sent_disconnect n))) place f4 f5 → Judges (is_among (rest_verdicts role s (is_rest n))) place f5 f6
    → Judges (is_found role s aliases n) place f0 f6
judged-all role s aliases n place f0 f1 f2 f3 f4 f5 f6 p1 p2 p3 p4 p5 p6 =
    judges-then (is_among (item_verdicts role s (sent_item n))) (from_packet role s aliases n) place f0 f1 f6 p1 (judges-then (is_among (packet_verdicts role s (sent_packet n))) (from_publish role s aliases n) place f1 f2 f6 p2 (judges-then (is_among (publish_verdicts role s aliases (sent_publish n))) (from_connack role s aliases n) place f2 f3 f6 p3 (judges-then (is_among (connack_verdicts role s (sent_connack n))) (from_disconnect role s aliases n) place f3 f4 f6 p4 (judges-then (is_among (disconnect_verdicts role s (sent_disconnect n))) (from_rest role s aliases n) place f4 f5 f6 p5 (judges-then (is_among (rest_verdicts role s (is_rest n))) (λ rule. false) place f5 f6 f6 p6 (judges-none place f6))))))

pub refused-item : (role : Role) (s : ConnectionState) (aliases : ℕ → Bool) (n : Note) (place : Place3) (f0 f1 : FaultMap)
    → JudgesWithin (is_among (item_verdicts role s (sent_item n))) place f0 f1
    → JudgesWithin (is_found role s aliases n) place f0 f1
refused-item role s aliases n place f0 f1 p1 =
    within-first (is_among (item_verdicts role s (sent_item n))) (from_packet role s aliases n) place f0 f1 p1

pub refused-packet : (role : Role) (s : ConnectionState) (aliases : ℕ → Bool) (n : Note) (place : Place3) (f0 f1 f2 : FaultMap)
    → Judges (is_among (item_verdicts role s (sent_item n))) place f0 f1 → JudgesWithin (is_among (packet_verdicts role s (sent_packet n))) place f1 f2
    → JudgesWithin (is_found role s aliases n) place f0 f2
refused-packet role s aliases n place f0 f1 f2 p1 p2 =
    within-second (is_among (item_verdicts role s (sent_item n))) (from_packet role s aliases n) place f0 f1 f2 p1 (within-first (is_among (packet_verdicts role s (sent_packet n))) (from_publish role s aliases n) place f1 f2 p2)

pub refused-publish : (role : Role) (s : ConnectionState) (aliases : ℕ → Bool) (n : Note) (place : Place3) (f0 f1 f2 f3 : FaultMap)
    → Judges (is_among (item_verdicts role s (sent_item n))) place f0 f1 → Judges (is_among (packet_verdicts role s (sent_packet n))) place f1 f2 → JudgesWithin (is_among (publish_verdicts role s aliases (sent_publish n))) place f2 f3
    → JudgesWithin (is_found role s aliases n) place f0 f3
refused-publish role s aliases n place f0 f1 f2 f3 p1 p2 p3 =
    within-second (is_among (item_verdicts role s (sent_item n))) (from_packet role s aliases n) place f0 f1 f3 p1 (within-second (is_among (packet_verdicts role s (sent_packet n))) (from_publish role s aliases n) place f1 f2 f3 p2 (within-first (is_among (publish_verdicts role s aliases (sent_publish n))) (from_connack role s aliases n) place f2 f3 p3))

pub refused-connack : (role : Role) (s : ConnectionState) (aliases : ℕ → Bool) (n : Note) (place : Place3) (f0 f1 f2 f3 f4 : FaultMap)
    → Judges (is_among (item_verdicts role s (sent_item n))) place f0 f1 → Judges (is_among (packet_verdicts role s (sent_packet n))) place f1 f2 → Judges (is_among (publish_verdicts role s aliases (sent_publish n))) place f2 f3 → JudgesWithin (is_among (connack_verdicts role s (sent_connack n))) place f3 f4
    → JudgesWithin (is_found role s aliases n) place f0 f4
refused-connack role s aliases n place f0 f1 f2 f3 f4 p1 p2 p3 p4 =
    within-second (is_among (item_verdicts role s (sent_item n))) (from_packet role s aliases n) place f0 f1 f4 p1 (within-second (is_among (packet_verdicts role s (sent_packet n))) (from_publish role s aliases n) place f1 f2 f4 p2 (within-second (is_among (publish_verdicts role s aliases (sent_publish n))) (from_connack role s aliases n) place f2 f3 f4 p3 (within-first (is_among (connack_verdicts role s (sent_connack n))) (from_disconnect role s aliases n) place f3 f4 p4)))

pub refused-disconnect : (role : Role) (s : ConnectionState) (aliases : ℕ → Bool) (n : Note) (place : Place3) (f0 f1 f2 f3 f4 f5 : FaultMap)
    → Judges (is_among (item_verdicts role s (sent_item n))) place f0 f1 → Judges (is_among (packet_verdicts role s (sent_packet n))) place f1 f2 → Judges (is_among (publish_verdicts role s aliases (sent_publish n))) place f2 f3 → Judges (is_among (connack_verdicts role s (sent_connack n))) place f3 f4 → JudgesWithin (is_among (disconnect_verdicts role s (sent_disconnect n))) place f4 f5
    → JudgesWithin (is_found role s aliases n) place f0 f5
refused-disconnect role s aliases n place f0 f1 f2 f3 f4 f5 p1 p2 p3 p4 p5 =
    within-second (is_among (item_verdicts role s (sent_item n))) (from_packet role s aliases n) place f0 f1 f5 p1 (within-second (is_among (packet_verdicts role s (sent_packet n))) (from_publish role s aliases n) place f1 f2 f5 p2 (within-second (is_among (publish_verdicts role s aliases (sent_publish n))) (from_connack role s aliases n) place f2 f3 f5 p3 (within-second (is_among (connack_verdicts role s (sent_connack n))) (from_disconnect role s aliases n) place f3 f4 f5 p4 (within-first (is_among (disconnect_verdicts role s (sent_disconnect n))) (from_rest role s aliases n) place f4 f5 p5))))

pub refused-rest : (role : Role) (s : ConnectionState) (aliases : ℕ → Bool) (n : Note) (place : Place3) (f0 f1 f2 f3 f4 f5 f6 : FaultMap)
    → Judges (is_among (item_verdicts role s (sent_item n))) place f0 f1 → Judges (is_among (packet_verdicts role s (sent_packet n))) place f1 f2 → Judges (is_among (publish_verdicts role s aliases (sent_publish n))) place f2 f3 → Judges (is_among (connack_verdicts role s (sent_connack n))) place f3 f4 → Judges (is_among (disconnect_verdicts role s (sent_disconnect n))) place f4 f5 → JudgesWithin (is_among (rest_verdicts role s (is_rest n))) place f5 f6
    → JudgesWithin (is_found role s aliases n) place f0 f6
refused-rest role s aliases n place f0 f1 f2 f3 f4 f5 f6 p1 p2 p3 p4 p5 p6 =
    within-second (is_among (item_verdicts role s (sent_item n))) (from_packet role s aliases n) place f0 f1 f6 p1 (within-second (is_among (packet_verdicts role s (sent_packet n))) (from_publish role s aliases n) place f1 f2 f6 p2 (within-second (is_among (publish_verdicts role s aliases (sent_publish n))) (from_connack role s aliases n) place f2 f3 f6 p3 (within-second (is_among (connack_verdicts role s (sent_connack n))) (from_disconnect role s aliases n) place f3 f4 f6 p4 (within-second (is_among (disconnect_verdicts role s (sent_disconnect n))) (from_rest role s aliases n) place f4 f5 f6 p5 (within-first (is_among (rest_verdicts role s (is_rest n))) (λ rule. false) place f5 f6 p6)))))
