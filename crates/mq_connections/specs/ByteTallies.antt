-- What is counted of the statements on a packet's bytes (W) in one pass.
use Rattle.std.specs.Prelude.{◌≡◌, ◌+◌, ◌<◌, ℕ, Bool, List}
use denote.Enum.Bare.{sameb}
use Rattle.mq_packet.specs.declared.rule.PacketRule.{PacketRule}
use Rattle.mq_packet.specs.declared.rule.PacketRule.TheVariants.{W01, W02, W03, W04, W05, W06, W07, W08, W09, W10, W11, W12, W13, W14, W15, W16, W17, W18, W19, W20, W21}
use Rattle.mq_packet.specs.contracts.rule.PacketRule.{the_type}
use Rattle.mq_packet.specs.Reading.{view}
use Rattle.mq_packet.specs.Tries.{tries}
use Rattle.mq_log.specs.Events.{Placed}
use Rattle.mq_rules.specs.declared.role.Tested.{Tested}
use Rattle.mq_rules.specs.declared.rule.Rule.{Rule}
use Rattle.mq_connections.specs.declared.byte_tally.ByteTally.{ByteTally}
use Rattle.mq_connections.specs.declared.byte_tally.Trial.{Trial}
use Rattle.mq_connections.specs.declared.byte_tally.Trial.TheVariants.{Sized, Broken}
use Rattle.mq_rules.specs.Statements.{on_bytes, statement}
use Rattle.mq_rules.specs.Trials.{places_bytes}

-- what was sent puts the rule to the test
abbrev pub tried_in : Trial → PacketRule → Bool
tried_in (Sized size packet) rule = tries rule size (view packet.now)
tried_in (Broken broken) rule = sameb the_type rule broken

-- how many packets were counted by their parts
abbrev pub plain_count : ByteTally → ℕ
plain_count tally = tally.publishes + tally.others

-- The count of a rule on a packet's bytes: of packets without properties, and of each PUBLISH, the parts are counted.
abbrev pub count_of : ByteTally → PacketRule → ℕ
count_of tally W01 = tally.w01 + tally.others
count_of tally W02 = tally.w02 + (plain_count tally)
count_of tally W03 = tally.w03 + (plain_count tally)
count_of tally W04 = tally.w04 + tally.named
count_of tally W05 = tally.w05 + tally.named
count_of tally W06 = tally.w06 + (plain_count tally)
count_of tally W07 = tally.w07 + tally.publishes
count_of tally W08 = tally.w08
count_of tally W09 = tally.w09
count_of tally W10 = tally.w10
count_of tally W11 = tally.w11
count_of tally W12 = tally.w12
count_of tally W13 = tally.w13
count_of tally W14 = tally.w14 + tally.named
count_of tally W15 = tally.w15
count_of tally W16 = tally.w16
count_of tally W17 = tally.w17
count_of tally W18 = tally.w18
count_of tally W19 = tally.w19
count_of tally W20 = tally.w20
count_of tally W21 = tally.w21

-- The count of each rule on a packet's bytes is the number of places that its statement has among these events, the newest first, and is below 2^32.
pub record CountsBytes (tally : ByteTally) (tested : Tested) (events : List Placed) : Type 0 where
  pub each : (statement_of : Rule) (rule : PacketRule) → statement tested.role statement_of ≡ on_bytes rule → count_of tally rule ≡ places_bytes tested events statement_of
  pub fits : (rule : PacketRule) → count_of tally rule < 4294967296
