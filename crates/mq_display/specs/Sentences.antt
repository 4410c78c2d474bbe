-- What the statements on a packet's bytes say (W01 to W21).
use Rattle.std.specs.Prelude.{ℕ, List}
use Rattle.mq_packet.specs.declared.rule.PacketRule.{PacketRule}
use Rattle.mq_packet.specs.declared.rule.PacketRule.TheVariants as packet_rules
use Rattle.mq_rules.specs.declared.rule.Rule.{Rule}
use Rattle.mq_rules.specs.declared.rule.Rule.TheVariants as rules
use Rattle.mq_rules.specs.Naming.{sentence_of}

-- the statement on a rule
abbrev pub statement_on : PacketRule → Rule
statement_on packet_rules.W01 = rules.W01
statement_on packet_rules.W02 = rules.W02
statement_on packet_rules.W03 = rules.W03
statement_on packet_rules.W04 = rules.W04
statement_on packet_rules.W05 = rules.W05
statement_on packet_rules.W06 = rules.W06
statement_on packet_rules.W07 = rules.W07
statement_on packet_rules.W08 = rules.W08
statement_on packet_rules.W09 = rules.W09
statement_on packet_rules.W10 = rules.W10
statement_on packet_rules.W11 = rules.W11
statement_on packet_rules.W12 = rules.W12
statement_on packet_rules.W13 = rules.W13
statement_on packet_rules.W14 = rules.W14
statement_on packet_rules.W15 = rules.W15
statement_on packet_rules.W16 = rules.W16
statement_on packet_rules.W17 = rules.W17
statement_on packet_rules.W18 = rules.W18
statement_on packet_rules.W19 = rules.W19
statement_on packet_rules.W20 = rules.W20
statement_on packet_rules.W21 = rules.W21

-- its sentence
abbrev pub packet_rule_sentence : PacketRule → List ℕ
packet_rule_sentence rule = sentence_of (statement_on rule)
