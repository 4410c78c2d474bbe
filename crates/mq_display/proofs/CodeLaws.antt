-- A statement on a packet's bytes has the code of its rule.
use Rattle.std.proofs.Common.{◌≡◌, ap}
use Rattle.mq_packet.specs.declared.rule.PacketRule.{PacketRule}
use Rattle.mq_rules.specs.declared.role.Role.TheVariants.{Client}
use Rattle.mq_rules.specs.declared.rule.Rule.{Rule}
use Rattle.mq_rules.specs.declared.rule.Rule.TheVariants.{W01, W02, W03, W04, W05, W06, W07, W08, W09, W10, W11, W12, W13, W14, W15, W16, W17, W18, W19, W20, W21}
use Rattle.mq_rules.specs.Rules.{code_of, line_of, found_line, lines}
use Rattle.mq_rules.specs.Statements.{statement, on_bytes}
use Rattle.mq_display.specs.ItemText.{packet_rule_code}
use Rattle.mq_display.specs.Sentences.{statement_on}

same : (a b : PacketRule) → on_bytes a ≡ on_bytes b → a ≡ b
same a b e = cc

pub code_is : (rule : Rule) (broken : PacketRule) → statement Client rule ≡ on_bytes broken → code_of rule ≡ packet_rule_code broken
unfolding line_of found_line lines
code_is W01 broken e = ap packet_rule_code (same _ broken e)
code_is W02 broken e = ap packet_rule_code (same _ broken e)
code_is W03 broken e = ap packet_rule_code (same _ broken e)
code_is W04 broken e = ap packet_rule_code (same _ broken e)
code_is W05 broken e = ap packet_rule_code (same _ broken e)
code_is W06 broken e = ap packet_rule_code (same _ broken e)
code_is W07 broken e = ap packet_rule_code (same _ broken e)
code_is W08 broken e = ap packet_rule_code (same _ broken e)
code_is W09 broken e = ap packet_rule_code (same _ broken e)
code_is W10 broken e = ap packet_rule_code (same _ broken e)
code_is W11 broken e = ap packet_rule_code (same _ broken e)
code_is W12 broken e = ap packet_rule_code (same _ broken e)
code_is W13 broken e = ap packet_rule_code (same _ broken e)
code_is W14 broken e = ap packet_rule_code (same _ broken e)
code_is W15 broken e = ap packet_rule_code (same _ broken e)
code_is W16 broken e = ap packet_rule_code (same _ broken e)
code_is W17 broken e = ap packet_rule_code (same _ broken e)
code_is W18 broken e = ap packet_rule_code (same _ broken e)
code_is W19 broken e = ap packet_rule_code (same _ broken e)
code_is W20 broken e = ap packet_rule_code (same _ broken e)
code_is W21 broken e = ap packet_rule_code (same _ broken e)
code_is _ broken e = absurd (cc)

-- and is the statement on it
pub statement_is : (rule : Rule) (broken : PacketRule) → statement Client rule ≡ on_bytes broken → rule ≡ statement_on broken
statement_is W01 broken e = ap statement_on (same _ broken e)
statement_is W02 broken e = ap statement_on (same _ broken e)
statement_is W03 broken e = ap statement_on (same _ broken e)
statement_is W04 broken e = ap statement_on (same _ broken e)
statement_is W05 broken e = ap statement_on (same _ broken e)
statement_is W06 broken e = ap statement_on (same _ broken e)
statement_is W07 broken e = ap statement_on (same _ broken e)
statement_is W08 broken e = ap statement_on (same _ broken e)
statement_is W09 broken e = ap statement_on (same _ broken e)
statement_is W10 broken e = ap statement_on (same _ broken e)
statement_is W11 broken e = ap statement_on (same _ broken e)
statement_is W12 broken e = ap statement_on (same _ broken e)
statement_is W13 broken e = ap statement_on (same _ broken e)
statement_is W14 broken e = ap statement_on (same _ broken e)
statement_is W15 broken e = ap statement_on (same _ broken e)
statement_is W16 broken e = ap statement_on (same _ broken e)
statement_is W17 broken e = ap statement_on (same _ broken e)
statement_is W18 broken e = ap statement_on (same _ broken e)
statement_is W19 broken e = ap statement_on (same _ broken e)
statement_is W20 broken e = ap statement_on (same _ broken e)
statement_is W21 broken e = ap statement_on (same _ broken e)
statement_is _ broken e = absurd (cc)
