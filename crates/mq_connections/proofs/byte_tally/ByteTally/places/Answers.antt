use Rattle.std.proofs.Common.{◌≡◌, ap, ◌∙◌}
use Rattle.mq_packet.specs.declared.rule.PacketRule.TheVariants as packets
use Rattle.mq_rules.specs.Statements.{statement}
use Rattle.mq_connections.proofs.ByteFaultLaws.{rule_of}
use Rattle.mq_connections.proofs.ByteTallyLaws.{of-each, no-places}
use Rattle.mq_connections.proofs.byte_tally.ByteTally.places.Goals as goal

pub returns-in-W01 : goal.returns-in-W01
returns-in-W01 c = λ tested events counts. c.count_of.ensures (counts.fits packets.W01) ∙ counts.each c.args.rule packets.W01 (ap (statement tested.role) c.in-W01.is)

pub returns-in-W02 : goal.returns-in-W02
returns-in-W02 c = λ tested events counts. c.count_of-in-W02.ensures (counts.fits packets.W02) ∙ counts.each c.args.rule packets.W02 (ap (statement tested.role) c.in-W02.is)

pub returns-in-W03 : goal.returns-in-W03
returns-in-W03 c = λ tested events counts. c.count_of-in-W03.ensures (counts.fits packets.W03) ∙ counts.each c.args.rule packets.W03 (ap (statement tested.role) c.in-W03.is)

pub returns-in-W04 : goal.returns-in-W04
returns-in-W04 c = λ tested events counts. c.count_of-in-W04.ensures (counts.fits packets.W04) ∙ counts.each c.args.rule packets.W04 (ap (statement tested.role) c.in-W04.is)

pub returns-in-W05 : goal.returns-in-W05
returns-in-W05 c = λ tested events counts. c.count_of-in-W05.ensures (counts.fits packets.W05) ∙ counts.each c.args.rule packets.W05 (ap (statement tested.role) c.in-W05.is)

pub returns-in-W06 : goal.returns-in-W06
returns-in-W06 c = λ tested events counts. c.count_of-in-W06.ensures (counts.fits packets.W06) ∙ counts.each c.args.rule packets.W06 (ap (statement tested.role) c.in-W06.is)

pub returns-in-W07 : goal.returns-in-W07
returns-in-W07 c = λ tested events counts. c.count_of-in-W07.ensures (counts.fits packets.W07) ∙ counts.each c.args.rule packets.W07 (ap (statement tested.role) c.in-W07.is)

pub returns-in-W08 : goal.returns-in-W08
returns-in-W08 c = λ tested events counts. c.count_of-in-W08.ensures (counts.fits packets.W08) ∙ counts.each c.args.rule packets.W08 (ap (statement tested.role) c.in-W08.is)

pub returns-in-W09 : goal.returns-in-W09
returns-in-W09 c = λ tested events counts. c.count_of-in-W09.ensures (counts.fits packets.W09) ∙ counts.each c.args.rule packets.W09 (ap (statement tested.role) c.in-W09.is)

pub returns-in-W10 : goal.returns-in-W10
returns-in-W10 c = λ tested events counts. c.count_of-in-W10.ensures (counts.fits packets.W10) ∙ counts.each c.args.rule packets.W10 (ap (statement tested.role) c.in-W10.is)

pub returns-in-W11 : goal.returns-in-W11
returns-in-W11 c = λ tested events counts. c.count_of-in-W11.ensures (counts.fits packets.W11) ∙ counts.each c.args.rule packets.W11 (ap (statement tested.role) c.in-W11.is)

pub returns-in-W12 : goal.returns-in-W12
returns-in-W12 c = λ tested events counts. c.count_of-in-W12.ensures (counts.fits packets.W12) ∙ counts.each c.args.rule packets.W12 (ap (statement tested.role) c.in-W12.is)

pub returns-in-W13 : goal.returns-in-W13
returns-in-W13 c = λ tested events counts. c.count_of-in-W13.ensures (counts.fits packets.W13) ∙ counts.each c.args.rule packets.W13 (ap (statement tested.role) c.in-W13.is)

pub returns-in-W14 : goal.returns-in-W14
returns-in-W14 c = λ tested events counts. c.count_of-in-W14.ensures (counts.fits packets.W14) ∙ counts.each c.args.rule packets.W14 (ap (statement tested.role) c.in-W14.is)

pub returns-in-W15 : goal.returns-in-W15
returns-in-W15 c = λ tested events counts. c.count_of-in-W15.ensures (counts.fits packets.W15) ∙ counts.each c.args.rule packets.W15 (ap (statement tested.role) c.in-W15.is)

pub returns-in-W16 : goal.returns-in-W16
returns-in-W16 c = λ tested events counts. c.count_of-in-W16.ensures (counts.fits packets.W16) ∙ counts.each c.args.rule packets.W16 (ap (statement tested.role) c.in-W16.is)

pub returns-in-W17 : goal.returns-in-W17
returns-in-W17 c = λ tested events counts. c.count_of-in-W17.ensures (counts.fits packets.W17) ∙ counts.each c.args.rule packets.W17 (ap (statement tested.role) c.in-W17.is)

pub returns-in-W18 : goal.returns-in-W18
returns-in-W18 c = λ tested events counts. c.count_of-in-W18.ensures (counts.fits packets.W18) ∙ counts.each c.args.rule packets.W18 (ap (statement tested.role) c.in-W18.is)

pub returns-in-W19 : goal.returns-in-W19
returns-in-W19 c = λ tested events counts. c.count_of-in-W19.ensures (counts.fits packets.W19) ∙ counts.each c.args.rule packets.W19 (ap (statement tested.role) c.in-W19.is)

pub returns-in-W20 : goal.returns-in-W20
returns-in-W20 c = λ tested events counts. c.count_of-in-W20.ensures (counts.fits packets.W20) ∙ counts.each c.args.rule packets.W20 (ap (statement tested.role) c.in-W20.is)

pub returns-in-W21 : goal.returns-in-W21
returns-in-W21 c = λ tested events counts. c.count_of-in-W21.ensures (counts.fits packets.W21) ∙ counts.each c.args.rule packets.W21 (ap (statement tested.role) c.in-W21.is)

pub returns-in_default : goal.returns-in_default
unfolding rule_of
returns-in_default c = λ tested events counts.
    no-places tested events c.args.rule
    (of-each (λ bytes. c.args.rule ≡ rule_of bytes → ⊥) c.in_default.not-W01 c.in_default.not-W02 c.in_default.not-W03 c.in_default.not-W04 c.in_default.not-W05 c.in_default.not-W06 c.in_default.not-W07 c.in_default.not-W08 c.in_default.not-W09 c.in_default.not-W10 c.in_default.not-W11 c.in_default.not-W12 c.in_default.not-W13 c.in_default.not-W14 c.in_default.not-W15 c.in_default.not-W16 c.in_default.not-W17 c.in_default.not-W18 c.in_default.not-W19 c.in_default.not-W20 c.in_default.not-W21)
