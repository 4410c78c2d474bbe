use Rattle.std.proofs.Common.{rules, subst, true, false, List, ℕ, IfOk, OnOk, ◌≡◌}
use Rattle.mq_command.specs.Digits.{is_dash}
use Rattle.mq_tasks.specs.Messages.{AppendsReportOf, SpellsNoPacket, SpellsPacket}
use Rattle.mq_tasks.proofs.PacketLaws.{dash_stops, operand_stops}
use Rattle.mq_tasks.proofs.tasks.packet_given.Goals as goal

pub returns-then-is_dash-clause-passed : goal.returns-then-is_dash-clause-passed
returns-then-is_dash-clause-passed g c =
    let dash : is_dash c.args.operand.now ≡ true = search rules in
    rw dash c.packet_read.ensures.passed

pub returns-then-is_dash-clause-faulty : goal.returns-then-is_dash-clause-faulty
returns-then-is_dash-clause-faulty g c =
    let dash : is_dash c.args.operand.now ≡ true = search rules in
    rw dash c.packet_read.ensures.faulty

pub returns-then-is_dash-clause-reported : goal.returns-then-is_dash-clause-reported
returns-then-is_dash-clause-reported g c =
    let dash : is_dash c.args.operand.now ≡ true = search rules in
    rw dash c.packet_read.ensures.reported

pub returns-then-is_dash-clause-stops : goal.returns-then-is_dash-clause-stops
returns-then-is_dash-clause-stops g c =
    let dash : is_dash c.args.operand.now ≡ true = search rules in
    dash_stops c.args.long c.args.operand.now (g.R.Read.remaining c.args.input.now) (g.W.Write.contents c.args.output.now) (g.W.Write.contents c.packet_read.new.output)
    c.packet_read.result dash c.packet_read.ensures.stops

pub returns-else-is_dash-clause-passed : goal.returns-else-is_dash-clause-passed
returns-else-is_dash-clause-passed g c =
    let given : is_dash c.args.operand.now ≡ false = search rules in
    rw given (subst (λ (text : List ℕ). IfOk c.packet.result (λ status. status ≡ 0 → SpellsPacket text)) c.as_bytes.ensures.value c.packet.ensures.passed)

pub returns-else-is_dash-clause-faulty : goal.returns-else-is_dash-clause-faulty
returns-else-is_dash-clause-faulty g c =
    let given : is_dash c.args.operand.now ≡ false = search rules in
    rw given (subst (λ (text : List ℕ). IfOk c.packet.result (λ status. status ≡ 1 → SpellsNoPacket text)) c.as_bytes.ensures.value c.packet.ensures.faulty)

pub returns-else-is_dash-clause-reported : goal.returns-else-is_dash-clause-reported
returns-else-is_dash-clause-reported g c =
    let given : is_dash c.args.operand.now ≡ false = search rules in
    let old = g.W.Write.contents c.args.output.now in
    let new = g.W.Write.contents c.packet.new.output in
    rw given (subst (λ (text : List ℕ). OnOk c.packet.result (AppendsReportOf c.args.long text old new)) c.as_bytes.ensures.value c.packet.ensures.reported)

pub returns-else-is_dash-clause-stops : goal.returns-else-is_dash-clause-stops
returns-else-is_dash-clause-stops g c =
    let given : is_dash c.args.operand.now ≡ false = search rules in
    operand_stops c.args.long c.args.operand.now c.as_bytes.result.now (g.R.Read.remaining c.args.input.now) (g.W.Write.contents c.args.output.now)
    (g.W.Write.contents c.packet.new.output) c.packet.result given c.as_bytes.ensures.value c.packet.ensures.stops
