use Rattle.std.proofs.Common.{rules, sym, subst, ◌≡◌, List, ℕ, IfErr, IfOk}
use Rattle.std.specs.Prelude.{string_bytes}
use Rattle.mq_command.specs.declared.command_line.Task.{Task}
use Rattle.mq_command.specs.declared.command_line.Task.TheVariants.{Check, Show, Packet, Rules, Explain}
use Rattle.mq_host.specs.declared.failure.TheConstants.{FAULTY}
use Rattle.mq_explain.specs.Citing.{explained_for}
use Rattle.mq_command.specs.Digits.{OfDigits}
use Rattle.mq_tasks.specs.Messages.{HasFailed, IsRefusedOn, SpellsNoPacket, StopsAttempt, StopsGiven, StopsText}
use Rattle.mq_host.specs.Streams.{no_statement_line}
use Rattle.mq_tasks.proofs.MessageLaws.{explanation_stops}
use Rattle.mq_tasks.proofs.PacketLaws.{packet_stops}
use Rattle.mq_tasks.proofs.tasks.attempt.Goals as goal

pub returns-in-Ok-clause-refused : goal.returns-in-Ok-clause-refused
returns-in-Ok-clause-refused g c =
    let asked : c.args.task.now ≡ Show c.in-Show.file c.in-Show.long = search rules in
    let P : Task → Type 0 = λ task. IsRefusedOn task (g.R.Read.remaining c.args.input.now) (g.W.Write.contents c.args.output.now) (g.W.Write.contents c.show_log.new.output) in
    λ e. subst P (sym asked) (c.in-Ok.ensures.refused e)

pub returns-in-Packet-clause-faulty : goal.returns-in-Packet-clause-faulty
returns-in-Packet-clause-faulty g c =
    let asked : c.args.task.now ≡ Packet c.in-Packet.hex c.in-Packet.long = search rules in
    let hex : c.as_str.result.now ≡ string_bytes c.in-Packet.hex = search rules in
    let input = g.R.Read.remaining c.args.input.now in
    let P : Task → Type 0 = λ task. IfOk c.packet_given.result (λ status. status ≡ FAULTY → HasFailed task input) in
    let Q : List ℕ → Type 0 = λ w. IfOk c.packet_given.result (λ status. status ≡ FAULTY → OfDigits w input SpellsNoPacket) in
    subst P (sym asked) (subst Q hex c.packet_given.ensures.faulty)

pub returns-in-Packet-clause-stops : goal.returns-in-Packet-clause-stops
returns-in-Packet-clause-stops g c =
    let asked : c.args.task.now ≡ Packet c.in-Packet.hex c.in-Packet.long = search rules in
    let hex : c.as_str.result.now ≡ string_bytes c.in-Packet.hex = search rules in
    let input = g.R.Read.remaining c.args.input.now in
    let left = g.R.Read.remaining c.packet_given.new.input in
    let old = g.W.Write.contents c.args.output.now in
    let new = g.W.Write.contents c.packet_given.new.output in
    let P : Task → Type 0 = λ task. IfErr c.packet_given.result (StopsAttempt task input left old new) in
    let Q : List ℕ → Type 0 = λ w. IfErr c.packet_given.result (StopsGiven c.in-Packet.long w input old new) in
    subst P (sym asked) (packet_stops c.in-Packet.hex c.in-Packet.long input left old new c.packet_given.result (subst Q hex c.packet_given.ensures.stops))

pub returns-in-Rules-clause-stops : goal.returns-in-Rules-clause-stops
returns-in-Rules-clause-stops g c =
    let asked : c.args.task.now ≡ Rules c.in-Rules.role c.in-Rules.scope c.in-Rules.statements = search rules in
    let input = g.R.Read.remaining c.args.input.now in
    let P : Task → Type 0 = λ task. IfErr c.print_listed.result (StopsAttempt task input input (g.W.Write.contents c.args.output.now) (g.W.Write.contents c.print_listed.new.output)) in
    subst P (sym asked) (c.print_listed.ensures.stops input input)

pub returns-in-Check-clause-stops : goal.returns-in-Check-clause-stops
returns-in-Check-clause-stops g c =
    let asked : c.args.task.now ≡ Check c.in-Check.file c.in-Check.form c.in-Check.coverage c.in-Check.scope c.in-Check.statements = search rules in
    let P : Task → Type 0 = λ task. IfErr c.check_chosen.result (StopsAttempt task (g.R.Read.remaining c.args.input.now) (g.R.Read.remaining c.check_chosen.new.input)
    (g.W.Write.contents c.args.output.now) (g.W.Write.contents c.check_chosen.new.output)) in
    subst P (sym asked) (c.check_chosen.ensures.stops c.in-Check.file)

pub returns-in-Explain-clause-stops : goal.returns-in-Explain-clause-stops
returns-in-Explain-clause-stops g c =
    let asked : c.args.task.now ≡ Explain c.in-Explain.code = search rules in
    let code : c.as_str-in-Explain.result.now ≡ string_bytes c.in-Explain.code = search rules in
    let input = g.R.Read.remaining c.args.input.now in
    let old = g.W.Write.contents c.args.output.now in
    let new = g.W.Write.contents c.explain.new.output in
    let P : Task → Type 0 = λ task. IfErr c.explain.result (StopsAttempt task input input old new) in
    let Q : List ℕ → Type 0 = λ w. IfErr c.explain.result (StopsText (explained_for w) (no_statement_line w) old new) in
    subst P (sym asked) (explanation_stops c.in-Explain.code input input old new c.explain.result (subst Q code c.explain.ensures.stops))
