use Rattle.std.proofs.Common.{List, Option, sym, ℕ}
use Rattle.mq_tasks.specs.Messages.{HasFailed, HasPassed, IsRefusedOn, IsReportedOn}
use Rattle.mq_tasks.specs.Program.{IsHinted, MisusesTask}
use Rattle.mq_host.specs.Streams.{stream}
use Rattle.mq_tasks.proofs.BeginningLaws.{hinted_of_kept}
use Rattle.mq_tasks.proofs.ProgramLemmas.{failed_kept, file_fails, file_hinted, file_keeps, input_fails, input_keeps, misused_kept, passed_kept, refused_kept, reported_kept, unread_fails}
use Rattle.mq_tasks.proofs.program.open_and_do.Goals as goal

pub returns-in-Ok-clause-hinted : goal.returns-in-Ok-clause-hinted
returns-in-Ok-clause-hinted g c = λ e.
    file_hinted (g.H.Host.gives c.args.host.now) c.args.task.now c.in-Some.path.now (g.H.File.Read.remaining c.in-Ok.file) _ c.in-Some.ensures c.in-Ok.ensures.bytes
    (c.do_on.ensures.hinted e)

pub returns-in-Ok-clause-failed : goal.returns-in-Ok-clause-failed
returns-in-Ok-clause-failed g c = λ e.
    file_fails (g.H.Host.gives c.args.host.now) c.args.task.now c.in-Some.path.now (g.H.File.Read.remaining c.in-Ok.file)
    (g.W.Write.contents c.args.output.now) (g.W.Write.contents c.do_on.new.output) (g.W.Output.is_closed c.do_on.new.output)
    (stream g.E.ErrorStream.contents g.E.ErrorStream.has_failed c.args.error.now c.do_on.new.error)
    c.in-Some.ensures c.in-Ok.ensures.bytes (c.do_on.ensures.failed e)

pub returns-then-reads_input-clause-failed : goal.returns-then-reads_input-clause-failed
returns-then-reads_input-clause-failed g c = λ e.
    input_fails (g.H.Host.gives c.args.host.now) c.args.task.now (g.H.Stdin.Read.remaining c.input.result)
    (g.W.Write.contents c.args.output.now) (g.W.Write.contents c.do_on-then-reads_input.new.output) (g.W.Output.is_closed c.do_on-then-reads_input.new.output)
    (stream g.E.ErrorStream.contents g.E.ErrorStream.has_failed c.args.error.now c.do_on-then-reads_input.new.error)
    c.in-None.ensures (sym c.if-reads_input.ensures) c.input.ensures.bytes (c.do_on-then-reads_input.ensures.failed e)

pub returns-in-Ok-clause-passed : goal.returns-in-Ok-clause-passed
returns-in-Ok-clause-passed g c = λ e.
    file_keeps (HasPassed c.args.task.now) (passed_kept c.args.task.now) (g.H.Host.gives c.args.host.now) c.args.task.now c.in-Some.path.now (g.H.File.Read.remaining c.in-Ok.file)
    c.in-Some.ensures c.in-Ok.ensures.bytes (c.do_on.ensures.passed e)

pub returns-then-reads_input-clause-passed : goal.returns-then-reads_input-clause-passed
returns-then-reads_input-clause-passed g c = λ e.
    input_keeps (HasPassed c.args.task.now) (passed_kept c.args.task.now) (g.H.Host.gives c.args.host.now) c.args.task.now (g.H.Stdin.Read.remaining c.input.result)
    c.in-None.ensures c.input.ensures.bytes (c.do_on-then-reads_input.ensures.passed e)

pub returns-in-Ok-clause-faulty : goal.returns-in-Ok-clause-faulty
returns-in-Ok-clause-faulty g c = λ e.
    file_keeps (HasFailed c.args.task.now) (failed_kept c.args.task.now) (g.H.Host.gives c.args.host.now) c.args.task.now c.in-Some.path.now (g.H.File.Read.remaining c.in-Ok.file)
    c.in-Some.ensures c.in-Ok.ensures.bytes (c.do_on.ensures.faulty e)

pub returns-then-reads_input-clause-faulty : goal.returns-then-reads_input-clause-faulty
returns-then-reads_input-clause-faulty g c = λ e.
    input_keeps (HasFailed c.args.task.now) (failed_kept c.args.task.now) (g.H.Host.gives c.args.host.now) c.args.task.now (g.H.Stdin.Read.remaining c.input.result)
    c.in-None.ensures c.input.ensures.bytes (c.do_on-then-reads_input.ensures.faulty e)

pub returns-in-Ok-clause-reported : goal.returns-in-Ok-clause-reported
returns-in-Ok-clause-reported g c = λ e.
    let old = g.W.Write.contents c.args.output.now in
    let new = g.W.Write.contents c.do_on.new.output in
    file_keeps (λ (log : Option (List ℕ)). IsReportedOn c.args.task.now log old new) (reported_kept c.args.task.now old new) (g.H.Host.gives c.args.host.now) c.args.task.now c.in-Some.path.now
    (g.H.File.Read.remaining c.in-Ok.file) c.in-Some.ensures c.in-Ok.ensures.bytes (c.do_on.ensures.reported e)

pub returns-then-reads_input-clause-reported : goal.returns-then-reads_input-clause-reported
returns-then-reads_input-clause-reported g c = λ e.
    let old = g.W.Write.contents c.args.output.now in
    let new = g.W.Write.contents c.do_on-then-reads_input.new.output in
    input_keeps (λ (log : Option (List ℕ)). IsReportedOn c.args.task.now log old new) (reported_kept c.args.task.now old new) (g.H.Host.gives c.args.host.now) c.args.task.now
    (g.H.Stdin.Read.remaining c.input.result) c.in-None.ensures c.input.ensures.bytes (c.do_on-then-reads_input.ensures.reported e)

pub returns-in-Ok-clause-refused : goal.returns-in-Ok-clause-refused
returns-in-Ok-clause-refused g c = λ e.
    let old = g.W.Write.contents c.args.output.now in
    let new = g.W.Write.contents c.do_on.new.output in
    file_keeps (λ (log : Option (List ℕ)). IsRefusedOn c.args.task.now log old new) (refused_kept c.args.task.now old new) (g.H.Host.gives c.args.host.now) c.args.task.now c.in-Some.path.now
    (g.H.File.Read.remaining c.in-Ok.file) c.in-Some.ensures c.in-Ok.ensures.bytes (c.do_on.ensures.refused e)

pub returns-then-reads_input-clause-refused : goal.returns-then-reads_input-clause-refused
returns-then-reads_input-clause-refused g c = λ e.
    let old = g.W.Write.contents c.args.output.now in
    let new = g.W.Write.contents c.do_on-then-reads_input.new.output in
    input_keeps (λ (log : Option (List ℕ)). IsRefusedOn c.args.task.now log old new) (refused_kept c.args.task.now old new) (g.H.Host.gives c.args.host.now) c.args.task.now
    (g.H.Stdin.Read.remaining c.input.result) c.in-None.ensures c.input.ensures.bytes (c.do_on-then-reads_input.ensures.refused e)

pub returns-in-Ok-clause-misused : goal.returns-in-Ok-clause-misused
returns-in-Ok-clause-misused g c = λ e.
    let old = g.E.ErrorStream.contents c.args.error.now in
    let new = g.E.ErrorStream.contents c.do_on.new.error in
    file_keeps (λ (log : Option (List ℕ)). MisusesTask c.args.task.now log old new) (misused_kept c.args.task.now old new) (g.H.Host.gives c.args.host.now) c.args.task.now c.in-Some.path.now
    (g.H.File.Read.remaining c.in-Ok.file) c.in-Some.ensures c.in-Ok.ensures.bytes (c.do_on.ensures.misused e)

pub returns-then-reads_input-clause-misused : goal.returns-then-reads_input-clause-misused
returns-then-reads_input-clause-misused g c = λ e.
    let old = g.E.ErrorStream.contents c.args.error.now in
    let new = g.E.ErrorStream.contents c.do_on-then-reads_input.new.error in
    input_keeps (λ (log : Option (List ℕ)). MisusesTask c.args.task.now log old new) (misused_kept c.args.task.now old new) (g.H.Host.gives c.args.host.now) c.args.task.now
    (g.H.Stdin.Read.remaining c.input.result) c.in-None.ensures c.input.ensures.bytes (c.do_on-then-reads_input.ensures.misused e)

pub returns-then-reads_input-clause-hinted : goal.returns-then-reads_input-clause-hinted
returns-then-reads_input-clause-hinted g c = λ e.
    let error = stream g.E.ErrorStream.contents g.E.ErrorStream.has_failed c.args.error.now c.do_on-then-reads_input.new.error in
    input_keeps (λ (log : Option (List ℕ)). IsHinted log error) (λ log read k h. hinted_of_kept log read error k h) (g.H.Host.gives c.args.host.now) c.args.task.now
    (g.H.Stdin.Read.remaining c.input.result) c.in-None.ensures c.input.ensures.bytes (c.do_on-then-reads_input.ensures.hinted e)

pub returns-else-reads_input-clause-failed : goal.returns-else-reads_input-clause-failed
returns-else-reads_input-clause-failed g c = λ e.
    unread_fails (g.H.Host.gives c.args.host.now) c.args.task.now (g.H.Stdin.Read.remaining c.input-else-reads_input.result)
    (g.W.Write.contents c.args.output.now) (g.W.Write.contents c.do_from.new.output) (g.W.Output.is_closed c.do_from.new.output)
    (stream g.E.ErrorStream.contents g.E.ErrorStream.has_failed c.args.error.now c.do_from.new.error)
    c.in-None.ensures c.input-else-reads_input.ensures.bytes (c.do_from.ensures.failed e)
