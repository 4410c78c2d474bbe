use Rattle.std.proofs.Common.{inr}
use Rattle.std.proofs.KnownBytes.{Keeps-refl}
use Rattle.mq_host.specs.Streams.{misuse_line, stream}
use Rattle.mq_tasks.specs.Program.{input_of}
use Rattle.mq_command.specs.CommandLine.{path_of}
use Rattle.mq_host.specs.Troubles.{place_of}
use Rattle.mq_tasks.proofs.MessageLaws.{misuse_fails}
use Rattle.mq_tasks.proofs.ProgramLemmas.{misuse_stops}
use Rattle.mq_tasks.proofs.program.read_and_do.Goals as goal

pub returns-in-Some-clause-misused : goal.returns-in-Some-clause-misused
returns-in-Some-clause-misused g c = λ e. record {
  line = misuse_line c.in-Some.misuse;
  misnamed = c.in-Some.ensures (input_of (g.H.Host.gives c.args.host.now) c.args.task.now);
  told = c.report.ensures.printed e;
}

pub returns-in-Some-clause-failed : goal.returns-in-Some-clause-failed
returns-in-Some-clause-failed g c = λ e.
    let input = input_of (g.H.Host.gives c.args.host.now) c.args.task.now in
    let old = g.W.Write.contents c.args.output.now in
    let error = stream g.E.ErrorStream.contents g.E.ErrorStream.has_failed c.args.error.now c.report.new.error in
    inr (inr (misuse_stops c.args.task.now (place_of (path_of c.args.task.now)) input input old old (g.W.Output.is_closed c.args.output.now) error
    (misuse_fails c.args.task.now (misuse_line c.in-Some.misuse) input input old old error (c.in-Some.ensures input) (Keeps-refl old) (c.report.ensures.failed e))))
