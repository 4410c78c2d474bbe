use Rattle.std.proofs.Common.{List, inr, map}
use Rattle.std.specs.Prelude.{string_bytes}
use Rattle.clap.specs.Words.{Text}
use Rattle.mq_tasks.specs.Program.{DoesForWords, FailsWords, FindsFaults, IsMisuse, Passes, Refuses}
use Rattle.mq_host.specs.Streams.{stream}
use Rattle.mq_tasks.proofs.ProgramLemmas.{known_words, refusal_hint}
use Rattle.mq_tasks.proofs.program.run.Goals as goal

pub returns-in-Ok-clause-passed : goal.returns-in-Ok-clause-passed
returns-in-Ok-clause-passed g c = λ e.
    let P : List Text → Type 0 = λ words. Passes words (g.H.Host.gives c.args.host.now) (g.W.Write.contents c.args.output.now) (g.W.Write.contents c.respond.new.output) in
    known_words _ _ _ _ P c.in-Ok.ensures.words c.as_slice.ensures.value (c.respond.ensures.passed e)

pub returns-in-Ok-clause-faulty : goal.returns-in-Ok-clause-faulty
returns-in-Ok-clause-faulty g c = λ e.
    let P : List Text → Type 0 = λ words. FindsFaults words (g.H.Host.gives c.args.host.now) (g.W.Write.contents c.args.output.now) (g.W.Write.contents c.respond.new.output) in
    known_words _ _ _ _ P c.in-Ok.ensures.words c.as_slice.ensures.value (c.respond.ensures.faulty e)

pub returns-in-Ok-clause-refused : goal.returns-in-Ok-clause-refused
returns-in-Ok-clause-refused g c = λ e.
    let P : List Text → Type 0 = λ words. Refuses words (g.H.Host.gives c.args.host.now) (g.W.Write.contents c.args.output.now) (g.W.Write.contents c.respond.new.output)
    (stream g.E.ErrorStream.contents g.E.ErrorStream.has_failed c.args.error.now c.respond.new.error) in
    known_words _ _ _ _ P c.in-Ok.ensures.words c.as_slice.ensures.value (c.respond.ensures.refused e)

pub returns-in-Ok-clause-hinted : goal.returns-in-Ok-clause-hinted
returns-in-Ok-clause-hinted g c = λ e.
    refusal_hint (map string_bytes c.as_slice.result.now) (g.H.Host.gives c.args.host.now) (g.W.Write.contents c.args.output.now) (g.W.Write.contents c.respond.new.output) _
    (c.respond.ensures.refused e)

pub returns-in-Ok-clause-misused : goal.returns-in-Ok-clause-misused
returns-in-Ok-clause-misused g c = λ e.
    let P : List Text → Type 0 = λ words. IsMisuse words (g.H.Host.gives c.args.host.now) (g.E.ErrorStream.contents c.args.error.now) (g.E.ErrorStream.contents c.respond.new.error) in
    known_words _ _ _ _ P c.in-Ok.ensures.words c.as_slice.ensures.value (c.respond.ensures.misused e)

pub returns-in-Ok-clause-failed : goal.returns-in-Ok-clause-failed
returns-in-Ok-clause-failed g c = λ e.
    let P : List Text → Type 0 = λ words. FailsWords words (g.H.Host.gives c.args.host.now) (g.W.Output.is_closed c.respond.new.output) (g.W.Write.contents c.args.output.now) (g.W.Write.contents c.respond.new.output)
    (stream g.E.ErrorStream.contents g.E.ErrorStream.has_failed c.args.error.now c.respond.new.error) in
    inr (known_words _ _ _ _ P c.in-Ok.ensures.words c.as_slice.ensures.value (c.respond.ensures.failed e))

pub returns-in-Ok-clause-done : goal.returns-in-Ok-clause-done
returns-in-Ok-clause-done g c = λ begun.
    let P : List Text → Type 0 = λ words. DoesForWords words (g.H.Host.gives c.args.host.now) c.respond.result (g.H.Host.did c.respond.new.host) in
    inr (known_words _ _ _ _ P c.in-Ok.ensures.words c.as_slice.ensures.value (c.respond.ensures.done begun))
