use Rattle.std.specs.FinMap.{entries}
use Rattle.mq_choice.specs.Choices.{in_choice}
use Rattle.mq_trail.proofs.ExplainingLaws.{explained}
use Rattle.mq_trail.proofs.explaining.explain_by.Goals as goal

pub returns-in-Ok-follow_reader : goal.returns-in-Ok-follow_reader
returns-in-Ok-follow_reader g c =
    explained (in_choice c.args.choice) g.W.Watch.agrees c.args.tested c.in-Ok-follow_reader.named c.args.verdict.now.events (entries c.args.verdict.now.faults) c.in-Ok-follow_reader.reading _ _ c.answer.result
    c.in-Ok-follow_reader.ensures c.answer.ensures
