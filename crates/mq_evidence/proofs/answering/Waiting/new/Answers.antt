use Rattle.mq_evidence.proofs.answering.Waiting.new.Goals as goal

pub returns : goal.returns
returns c = record { pubacks_are = c.new.ensures; pubrecs_are = c.new-2.ensures; pubrels_are = c.new-3.ensures; requests_are = c.new-4.ensures }
