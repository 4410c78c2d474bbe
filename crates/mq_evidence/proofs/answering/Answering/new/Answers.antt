use Rattle.mq_evidence.proofs.answering.Answering.new.Goals as goal

pub returns : goal.returns
returns c = record { pubacks_are = c.new.ensures; pubrecs_are = c.new-2.ensures; pubrels_are = c.new-3.ensures; pubcomps_are = c.new-4.ensures; subacks_are = c.new-5.ensures; unsubacks_are = c.new-6.ensures }
