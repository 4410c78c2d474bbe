use Rattle.mq_judge.proofs.judge.Judge.feed.Goals as goal

pub returns-clause-answers : goal.returns-clause-answers
returns-clause-answers c = λ log follows. c.consume.ensures.answers c.args.self.now.limit log follows

pub returns-clause-counts : goal.returns-clause-counts
returns-clause-counts c = λ log f. c.consume.ensures.counts c.args.self.now.limit log f
