use Rattle.mq_judge.proofs.JudgeLaws.{follows-nothing}
use Rattle.mq_judge.proofs.judge.Judge.start.Goals as goal

pub returns-clause-follows : goal.returns-clause-follows
returns-clause-follows c = rw c.new-3.ensures (follows-nothing c.args.options.limit c.args.options.further c.new.result c.new-2.result c.new.ensures.follows c.new.ensures.limit c.new-2.ensures.watches c.new-2.ensures.tallies)
