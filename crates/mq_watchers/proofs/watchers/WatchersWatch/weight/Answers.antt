use Rattle.mq_watchers.proofs.watchers.WatchersWatch.weight.Goals as goal

pub returns-in-Plain-clause-bounded : goal.returns-in-Plain-clause-bounded
returns-in-Plain-clause-bounded c = rw c.in-Plain.is c.weight.ensures.bounded

pub returns-in-Counting-clause-bounded : goal.returns-in-Counting-clause-bounded
returns-in-Counting-clause-bounded c = rw c.in-Counting.is c.weight-in-Counting.ensures.bounded
