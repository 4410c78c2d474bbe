use Rattle.mq_watchers.proofs.watchers.WatchersBrisk.step_bare.Goals as goal

pub returns-in-Plain-clause-agrees : goal.returns-in-Plain-clause-agrees
returns-in-Plain-clause-agrees c = rw c.in-Plain.is c.step_bare.ensures.agrees

pub returns-in-Plain-clause-grows : goal.returns-in-Plain-clause-grows
returns-in-Plain-clause-grows c = rw c.in-Plain.is c.step_bare.ensures.grows

pub returns-in-Plain-clause-memory : goal.returns-in-Plain-clause-memory
returns-in-Plain-clause-memory c = rw c.in-Plain.is c.step_bare.ensures.memory

pub returns-in-Counting-clause-agrees : goal.returns-in-Counting-clause-agrees
returns-in-Counting-clause-agrees c = rw c.in-Counting.is c.step_apart.ensures.agrees

pub returns-in-Counting-clause-grows : goal.returns-in-Counting-clause-grows
returns-in-Counting-clause-grows c = rw c.in-Counting.is c.step_apart.ensures.grows

pub returns-in-Counting-clause-memory : goal.returns-in-Counting-clause-memory
returns-in-Counting-clause-memory c = rw c.in-Counting.is c.step_apart.ensures.memory
