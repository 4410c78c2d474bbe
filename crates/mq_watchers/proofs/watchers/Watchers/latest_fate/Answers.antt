use Rattle.mq_watchers.proofs.watchers.Watchers.latest_fate.Goals as goal

pub returns-in-Plain : goal.returns-in-Plain
returns-in-Plain c = rw c.in-Plain.is (λ tested taken past agrees. c.latest_fate.ensures tested taken past agrees)

pub returns-in-Counting : goal.returns-in-Counting
returns-in-Counting c = rw c.in-Counting.is (λ tested taken past agrees. c.latest_fate-in-Counting.ensures tested taken past agrees)
