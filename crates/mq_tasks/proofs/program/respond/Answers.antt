use Rattle.std.proofs.Common.{inl, inr}
use Rattle.mq_tasks.proofs.program.respond.Goals as goal

pub returns-in-Ok-clause-passed : goal.returns-in-Ok-clause-passed
returns-in-Ok-clause-passed g c = λ e. inr (c.in-Ok.work, (c.in-Ok.ensures.work, c.in-Ok.ensures.readings), c.work_on.ensures.passed e)

pub returns-in-Ok-clause-faulty : goal.returns-in-Ok-clause-faulty
returns-in-Ok-clause-faulty g c = λ e. (c.in-Ok.work, (c.in-Ok.ensures.work, c.in-Ok.ensures.readings), c.work_on.ensures.faulty e)

pub returns-in-Ok-clause-refused : goal.returns-in-Ok-clause-refused
returns-in-Ok-clause-refused g c = λ e. (c.in-Ok.work, (c.in-Ok.ensures.work, c.in-Ok.ensures.readings), c.work_on.ensures.refused e)

pub returns-in-Ok-clause-misused : goal.returns-in-Ok-clause-misused
returns-in-Ok-clause-misused g c = λ e. inr (c.in-Ok.work, (c.in-Ok.ensures.work, c.in-Ok.ensures.readings), c.work_on.ensures.misused e)

pub returns-in-Ok-clause-failed : goal.returns-in-Ok-clause-failed
returns-in-Ok-clause-failed g c = λ e. inr (c.in-Ok.work, (c.in-Ok.ensures.work, c.in-Ok.ensures.readings), c.work_on.ensures.failed e)

pub returns-in-Err-clause-passed : goal.returns-in-Err-clause-passed
returns-in-Err-clause-passed g c = λ e. inl (c.in-Err.why, c.in-Err.ensures.stop, c.stop.ensures.shown e)

pub returns-in-Err-clause-misused : goal.returns-in-Err-clause-misused
returns-in-Err-clause-misused g c = λ e. inl (c.in-Err.why, c.in-Err.ensures.stop, c.stop.ensures.printed e)

pub returns-in-Err-clause-failed : goal.returns-in-Err-clause-failed
returns-in-Err-clause-failed g c = λ e. inl (c.in-Err.why, c.in-Err.ensures.stop, c.stop.ensures.failed e)

pub returns-in-Ok-clause-done : goal.returns-in-Ok-clause-done
returns-in-Ok-clause-done g c = λ begun. inr (c.in-Ok.work, (c.in-Ok.ensures.work, c.in-Ok.ensures.readings), c.work_on.ensures.done begun)

pub returns-in-Err-clause-done : goal.returns-in-Err-clause-done
returns-in-Err-clause-done g c = λ begun. inl (c.in-Err.why, c.in-Err.ensures.stop, begun)
