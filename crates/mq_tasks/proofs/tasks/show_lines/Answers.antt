use Rattle.mq_tasks.proofs.tasks.show_lines.Goals as goal

pub returns-in-Faults : goal.returns-in-Faults
returns-in-Faults g c = rw c.in-Faults.is c.show_faults.ensures
