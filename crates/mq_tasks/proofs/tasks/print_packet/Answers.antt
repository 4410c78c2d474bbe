use Rattle.mq_tasks.proofs.MessageLaws.{whole_is_begun}
use Rattle.mq_tasks.proofs.tasks.print_packet.Goals as goal

pub returns-in-Ok-true-clause-begun : goal.returns-in-Ok-true-clause-begun
returns-in-Ok-true-clause-begun g c = whole_is_begun _ _ _ _ c.see_out.result c.in-Ok-true.ensures.ok c.see_out.ensures.kept

pub returns-in-Ok-false-clause-begun : goal.returns-in-Ok-false-clause-begun
returns-in-Ok-false-clause-begun g c = whole_is_begun _ _ _ _ c.see_out-in-Ok-false.result c.in-Ok-false.ensures.ok c.see_out-in-Ok-false.ensures.kept
