use Rattle.std.proofs.Common.{rules}
use Rattle.mq_tasks.specs.Messages.{IsOfLog}
use Rattle.mq_tasks.proofs.MessageLaws.{unflushed_begun, unflushed_refusal}
use Rattle.mq_tasks.proofs.tasks.refuse.Goals as goal

pub returns-in-Ok-clause-failed : goal.returns-in-Ok-clause-failed
returns-in-Ok-clause-failed g c =
    let own : IsOfLog c.args.refusal.now = search rules in
    unflushed_refusal _ c.args.refusal.now c.see_out.result own c.see_out.ensures.failed

pub returns-in-Ok-clause-begun : goal.returns-in-Ok-clause-begun
returns-in-Ok-clause-begun g c =
    let own : IsOfLog c.args.refusal.now = search rules in
    unflushed_begun c.args.form c.args.refusal.now _ (g.W.Write.contents c.write_refused.new.writer) _ c.see_out.result own c.in-Ok.ensures.ok c.see_out.ensures.kept
