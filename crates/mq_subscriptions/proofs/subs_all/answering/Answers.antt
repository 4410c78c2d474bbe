use Rattle.mq_subscriptions.proofs.subs_all.answering.Goals as goal

pub returns : goal.returns
returns c = c.beside.ensures c.args.tested c.counting-2.ensures (c.beside-others.ensures c.args.tested c.counting.ensures c.on_request.ensures)
