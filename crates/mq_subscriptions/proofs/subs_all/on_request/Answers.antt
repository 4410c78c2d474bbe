use Rattle.mq_subscriptions.proofs.subs_all.on_request.Goals as goal

pub returns : goal.returns
returns c = c.beside.ensures c.args.tested c.granting.ensures c.deleting_and_matching-others.ensures
