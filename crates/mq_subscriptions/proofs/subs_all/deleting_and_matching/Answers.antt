use Rattle.mq_subscriptions.proofs.subs_all.deleting_and_matching.Goals as goal

pub returns : goal.returns
returns c = c.beside.ensures c.args.tested c.new.ensures c.new-2.ensures
