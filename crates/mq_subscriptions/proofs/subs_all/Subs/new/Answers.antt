use Rattle.mq_subscriptions.proofs.subs_all.Subs.new.Goals as goal

pub returns : goal.returns
returns c = c.beside.ensures c.args.tested c.new.ensures c.answering.ensures
