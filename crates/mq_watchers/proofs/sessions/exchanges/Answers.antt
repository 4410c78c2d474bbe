use Rattle.mq_watchers.proofs.sessions.exchanges.Goals as goal

-- each watcher agrees with no events
pub returns : goal.returns
returns c = rw c.new-5.ensures (rw c.new-2.ensures c.new.ensures, rw c.new-4.ensures c.new-3.ensures)
