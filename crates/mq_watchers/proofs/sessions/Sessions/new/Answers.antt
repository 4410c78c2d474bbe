use Rattle.mq_watchers.proofs.sessions.Sessions.new.Goals as goal

-- each watcher agrees with no events
pub returns : goal.returns
returns c = rw c.new-2.ensures (c.sending.ensures, rw c.new.ensures (c.exchanges.ensures, c.delivering.ensures))
