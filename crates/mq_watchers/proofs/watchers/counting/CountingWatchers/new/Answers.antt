use Rattle.mq_watchers.proofs.watchers.counting.CountingWatchers.new.Goals as goal

-- each watcher agrees with no events
pub returns : goal.returns
returns c = rw c.new-13.ensures (tt, rw c.new-12.ensures (c.new-2.ensures, rw c.new-11.ensures (c.new-3.ensures, rw c.new-10.ensures (c.new-4.ensures, rw c.new-9.ensures (c.new-5.ensures, c.new-8.ensures (c.new-7.ensures c.args.tested c.new-6.ensures))))))
