use Rattle.std.proofs.Common.{refl}
use Rattle.mq_judge.proofs.WatchingLaws.{none-found}
use Rattle.mq_judge.proofs.watching.Watching.new.Goals as goal

pub returns-clause-watches : goal.returns-clause-watches
returns-clause-watches c = record { agree = c.watch-watchers.ensures.agrees; found = record { each = none-found c.args.tested c.new-3.result c.new-3.ensures; count = refl }; gathered = λ on. c.new-2.ensures c.args.tested }

pub returns-clause-tallies : goal.returns-clause-tallies
returns-clause-tallies c = λ on. c.new.ensures c.args.tested
