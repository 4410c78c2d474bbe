use Rattle.std.specs.Prelude.{reverse}
use Rattle.mq_fates.proofs.EarlyFailsLaws.{failed-settled}
use Rattle.mq_fates.proofs.early.Early.watcher.Goals as goal

pub returns-clause-failed : goal.returns-clause-failed
returns-clause-failed g c = λ tested taken past k r holds on h.
    failed-settled tested (reverse c.args.self.now.held.items) past k r holds.joined holds.are_held on h
