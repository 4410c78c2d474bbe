use Rattle.mq_trail.proofs.explaining.explain_as.Goals as goal

pub explain_by-requires : goal.explain_by-requires
explain_by-requires g c = record { further = c.requires.further; sought = c.requires.wanted; agrees = c.watcher_of-watcher.ensures }

pub returns : goal.returns
returns g c = c.explain_by.ensures
