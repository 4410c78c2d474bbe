use Rattle.std.proofs.Common.{subst}
use Rattle.mq_rules.specs.declared.note.Note.{Note}
use Rattle.mq_trail.specs.Following.{TakesIn}
use Rattle.mq_trail.proofs.following.Following.take_event.Goals as goal

pub returns : goal.returns
returns g c = subst (λ (n : Note). TakesIn g.W.Watch.agrees c.args.self.now.watcher c.take_note.new.self.watcher c.args.place n) c.in_ok-note.ensures.exact c.in_ok-take_note.ensures
