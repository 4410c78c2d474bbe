use Rattle.mq_trail.proofs.FollowingLaws.{followed-next}
use Rattle.mq_trail.proofs.following.Following.take_note.Goals as goal

pub returns : goal.returns
returns g c = followed-next g.W.Watch.agrees g.W.Watch.takes c.args.self.now.watcher c.step.new.self c.args.place c.args.note.now g.met.W.Follower.takes_any c.in_ok-step.ensures.agrees
