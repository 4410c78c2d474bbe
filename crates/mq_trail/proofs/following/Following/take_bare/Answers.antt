use Rattle.mq_rules.specs.Notes.{note_of_bare}
use Rattle.mq_trail.proofs.FollowingLaws.{followed-next}
use Rattle.mq_trail.proofs.following.Following.take_bare.Goals as goal

pub returns : goal.returns
returns g c = followed-next g.W.Watch.agrees g.W.Watch.takes c.args.self.now.watcher c.step_bare.new.self c.args.place (note_of_bare c.args.bare) g.met.W.Follower.takes_any c.in_ok-step_bare.ensures.agrees
