use Rattle.std.proofs.Common.{◌≡◌, List, map}
use Rattle.mq_log.specs.declared.refusal.Refusal.{Refusal}
use Rattle.mq_log.specs.declared.refusal.Refusal.TheVariants as refusals
use Rattle.mq_log.specs.Events.{Placed}
use Rattle.mq_rules.specs.Notes.{seen}
use Rattle.mq_trail.specs.declared.following.Following.{Following}
use Rattle.mq_trail.specs.Following.{HasFollowed}
use Rattle.mq_trail.proofs.SecondReadingLaws.{piece-follows, piece-stops}
use Rattle.mq_trail.proofs.second_reading.RereadingFeedFollowingRefusal.feed.Given as given
use Rattle.mq_trail.proofs.second_reading.RereadingFeedFollowingRefusal.feed.Goals as goal

-- the sink, and what its events say of it
abbrev Sink : given.Over → Type 0
Sink g = Following g.row.W.Denot g.row.K.Denot

abbrev agrees : (g : given.Over) → Sink g → List Placed → Type 0
agrees g s received = HasFollowed g.W.Watch.agrees g.K.Watched.tested s.watcher (map seen received)

abbrev refuses : (g : given.Over) → Sink g → List Placed → Refusal → Type 0
refuses g s received own = own ≡ refusals.Memory 0

pub returns-clause-follows : goal.returns-clause-follows
returns-clause-follows g c = λ log held.
    piece-follows (agrees g) (refuses g) (λ s received own is. is) c.args.self.now.tracer.reading.limit c.feed.new.self log c.args.piece.now c.args.following.now c.feed.new.sink c.feed.result
    held.1 (c.feed.ensures.follows log held.0) (c.feed.ensures.answers log held.0)

pub returns-clause-stops : goal.returns-clause-stops
returns-clause-stops g c = λ log held.
    piece-stops (agrees g) (refuses g) (λ s received own is. is) c.args.self.now.tracer.reading.limit log c.args.piece.now c.args.following.now c.feed.new.sink c.feed.result
    held.1 (c.feed.ensures.answers log held.0)
