use Rattle.mq_judge.specs.Unjudged.{dropped_in}
use Rattle.mq_judge.proofs.GatheringLaws.{dropped-still}
use Rattle.mq_judge.proofs.tally.Tally.count_bare.Goals as goal

pub returns : goal.returns
returns c = λ tested p entry events is tried at was. record {
  bytes = c.count_bare.ensures tested p entry events is tried at was.bytes;
  dropped = dropped-still c.args.bare.direction _ p c.args.self.now.dropped (dropped_in events) is was.dropped;
}
