use Rattle.mq_judge.specs.Unjudged.{dropped_in}
use Rattle.mq_judge.proofs.GatheringLaws.{dropped-still}
use Rattle.mq_judge.proofs.tally.Tally.count_packet.Goals as goal

pub returns : goal.returns
returns c = λ tested p events is at was. record {
  bytes = c.count_packet.ensures tested p events is at was.bytes;
  dropped = dropped-still c.args.direction _ p c.args.self.now.dropped (dropped_in events) is was.dropped;
}
