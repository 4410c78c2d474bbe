use Rattle.std.proofs.Common.{refl}
use Rattle.mq_log.specs.Reception.{placed_at}
use Rattle.mq_judge.specs.Unjudged.{dropped_in}
use Rattle.mq_judge.proofs.tally.Tally.count_event.Goals as goal

pub returns : goal.returns
returns c = λ tested events at was. record {
  bytes = c.count_event.ensures tested (placed_at c.args.place c.args.event.now) events refl at was.bytes;
  dropped = c.keep_dropped.ensures (dropped_in events) was.dropped;
}
