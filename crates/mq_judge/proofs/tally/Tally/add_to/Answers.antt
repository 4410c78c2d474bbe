use Rattle.mq_log.specs.Reception.{packets_of}
use Rattle.mq_judge.specs.Unjudged.{dropped_in}
use Rattle.mq_judge.proofs.GatheringLaws.{dropped-all}
use Rattle.mq_judge.proofs.tally.Tally.add_to.Goals as goal

pub returns : goal.returns
returns c = λ tested events was.
    dropped-all _ _ _ _ (dropped_in events) (packets_of c.args.left.now) _ _ (c.in_ok-add_to.ensures (dropped_in events) was.dropped)
    c.in_ok-add.ensures c.unfinished.ensures c.in_ok-add-2.ensures c.unfinished-2.ensures
