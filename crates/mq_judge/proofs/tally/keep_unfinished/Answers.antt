use Rattle.std.proofs.Common.{Some}
use Rattle.mq_log.specs.Reception.{packets_of}
use Rattle.mq_judge.specs.Unjudged.{with_last}
use Rattle.mq_judge.proofs.GatheringLaws.{both-kept}
use Rattle.mq_judge.proofs.tally.keep_unfinished.Goals as goal

pub returns : goal.returns
returns c = λ gaps was.
    both-kept c.args.dropped.now c.keep.new.self c.keep-2.new.self (Some c.args.place) (packets_of c.args.packets.now) gaps c.unfinished.result c.unfinished-2.result was
    (c.keep.ensures gaps) c.unfinished.ensures (c.keep-2.ensures (with_last gaps c.unfinished.result)) c.unfinished-2.ensures
