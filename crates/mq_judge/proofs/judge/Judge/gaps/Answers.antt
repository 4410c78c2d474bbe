use Rattle.std.proofs.Common.{ap, ◌∙◌}
use Rattle.mq_log.specs.Events.{events, UnfinishedPackets}
use Rattle.mq_log.specs.Reception.{packets_of}
use Rattle.mq_rules.specs.declared.role.Tested.{Tested}
use Rattle.mq_rules.specs.Notes.{seen_in, tested_by}
use Rattle.mq_judge.specs.Unjudged.{unjudged_among, unjudged_of}
use Rattle.mq_judge.proofs.judge.Judge.gaps.Goals as goal

pub returns-in-Ok : goal.returns-in-Ok
unfolding unjudged_of seen_in
returns-in-Ok c = λ log counts f long.
    c.in-Ok.ensures (events log) counts f.watches f.tallies ∙ ap (λ (t : Tested). unjudged_among t (events log) (packets_of c.unfinished-left.result)) (f.named long)
    ∙ ap (λ (left : UnfinishedPackets). unjudged_among (tested_by c.args.self.now.further log) (events log) left) (c.unfinished-left.ensures.follows log f.traced)
