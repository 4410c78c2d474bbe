use Rattle.std.proofs.Common.{Some, ap, ◌∙◌}
use Rattle.mq_rules.specs.Notes.{seen_in}
use Rattle.mq_log.specs.Events.{events}
use Rattle.mq_judge.proofs.CoverageLaws.{named-places}
use Rattle.mq_judge.proofs.judge.Judge.places.Goals as goal

pub returns-clause-counted : goal.returns-clause-counted
unfolding seen_in
returns-clause-counted c = λ log counts f.
    let watching = c.args.self.now.judging.watching in
    ap Some (c.places.ensures (events log) counts f.watches f.tallies ∙ named-places c.args.self.now.further watching.tested log c.args.rule f.named)
