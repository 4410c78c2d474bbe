use Rattle.std.proofs.Common.{Bool, Some, [], ◌&&◌}
use Rattle.std.specs.Prelude.{reverse}
use Rattle.mq_rules.specs.declared.fate.Fate.{Fate}
use Rattle.mq_rules.specs.declared.fate.Fate.TheVariants.{Void}
use Rattle.mq_rules.specs.declared.note.Seen.{Seen}
use Rattle.mq_rules.specs.declared.rule.Rule.{Rule}
use Rattle.mq_rules.specs.Faults.{Grows, GrowsWithin}
use Rattle.mq_rules.specs.Under.{is_on_session}
use Rattle.mq_watchers.proofs.JudgingLaws.{on_error, on_ok, sessions-whole}
use Rattle.mq_watchers.proofs.judging.watch_sessions.Goals as goal

pub returns-clause-ok : goal.returns-clause-ok
returns-clause-ok c = λ placed turn connected.
    let tested = c.args.tested in
    on_ok c.watch_all.result _ (Grows (is_on_session tested) tested (reverse c.args.seen.now) c.args.faults.now c.watch_all.new.faults)
    (λ f. f tested (is_on_session tested) (record { taken = λ e past. tt; added = sessions-whole tested }) (c.new-watcher.ensures c.new.ensures) placed turn connected)
    c.watch_all.ensures.ok

pub returns-clause-memory : goal.returns-clause-memory
returns-clause-memory c = λ placed turn connected.
    let tested = c.args.tested in
    on_error c.watch_all.result _ (GrowsWithin (is_on_session tested) tested (reverse c.args.seen.now) c.args.faults.now c.watch_all.new.faults)
    (λ f. f tested (is_on_session tested) (record { taken = λ e past. tt; added = sessions-whole tested }) (c.new-watcher.ensures c.new.ensures) placed turn connected)
    c.watch_all.ensures.memory
