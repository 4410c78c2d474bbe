use Rattle.std.specs.Prelude.{reverse}
use Rattle.mq_rules.specs.Faults.{GrowsWithin}
use Rattle.mq_rules.proofs.Exports.{on_err}
use Rattle.mq_plain.specs.Chosen.{is_plain_connection, is_plain_subscription, is_plain_further}
use Rattle.mq_plain.proofs.FurtherLaws.{grows-then, within-first, within-second}
use Rattle.mq_plain.proofs.further.plain_further.Goals as goal

pub returns-in_err-judge_connections-clause-memory : goal.returns-in_err-judge_connections-clause-memory
returns-in_err-judge_connections-clause-memory c = λ placed.
    let log = reverse c.args.seen.now in
    on_err c.from_residual.result (GrowsWithin is_plain_further c.args.tested log c.args.faults.now c.judge_connections.new.faults)
    (within-first is_plain_connection is_plain_subscription c.args.tested log c.args.faults.now c.judge_connections.new.faults (c.in_err-judge_connections.ensures.memory placed))

pub returns-in_err-judge_subscriptions-clause-memory : goal.returns-in_err-judge_subscriptions-clause-memory
returns-in_err-judge_subscriptions-clause-memory c = λ placed.
    let log = reverse c.args.seen.now in
    on_err c.from_residual-in_err-judge_subscriptions.result (GrowsWithin is_plain_further c.args.tested log c.args.faults.now c.judge_subscriptions.new.faults)
    (within-second is_plain_connection is_plain_subscription c.args.tested log c.args.faults.now c.judge_connections.new.faults c.judge_subscriptions.new.faults
    (c.in_ok-judge_connections.ensures.ok placed) (c.in_err-judge_subscriptions.ensures.memory placed))

pub returns-clause-ok : goal.returns-clause-ok
returns-clause-ok c = λ placed.
    grows-then is_plain_connection is_plain_subscription c.args.tested (reverse c.args.seen.now) c.args.faults.now c.judge_connections.new.faults c.judge_subscriptions.new.faults
    (c.in_ok-judge_connections.ensures.ok placed) (c.in_ok-judge_subscriptions.ensures.ok placed)
