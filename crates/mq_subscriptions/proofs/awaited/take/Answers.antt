use Rattle.std.proofs.Common.{◌||◌, ◌+◌, ap, sym, ◌∙◌}
use Rattle.std.specs.List.{list_any, sum_by}
use Rattle.mq_subscriptions.specs.Standings.{taken, waits_of}
use Rattle.mq_subscriptions.proofs.AwaitedLaws.{taken-any, taken-sum, none-left}
use Rattle.mq_subscriptions.proofs.awaited.take.Goals as goal

pub returns-clause-any : goal.returns-clause-any
returns-clause-any c = λ t.
    taken-any t c.args.identifier c.args.requests.now.entries c.swap_remove.result c.swap_remove.ensures.value
    ∙ ap (λ es. list_any t (taken c.args.identifier c.swap_remove.result) || list_any t (waits_of es)) (sym c.swap_remove.ensures.entries)

pub returns-clause-sums : goal.returns-clause-sums
returns-clause-sums c = λ weigh.
    taken-sum weigh c.args.identifier c.args.requests.now.entries c.swap_remove.result c.swap_remove.ensures.value
    ∙ ap (λ es. sum_by weigh (taken c.args.identifier c.swap_remove.result) + sum_by weigh (waits_of es)) (sym c.swap_remove.ensures.entries)

pub returns-clause-apart : goal.returns-clause-apart
returns-clause-apart c = none-left c.args.identifier c.swap_remove.new.self.entries c.swap_remove.ensures.updates.1
