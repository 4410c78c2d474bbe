use Rattle.std.proofs.Common.{◌||◌, sym, ap, ◌∙◌}
use Rattle.std.specs.List.{list_any}
use Rattle.mq_filters.specs.Standings.{allows}
use Rattle.mq_subscriptions.proofs.AwaitedLaws.{values-any}
use Rattle.mq_subscriptions.proofs.awaited.Awaited.settle_all.Goals as goal

pub returns : goal.returns
returns c = λ among qos.
    c.in_ok-settle_values.ensures among qos
    ∙ ap (λ b. list_any (allows among qos) c.args.settled.now || b)
    (sym (values-any (λ filters. list_any (allows among qos) filters) c.self.inside.requests.entries)
    ∙ ap (list_any (λ w. list_any (allows among qos) w.filters)) c.self.view_is)
