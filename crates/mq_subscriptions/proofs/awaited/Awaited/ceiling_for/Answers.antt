use Rattle.std.proofs.Common.{◌&&◌, nat_le, sym, ap, ◌∙◌}
use Rattle.std.specs.List.{list_any}
use Rattle.mq_topic.specs.Matching.{matches}
use Rattle.mq_subscriptions.proofs.AwaitedLaws.{values-any}
use Rattle.mq_subscriptions.proofs.awaited.Awaited.ceiling_for.Goals as goal

pub returns : goal.returns
returns c = λ qos.
    c.ceiling_of_values.ensures qos
    ∙ sym (values-any (λ filters. list_any (λ s. matches s.filter c.args.topic.now && nat_le qos s.ceiling) filters) c.self.inside.requests.entries)
    ∙ ap (list_any (λ w. list_any (λ s. matches s.filter c.args.topic.now && nat_le qos s.ceiling) w.filters)) c.self.view_is
