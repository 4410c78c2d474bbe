use Rattle.std.proofs.Common.{sym, ap, ◌∙◌}
use Rattle.std.specs.Option.{option_copied}
use Rattle.mq_subscriptions.specs.Standings.{allows_topic}
use Rattle.mq_subscriptions.proofs.FilterLaws.{remembered}
use Rattle.mq_subscriptions.proofs.filters.Filters.ceiling_for.Goals as goal

pub returns-in-Some-clause-greatest : goal.returns-in-Some-clause-greatest
returns-in-Some-clause-greatest c = λ qos.
    let topic = c.args.topic.now in
    let inside = c.self.inside in
    remembered inside.settled inside.waiting topic c.in-Some.ceiling.now inside.found.entries (sym c.get.ensures.value ∙ ap option_copied c.in-Some.is) c.self.invariant.0 qos
    ∙ ap (λ f. allows_topic f.settled f.waiting topic qos) c.self.view_is
