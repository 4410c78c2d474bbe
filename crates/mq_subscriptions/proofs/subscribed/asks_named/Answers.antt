use Rattle.std.proofs.Common.{◌&&◌, ap, sym, ◌∙◌}
use Rattle.std.specs.List.{list_any}
use Rattle.mq_subscriptions.proofs.MatchingLaws.{asked_named, is_about_filter}
use Rattle.mq_subscriptions.proofs.subscribed.asks_named.Goals as goal

pub returns-then-is_this : goal.returns-then-is_this
returns-then-is_this c =
    let is = list_any (is_about_filter c.args.topic.now) c.args.filters.now in
    c.any_about.ensures ∙ sym (asked_named c.args.identifier c.args.topic.now c.args.own c.args.filters.now ∙ ap (λ b. b && is) (sym c.is_this.ensures ∙ c.if-is_this.true))

pub returns-else-is_this : goal.returns-else-is_this
returns-else-is_this c =
    let is = list_any (is_about_filter c.args.topic.now) c.args.filters.now in
    c.if-is_this.false ∙ sym (asked_named c.args.identifier c.args.topic.now c.args.own c.args.filters.now ∙ ap (λ b. b && is) (sym c.is_this.ensures ∙ c.if-is_this.false))
