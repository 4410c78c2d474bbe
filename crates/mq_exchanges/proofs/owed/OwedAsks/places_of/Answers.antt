use Rattle.std.proofs.Common.{ap, ◌∙◌}
use Rattle.mq_rules.specs.Rules.{same_rule}
use Rattle.mq_exchanges.proofs.SettlingLaws.{owed-picked}
use Rattle.mq_exchanges.proofs.owed.OwedAsks.places_of.Goals as goal

pub returns : goal.returns
returns g c = λ tested taken past was judged.
    let n = c.args.places.now in
    c.pick.ensures
    ∙ owed-picked tested taken past g.X.Exchange.exchange g.X.Exchange.settled g.X.Exchange.ordered n.pending n.settled n.ordered c.args.rule c.eq.result was.0 was.1 (g.met.X.Exchange.tries_settled tested.role)
    (c.eq.ensures ∙ ap (same_rule c.args.rule) c.settled_rule.ensures) judged
