use Rattle.std.proofs.Common.{reverse, ap, sym, ◌∙◌}
use Rattle.mq_rules.specs.Connections.{latest_fate}
use Rattle.mq_rules.specs.Occasions.{places}
use Rattle.mq_rules.proofs.Exports.{places-known}
use Rattle.mq_fates.specs.Holding.{settled}
use Rattle.mq_fates.proofs.EarlyPlacesLaws.{held-places}
use Rattle.mq_fates.proofs.early.Early+Counting+W.places.Goals as goal

pub returns : goal.returns
returns g c = λ tested taken past holds judged.
    let base = settled tested.role past in
    let rule = c.args.rule in
    c.places.ensures tested (latest_fate tested.role base) base holds.so_far judged
    ∙ places-known tested base rule
    ∙ sym (held-places tested rule (reverse c.args.self.now.held.items) base (g.met.W.Asks.on_sessions tested.role rule judged) holds.are_held)
    ∙ ap (λ log. places tested log rule) (sym holds.joined)
