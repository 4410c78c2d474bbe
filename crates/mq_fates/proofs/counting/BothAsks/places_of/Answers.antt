use Rattle.std.proofs.Common.{◌∙◌}
use Rattle.mq_rules.specs.Occasions.{places_under}
use Rattle.mq_fates.proofs.CountingLaws.{either-picked}
use Rattle.mq_fates.proofs.counting.BothAsks.places_of.Goals as goal

pub returns : goal.returns
returns g c = λ tested taken past was judged.
    let rule = c.args.rule in
    c.pick.ensures
    ∙ either-picked (g.A.Asks.counted rule) (g.B.Asks.counted rule) c.tests.result c.places_of.result c.places_of-2.result (places_under tested taken past rule) c.tests.ensures
    (c.places_of.ensures tested taken past was.0) (c.places_of-2.ensures tested taken past was.1) judged
