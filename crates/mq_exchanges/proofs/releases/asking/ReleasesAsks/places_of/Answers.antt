use Rattle.std.proofs.Common.{cond, ap, ◌∙◌}
use Rattle.mq_exchanges.proofs.ReleasePlacesLaws.{release-picked}
use Rattle.mq_exchanges.proofs.releases.asking.ReleasesAsks.places_of.Goals as goal

pub returns : goal.returns
returns c = λ tested taken past is judged. c.pick.ensures ∙ ap (λ b. cond b c.args.places.now.completed c.args.places.now.released) c.eq.ensures ∙ release-picked tested taken past c.args.places.now.released c.args.places.now.completed c.args.rule is.0 is.1 is.2 judged
