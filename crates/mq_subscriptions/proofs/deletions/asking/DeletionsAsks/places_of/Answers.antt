use Rattle.std.proofs.Common.{cond, ap, ◌∙◌}
use Rattle.mq_subscriptions.proofs.DeletingLaws.{deletion-picked}
use Rattle.mq_subscriptions.proofs.deletions.asking.DeletionsAsks.places_of.Goals as goal

pub returns : goal.returns
returns c = λ tested taken past is judged. c.pick.ensures ∙ ap (λ b. cond b c.args.places.now.stood c.args.places.now.told) c.eq.ensures ∙ deletion-picked tested taken past c.args.places.now.stood c.args.places.now.told c.args.rule is.0 is.1 judged
