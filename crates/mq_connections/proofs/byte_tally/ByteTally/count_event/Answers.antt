use Rattle.std.proofs.Common.{ap, arith, ◌∙◌}
use Rattle.mq_log.specs.Reception.{event_of, item_of}
use Rattle.mq_rules.specs.Trials.{item_sent, tried_by}
use Rattle.mq_rules.specs.Words.{is_some_and}
use Rattle.mq_connections.proofs.ByteTallyLaws.{counts-next, counts-stay}
use Rattle.mq_connections.proofs.byte_tally.ByteTally.count_event.Goals as goal

pub returns-in-Sent : goal.returns-in-Sent
returns-in-Sent c = λ tested p events is.
    counts-next _ _ (λ rule. tried_by rule (item_of c.in-Sent.item)) _ tested p events (omega (arith, c.ranges.position.fits))
    (λ rule. ap (λ e. is_some_and (tried_by rule) (item_sent e)) (is ∙ ap event_of c.in-Sent.is))
    c.count_sent.ensures

pub returns-in-Open : goal.returns-in-Open
returns-in-Open c = λ tested p events is at. counts-stay _ tested p events (ap item_sent (is ∙ ap event_of c.in-Open.is))

pub returns-in-Close : goal.returns-in-Close
returns-in-Close c = λ tested p events is at. counts-stay _ tested p events (ap item_sent (is ∙ ap event_of c.in-Close.is))

pub returns-in-Rest : goal.returns-in-Rest
returns-in-Rest c = λ tested p events is at. counts-stay _ tested p events (ap item_sent (is ∙ ap event_of c.in-Rest.is))

pub returns-in-Release : goal.returns-in-Release
returns-in-Release c = λ tested p events is at. counts-stay _ tested p events (ap item_sent (is ∙ ap event_of c.in-Release.is))

pub returns-in-Recv : goal.returns-in-Recv
returns-in-Recv c = λ tested p events is at. counts-stay _ tested p events (ap item_sent (is ∙ ap event_of c.in-Recv.is))
