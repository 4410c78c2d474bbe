use Rattle.std.proofs.Common.{ap, arith, ◌∙◌}
use Rattle.mq_packet.specs.Reading.{view}
use Rattle.mq_packet.specs.Tries.{tries}
use Rattle.mq_log.specs.Events.{packet}
use Rattle.mq_log.specs.Flows.{item_event}
use Rattle.mq_rules.specs.Trials.{item_sent, tried_by}
use Rattle.mq_rules.specs.Words.{is_some_and}
use Rattle.mq_connections.proofs.ByteTallyLaws.{counts-next, counts-stay}
use Rattle.mq_connections.proofs.byte_tally.ByteTally.count_packet.Goals as goal

pub returns-in-Sent : goal.returns-in-Sent
returns-in-Sent c = λ tested p events is.
    counts-next _ _ (λ rule. tries rule c.args.size (view c.args.packet.now)) _ tested p events (omega (arith, c.ranges.position.fits))
    (λ rule. ap (λ e. is_some_and (tried_by rule) (item_sent e)) (is ∙ ap (λ d. item_event d (packet c.args.size (view c.args.packet.now))) c.in-Sent.is))
    c.count_sized.ensures

pub returns-in-Recv : goal.returns-in-Recv
returns-in-Recv c = λ tested p events is at.
    counts-stay _ tested p events (ap item_sent (is ∙ ap (λ d. item_event d (packet c.args.size (view c.args.packet.now))) c.in-Recv.is))
