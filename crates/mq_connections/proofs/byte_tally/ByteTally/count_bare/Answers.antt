use Rattle.std.proofs.Common.{ap, arith, sym, ◌∙◌}
use Rattle.mq_packet.specs.Tries.{tries}
use Rattle.mq_log.specs.Events.{packet}
use Rattle.mq_log.specs.Flows.{item_event}
use Rattle.mq_rules.specs.Trials.{item_sent, tried_by}
use Rattle.mq_rules.specs.Parts.{parts_try}
use Rattle.mq_rules.specs.Words.{is_some_and}
use Rattle.mq_connections.proofs.ByteTallyLaws.{counts-next, counts-stay}
use Rattle.mq_connections.proofs.byte_tally.ByteTally.count_bare.Goals as goal

pub returns-in-Sent : goal.returns-in-Sent
returns-in-Sent c = λ tested p entry events is tried.
    counts-next _ _ (λ rule. parts_try c.of_bare.result rule) _ tested p events (omega (arith, c.ranges.position.fits))
    (λ rule.
    ap (λ e. is_some_and (tried_by rule) (item_sent e)) (is ∙ ap (λ d. item_event d (packet c.args.bare.size entry)) c.in-Sent.is)
    ∙ sym (ap (λ parts. parts_try parts rule) c.of_bare.ensures ∙ tried rule))
    c.count_parts.ensures

pub returns-in-Recv : goal.returns-in-Recv
returns-in-Recv c = λ tested p entry events is tried at.
    counts-stay _ tested p events (ap item_sent (is ∙ ap (λ d. item_event d (packet c.args.bare.size entry)) c.in-Recv.is))
