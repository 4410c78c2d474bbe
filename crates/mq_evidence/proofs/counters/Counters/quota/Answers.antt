use Rattle.std.proofs.Common.{ap, ◌∙◌, ◌+◌, List}
use Rattle.mq_rules.specs.Moments.{Moment}
use Rattle.mq_rules.specs.Counter.{in_flight_before}
use Rattle.mq_evidence.specs.Handshakes.{quota_evidence}
use Rattle.mq_evidence.proofs.CounterLaws.{flying-below}
use Rattle.mq_evidence.proofs.counters.Counters.quota.Goals as goal

pub returns : goal.returns
returns c = λ role k s at is_so greets on.
    c.quota.ensures role s greets
    ∙ ap (λ n. quota_evidence role n s.connection) (c.more-in_flight.ensures (flying-below role k c.args.at c.args.self.now.in_flight at is_so.flying) ∙ ap (λ n. n + 1) is_so.flying)
    ∙ ap (λ (ms : List Moment). quota_evidence role (in_flight_before role k + 1) ms) on
