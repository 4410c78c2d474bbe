use Rattle.std.proofs.Common.{ap, ◌∙◌}
use Rattle.std.specs.Prelude.{option_map}
use Rattle.mq_rules.specs.Moments.{position, latest, count}
use Rattle.mq_rules.specs.Connections.{connection}
use Rattle.mq_rules.specs.declared.evidence.Numbers.TheVariants.{Two}
use Rattle.mq_evidence.specs.Counters.{asks_ping, answers_ping}
use Rattle.mq_evidence.proofs.HandshakeLaws.{same-parts}
use Rattle.mq_evidence.proofs.counters.Counters.pings.Goals as goal

pub returns : goal.returns
returns c = λ role past is.
    let old = c.args.self.now in
    let ms = connection past in
    same-parts old.pingreq_at (option_map position (latest asks_ping ms)) (Two old.pingreqs old.pingresps) (Two (count asks_ping ms) (count answers_ping ms)) c.it_with.result c.it_with.ensures
    is.asked_at (ap (λ n. Two n old.pingresps) is.asked ∙ ap (Two (count asks_ping ms)) is.answered)
