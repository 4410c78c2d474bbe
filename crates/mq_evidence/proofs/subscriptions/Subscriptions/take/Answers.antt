use Rattle.mq_rules.specs.Moments.{newest}
use Rattle.mq_evidence.proofs.subscriptions.Subscriptions.take.Goals as goal

pub returns : goal.returns
returns c = λ e past s comes there kept.
    record {
      subscribed_are = c.in_ok-take.ensures e past s.session comes there kept.subscribed_are;
      topics_are = c.in_ok-take-2.ensures (newest e past) s comes kept.topics_are;
      ceilings_are = c.in_ok-take-3.ensures e past s.session comes there kept.ceilings_are;
    }
