-- The Topic Filters that stand in the session, what they allow, and the topics of what is sent: for B01 and B02 (MQTT 5.0, sections 3.8 and 3.9).
use Rattle.std.specs.Prelude.{List}
use Rattle.mq_rules.specs.declared.note.Seen.{Seen}
use Rattle.mq_evidence.specs.declared.subscriptions.Subscriptions.{Subscriptions}
use Rattle.mq_evidence.specs.Stretches.{Stretches}
use Rattle.mq_evidence.specs.Subscribed.{IsSubscribed}
use Rattle.mq_evidence.specs.Topics.{IsTopics}
use Rattle.mq_evidence.specs.Ceilings.{IsCeilings}

-- After these events, whose stretches are these, this is kept.
pub record IsSubscriptions (x : Subscriptions) (past : List Seen) (s : Stretches) : Type 0 where
  pub subscribed_are : IsSubscribed x.subscribed past s.session
  pub topics_are : IsTopics x.topics s
  pub ceilings_are : IsCeilings x.ceilings past s.session
