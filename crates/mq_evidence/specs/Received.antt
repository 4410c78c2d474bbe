-- What is kept of QoS 2 messages that were received and released, for L1 to L3.
use Rattle.std.specs.Prelude.{List}
use Rattle.mq_rules.specs.ByIdentifier.{is_kept, kept}
use Rattle.mq_rules.specs.Notes.{received_exactly_once, released_id, sent_as, ended_in}
use Rattle.mq_rules.specs.Moments.{Moment}
use Rattle.mq_evidence.specs.declared.received.Received.{Received}
use Rattle.mq_evidence.specs.declared.received.ReceivedInSession.{ReceivedInSession}
use Rattle.mq_evidence.specs.Stretches.{Stretches, IsLatest, IsEarliest, IsEarlier}

-- The moments of a session lead to what is kept of them.
pub record IsReceivedInSession (r : ReceivedInSession) (ms : List Moment) : Type 0 where
  pub brought_are : IsLatest (kept r.brought) received_exactly_once ms
  pub firsts_are : IsEarliest (kept r.firsts) received_exactly_once (sent_as ended_in) ms
  pub enders_are : IsLatest (kept r.enders) (sent_as ended_in) ms
  pub releases_are : IsLatest (kept r.releases) released_id ms

-- These stretches lead to what is kept.
pub record IsReceived (r : Received) (seen : Stretches) : Type 0 where
  pub in_session : IsReceivedInSession r.in_session seen.session
  pub earlier_are : IsEarlier (is_kept r.earlier) received_exactly_once seen.earlier
