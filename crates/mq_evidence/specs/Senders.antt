-- What is kept of what the tested end sends under a Packet Identifier, for S01 to S04.
use Rattle.std.specs.Prelude.{List}
use Rattle.mq_rules.specs.ByIdentifier.{is_kept, kept}
use Rattle.mq_rules.specs.Notes.{opener_of, closer_of, delivery_of, sent_as, received_as, pubrel_in, subscribe_in, suback_in, unsubscribe_in, unsuback_in}
use Rattle.mq_rules.specs.Moments.{Moment}
use Rattle.mq_evidence.specs.declared.senders.Senders.{Senders}
use Rattle.mq_evidence.specs.declared.senders.SentInSession.{SentInSession}
use Rattle.mq_evidence.specs.declared.senders.SentOnConnection.{SentOnConnection}
use Rattle.mq_evidence.specs.Stretches.{Stretches, IsLatest, IsUnended, IsEarlier}

-- The moments of a session, and those of a connection, lead to what is kept of them.
pub record IsSentInSession (s : SentInSession) (ms : List Moment) : Type 0 where
  pub openers_are : IsLatest (kept s.openers) opener_of ms
  pub held_are : IsUnended (kept s.held) opener_of closer_of ms
  pub closers_are : IsLatest (kept s.closers) closer_of ms
  pub pubrels_are : IsLatest (kept s.pubrels) (sent_as pubrel_in) ms

pub record IsSentOnConnection (s : SentOnConnection) (ms : List Moment) : Type 0 where
  pub deliveries_are : IsLatest (kept s.deliveries) delivery_of ms
  pub subscribes_are : IsUnended (kept s.subscribes) (sent_as subscribe_in) (received_as suback_in) ms
  pub unsubscribes_are : IsUnended (kept s.unsubscribes) (sent_as unsubscribe_in) (received_as unsuback_in) ms

-- These stretches lead to what is kept.
pub record IsSenders (s : Senders) (seen : Stretches) : Type 0 where
  pub in_session : IsSentInSession s.in_session seen.session
  pub on_connection : IsSentOnConnection s.on_connection seen.connection
  pub earlier_are : IsEarlier (is_kept s.earlier) opener_of seen.earlier
