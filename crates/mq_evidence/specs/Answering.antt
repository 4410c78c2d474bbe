-- What is kept of all exchanges, for E1A to E6A, E1O to E3O, and B03 to B07.
use Rattle.mq_rules.specs.Exchanges.{publish_puback, publish_pubrec, pubrel_pubcomp, subscribe_suback, unsubscribe_unsuback}
use Rattle.mq_evidence.specs.declared.answering.Answering.{Answering}
use Rattle.mq_evidence.specs.Stretches.{Stretches}
use Rattle.mq_evidence.specs.Asked.{IsAsked, IsConfirmed}
use Rattle.mq_evidence.specs.Unanswered.{IsUnanswered}
use Rattle.mq_evidence.specs.Requests.{IsRequests}
use Rattle.mq_rules.specs.Exchanges.{pubrec_pubrel}
use Rattle.mq_evidence.specs.declared.answering.Waiting.{Waiting}

-- These stretches lead to what is kept of what was asked for, and of what waits for its answer.
pub record IsAnswering (a : Answering) (s : Stretches) : Type 0 where
  pub pubacks_are : IsAsked publish_puback a.pubacks s
  pub pubrecs_are : IsAsked publish_pubrec a.pubrecs s
  pub pubrels_are : IsConfirmed a.pubrels s
  pub pubcomps_are : IsAsked pubrel_pubcomp a.pubcomps s
  pub subacks_are : IsAsked subscribe_suback a.subacks s
  pub unsubacks_are : IsAsked unsubscribe_unsuback a.unsubacks s

pub record IsWaiting (w : Waiting) (s : Stretches) : Type 0 where
  pub pubacks_are : IsUnanswered publish_puback w.pubacks s
  pub pubrecs_are : IsUnanswered publish_pubrec w.pubrecs s
  pub pubrels_are : IsUnanswered pubrec_pubrel w.pubrels s
  pub requests_are : IsRequests w.requests s
