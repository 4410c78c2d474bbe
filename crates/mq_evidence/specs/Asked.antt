-- What is kept of what the tested end was asked for, and of its answers, for E1A to E6A.
use Rattle.std.specs.Prelude.{◌≡◌}
use Rattle.mq_rules.specs.ByIdentifier.{is_kept, kept}
use Rattle.mq_rules.specs.Notes.{received_as}
use Rattle.mq_rules.specs.Exchanges.{Exchange, pubrec_pubrel}
use Rattle.mq_evidence.specs.declared.asked.Asked.{Asked}
use Rattle.mq_evidence.specs.declared.asked.Confirmed.{Confirmed}
use Rattle.mq_evidence.specs.Evidence.{refusing_pubrec_in}
use Rattle.mq_evidence.specs.Stretches.{Stretches, IsLatest, IsEarlier}
use Rattle.mq_evidence.specs.Exchange.{exchange_of}

-- It is about this exchange, and these stretches lead to what is kept.
pub record IsAsked (x : Exchange) (a : Asked) (seen : Stretches) : Type 0 where
  pub about : exchange_of a.exchange ≡ x
  pub causes_are : IsLatest (kept a.causes) x.cause seen.session
  pub answers_are : IsLatest (kept a.answers) x.answer seen.connection
  pub earlier_are : IsEarlier (is_kept a.earlier) x.cause seen.earlier

-- the same of PUBRELs
pub record IsConfirmed (c : Confirmed) (seen : Stretches) : Type 0 where
  pub asked_is : IsAsked pubrec_pubrel c.asked seen
  pub refusals_are : IsLatest (kept c.refusals) (received_as refusing_pubrec_in) seen.session
