-- The filters that stand whatever comes, for B02: the greatest QoS of what may be sent for each, and the last SUBSCRIBE that asked for it (MQTT 5.0, sections 3.8.4 and 3.9).
use Rattle.std.specs.Prelude.{ℕ, nat_le, Bool, ◌&&◌, List}
use Rattle.std.specs.List.{list_any}
use Rattle.mq_rules.specs.Subscriptions.{Standing}
use Rattle.mq_filters.specs.Standings.{allows}
use Rattle.mq_evidence.specs.Unsettled.{Unsettled}
use Rattle.mq_evidence.specs.declared.settled.Settled.{Settled}

-- What is asked of a filter that stands: whether it passes a test and something may be sent for it at this QoS; whether it passes a test and is that of a SUBSCRIBE at this
-- position or a later one.
pub data Question : Type 0 where
  allowing : (List ℕ → Bool) → ℕ → Question
  not_before : (List ℕ → Bool) → ℕ → Question

-- so it is with a filter of the SUBSCRIBE at this position; with one that a SUBSCRIBE asks for which waits
abbrev pub passes : Question → ℕ → Standing → Bool
passes (allowing among qos) position s = allows among qos s
passes (not_before among first) position s = among s.filter && nat_le first position

abbrev pub any_passes : Question → Unsettled → Bool
any_passes q r = list_any (passes q r.position) r.filters

-- So it is with one of those that are kept. Of the last SUBSCRIBEs each is a filter with a position, of which the greatest counts, as of a ceiling.
abbrev pub holds : Question → Settled → Bool
holds (allowing among qos) x = list_any (allows among qos) x.ceilings
holds (not_before among first) x = list_any (allows among first) x.last
