-- SUBSCRIBEs that wait for their SUBACK (MQTT 5.0, section 3.8.4).
use Rattle.std.specs.Prelude.{ℕ, List}
use Rattle.mq_rules.specs.Subscriptions.{Standing}

-- where one is, and the filters that it asks for, each with its QoS
pub record Unsettled : Type 0 where
  pub position : ℕ
  pub filters : List Standing
