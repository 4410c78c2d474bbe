-- Topic Filters with what may be sent for them (MQTT 5.0, sections 3.8.4 and 4.7).
use Rattle.std.specs.Prelude.{ℕ, List}

-- A filter, with the greatest QoS at which a server may send for it.
pub record Standing : Type 0 where
  pub filter : List ℕ
  pub ceiling : ℕ
