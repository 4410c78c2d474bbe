-- The send quota by a counter (MQTT 5.0, section 4.9).
use Rattle.std.specs.Prelude.{ℕ, ◌+◌, ◌-◌, ◌==◌, nat_lt, Bool, true, ◌&&◌, not, cond, List, [], ◌∷◌}
use Rattle.mq_rules.specs.declared.role.Role.{Role}
use Rattle.mq_rules.specs.Moments.{Moment, those}
use Rattle.mq_rules.specs.Connections.{connection}
use Rattle.mq_rules.specs.Identifiers.{is_delivery, is_closer, counts}

-- How many PUBLISHes of QoS above 0 are in flight after these moments: each one that is sent adds one, and each closer that is received subtracts one, but the
-- number never falls below 0.
abbrev pub in_flight : List Moment → ℕ
in_flight [] = 0
in_flight (m ∷ ms) = cond (is_delivery m) (in_flight ms + 1) (cond (is_closer m) (in_flight ms - 1) (in_flight ms))

-- how many are in flight just before k, by the moments of its connection that may be counted
abbrev pub in_flight_before : Role → Moment → ℕ
in_flight_before role k = in_flight (those (counts role) (connection k.past))

-- The send quota after these moments: it starts at the Receive Maximum, each PUBLISH of QoS above 0 that is sent subtracts one, and each closer that is received
-- adds one, but never past the Receive Maximum.
abbrev pub quota : ℕ → List Moment → ℕ
quota most [] = most
quota most (m ∷ ms) = cond (is_delivery m) (quota most ms - 1) (cond (is_closer m) (cond (nat_lt (quota most ms) most) (quota most ms + 1) most) (quota most ms))

-- none of these moments sends a PUBLISH of QoS above 0 while the quota is 0
abbrev pub keeps_quota : ℕ → List Moment → Bool
keeps_quota most [] = true
keeps_quota most (m ∷ ms) = not (is_delivery m && (quota most ms == 0)) && keeps_quota most ms
