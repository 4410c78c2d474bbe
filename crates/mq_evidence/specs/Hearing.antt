-- What is kept of when the client was last heard on a connection, and of its Keep Alive.
use Rattle.std.specs.Prelude.{ℕ, ◌≡◌, List, Option, option_map}
use Rattle.mq_rules.specs.declared.role.Role.{Role}
use Rattle.mq_rules.specs.declared.note.Seen.{Seen}
use Rattle.mq_rules.specs.Moments.{Moment, position, latest, first_given}
use Rattle.mq_rules.specs.Connections.{connection, first_connect}
use Rattle.mq_rules.specs.KeepAlive.{is_heard, keep_alive, keep_alive_by, silence, time}
use Rattle.mq_rules.specs.declared.evidence.Evidence.{Evidence}
use Rattle.mq_rules.specs.declared.evidence.Numbers.TheVariants.{Two}
use Rattle.mq_evidence.specs.declared.hearing.Heard.{Heard}
use Rattle.mq_evidence.specs.declared.hearing.Hearing.{Hearing}
use Rattle.mq_evidence.specs.Evidence.{it_with}

-- where a moment was, and when
abbrev pub heard_at : Moment → Heard
heard_at m = record { position = position m; moment = time m }

-- the Keep Alive that the client asks for on its connection
abbrev pub asked_seconds : Role → List Moment → Option ℕ
asked_seconds role ms = option_map (λ c. c.keep_alive) (first_connect role ms)

-- K01 and K02: where the client was last heard, for how long it wasn't, and for how long it may not be
abbrev pub silence_evidence : (ℕ → ℕ) → Role → Moment → Evidence
silence_evidence limit role k = it_with (latest (is_heard role) (connection k.past)) (Two (silence role k) (limit (keep_alive role k)))

-- These events lead to what is kept, where the tested end has this role.
pub record IsHearing (h : Hearing) (role : Role) (past : List Seen) : Type 0 where
  pub same_role : h.role ≡ role
  pub asked_is : h.asked ≡ asked_seconds role (connection past)
  pub given_is : h.given ≡ first_given (keep_alive_by role) (connection past)
  pub heard_is : h.heard ≡ option_map heard_at (latest (is_heard role) (connection past))
