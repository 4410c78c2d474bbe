-- The Keep Alive of the latest connection, and how long its client may be silent there (further statements).
use Rattle.std.specs.Prelude.{ℕ, ◌==◌, Bool, ◌&&◌, not, List, unwrap_or}
use Rattle.mq_rules.specs.declared.role.Role.{Role}
use Rattle.mq_rules.specs.declared.role.Role.TheVariants.{Client, Server}
use Rattle.mq_rules.specs.declared.note.Seen.{Seen}
use Rattle.mq_rules.specs.Moments.{Moment, note, some, first_given}
use Rattle.mq_rules.specs.Connections.{connection, is_connected}
use Rattle.mq_rules.specs.KeepAlive.{client_limit, server_limit, ends_listening, is_heard, is_longer, keep_alive_by}

-- the Keep Alive after these events, in seconds; 0 before the CONNACK
abbrev pub keep_alive_after : Role → List Seen → ℕ
keep_alive_after role past = unwrap_or (first_given (keep_alive_by role) (connection past)) 0

-- the Keep Alive after these events isn't 0, and nothing ended listening on the latest connection
abbrev pub counts_after : Role → List Seen → Bool
counts_after role past = not (keep_alive_after role past == 0) && not (some (λ j. ends_listening role (note j)) (connection past))

-- the client is listened to after these events
abbrev pub listens_after : Role → List Seen → Bool
listens_after role past = is_connected past && counts_after role past

-- for how long a client may be silent, where it is tested; for how long a server may leave it at that, where it is; in microseconds, of a Keep Alive in seconds
abbrev pub limit_of : Role → ℕ → ℕ
limit_of Client seconds = client_limit seconds
limit_of Server seconds = server_limit seconds

-- the silence is longer than it may be, and stays so: the client isn't heard with the event
abbrev pub stays_longer : Role → Moment → Bool
stays_longer role m = is_longer (limit_of role) role m && not (is_heard role m)
