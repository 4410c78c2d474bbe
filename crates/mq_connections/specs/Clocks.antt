-- What is kept of the latest connection, so that the further statements on times (K01 and K02) are judged in one pass: its Keep Alive, when the client was last heard, and whether its
-- silence was too long at an event since then. Whether each is false at the next event, and whether that puts it to the test.
use Rattle.std.specs.Prelude.{ℕ, ◌≡◌, ◌-◌, ◌==◌, nat_lt, Bool, true, false, ◌&&◌, ◌||◌, not, cond, List, [], ◌∷◌, Option, Some, None, is_some, is_none, option_map, unwrap_or}
use Rattle.std.specs.Option.{option_or}
use Rattle.mq_rules.specs.declared.role.Role.{Role}
use Rattle.mq_rules.specs.declared.role.Role.TheVariants.{Client, Server}
use Rattle.mq_rules.specs.declared.role.Tested.{Tested}
use Rattle.mq_rules.specs.declared.fate.Fate.{Fate}
use Rattle.mq_rules.specs.declared.rule.Rule.{Rule}
use Rattle.mq_rules.specs.declared.rule.Rule.TheVariants.{K01, K02}
use Rattle.mq_rules.specs.declared.note.Note.{Note}
use Rattle.mq_rules.specs.declared.note.Seen.{Seen}
use Rattle.mq_rules.specs.declared.packet_note.ConnackNote.{ConnackNote}
use Rattle.mq_connections.specs.declared.clocks.Clock.{Clock}
use Rattle.mq_connections.specs.declared.clocks.Clocks.{Clocks}
use Rattle.mq_connections.specs.declared.clocks.ClocksPlaces.{ClocksPlaces}
use Rattle.mq_rules.specs.Notes.{connack_of, connect_of, is_close, is_open}
use Rattle.mq_rules.specs.Moments.{Moment, note, some, since, latest, first_given}
use Rattle.mq_rules.specs.Connections.{connection, first_connect, is_connected}
use Rattle.mq_rules.specs.KeepAlive.{client_item, client_limit, cuts_packet, ends_listening, half, is_heard, is_longer, keep_alive_by, one_and_a_half, server_limit, takes_time, time}
use Rattle.mq_rules.specs.Occasions.{places}

-- ---- what is kept

-- for how long a silence may go on, for a Keep Alive in seconds: that of a client, and that which a server may leave at that
abbrev pub limit : Role → ℕ → ℕ
limit Client seconds = client_limit seconds
limit Server seconds = server_limit seconds

-- beyond this one the statement that binds the end is put to the test
abbrev pub test_limit : Role → ℕ → ℕ
test_limit Client seconds = half seconds
test_limit Server seconds = one_and_a_half seconds

-- the event comes in a silence that is too long
abbrev pub goes_beyond : Role → Moment → Bool
goes_beyond role m = is_longer (limit role) role m && not (is_heard role m)

-- what the events on the latest connection say of its Keep Alive, and of the client's silence
unfoldable pub clock : Role → List Seen → Clock
clock role past = record {
  is_open = is_connected past;
  asked = option_map (λ connect. connect.keep_alive) (first_connect role (connection past));
  keep_alive = first_given (keep_alive_by role) (connection past);
  heard = option_map time (latest (is_heard role) (connection past));
  was_long = since (goes_beyond role) (is_heard role) (connection past);
  has_ended = some (λ j. ends_listening role (note j)) (connection past);
}

-- before any connection
abbrev pub nothing_heard : Clock
nothing_heard = record { is_open = false; asked = None; keep_alive = None; heard = None; was_long = false; has_ended = false }

-- the Keep Alive, in seconds
abbrev pub kept_seconds : Clock → ℕ
kept_seconds c = unwrap_or c.keep_alive 0

-- the silence at this time, in microseconds
abbrev pub silence_at : Clock → ℕ → ℕ
silence_at c now = unwrap_or (option_map (λ heard. now - heard) c.heard) 0

-- it is longer than it may be; and so long that the statement is put to the test
abbrev pub is_too_long : Role → Clock → ℕ → Bool
is_too_long role c now = nat_lt (limit role (kept_seconds c)) (silence_at c now)

abbrev pub is_long : Role → Clock → ℕ → Bool
is_long role c now = nat_lt (test_limit role (kept_seconds c)) (silence_at c now)

-- the Keep Alive by a CONNACK, in seconds, after a CONNECT with this one
abbrev pub granted : Option ℕ → ConnackNote → ℕ
granted asked c = cond (c.code == 0) (unwrap_or c.server_keep_alive (unwrap_or asked 0)) 0

abbrev pub answered : Role → Option ℕ → Note → Option ℕ
answered role asked n = option_map (λ c. granted asked c) (connack_of role n)

-- the client is heard with the next event
abbrev pub hears : Role → Clock → Note → Bool
hears role c n = is_some (client_item role n) || (is_some (connack_of role n) && is_none c.keep_alive)

-- What is kept with one event more, at this time: at an OPEN a new connection begins. Whether the silence was too long at the OPEN is said of the connection before; the first CONNACK
-- ends it.
abbrev pub clock_after : Role → Clock → ℕ → Note → Clock
clock_after role c now n = record {
  is_open = is_open n || (not (is_close n) && c.is_open);
  asked = option_or (cond (is_open n) None c.asked) (option_map (λ connect. connect.keep_alive) (connect_of role n));
  keep_alive = option_or (cond (is_open n) None c.keep_alive) (answered role c.asked n);
  heard = cond (hears role c n) (Some now) (cond (is_open n) None c.heard);
  was_long = not (hears role c n) && (is_too_long role c now || (not (is_open n) && c.was_long));
  has_ended = ends_listening role n || (not (is_open n) && c.has_ended);
}

-- What the watcher keeps is that of these events, the newest first, if the further statements on times are asked for.
pub record IsClocks (s : Clocks) (tested : Tested) (taken : Option Fate) (past : List Seen) : Type 0 where
  pub same_role : s.role ≡ tested.role
  pub same_times : s.with_times ≡ tested.further.with_times
  pub same_clock : s.with_times ≡ true → s.clock ≡ clock tested.role past

-- ---- whether the statement is false at the next event

-- the client is listened to
abbrev pub is_listening : Clock → Bool
is_listening c = c.is_open && (not (kept_seconds c == 0) && not c.has_ended)

-- the event may be late without a fault of the end: it took its time
abbrev pub is_spared : Role → Note → Bool
is_spared Client n = takes_time n || cuts_packet n
is_spared Server n = takes_time n

abbrev pub finds_silence : Role → Clock → ℕ → Note → Bool
finds_silence role c now n = is_listening c && ((is_too_long role c now && not c.was_long) && not (is_spared role n))

-- the statement that binds the end
abbrev pub own_rule : Role → Rule
own_rule Client = K01
own_rule Server = K02

-- that statement, with whether it is false at the event
abbrev pub clock_verdicts : Role → Clock → ℕ → Note → List (Rule × Bool)
clock_verdicts role c now n = (own_rule role, finds_silence role c now n) ∷ []

-- ---- whether the next event puts it to the test

abbrev pub tries_silence : Role → Clock → ℕ → Bool
tries_silence role c now = is_listening c && is_long role c now

abbrev pub tries_K01 : Role → Clock → ℕ → Bool
tries_K01 Client c now = tries_silence Client c now
tries_K01 Server c now = false

abbrev pub tries_K02 : Role → Clock → ℕ → Bool
tries_K02 Client c now = false
tries_K02 Server c now = tries_silence Server c now

-- the counts are those of these events, the newest first
pub record CountsClocks (p : ClocksPlaces) (tested : Tested) (past : List Seen) : Type 0 where
  pub k01 : p.k01 ≡ places tested past K01
  pub k02 : p.k02 ≡ places tested past K02
