-- Further statements on the Keep Alive (K01 and K02; MQTT 5.0, section 3.1.2.10). They look at the moments of a log's records, which have to be microseconds, and are judged
-- after the CONNACK of each connection that it accepts, but only if those on times are asked for.
use Rattle.std.specs.Prelude.{ℕ, ◌+◌, ◌*◌, ◌-◌, ◌==◌, nat_lt, max, Bool, true, false, ◌&&◌, ◌||◌, not, cond, Option, is_some, is_none, option_map, unwrap_or}
use Rattle.std.specs.Option.{option_and_then}
use Rattle.mq_rules.specs.declared.role.Role.{Role}
use Rattle.mq_rules.specs.declared.role.Role.TheVariants.{Client, Server}
use Rattle.mq_rules.specs.declared.note.Note.{Note}
use Rattle.mq_rules.specs.declared.note.Note.TheVariants as notes
use Rattle.mq_rules.specs.declared.note.ItemNote.{ItemNote}
use Rattle.mq_rules.specs.declared.note.ItemNote.TheVariants as items
use Rattle.mq_rules.specs.Words.{is_some_and}
use Rattle.mq_rules.specs.Notes.{connack_of, disconnect_in, is_large, is_typed, received_fields, received_item, sent_disconnect, sent_item}
use Rattle.mq_rules.specs.Moments.{Moment, note, some, since, latest, first_given}
use Rattle.mq_rules.specs.Connections.{connection, is_connected}
use Rattle.mq_rules.specs.Pasts.{connack_before, connect_before}

-- ---- words

-- when the moment was, in microseconds
abbrev pub time : Moment → ℕ
time m = m.event.place.moment

-- what the client sends with an event
abbrev pub client_item : Role → Note → Option ItemNote
client_item Client n = sent_item n
client_item Server n = received_item n

-- What a CONNACK at the moment makes of the Keep Alive, in seconds: it is its Server Keep Alive, or else that of the CONNECT before it. 0 switches it off, and so does a CONNACK that
-- refuses (MQTT 5.0, sections 3.1.2.10 and 3.2.2.3.14).
abbrev pub keep_alive_by : Role → Moment → Option ℕ
keep_alive_by role m =
    option_map (λ c. cond (c.code == 0) (unwrap_or c.server_keep_alive (unwrap_or (option_map (λ c. c.keep_alive) (connect_before role m)) 0)) 0) (connack_of role (note m))

-- the Keep Alive of the moment's connection, by the first CONNACK before the moment; 0 before it
abbrev pub keep_alive : Role → Moment → ℕ
keep_alive role k = unwrap_or (first_given (keep_alive_by role) (connection k.past)) 0

-- The client is heard: it sends something; or the connection's first CONNACK comes, from which on a silence counts.
abbrev pub is_heard : Role → Moment → Bool
is_heard role m = is_some (client_item role (note m)) || (is_some (connack_of role (note m)) && is_none (connack_before role m))

-- for how long the client hasn't been heard on its connection at the moment, in microseconds
abbrev pub silence : Role → Moment → ℕ
silence role k = unwrap_or (option_map (λ m. time k - time m) (latest (is_heard role) (connection k.past))) 0

-- either end sends a DISCONNECT; or the client sends what can't be cut into packets, so that what it sends from then on is in no event
abbrev pub ends_listening : Role → Note → Bool
ends_listening role n = (is_some (sent_disconnect n) || is_some (option_and_then disconnect_in (received_fields n))) || is_some_and (λ item. not (is_typed item)) (client_item role n)

-- The client is listened to at the moment: its connection is open, its Keep Alive isn't 0, and nothing before the moment ends listening there.
abbrev pub is_listened_to : Role → Moment → Bool
is_listened_to role k = is_connected k.past && (not (keep_alive role k == 0) && not (some (λ j. ends_listening role (note j)) (connection k.past)))

-- the silence is longer than this many microseconds for the Keep Alive
abbrev pub is_longer : (ℕ → ℕ) → Role → Moment → Bool
is_longer limit role k = nat_lt (limit (keep_alive role k)) (silence role k)

-- So it is at the moment for the first time in this silence: it wasn't at any moment since the client was last heard.
abbrev pub is_first_longer : (ℕ → ℕ) → Role → Moment → Bool
is_first_longer limit role k = is_longer limit role k && not (since (λ j. is_longer limit role j && not (is_heard role j)) (is_heard role) (connection k.past))

-- the event is a packet, or the bytes of one, that is so large that it may have taken its time
abbrev pub is_large_item : ItemNote → Bool
is_large_item (items.Packet p) = is_large p.size
is_large_item (items.Bad first rule at large) = large
is_large_item items.Lost = false

abbrev pub takes_time : Note → Bool
takes_time n = is_some_and is_large_item (sent_item n) || is_some_and is_large_item (received_item n)

-- a CLOSE that cut off a packet, which the tested end had begun to send
abbrev pub cuts_packet : Note → Bool
cuts_packet (notes.Close cuts part) = part
cuts_packet _ = false

-- half the Keep Alive, and one and a half times the Keep Alive, in microseconds; the Keep Alive is in seconds
abbrev pub half : ℕ → ℕ
half seconds = seconds * 500000

abbrev pub one_and_a_half : ℕ → ℕ
one_and_a_half seconds = seconds * 1500000

-- For how long a client may be silent: 1.25 times the Keep Alive, and a second, since timers are late. For how long a server may leave it at that: one and a half times the Keep
-- Alive, and half of it or 5 seconds, whichever is longer, since servers look now and then.
abbrev pub client_limit : ℕ → ℕ
client_limit seconds = seconds * 1250000 + 1000000

abbrev pub server_limit : ℕ → ℕ
server_limit seconds = one_and_a_half seconds + max (half seconds) 5000000

-- ---- the statements

-- K01: whatever comes when the client has been silent for more than half the Keep Alive, its silence isn't longer than it may be.
unfoldable pub applies_K01 : Moment → Bool
applies_K01 k = is_listened_to Client k && is_longer half Client k

unfoldable pub breaks_K01 : Moment → Bool
breaks_K01 k = is_listened_to Client k && (is_first_longer client_limit Client k && not (takes_time (note k) || cuts_packet (note k)))

-- K02: whatever comes when the client has been silent for more than one and a half times the Keep Alive, the server hasn't left it at that for longer than it may.
unfoldable pub applies_K02 : Moment → Bool
applies_K02 k = is_listened_to Server k && is_longer one_and_a_half Server k

unfoldable pub breaks_K02 : Moment → Bool
breaks_K02 k = is_listened_to Server k && (is_first_longer server_limit Server k && not (takes_time (note k)))
