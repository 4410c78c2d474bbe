-- Network connections and sessions (MQTT 5.0, sections 3.1.2.4, 3.2 and 4.1).
use Rattle.std.specs.Prelude.{ℕ, suc, zero, ◌-◌, ◌≡◌, ◌<◌, ◌≤◌, ◌==◌, ◌⊎◌, Bool, true, false, ◌&&◌, ◌||◌, not, cond, List, [], ◌∷◌, Option, Some, is_some, is_none, unwrap_or, option_map}
use Rattle.std.specs.Option.{option_and_then, option_or}
use Rattle.mq_rules.specs.declared.role.Role.{Role}
use Rattle.mq_rules.specs.declared.role.Role.TheVariants.{Client, Server}
use Rattle.mq_rules.specs.declared.fate.Fate.{Fate}
use Rattle.mq_rules.specs.declared.fate.Fate.TheVariants.{Void, Adrift, New, Forgotten, Resumed, Unasked, Unknown}
use Rattle.mq_rules.specs.declared.note.Note.{Note}
use Rattle.mq_rules.specs.declared.note.Note.TheVariants as notes
use Rattle.mq_rules.specs.declared.note.Seen.{Seen}
use Rattle.mq_rules.specs.declared.packet_note.ConnectNote.{ConnectNote}
use Rattle.mq_rules.specs.declared.packet_note.ConnackNote.{ConnackNote}
use Rattle.mq_rules.specs.Words.{is_some_and}
use Rattle.mq_rules.specs.Notes.{is_open, is_close, is_rest, is_release, is_broken, sent_item, received_item, sent_fields, received_fields, disconnect_in, connect_of, connack_of, client_disconnect, decides, needs_session, is_acknowledged, sent_disconnect, received_as, received_publish, subscribe_in, unsubscribe_in, pubrel_in}
use Rattle.mq_rules.specs.Moments.{Moment, newest, note, moments, some, since, those, first_found, first_given, count}

-- ---- connections

-- how many connections have begun in this log: the number of the latest one
abbrev pub begun : List Seen → ℕ
begun log = count (λ m. is_open (note m)) (moments log)

-- the number of the latest connection begun at this moment, counted from 1; 0 before the first one
abbrev pub number : Moment → ℕ
number m = begun (m.event ∷ m.past)

-- both moments are of the same connection
abbrev pub is_beside : Moment → Moment → Bool
is_beside a b = number a == number b

-- a connection is open: an OPEN came, and no CLOSE after it
abbrev pub is_connected : List Seen → Bool
is_connected log = since (λ m. is_open (note m)) (λ m. is_close (note m)) (moments log)

-- what this log has of the connection of this number: its OPEN, and what follows up to the next one's
abbrev pub of_connection : ℕ → List Seen → List Moment
of_connection c log = those (λ m. number m == c) (moments log)

-- what has come so far on the latest connection
abbrev pub connection : List Seen → List Moment
connection log = of_connection (begun log) log

-- what has come so far on the connection that is open; nothing if none is
abbrev pub on_open : List Seen → List Moment
on_open log = cond (is_connected log) (connection log) []

-- ---- what becomes of a connection (MQTT 5.0, section 3.2.2)

-- what the first of its moments gives to the connection of this number that gives something
abbrev pub first_fate : (Moment → Option Fate) → ℕ → List Seen → Option Fate
first_fate gives c log = cond (c == 0) (Some Void) (first_given gives (of_connection c log))

-- What the server answers on the connection of this number, if this log has it: New, Resumed or Void by its first CONNACK, and Void by a CLOSE before one came.
-- Before the first connection there is nothing to wait for.
abbrev pub outcome : Role → ℕ → List Seen → Option Fate
outcome role c log = first_fate (λ m. decides role (note m)) c log

abbrev pub latest_outcome : Role → List Seen → Option Fate
latest_outcome role log = outcome role (begun log) log

-- the connection is accepted, and its session is known
abbrev pub accepts : Fate → Bool
accepts Void = false
accepts Adrift = false
accepts New = true
accepts Forgotten = true
accepts Resumed = true
accepts Unasked = true
accepts Unknown = false

-- it is accepted, its session is known, and was there before
abbrev pub resumes : Fate → Bool
resumes Void = false
resumes Adrift = false
resumes New = false
resumes Forgotten = false
resumes Resumed = true
resumes Unasked = true
resumes Unknown = false

-- it isn't accepted
abbrev pub is_void : Fate → Bool
is_void Void = true
is_void Adrift = true
is_void New = false
is_void Forgotten = false
is_void Resumed = false
is_void Unasked = false
is_void Unknown = false

-- the client has a session that it hadn't asked for, or didn't have; or it asked for its own, and has a new one
abbrev pub is_unasked : Fate → Bool
is_unasked Unasked = true
is_unasked _ = false

abbrev pub surprises : Fate → Bool
surprises Unasked = true
surprises Forgotten = true
surprises _ = false

-- what the session is can't be told by the log
abbrev pub is_untold : Fate → Bool
is_untold Adrift = true
is_untold Unknown = true
is_untold _ = false

-- decided, and accepted with a session that is known; that was resumed, or begun; decided, and not accepted
abbrev pub accepted : Option Fate → Bool
accepted f = is_some_and accepts f

abbrev pub resumed : Option Fate → Bool
resumed f = is_some_and resumes f

abbrev pub begins : Option Fate → Bool
begins f = accepted f && not (resumed f)

abbrev pub voided : Option Fate → Bool
voided f = is_some_and is_void f

-- ---- what a connection was begun with

-- the first CONNECT from the client, and the first CONNACK from the server, among these
abbrev pub first_connect : Role → List Moment → Option ConnectNote
first_connect role ms = first_found (connect_of role) ms

abbrev pub first_connack : Role → List Moment → Option ConnackNote
first_connack role ms = first_found (connack_of role) ms

-- The Session Expiry Interval of a connection: that of the client's first DISCONNECT, else that of the CONNACK, else that of the CONNECT, else 0
-- (MQTT 5.0, sections 3.1.2.11.2, 3.2.2.3.2 and 3.14.2.2.2).
abbrev pub session_expiry : Role → List Moment → ℕ
session_expiry role ms = unwrap_or (option_or (option_and_then (λ d. d.session_expiry) (first_found (client_disconnect role) ms))
    (option_or (option_and_then (λ a. a.session_expiry) (first_connack role ms)) (option_and_then (λ c. c.session_expiry) (first_connect role ms)))) 0

-- The connection had a CONNECT and closed without a CONNACK, so that the server may have accepted it.
abbrev pub may_be_accepted : Role → List Moment → Bool
may_be_accepted role ms = is_some (first_connect role ms) && is_none (first_connack role ms)

-- The session is alive after connection number c: of the accepted connections up to c the last one had a Session Expiry Interval other than 0, or a later one
-- up to c may have been accepted (MQTT 5.0, section 4.1).
abbrev pub is_alive_after : Role → ℕ → List Seen → Bool
is_alive_after role zero log = false
is_alive_after role (suc c) log = cond (accepted (outcome role (suc c) log)) (not (session_expiry role (of_connection (suc c) log) == 0))
    (may_be_accepted role (of_connection (suc c) log) || is_alive_after role c log)

-- Some connection up to c lasts: it is accepted with a Session Expiry Interval other than 0, or isn't accepted and may have been. None after it up to c is
-- accepted.
pub record IsAlive (role : Role) (c : ℕ) (log : List Seen) : Type 0 where
  pub at : ℕ
  pub counted : 0 < at
  pub up_to : at ≤ c
  pub lasts : ((accepted (outcome role at log) ≡ true) × (session_expiry role (of_connection at log) ≡ 0 → ⊥)) ⊎ ((accepted (outcome role at log) ≡ false) × (may_be_accepted role (of_connection at log) ≡ true))
  pub none_after : (d : ℕ) → at < d → d ≤ c → accepted (outcome role d log) ≡ false

-- ---- what an end can't know, and what its log can't tell

-- With this event the server accepts the connection: it is its first CONNACK, of code 0x00.
abbrev pub accepts_at : Role → Moment → Bool
accepts_at role m = is_none (latest_outcome role m.past) && accepted (decides role (note m))

-- a connection was accepted in this log
abbrev pub has_accepted : Role → List Seen → Bool
has_accepted role log = some (accepts_at role) (moments log)

-- With this event a session begins: the server accepts the connection, and doesn't resume a session, or no connection was accepted before.
abbrev pub begins_session : Role → Moment → Bool
begins_session role m = accepts_at role m && (begins (decides role (note m)) || not (has_accepted role m.past))

-- the event receives a packet that changes what a server keeps of a session: a SUBSCRIBE, an UNSUBSCRIBE, a PUBREL, or a PUBLISH of QoS above 0 (MQTT 5.0, section 4.1)
abbrev pub changes_session : Note → Bool
changes_session n = is_some (received_as subscribe_in n) || (is_some (received_as unsubscribe_in n) || (is_some (received_as pubrel_in n) || is_some_and (λ p. is_acknowledged p.qos) (received_publish n)))

-- What was sent to a server without an answer may have changed its session: a CONNECT with Clean Start 1, and where the server is tested such a packet. (The log of a
-- client says by its next CONNACK what became of what the client sent.)
abbrev pub may_change : Role → List Moment → Bool
may_change Client ms = is_some_and (λ c. c.clean_start) (first_connect Client ms)
may_change Server ms = is_some_and (λ c. c.clean_start || some (λ m. changes_session (note m)) ms) (first_connect Server ms)

-- A connection is disturbing: it closes without a CONNACK, and the session may have changed by what came on it.
abbrev pub disturbs : Role → Moment → Bool
disturbs role m = is_close (note m) && (is_none (latest_outcome role m.past) && may_change role (connection m.past))

-- the event comes after the CONNACK of its connection, and sends something else than a DISCONNECT
abbrev pub goes_on : Role → Moment → Bool
goes_on role m = is_some (latest_outcome role m.past) && (is_some (sent_item (note m)) && not (is_some (sent_disconnect (note m))))

-- A client leaves: it asked for its session by Clean Start 0, the server had none, and the client sent nothing but a DISCONNECT after that. So it needn't have discarded
-- its own session (MQTT 5.0, section 3.2.2.1.1).
abbrev pub leaves : Role → Moment → Bool
leaves Server m = false
leaves Client m = is_close (note m) && (begins (latest_outcome Client m.past)
    && (is_some_and (λ c. not c.clean_start) (first_connect Client (connection m.past)) && not (some (goes_on Client) (connection m.past))))

-- Since the session began a connection was disturbing, or the client left: if the next accepted connection is resumed, nobody knows by the log which session that is.
abbrev pub is_unsettled : Role → List Seen → Bool
is_unsettled role log = since (λ m. disturbs role m || leaves role m) (begins_session role) (moments log)

-- With this event the server resumes a session that isn't known.
abbrev pub resumes_unknown : Role → Moment → Bool
resumes_unknown role m = accepts_at role m && (resumed (decides role (note m)) && (has_accepted role m.past && is_unsettled role m.past))

-- Since the session began a connection was disturbing, or resumed a session that isn't known.
abbrev pub is_adrift : Role → List Seen → Bool
is_adrift role log = since (λ m. disturbs role m || resumes_unknown role m) (begins_session role) (moments log)

-- The client asked for its session by Clean Start 0.
abbrev pub asks_to_resume : Role → Moment → Bool
asks_to_resume Client m = is_some_and (λ c. not c.clean_start) (first_connect Client (connection m.past))
asks_to_resume Server m = false

-- The client asked for a new session by Clean Start 1, or had no session that was alive.
abbrev pub has_none : Role → Moment → Bool
has_none Client m = is_some_and (λ c. c.clean_start) (first_connect Client (connection m.past)) || not (is_alive_after Client (begun m.past - 1) m.past)
has_none Server m = false

-- what an answer of the server, at this event, makes of the connection
abbrev pub fate_by_answer : Role → Moment → Fate → Fate
fate_by_answer role m Void = cond (is_adrift role (m.event ∷ m.past)) Adrift Void
fate_by_answer role m New = cond (asks_to_resume role m) Forgotten New
fate_by_answer role m Resumed = cond (resumes_unknown role m) Unknown (cond (has_none role m) Unasked Resumed)
fate_by_answer role m other = other

-- the fate that this event gives to its connection, if none did before
unfoldable pub gives_fate : Role → Moment → Option Fate
gives_fate role m = option_map (fate_by_answer role m) (decides role (note m))

-- ---- the fates of connections

-- The fate of the connection of this number, if this log decides it: the first CONNACK from the server does, or a CLOSE before one came. Before
-- the first connection there is none to wait for.
abbrev pub fate : Role → ℕ → List Seen → Option Fate
fate role c log = first_fate (gives_fate role) c log

abbrev pub latest_fate : Role → List Seen → Option Fate
latest_fate role log = fate role (begun log) log

-- ---- what a client can't know before its CONNACK

-- the moment comes before its connection is decided
abbrev pub comes_early : Role → Moment → Bool
comes_early role k = is_none (latest_fate role k.past)

-- What a client sends before a CONNACK that resumes a session, though it hadn't asked for one or had none: it couldn't know which identifiers are in use there.
abbrev pub couldnt_know_resumed : Role → Fate → Moment → Bool
couldnt_know_resumed role f k = is_unasked f && comes_early role k

-- The same, and what it sends before a CONNACK that begins a session, though it had asked for its own: that may belong to the session before.
abbrev pub couldnt_know : Role → Fate → Moment → Bool
couldnt_know role f k = surprises f && comes_early role k

-- At a RELEASE it is known to which session the message belongs: the log tells which session that is; and the RELEASE doesn't come before the CONNACK that begins it,
-- where the message may belong to the session before.
abbrev pub is_placed_release : Role → Fate → Moment → Bool
is_placed_release role f k = not (is_untold f) && not (begins (Some f) && comes_early role k)

-- ---- sessions

-- Some connection begun in this log is accepted, if the latest one has this fate.
abbrev pub any_accepted : Role → Option Fate → List Seen → Bool
any_accepted role f [] = false
any_accepted role f (e ∷ past) = cond (is_open e.note) (accepted f || any_accepted role (latest_fate role past) past) (any_accepted role f past)

-- Whether this event, on or after the latest connection, which has this fate, is in a session: that connection is accepted; or the event is a RELEASE,
-- that connection is void, and an earlier one is accepted.
abbrev pub has_session : Role → Option Fate → Seen → List Seen → Bool
has_session role f e past = accepted f || (is_release e.note && (voided f && any_accepted role f past))

abbrev pub with_first : Bool → Moment → List Moment → List Moment
with_first true m ms = m ∷ ms
with_first false m ms = ms

-- The current session after these events, if the latest connection has this fate: the moments that are in a session, since the OPEN of the latest connection
-- that is accepted and not resumed, or since the first one. `IsInSession`, below, says of one moment whether it is among them.
abbrev pub session : Role → Option Fate → List Seen → List Moment
session role f [] = []
session role f (e ∷ past) =
    with_first (has_session role f e past) (newest e past)
    (cond (is_open e.note) (cond (begins f) [] (session role (latest_fate role past) past)) (session role f past))

-- the fates of all connections, if the latest one has this fate
abbrev pub fate_under : Role → Option Fate → List Seen → ℕ → Option Fate
fate_under role f log c = cond (c == begun log) f (fate role c log)

-- A RELEASE between connections, before the first one or on a void one belongs to the latest accepted connection before it, if there is one.
pub record IsLoose (fates : ℕ → Option Fate) (m : Moment) : Type 0 where
  pub is_released : is_release (note m) ≡ true
  pub on_void : voided (fates (number m)) ≡ true
  pub earlier : ℕ
  pub begun_before : earlier < number m
  pub is_accepted : accepted (fates earlier) ≡ true

-- The moment is in the session of connection c, if connections have these fates: its own connection is accepted, or it is a RELEASE that
-- belongs to an earlier accepted one; and each accepted connection after its own, up to c, is resumed.
pub record IsInSession (fates : ℕ → Option Fate) (c : ℕ) (m : Moment) : Type 0 where
  pub belongs : (accepted (fates (number m)) ≡ true) ⊎ IsLoose fates m
  pub all_resumed : (d : ℕ) → number m < d → d ≤ c → accepted (fates d) ≡ true → resumed (fates d) ≡ true

-- ---- REST

-- A DISCONNECT of either end, or bytes of either end that break a rule: after it no REST binds on its connection.
abbrev pub ends_binding : Moment → Bool
ends_binding m = is_some_and (λ p. is_some (disconnect_in p)) (sent_fields (note m)) || (is_some_and (λ p. is_some (disconnect_in p)) (received_fields (note m))
    || (is_some_and is_broken (sent_item (note m)) || is_some_and is_broken (received_item (note m))))

-- A REST binds if the accepting CONNACK came before it on its connection, and nothing before it there ends binding.
unfoldable pub is_binding : Role → Moment → Bool
is_binding role m = is_rest (note m) && (accepted (latest_fate role m.past) && not (some ends_binding (connection m.past)))

-- ---- order

-- The latest connection is decided before each session packet and each RELEASE: those of a connection come after its CONNACK. A client may send them before it, so a log that isn't
-- refused needn't be like this; in one that is, each statement on sessions but those that a REST shows is judged at its own event.
abbrev pub IsInOrder : Role → List Seen → Type 0
IsInOrder role [] = Unit {0}
IsInOrder role (e ∷ past) = (needs_session e.note ≡ true → is_some (latest_fate role past) ≡ true) × IsInOrder role past

-- what happens only on an open connection: the tested end sends or receives something, or is at rest, or the connection closes
abbrev pub needs_connection : Note → Bool
needs_connection notes.Open = false
needs_connection (notes.Close cuts part) = true
needs_connection notes.Rest = true
needs_connection (notes.Release identifier) = false
needs_connection (notes.Sent item) = true
needs_connection (notes.Recv item) = true

-- This event may follow these: if it happens only on an open connection, one is open.
abbrev pub IsOnConnection : Seen → List Seen → Type 0
IsOnConnection e past = needs_connection e.note ≡ true → is_connected past ≡ true

-- So it is with each event. Every log that isn't refused is like this.
abbrev pub AreOnConnections : List Seen → Type 0
AreOnConnections [] = Unit {0}
AreOnConnections (e ∷ past) = IsOnConnection e past × AreOnConnections past
