-- Which of C01 to C23 an event puts to the test, by what is kept of its connection.
use Rattle.std.specs.Prelude.{◌≡◌, ◌==◌, ℕ, ◌+◌, Bool, true, false, ◌&&◌, ◌||◌, not, List, [], ◌∷◌, is_some, refl}
use Rattle.std.proofs.Common.{ap, ◌∙◌}
use Rattle.std.specs.Option.{option_and_then}
use Rattle.mq_packet.specs.declared.packet.PacketType.TheVariants as types
use Rattle.mq_rules.specs.declared.role.Role.{Role}
use Rattle.mq_rules.specs.declared.role.Further.{Further}
use Rattle.mq_rules.specs.declared.role.Role.TheVariants.{Client, Server}
use Rattle.mq_rules.specs.declared.role.Tested.{Tested}
use Rattle.mq_rules.specs.declared.rule.Rule.{Rule}
use Rattle.mq_rules.specs.declared.rule.Rule.TheVariants.{C01, C02, C03, C04, C05, C06, C07, C08, C09, C10, C11, C12, C13, C14, C15, C16, C17, C18, C19, C20, C21, C22, C23}
use Rattle.mq_rules.specs.declared.note.Note.{Note}
use Rattle.mq_rules.specs.declared.note.Seen.{Seen}
use Rattle.mq_rules.specs.declared.connection_state.ConnectionState.{ConnectionState}
use Rattle.mq_connections.specs.declared.conn.harmless_tests.HarmlessTests.{HarmlessTests}
use Rattle.mq_connections.specs.declared.conn.harmless_tests.HarmlessPlaces.{HarmlessPlaces}
use Rattle.mq_connections.specs.declared.conn.tally.ConnTally.{ConnTally}
use Rattle.mq_rules.specs.Words.{is_some_and, is_id}
use Rattle.mq_rules.specs.Notes.{is_close, is_rest, is_typed, sent_item, sent_packet, sent_publish, sent_disconnect, sent_connack, type_number_in, sends_type, may_explain, resumed_by}
use Rattle.mq_rules.specs.Moments.{Moment, newest, note, some}
use Rattle.mq_rules.specs.Connections.{connection}
use Rattle.mq_rules.specs.Pasts.{is_sent_disconnect, is_sent_refusal, says_session_present, accepts_so, used_alias, applies_C01, applies_C02, applies_C03, applies_C04, applies_C05, applies_C06, applies_C07, applies_C08, applies_C09, applies_C10, applies_C11, applies_C12, applies_C13, applies_C14, applies_C15, applies_C16, applies_C17, applies_C18, applies_C19, applies_C20, applies_C21, applies_C22, applies_C23}
use Rattle.mq_rules.specs.Occasions.{places}
use Rattle.mq_rules.specs.Rules.{binds, found_line, line_of, lines}
use Rattle.mq_rules.specs.Keeping.{kept}
use Rattle.mq_connections.specs.Finding.{size_limit, may_look, has_left}

-- ---- words

abbrev pub is_client : Role → Bool
is_client Client = true
is_client Server = false

abbrev pub is_server : Role → Bool
is_server Client = false
is_server Server = true

-- something with a type is sent
abbrev pub sends_some : Note → Bool
sends_some n = is_some_and is_typed (sent_item n)

-- no session was to be resumed: Clean Start was 1, or the session wasn't alive
abbrev pub has_no_session : ConnectionState → Bool
has_no_session s = is_some_and (λ c. c.clean_start) s.connect || not s.was_alive

-- ---- the events that put each statement to the test

abbrev pub tries_C01 : Note → Bool
tries_C01 n = is_some_and (λ type. not (type == 0)) (option_and_then type_number_in (sent_item n))

abbrev pub tries_C02 : Role → ConnectionState → Note → Bool
tries_C02 role s n = is_client role && (sends_some n && not s.has_sent)

abbrev pub tries_C03 : Role → Note → Bool
tries_C03 role n = is_client role && sends_type types.Connect n

abbrev pub tries_C04 : Role → Note → Bool
tries_C04 role n = is_server role && sends_type types.Connack n

abbrev pub tries_C05 : Role → ConnectionState → Note → Bool
tries_C05 role s n = is_server role && (sends_some n && (not (sends_type types.Auth n) && not s.has_sent_connack))

abbrev pub tries_C07 : Role → ConnectionState → Note → Bool
tries_C07 role s n = is_server role && (is_some (sent_connack n) && is_some_and (λ c. c.clean_start) s.connect)

abbrev pub tries_C08 : Role → ConnectionState → Note → Bool
tries_C08 role s n = is_server role && (accepts_so n && (says_session_present n || (is_some_and (λ c. not c.clean_start) s.connect && not s.was_alive)))

abbrev pub tries_C09 : Role → Note → Bool
tries_C09 role n = is_server role && (is_some (sent_connack n) && not (accepts_so n))

abbrev pub tries_C10 : Role → ConnectionState → Note → Bool
tries_C10 role s n = is_server role && (accepts_so n && is_some_and (λ c. c.is_unnamed) s.connect)

abbrev pub tries_C11 : ConnectionState → Note → Bool
tries_C11 s n = (sends_some n || is_close n) && s.has_sent_disconnect

abbrev pub tries_C12 : Role → ConnectionState → Note → Bool
tries_C12 role s n = is_server role && ((sends_some n || is_close n) && s.has_sent_refusal)

abbrev pub tries_C13 : Role → ConnectionState → Note → Bool
tries_C13 role s n = is_client role && ((is_some (sent_packet n) || is_close n) && (is_some_and resumed_by s.connack && has_no_session s))

abbrev pub tries_C14 : Role → ConnectionState → Note → Bool
tries_C14 role s n = is_some (sent_packet n) && is_some (size_limit role s)

abbrev pub tries_C15 : Role → ConnectionState → Note → Bool
tries_C15 role s n = may_look role s && is_some (option_and_then (λ p. p.topic_alias) (sent_publish n))

abbrev pub tries_C16 : Note → Bool
tries_C16 n = is_some (used_alias n)

abbrev pub tries_C17 : Role → ConnectionState → Note → Bool
tries_C17 role s n = is_client role && (is_some (sent_publish n) && is_some (option_and_then (λ a. a.maximum_qos) s.connack))

abbrev pub tries_C18 : Role → Note → Bool
tries_C18 role n = is_client role && is_some (sent_publish n)

abbrev pub tries_C19 : Role → Note → Bool
tries_C19 role n = is_server role && is_some (sent_disconnect n)

abbrev pub tries_C20 : Role → Note → Bool
tries_C20 role n = is_client role && is_some_and (λ d. is_some_and (λ seconds. not (seconds == 0)) d.session_expiry) (sent_disconnect n)

abbrev pub tries_C21 : Role → ConnectionState → Note → Bool
tries_C21 role s n = is_server role && (is_some_and (λ p. not (may_explain p.fields)) (sent_packet n) && is_some_and (λ c. is_id 0 c.request_problem_information) s.connect)

abbrev pub tries_C22 : Role → Note → Bool
tries_C22 role n = is_server role && is_some_and (λ c. c.has_response_information) (sent_connack n)

abbrev pub tries_C23 : Role → ConnectionState → Note → Bool
tries_C23 role s n = (is_rest n || is_close n) && has_left role s

-- one of C01 to C23, which are counted so
abbrev pub is_tallied : Rule → Bool
is_tallied C01 = true
is_tallied C02 = true
is_tallied C03 = true
is_tallied C04 = true
is_tallied C05 = true
is_tallied C06 = true
is_tallied C07 = true
is_tallied C08 = true
is_tallied C09 = true
is_tallied C10 = true
is_tallied C11 = true
is_tallied C12 = true
is_tallied C13 = true
is_tallied C14 = true
is_tallied C15 = true
is_tallied C16 = true
is_tallied C17 = true
is_tallied C18 = true
is_tallied C19 = true
is_tallied C20 = true
is_tallied C21 = true
is_tallied C22 = true
is_tallied C23 = true
is_tallied _ = false

-- ---- what a harmless event puts to the test

-- Of such an event only these statements need be asked for.
abbrev pub harmless_tests : Role → ConnectionState → Note → HarmlessTests
harmless_tests role s n = record { sent = tries_C01 n; limited = tries_C14 role s n; graded = tries_C17 role s n; published = tries_C18 role n; silent = tries_C21 role s n }

abbrev pub tried_by_harmless : HarmlessTests → Rule → Bool
tried_by_harmless tests C01 = tests.sent
tried_by_harmless tests C14 = tests.limited
tried_by_harmless tests C17 = tests.graded
tried_by_harmless tests C18 = tests.published
tried_by_harmless tests C21 = tests.silent
tried_by_harmless tests _ = false

-- how often such events have put a statement to the test
abbrev pub harmless_places : HarmlessPlaces → Rule → ℕ
harmless_places counts C01 = counts.sent
harmless_places counts C14 = counts.limited
harmless_places counts C17 = counts.graded
harmless_places counts C18 = counts.published
harmless_places counts C21 = counts.silent
harmless_places counts _ = 0

-- how often all other events have put a statement to the test
abbrev pub tally_places : ConnTally → Rule → ℕ
tally_places tally C01 = tally.c01
tally_places tally C02 = tally.c02
tally_places tally C03 = tally.c03
tally_places tally C04 = tally.c04
tally_places tally C05 = tally.c05
tally_places tally C06 = tally.c06
tally_places tally C07 = tally.c07
tally_places tally C08 = tally.c08
tally_places tally C09 = tally.c09
tally_places tally C10 = tally.c10
tally_places tally C11 = tally.c11
tally_places tally C12 = tally.c12
tally_places tally C13 = tally.c13
tally_places tally C14 = tally.c14
tally_places tally C15 = tally.c15
tally_places tally C16 = tally.c16
tally_places tally C17 = tally.c17
tally_places tally C18 = tally.c18
tally_places tally C19 = tally.c19
tally_places tally C20 = tally.c20
tally_places tally C21 = tally.c21
tally_places tally C22 = tally.c22
tally_places tally C23 = tally.c23
tally_places tally _ = 0

-- Both together are the places of C01 to C23.
abbrev pub IsTally : ConnTally → HarmlessPlaces → Tested → List Seen → Type 0
IsTally others harmless tested past = (rule : Rule) → is_tallied rule ≡ true → tally_places others rule + harmless_places harmless rule ≡ places tested past rule

-- ---- they are those of the definitions

-- The statement binds the end and is put to the test at the next event just where what is kept says so.
abbrev pub Tries : Rule → (Role → Moment → Bool) → (Role → ConnectionState → Note → Bool) → Type 0
Tries rule test found = (role : Role) (releases : Bool) (further : Further) (e : Seen) (past : List Seen) → (binds rule (record { role = role; releases = releases; further = further }) && test role (newest e past)) ≡ found role (kept role past) e.note

pub C01_tried : Tries C01 (λ role. applies_C01) (λ role s n. tries_C01 n)
unfolding kept applies_C01 line_of found_line lines
C01_tried Client releases further e past = refl
C01_tried Server releases further e past = refl

pub C02_tried : Tries C02 (λ role. applies_C02) tries_C02
unfolding kept applies_C02 line_of found_line lines
C02_tried Client releases further e past = refl
C02_tried Server releases further e past = refl

pub C03_tried : Tries C03 (λ role. applies_C03) (λ role s n. tries_C03 role n)
unfolding kept applies_C03 line_of found_line lines
C03_tried Client releases further e past = refl
C03_tried Server releases further e past = refl

pub C04_tried : Tries C04 (λ role. applies_C04) (λ role s n. tries_C04 role n)
unfolding kept applies_C04 line_of found_line lines
C04_tried Client releases further e past = refl
C04_tried Server releases further e past = refl

pub C05_tried : Tries C05 (λ role. applies_C05) tries_C05
unfolding kept applies_C05 line_of found_line lines
C05_tried Client releases further e past = refl
C05_tried Server releases further e past = refl

pub C06_tried : Tries C06 (λ role. applies_C06) (λ role s n. tries_C04 role n)
unfolding kept applies_C06 line_of found_line lines
C06_tried Client releases further e past = refl
C06_tried Server releases further e past = refl

pub C07_tried : Tries C07 (λ role. applies_C07) tries_C07
unfolding kept applies_C07 line_of found_line lines
C07_tried Client releases further e past = refl
C07_tried Server releases further e past = refl

pub C08_tried : Tries C08 (λ role. applies_C08) tries_C08
unfolding kept applies_C08 line_of found_line lines
C08_tried Client releases further e past = refl
C08_tried Server releases further e past = refl

pub C09_tried : Tries C09 (λ role. applies_C09) (λ role s n. tries_C09 role n)
unfolding kept applies_C09 line_of found_line lines
C09_tried Client releases further e past = refl
C09_tried Server releases further e past = refl

pub C10_tried : Tries C10 (λ role. applies_C10) tries_C10
unfolding kept applies_C10 line_of found_line lines
C10_tried Client releases further e past = refl
C10_tried Server releases further e past = refl

pub C11_tried : Tries C11 (λ role. applies_C11) (λ role s n. tries_C11 s n)
unfolding kept applies_C11 line_of found_line lines
C11_tried Client releases further e past = refl
C11_tried Server releases further e past = refl

pub C12_tried : Tries C12 (λ role. applies_C12) tries_C12
unfolding kept applies_C12 line_of found_line lines
C12_tried Client releases further e past = refl
C12_tried Server releases further e past = refl

pub C13_tried : Tries C13 (λ role. applies_C13) tries_C13
unfolding kept applies_C13 line_of found_line lines
C13_tried Client releases further e past = refl
C13_tried Server releases further e past = refl

pub C14_tried : Tries C14 applies_C14 tries_C14
unfolding kept applies_C14 line_of found_line lines
C14_tried Client releases further e past = refl
C14_tried Server releases further e past = refl

pub C15_tried : Tries C15 applies_C15 tries_C15
unfolding kept applies_C15 line_of found_line lines
C15_tried Client releases further e past = refl
C15_tried Server releases further e past = refl

pub C16_tried : Tries C16 (λ role. applies_C16) (λ role s n. tries_C16 n)
unfolding kept applies_C16 line_of found_line lines
C16_tried Client releases further e past = refl
C16_tried Server releases further e past = refl

pub C17_tried : Tries C17 (λ role. applies_C17) tries_C17
unfolding kept applies_C17 line_of found_line lines
C17_tried Client releases further e past = refl
C17_tried Server releases further e past = refl

pub C18_tried : Tries C18 (λ role. applies_C18) (λ role s n. tries_C18 role n)
unfolding kept applies_C18 line_of found_line lines
C18_tried Client releases further e past = refl
C18_tried Server releases further e past = refl

pub C19_tried : Tries C19 (λ role. applies_C19) (λ role s n. tries_C19 role n)
unfolding kept applies_C19 line_of found_line lines
C19_tried Client releases further e past = refl
C19_tried Server releases further e past = refl

pub C20_tried : Tries C20 (λ role. applies_C20) (λ role s n. tries_C20 role n)
unfolding kept applies_C20 line_of found_line lines
C20_tried Client releases further e past = refl
C20_tried Server releases further e past = refl

pub C21_tried : Tries C21 (λ role. applies_C21) tries_C21
unfolding kept applies_C21 line_of found_line lines
C21_tried Client releases further e past = refl
C21_tried Server releases further e past = refl

pub C22_tried : Tries C22 (λ role. applies_C22) (λ role s n. tries_C22 role n)
unfolding kept applies_C22 line_of found_line lines
C22_tried Client releases further e past = refl
C22_tried Server releases further e past = refl

-- one of the two passes at some moment
some_either : (p q : Moment → Bool) (ms : List Moment) → some (λ m. p m || q m) ms ≡ (some p ms || some q ms)
some_either p q [] = refl
some_either p q (m ∷ ms) = ap (λ b. (p m || q m) || b) (some_either p q ms) ∙ turn (p m) (q m) (some p ms) (some q ms)
  where
    turn : (a b c d : Bool) → ((a || b) || (c || d)) ≡ ((a || c) || (b || d))
    turn true b c d = refl
    turn false true true d = refl
    turn false true false d = refl
    turn false false c d = refl

pub C23_tried : Tries C23 applies_C23 tries_C23
unfolding kept applies_C23 line_of found_line lines
C23_tried Client releases further e past = refl
C23_tried Server releases further e past = ap (λ b. (is_rest e.note || is_close e.note) && b) (some_either (λ m. is_sent_disconnect (note m)) (λ m. is_sent_refusal (note m)) (connection past))
