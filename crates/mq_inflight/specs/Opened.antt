-- What is kept of the identifiers that are open in a session.
use Rattle.std.specs.Prelude.{ℕ, nat_lt, Bool, false, ◌&&◌, ◌||◌, cond, List, Option, Some, None, option_map}
use Rattle.mq_log.specs.declared.place.Place3.{Place3}
use Rattle.mq_rules.specs.declared.role.Role.{Role}
use Rattle.mq_rules.specs.declared.fate.Fate.{Fate}
use Rattle.mq_rules.specs.declared.note.Note.{Note}
use Rattle.mq_rules.specs.Words.{is_some_and, is_id}
use Rattle.mq_rules.specs.Notes.{is_open, opener_of, closer_of, delivery_of, sent_publish, is_exactly_once, sent_as, received_as, pubrel_in, accepting_pubrec_in}
use Rattle.mq_rules.specs.Moments.{Moment, note}
use Rattle.mq_rules.specs.Connections.{accepts, begins}
use Rattle.mq_rules.specs.Folds.{folded}
use Rattle.mq_rules.specs.Identifiers.{opens_id, closes_id, confirms_id}
use Rattle.mq_inflight.specs.declared.inflight.entry.Entry.{Entry}
use Rattle.mq_inflight.specs.Resending.{bounded_at}

-- an identifier that is opened at this place, by a PUBLISH of QoS 2 or not, with RETAIN 1 or not
abbrev pub opened_by : Bool → Bool → Place3 → Entry
opened_by exactly_once retained place = record { place = place; exactly_once = exactly_once; retained = retained; confirmed = false; released = false; passed = false; sent = place.position; published = place.position }

-- what is kept of an identifier, if a PUBLISH of it is sent, where connections before this one that passed over began up to this
-- position; if a PUBREL is; if a PUBREC below 0x80 is received; if it is set free; if it is opened
abbrev pub sent_if : Bool → ℕ → ℕ → Option Entry → Option Entry
sent_if b bounded at old = option_map (λ o. record { place = o.place; exactly_once = o.exactly_once; retained = o.retained; confirmed = o.confirmed; released = o.released; passed = (b && nat_lt o.sent bounded) || o.passed; sent = cond b at o.sent; published = cond b at o.published }) old

abbrev pub released_if : Bool → ℕ → ℕ → Option Entry → Option Entry
released_if b bounded at old = option_map (λ o. record { place = o.place; exactly_once = o.exactly_once; retained = o.retained; confirmed = o.confirmed; released = b || o.released; passed = (b && nat_lt o.sent bounded) || o.passed; sent = cond b at o.sent; published = o.published }) old

abbrev pub confirmed_if : Bool → Option Entry → Option Entry
confirmed_if b old = option_map (λ o. record { place = o.place; exactly_once = o.exactly_once; retained = o.retained; confirmed = b || o.confirmed; released = o.released; passed = o.passed; sent = o.sent; published = o.published }) old

abbrev pub closed_if : Bool → Option Entry → Option Entry
closed_if b old = cond b None old

abbrev pub opened_if : Bool → Bool → Bool → Place3 → Option Entry → Option Entry
opened_if b exactly_once retained place old = cond b (Some (opened_by exactly_once retained place)) old

-- the event sends a PUBLISH of QoS 2; one with RETAIN 1
abbrev pub sends_exactly_once : Note → Bool
sends_exactly_once n = is_some_and (λ p. is_exactly_once p.qos) (sent_publish n)

abbrev pub sends_retained : Note → Bool
sends_retained n = is_some_and (λ p. p.retain) (sent_publish n)

-- the moment receives a PUBREC below 0x80 under the identifier; opens it or sets it free
abbrev pub confirms : ℕ → Moment → Bool
confirms i m = confirms_id i m

abbrev pub moves : ℕ → Moment → Bool
moves i m = opens_id i m || closes_id i m

-- what is kept of an identifier after an event of its session, where connections before this one that passed over began up to this position
abbrev pub entry_after : ℕ → ℕ → Note → Place3 → Option Entry → Option Entry
entry_after bounded i n place old =
    opened_if (is_id i (opener_of n)) (sends_exactly_once n) (sends_retained n) place (closed_if (is_id i (closer_of n))
    (confirmed_if (is_id i (received_as accepting_pubrec_in n)) (released_if (is_id i (sent_as pubrel_in n)) bounded place.position (sent_if (is_id i (delivery_of n)) bounded place.position old))))

-- what is kept of an identifier after these moments of a session: nothing, if it isn't open
abbrev pub entry_in : Role → ℕ → List Moment → Option Entry
entry_in role i ms = folded (λ m old. entry_after (bounded_at role m.past) i (note m) m.event.place old) None ms

-- what is kept of an identifier after an event of a connection with this fate
abbrev pub entry_next : Fate → Note → ℕ → Place3 → ℕ → Option Entry → Option Entry
entry_next f n bounded place i old = cond (is_open n) (cond (begins (Some f)) None old) (cond (accepts f) (entry_after bounded i n place old) old)
