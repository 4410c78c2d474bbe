-- By what is kept of the latest connection, whether the client's silence is too long at the next event, and whether that puts a statement on times to the test.
use Rattle.std.proofs.Common.{◌≡◌, ℕ, ◌+◌, ◌-◌, ◌<◌, Bool, true, false, cond, ◌&&◌, ◌||◌, not, ◌⊎◌, inl, inr, length, List, [], ◌∷◌, Option, Some, None, option_map, refl, ap, sym, subst, ◌∙◌, arith}
use Rattle.std.specs.Prelude.{is_none, is_some, nat_lt, unwrap_or}
use Rattle.std.specs.Option.{option_or}
use denote.Enum.Bare.{same_true}
use Rattle.mq_rules.specs.declared.role.Role.{Role}
use Rattle.mq_rules.specs.declared.role.Role.TheVariants.{Client, Server}
use Rattle.mq_rules.specs.declared.role.Further.{Further}
use Rattle.mq_rules.specs.declared.role.Tested.{Tested}
use Rattle.mq_rules.specs.declared.rule.Rule.{Rule}
use Rattle.mq_rules.specs.contracts.rule.Rule.{the_type}
use Rattle.mq_rules.specs.declared.rule.Rule.TheVariants.{W01, K01, K02}
use Rattle.mq_rules.specs.declared.fate.Fate.{Fate}
use Rattle.mq_rules.specs.declared.fate.Fate.TheVariants.{Void}
use Rattle.mq_rules.specs.declared.note.Seen.{Seen}
use Rattle.mq_rules.specs.declared.packet_note.ConnectNote.{ConnectNote}
use Rattle.mq_connections.specs.declared.clocks.Clocks.{Clocks}
use Rattle.mq_connections.specs.declared.clocks.ClocksPlaces.{ClocksPlaces}
use Rattle.mq_rules.specs.Notes.{connack_of, connect_of, is_open}
use Rattle.mq_rules.specs.Moments.{Moment, newest, note, since, latest, first_given}
use Rattle.mq_rules.specs.Connections.{connection, first_connack, first_connect}
use Rattle.mq_rules.specs.KeepAlive.{applies_K01, applies_K02, breaks_K01, breaks_K02, client_item, client_limit, cuts_packet, ends_listening, half, is_heard, is_listened_to, is_longer, keep_alive, keep_alive_by, one_and_a_half, server_limit, silence, takes_time, time}
use Rattle.mq_rules.specs.Rules.{binds, found_line, is_on_times, line_of, lines, same_rule}
use Rattle.mq_rules.specs.Statements.{on_past, statement, is_by_past, is_on_clock}
use Rattle.mq_rules.specs.Steps.{shows, turns}
use Rattle.mq_rules.specs.Under.{Follows}
use Rattle.mq_rules.specs.Growing.{added, at_place, Gains, GainsWithin, Judges, JudgesWithin, news}
use Rattle.mq_rules.specs.Occasions.{occasion, places}
use Rattle.mq_connections.specs.Finding.{is_among}
use Rattle.mq_connections.specs.Clocks.{clock, clock_after, clock_verdicts, finds_silence, goes_beyond, hears, is_too_long, limit, nothing_heard, silence_at, tries_K01, tries_K02, tries_silence, CountsClocks, IsClocks}
use Rattle.mq_rules.specs.FaultKeys.{FaultMap, fault_at}
use Rattle.mq_rules.proofs.Exports.{and_false, connection-newest, first_found-next, gains_nothing, places-most, places-past, places-start, places-unbound, some-next}
use Rattle.mq_connections.proofs.FindLaws.{among-picked, found_news, past_says, pick, picked, client, server}

-- ---- what is kept says what the definitions ask for

-- the silence at an event
silent : (now : ℕ) (o : Option Moment) → unwrap_or (option_map (λ heard. now - heard) (option_map time o)) 0 ≡ unwrap_or (option_map (λ m. now - time m) o) 0
silent now None = refl
silent now (Some m) = refl

silence-kept : (role : Role) (e : Seen) (past : List Seen) → silence_at (clock role past) e.place.moment ≡ silence role (newest e past)
unfolding clock
silence-kept role e past = silent e.place.moment (latest (is_heard role) (connection past))

-- it is longer than a limit
longer-kept : (bound : ℕ → ℕ) (role : Role) (e : Seen) (past : List Seen) → nat_lt (bound (keep_alive role (newest e past))) (silence_at (clock role past) e.place.moment) ≡ is_longer bound role (newest e past)
longer-kept bound role e past = ap (nat_lt (bound (keep_alive role (newest e past)))) (silence-kept role e past)

-- a CONNACK gives the Keep Alive, so that there is one of the one if there is one of the other
either-none : {A : Type 0} (a b : Option A) → is_none (option_or a b) ≡ (is_none a && is_none b)
either-none None b = refl
either-none (Some x) b = refl

mapped-none : {A B : Type 0} (f : A → B) (o : Option A) → is_none (option_map f o) ≡ is_none o
mapped-none f None = refl
mapped-none f (Some a) = refl

given-none : (role : Role) (ms : List Moment) → is_none (first_given (keep_alive_by role) ms) ≡ is_none (first_connack role ms)
given-none role [] = refl
given-none role (m ∷ ms) =
    either-none (first_given (keep_alive_by role) ms) (keep_alive_by role m)
    ∙ ap (λ b. b && is_none (keep_alive_by role m)) (given-none role ms)
    ∙ ap (λ b. is_none (first_connack role ms) && b) (mapped-none _ (connack_of role (note m)))
    ∙ sym (either-none (first_connack role ms) (connack_of role (note m)))

-- the client is heard with an event
heard-kept : (role : Role) (e : Seen) (past : List Seen) → hears role (clock role past) e.note ≡ is_heard role (newest e past)
unfolding clock
heard-kept role e past = ap (λ b. is_some (client_item role e.note) || (is_some (connack_of role e.note) && b)) (given-none role (connection past))

-- its silence is too long at an event, and the statements are false there
too_long-kept : (role : Role) (e : Seen) (past : List Seen) → is_too_long role (clock role past) e.place.moment ≡ is_longer (limit role) role (newest e past)
unfolding clock
too_long-kept role e past = longer-kept (limit role) role e past

K01-kept : (e : Seen) (past : List Seen) → finds_silence Client (clock Client past) e.place.moment e.note ≡ breaks_K01 (newest e past)
unfolding clock breaks_K01
K01-kept e past =
    ap (λ b. is_listened_to Client (newest e past) && ((b && not (since (goes_beyond Client) (is_heard Client) (connection past))) && not (takes_time e.note || cuts_packet e.note))) (longer-kept client_limit Client e past)

K02-kept : (e : Seen) (past : List Seen) → finds_silence Server (clock Server past) e.place.moment e.note ≡ breaks_K02 (newest e past)
unfolding clock breaks_K02
K02-kept e past =
    ap (λ b. is_listened_to Server (newest e past) && ((b && not (since (goes_beyond Server) (is_heard Server) (connection past))) && not (takes_time e.note))) (longer-kept server_limit Server e past)

-- and it puts them to the test
K01-tried : (e : Seen) (past : List Seen) → applies_K01 (newest e past) ≡ tries_silence Client (clock Client past) e.place.moment
unfolding clock applies_K01
K01-tried e past = sym (ap (λ b. is_listened_to Client (newest e past) && b) (longer-kept half Client e past))

K02-tried : (e : Seen) (past : List Seen) → applies_K02 (newest e past) ≡ tries_silence Server (clock Server past) e.place.moment
unfolding clock applies_K02
K02-tried e past = sym (ap (λ b. is_listened_to Server (newest e past) && b) (longer-kept one_and_a_half Server e past))

-- ---- what is found

-- they are asked for, with those that need no times or without
abbrev timed : Bool → Further
timed on_request = record { on_request = on_request; with_times = true }

last : (b : Bool) → (b || false) ≡ (b && true)
last true = refl
last false = refl

client-clock : (releases on_request : Bool) (e : Seen) (past : List Seen) (rule : Rule)
    → picked (clock_verdicts Client (clock Client past) e.place.moment e.note) rule ≡ ((is_on_times rule && past_says (statement Client rule) (newest e past)) && binds rule (client releases (timed on_request)))
unfolding picked pick past_says found_line lines line_of
client-clock releases on_request e past K01 = ap (λ b. b || false) (K01-kept e past) ∙ last (breaks_K01 (newest e past))
client-clock releases on_request e past K02 = sym (and_false (breaks_K02 (newest e past)))
client-clock releases on_request e past _ = refl

server-clock : (releases on_request : Bool) (e : Seen) (past : List Seen) (rule : Rule)
    → picked (clock_verdicts Server (clock Server past) e.place.moment e.note) rule ≡ ((is_on_times rule && past_says (statement Server rule) (newest e past)) && binds rule (server releases (timed on_request)))
unfolding picked pick past_says found_line lines line_of
server-clock releases on_request e past K01 = sym (and_false (breaks_K01 (newest e past)))
server-clock releases on_request e past K02 = ap (λ b. b || false) (K02-kept e past) ∙ last (breaks_K02 (newest e past))
server-clock releases on_request e past _ = refl

-- by what is kept, exactly the statements on times that are false at an event are found there
finds : (tested : Tested) (e : Seen) (past : List Seen) (rule : Rule) → tested.further.with_times ≡ true
    → is_among (clock_verdicts tested.role (clock tested.role past) e.place.moment e.note) rule ≡ ((is_on_times rule && past_says (statement tested.role rule) (newest e past)) && binds rule tested)
finds tested e past rule asked =
    among-picked (clock_verdicts tested.role (clock tested.role past) e.place.moment e.note) rule
    ∙ go tested.role tested.releases tested.further.on_request
    ∙ ap (λ t. (is_on_times rule && past_says (statement tested.role rule) (newest e past)) && binds rule (record { role = tested.role; releases = tested.releases; further = record { on_request = tested.further.on_request; with_times = t } })) (sym asked)
  where
    go : (role : Role) (releases on_request : Bool) → picked (clock_verdicts role (clock role past) e.place.moment e.note) rule
        ≡ ((is_on_times rule && past_says (statement role rule) (newest e past)) && binds rule (record { role = role; releases = releases; further = timed on_request }))
    go Client releases on_request = client-clock releases on_request e past rule
    go Server releases on_request = server-clock releases on_request e past rule

-- the same of a watcher
found_by : (s : Clocks) (tested : Tested) (taken : Option Fate) (e : Seen) (past : List Seen) (rule : Rule) → s.with_times ≡ true → IsClocks s tested taken past
    → is_among (clock_verdicts s.role s.clock e.place.moment e.note) rule ≡ ((is_on_times rule && past_says (statement tested.role rule) (newest e past)) && binds rule tested)
found_by s tested taken e past rule asked here =
    (λ i. is_among (clock_verdicts (here.same_role i) (here.same_clock asked i) e.place.moment e.note) rule) ∙ finds tested e past rule (sym here.same_times ∙ asked)

at_place-clock : (s : Clocks) (tested : Tested) (taken : Option Fate) (e : Seen) (past : List Seen) (k : ℕ) (rule : Rule) → s.with_times ≡ true → e.place.position ≡ length past + 1 → IsClocks s tested taken past
    → at_place e.place k (is_among (clock_verdicts s.role s.clock e.place.moment e.note) rule) ≡ news (is_on_clock tested) tested e past k rule
unfolding turns
at_place-clock s tested taken e past k rule asked placed here =
    found_news (statement tested.role rule) (is_on_times rule) (binds rule tested) (is_among (clock_verdicts s.role s.clock e.place.moment e.note) rule) tested.role e past k placed (found_by s tested taken e past rule asked here)

pub clock-gains : (s : Clocks) (tested : Tested) (taken : Option Fate) (e : Seen) (past : List Seen) (old new : FaultMap) → s.with_times ≡ true → Follows tested e past → IsClocks s tested taken past
    → Judges (is_among (clock_verdicts s.role s.clock e.place.moment e.note)) e.place old new
    → Gains (λ k r. is_on_clock tested r && turns tested e past k r) tested (e ∷ past) (length past + 1) old new
clock-gains s tested taken e past old new asked follows here h = record {
  each = λ k rule. h.each k rule ∙ ap (option_or (fault_at old k rule)) (at_place-clock s tested taken e past k rule asked follows.placed.0 here);
}

pub clock-within : (s : Clocks) (tested : Tested) (taken : Option Fate) (e : Seen) (past : List Seen) (old new : FaultMap) → s.with_times ≡ true → Follows tested e past → IsClocks s tested taken past
    → JudgesWithin (is_among (clock_verdicts s.role s.clock e.place.moment e.note)) e.place old new
    → GainsWithin (λ k r. is_on_clock tested r && turns tested e past k r) tested (e ∷ past) (length past + 1) old new
clock-within s tested taken e past old new asked follows here h = record { each = λ k rule. go k rule (h.each k rule) }
  where
    go : (k : ℕ) (rule : Rule) → (fault_at new k rule ≡ fault_at old k rule) ⊎ (fault_at new k rule ≡ option_or (fault_at old k rule) (at_place e.place k (is_among (clock_verdicts s.role s.clock e.place.moment e.note) rule)))
        → (fault_at new k rule ≡ fault_at old k rule) ⊎ (fault_at new k rule ≡ option_or (fault_at old k rule) (added (λ k r. is_on_clock tested r && turns tested e past k r) tested (e ∷ past) (length past + 1) k rule))
    go k rule (inl same) = inl same
    go k rule (inr more) = inr (more ∙ ap (option_or (fault_at old k rule)) (at_place-clock s tested taken e past k rule asked follows.placed.0 here))

-- ---- where those on times aren't asked for

-- then none of them binds the end
unbound : (role : Role) (releases on_request : Bool) (r : Rule) → (is_on_times r && binds r (record { role = role; releases = releases; further = record { on_request = on_request; with_times = false } })) ≡ false
unfolding found_line lines line_of
unbound Client releases on_request W01 = refl
unbound Client releases on_request _ = refl
unbound Server releases on_request W01 = refl
unbound Server releases on_request _ = refl

not-bound : (tested : Tested) (r : Rule) → tested.further.with_times ≡ false → (is_on_times r && binds r tested) ≡ false
not-bound tested r off =
    ap (λ t. is_on_times r && binds r (record { role = tested.role; releases = tested.releases; further = record { on_request = tested.further.on_request; with_times = t } })) off
    ∙ unbound tested.role tested.releases tested.further.on_request r

apart : (a t b s : Bool) → (t && b) ≡ false → ((a && t) && (b && s)) ≡ false
apart false t b s h = refl
apart true false b s h = refl
apart true true false s h = refl
apart true true true s h = absurd (cc)

pub untimed-gains : (tested : Tested) (e : Seen) (past : List Seen) (m : FaultMap) → tested.further.with_times ≡ false → Gains (λ k r. is_on_clock tested r && turns tested e past k r) tested (e ∷ past) (length past + 1) m m
unfolding turns
untimed-gains tested e past m off = gains_nothing (λ k r. is_on_clock tested r && turns tested e past k r) tested (e ∷ past) (length past + 1) m
    (λ k r. apart (is_by_past (statement tested.role r)) (is_on_times r) (binds r tested) (shows tested.role (statement tested.role r) e past k) (not-bound tested r off))

-- nothing is kept there
pub untimed-stays : (s : Clocks) (tested : Tested) (taken after : Option Fate) (e : Seen) (past : List Seen) → s.with_times ≡ false → IsClocks s tested taken past → IsClocks s tested after (e ∷ past)
untimed-stays s tested taken after e past off here = record { same_role = here.same_role; same_times = here.same_times; same_clock = λ asked. absurd (cc) }

-- ---- what is kept with one event more

-- at an OPEN nothing has come yet on the connection
given-of : {A : Type 0} (gives : Moment → Option A) (opens : Bool) (ms : List Moment) → first_given gives (cond opens [] ms) ≡ cond opens None (first_given gives ms)
given-of gives true ms = refl
given-of gives false ms = refl

latest-of : (test : Moment → Bool) (opens : Bool) (ms : List Moment) → latest test (cond opens [] ms) ≡ cond opens None (latest test ms)
latest-of test true ms = refl
latest-of test false ms = refl

since-of : (starts ends : Moment → Bool) (opens : Bool) (ms : List Moment) → since starts ends (cond opens [] ms) ≡ (not opens && since starts ends ms)
since-of starts ends true ms = refl
since-of starts ends false ms = refl

asked-of : (opens : Bool) (a b : Option ConnectNote)
    → option_map (λ connect. connect.keep_alive) (option_or (cond opens None a) b) ≡ option_or (cond opens None (option_map (λ connect. connect.keep_alive) a)) (option_map (λ connect. connect.keep_alive) b)
asked-of true a b = refl
asked-of false None b = refl
asked-of false (Some c) b = refl

heard-of : (hears opens : Bool) (m : Moment) (o : Option Moment) → option_map time (cond hears (Some m) (cond opens None o)) ≡ cond hears (Some (time m)) (cond opens None (option_map time o))
heard-of true opens m o = refl
heard-of false true m o = refl
heard-of false false m o = refl

long-of : (long hears stays : Bool) → ((long && not hears) || (not hears && stays)) ≡ (not hears && (long || stays))
long-of true true stays = refl
long-of true false stays = refl
long-of false true stays = refl
long-of false false stays = refl

given-next : (role : Role) (e : Seen) (past : List Seen) → first_given (keep_alive_by role) (connection (e ∷ past)) ≡ option_or (cond (is_open e.note) None (first_given (keep_alive_by role) (connection past))) (keep_alive_by role (newest e past))
given-next role e past =
    ap (first_given (keep_alive_by role)) (connection-newest e past)
    ∙ ap (λ o. option_or o (keep_alive_by role (newest e past))) (given-of (keep_alive_by role) (is_open e.note) (connection past))

heard-next : (role : Role) (e : Seen) (past : List Seen) → option_map time (latest (is_heard role) (connection (e ∷ past)))
    ≡ cond (hears role (clock role past) e.note) (Some e.place.moment) (cond (is_open e.note) None (option_map time (latest (is_heard role) (connection past))))
heard-next role e past =
    ap (λ ms. option_map time (latest (is_heard role) ms)) (connection-newest e past)
    ∙ ap (λ o. option_map time (cond (is_heard role (newest e past)) (Some (newest e past)) o)) (latest-of (is_heard role) (is_open e.note) (connection past))
    ∙ heard-of (is_heard role (newest e past)) (is_open e.note) (newest e past) (latest (is_heard role) (connection past))
    ∙ ap (λ b. cond b (Some e.place.moment) (cond (is_open e.note) None (option_map time (latest (is_heard role) (connection past))))) (sym (heard-kept role e past))

long-next : (role : Role) (e : Seen) (past : List Seen) → since (goes_beyond role) (is_heard role) (connection (e ∷ past))
    ≡ (not (hears role (clock role past) e.note) && (is_too_long role (clock role past) e.place.moment || (not (is_open e.note) && since (goes_beyond role) (is_heard role) (connection past))))
long-next role e past =
    ap (since (goes_beyond role) (is_heard role)) (connection-newest e past)
    ∙ ap (λ b. goes_beyond role (newest e past) || (not (is_heard role (newest e past)) && b)) (since-of (goes_beyond role) (is_heard role) (is_open e.note) (connection past))
    ∙ long-of (is_longer (limit role) role (newest e past)) (is_heard role (newest e past)) (not (is_open e.note) && since (goes_beyond role) (is_heard role) (connection past))
    ∙ (λ i. not (sym (heard-kept role e past) i) && (sym (too_long-kept role e past) i || (not (is_open e.note) && since (goes_beyond role) (is_heard role) (connection past))))

pub clock-next : (role : Role) (e : Seen) (past : List Seen) → clock role (e ∷ past) ≡ clock_after role (clock role past) e.place.moment e.note
unfolding clock
clock-next role e past = λ i. record {
  is_open = (clock_after role (clock role past) e.place.moment e.note).is_open;
  asked = (ap (option_map (λ connect. connect.keep_alive)) (first_found-next (connect_of role) e past) ∙ asked-of (is_open e.note) (first_connect role (connection past)) (connect_of role e.note)) i;
  keep_alive = given-next role e past i;
  heard = heard-next role e past i;
  was_long = long-next role e past i;
  has_ended = some-next (λ j. ends_listening role (note j)) e past i;
}

-- before any event
pub clocks-start : (tested : Tested) → IsClocks (record { role = tested.role; with_times = tested.further.with_times; clock = nothing_heard }) tested (Some Void) []
unfolding clock
clocks-start tested = record { same_role = refl; same_times = refl; same_clock = λ asked. refl }

pub clocks-next : (old new : Clocks) (tested : Tested) (taken after : Option Fate) (e : Seen) (past : List Seen) → IsClocks old tested taken past
    → new ≡ record { role = old.role; with_times = old.with_times; clock = clock_after old.role old.clock e.place.moment e.note } → IsClocks new tested after (e ∷ past)
clocks-next old new tested taken after e past here kept = record {
  same_role = ap (λ s. s.role) kept ∙ here.same_role;
  same_times = ap (λ s. s.with_times) kept ∙ here.same_times;
  same_clock = λ asked.
      let was : old.with_times ≡ true = sym (ap (λ s. s.with_times) kept) ∙ asked in
      ap (λ s. s.clock) kept ∙ (λ i. clock_after (here.same_role i) (here.same_clock was i) e.place.moment e.note) ∙ sym (clock-next tested.role e past);
}

-- ---- how often each is put to the test

tried-K01 : (role : Role) (releases on_request : Bool) (e : Seen) (past : List Seen) → (binds K01 (record { role = role; releases = releases; further = timed on_request }) && applies_K01 (newest e past)) ≡ tries_K01 role (clock role past) e.place.moment
unfolding found_line lines line_of
tried-K01 Client releases on_request e past = K01-tried e past
tried-K01 Server releases on_request e past = refl

tried-K02 : (role : Role) (releases on_request : Bool) (e : Seen) (past : List Seen) → (binds K02 (record { role = role; releases = releases; further = timed on_request }) && applies_K02 (newest e past)) ≡ tries_K02 role (clock role past) e.place.moment
unfolding found_line lines line_of
tried-K02 Client releases on_request e past = refl
tried-K02 Server releases on_request e past = K02-tried e past

-- one event more: what is counted of a statement
counted : (tested : Tested) (rule : Rule) (test : Moment → Bool) (tries : Bool) (e : Seen) (past : List Seen) (old new at : ℕ) → occasion tested.role rule ≡ Some (on_past test) → (binds rule tested && test (newest e past)) ≡ tries
    → at ≡ length past + 1 → old ≡ places tested past rule → (old < at → new ≡ cond tries 1 0 + old) → new ≡ places tested (e ∷ past) rule
counted tested rule test tries e past old new at says is placed was more =
    let most = places-most tested past rule in
    more (omega (arith, was, most, placed))
    ∙ ap (λ n. cond tries 1 0 + n) was
    ∙ ap (λ b. cond b 1 0 + places tested past rule) (sym is)
    ∙ sym (places-past tested rule test e past says)

-- what is counted at an event
pub record Counted (s : Clocks) (old new : ClocksPlaces) (e : Seen) : Type 0 where
  pub k01 : old.k01 < e.place.position → new.k01 ≡ cond (tries_K01 s.role s.clock e.place.moment) 1 0 + old.k01
  pub k02 : old.k02 < e.place.position → new.k02 ≡ cond (tries_K02 s.role s.clock e.place.moment) 1 0 + old.k02

pub counts-next : (s : Clocks) (old new : ClocksPlaces) (tested : Tested) (taken : Option Fate) (e : Seen) (past : List Seen) → s.with_times ≡ true → Follows tested e past → IsClocks s tested taken past → CountsClocks old tested past
    → Counted s old new e → CountsClocks new tested (e ∷ past)
counts-next s old new tested taken e past asked follows here was more = record {
  k01 = counted tested K01 applies_K01 (tries_K01 s.role s.clock e.place.moment) e past old.k01 new.k01 e.place.position refl
      (ap (λ t. binds K01 t && applies_K01 (newest e past)) whole ∙ tried-K01 tested.role tested.releases tested.further.on_request e past ∙ sym (λ i. tries_K01 (here.same_role i) (here.same_clock asked i) e.place.moment)) follows.placed.0 was.k01 more.k01;
  k02 = counted tested K02 applies_K02 (tries_K02 s.role s.clock e.place.moment) e past old.k02 new.k02 e.place.position refl
      (ap (λ t. binds K02 t && applies_K02 (newest e past)) whole ∙ tried-K02 tested.role tested.releases tested.further.on_request e past ∙ sym (λ i. tries_K02 (here.same_role i) (here.same_clock asked i) e.place.moment)) follows.placed.0 was.k02 more.k02;
}
  where
    whole : tested ≡ record { role = tested.role; releases = tested.releases; further = timed tested.further.on_request }
    whole = ap (λ t. record { role = tested.role; releases = tested.releases; further = record { on_request = tested.further.on_request; with_times = t } }) (sym here.same_times ∙ asked)

-- where they aren't asked for, none has a place
pub counts-untimed : (p : ClocksPlaces) (tested : Tested) (e : Seen) (past : List Seen) → tested.further.with_times ≡ false → CountsClocks p tested past → CountsClocks p tested (e ∷ past)
unfolding line_of found_line lines
counts-untimed p tested e past off was = record {
  k01 = was.k01 ∙ none K01 past refl ∙ sym (none K01 (e ∷ past) refl);
  k02 = was.k02 ∙ none K02 past refl ∙ sym (none K02 (e ∷ past) refl);
}
  where
    bound : (r : Rule) → is_on_times r ≡ true → binds r tested ≡ false
    bound r is = ap (λ b. b && binds r tested) (sym is) ∙ not-bound tested r off

    none : (r : Rule) (log : List Seen) → is_on_times r ≡ true → places tested log r ≡ 0
    none r log is = places-unbound tested log r (bound r is)

pub counts-start : (tested : Tested) → CountsClocks (record { k01 = 0; k02 = 0 }) tested []
counts-start tested = record { k01 = sym (places-start tested K01); k02 = sym (places-start tested K02) }

-- these are the statements on times
is-whole : (role : Role) (rule : Rule) → (is_by_past (statement role rule) && is_on_times rule) ≡ (same_rule rule K01 || same_rule rule K02)
unfolding found_line lines line_of
is-whole role W01 = refl
is-whole role _ = refl

is-K01 : (role : Role) → (is_by_past (statement role K01) && is_on_times K01) ≡ true
unfolding found_line lines line_of
is-K01 role = refl

is-K02 : (role : Role) → (is_by_past (statement role K02) && is_on_times K02) ≡ true
unfolding found_line lines line_of
is-K02 role = refl

-- what is counted of a statement, where that one is asked for
counted-there : (tested : Tested) (rule one : Rule) (past : List Seen) (n : ℕ) → same_rule rule one ≡ true → n ≡ places tested past one → is_on_clock tested one ≡ true
    → Some n ≡ cond (is_on_clock tested rule) (Some (places tested past rule)) None
counted-there tested rule one past n same is on =
    subst (λ r. Some n ≡ cond (is_on_clock tested r) (Some (places tested past r)) None) (sym (same_true the_type tt rule one same))
    (ap Some is ∙ ap (λ (b : Bool). cond b (Some (places tested past one)) None) (sym on))

pub counted-K01 : (tested : Tested) (rule : Rule) (past : List Seen) (p : ClocksPlaces) → same_rule rule K01 ≡ true → CountsClocks p tested past → Some p.k01 ≡ cond (is_on_clock tested rule) (Some (places tested past rule)) None
counted-K01 tested rule past p same was = counted-there tested rule K01 past p.k01 same was.k01 (is-K01 tested.role)

pub counted-K02 : (tested : Tested) (rule : Rule) (past : List Seen) (p : ClocksPlaces) → same_rule rule K02 ≡ true → CountsClocks p tested past → Some p.k02 ≡ cond (is_on_clock tested rule) (Some (places tested past rule)) None
counted-K02 tested rule past p same was = counted-there tested rule K02 past p.k02 same was.k02 (is-K02 tested.role)

-- another statement isn't counted here
pub counted-elsewhere : (tested : Tested) (rule : Rule) (past : List Seen) → same_rule rule K01 ≡ false → same_rule rule K02 ≡ false → None ≡ cond (is_on_clock tested rule) (Some (places tested past rule)) None
counted-elsewhere tested rule past k01 k02 = sym (ap (λ (t : Bool). cond t (Some (places tested past rule)) None) (is-whole tested.role rule ∙ (λ i. k01 i || k02 i)))
