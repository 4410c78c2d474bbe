-- By what is kept of the latest connection, which further statements on the past of a connection are false at the next event, and which it puts to the test.
use Rattle.std.proofs.Common.{◌≡◌, ℕ, ◌+◌, ◌<◌, Bool, true, false, cond, ◌&&◌, ◌||◌, not, ◌⊎◌, inl, inr, length, List, [], ◌∷◌, Option, Some, None, refl, ap, sym, subst, ◌∙◌, arith}
use Rattle.std.specs.Prelude.{is_some}
use Rattle.std.specs.Option.{option_and_then, option_or}
use denote.Enum.Bare.{same_true}
use Rattle.mq_rules.specs.declared.role.Role.{Role}
use Rattle.mq_rules.specs.declared.role.Role.TheVariants.{Client, Server}
use Rattle.mq_rules.specs.declared.role.Further.{Further}
use Rattle.mq_rules.specs.declared.role.Tested.{Tested}
use Rattle.mq_rules.specs.declared.rule.Rule.{Rule}
use Rattle.mq_rules.specs.contracts.rule.Rule.{the_type}
use Rattle.mq_rules.specs.declared.rule.Rule.TheVariants.{W01, F01, F02, F03, F04, F05, F06, V03, V04, V06, A01, A02, A03}
use Rattle.mq_rules.specs.declared.fate.Fate.{Fate}
use Rattle.mq_rules.specs.declared.fate.Fate.TheVariants.{Void}
use Rattle.mq_rules.specs.declared.note.Seen.{Seen}
use Rattle.mq_connections.specs.declared.manners.Manners.{Manners}
use Rattle.mq_connections.specs.declared.manners.MannersPlaces.{MannersPlaces}
use Rattle.mq_rules.specs.Notes.{connack_of, connect_method, connect_of, is_open}
use Rattle.mq_rules.specs.Moments.{Moment, newest, note, some, first_found}
use Rattle.mq_rules.specs.Connections.{connection, first_connack, first_connect}
use Rattle.mq_rules.specs.FurtherPasts.{breaks_F01, breaks_F02, breaks_F03, breaks_F04, breaks_F05, breaks_F06, breaks_V03, breaks_V04, breaks_V06, breaks_A01, breaks_A02, breaks_A03, applies_F01, applies_F02, applies_F03, applies_F04, applies_F05, applies_F06, applies_V03, applies_V04, applies_V06, applies_A01, applies_A02, applies_A03, hears_connack}
use Rattle.mq_rules.specs.Rules.{binds, found_line, is_further, is_on_times, line_of, lines, same_rule}
use Rattle.mq_rules.specs.Statements.{on_past, statement, is_by_past, is_on_further}
use Rattle.mq_rules.specs.Steps.{shows, turns}
use Rattle.mq_rules.specs.Under.{Follows}
use Rattle.mq_rules.specs.Growing.{added, at_place, Gains, GainsWithin, Judges, JudgesWithin, news}
use Rattle.mq_rules.specs.Occasions.{occasion, places}
use Rattle.mq_rules.specs.Burden.{methods_kept}
use Rattle.mq_connections.specs.Finding.{is_among}
use Rattle.mq_connections.specs.Manners.{connack_after, connect_after, heard_after, manners_weigh, method_after, further_verdicts, tries_F01, tries_F02, tries_F03, tries_F04, tries_F05, tries_F06, tries_shares, tries_V06, tries_A01, tries_A02, tries_A03, CountsManners, IsManners}
use Rattle.mq_rules.specs.FaultKeys.{FaultMap, fault_at}
use Rattle.mq_rules.proofs.Exports.{and_false, first_found-next, gains_nothing, or-turn, places-most, places-past, places-start, places-unbound, some-next}
use Rattle.mq_connections.proofs.FindLaws.{among-picked, found_news, past_says, pick, picked, client, server}

-- ---- what is found

-- they are those on the past of a connection that need no times
abbrev is_untimed : Rule → Bool
is_untimed rule = is_further rule && not (is_on_times rule)

-- they are asked for, with those on times or without
abbrev requested : Bool → Further
requested times = record { on_request = true; with_times = times }

-- a CONNACK was heard on the latest connection
abbrev heard_on : List Seen → Bool
heard_on past = some (λ j. hears_connack (note j)) (connection past)

-- the Authentication Method of its CONNECT
abbrev method_on : Role → List Seen → Option (Option (List ℕ))
method_on role past = first_found (connect_method role) (connection past)

last : (b : Bool) → (b || false) ≡ (b && true)
last true = refl
last false = refl

client-further : (releases times : Bool) (e : Seen) (past : List Seen) (rule : Rule)
    → picked (further_verdicts Client (first_connect Client (connection past)) (first_connack Client (connection past)) (heard_on past) (method_on Client past) e.note) rule ≡ ((is_untimed rule && past_says (statement Client rule) (newest e past)) && binds rule (client releases (requested times)))
unfolding picked pick past_says found_line lines line_of breaks_F01 breaks_F02 breaks_F03 breaks_F04 breaks_F05 breaks_F06 breaks_V03 breaks_V04 breaks_V06 breaks_A01 breaks_A02 breaks_A03
client-further releases times e past F01 = last (breaks_F01 (newest e past))
client-further releases times e past F02 = last (breaks_F02 (newest e past))
client-further releases times e past F03 = last (breaks_F03 (newest e past))
client-further releases times e past F04 = last (breaks_F04 (newest e past))
client-further releases times e past F05 = sym (and_false (breaks_F05 (newest e past)))
client-further releases times e past F06 = sym (and_false (breaks_F06 (newest e past)))
client-further releases times e past V03 = last (breaks_V03 (newest e past))
client-further releases times e past V04 = last (breaks_V04 (newest e past))
client-further releases times e past V06 = last (breaks_V06 Client (newest e past))
client-further releases times e past A01 = last (breaks_A01 (newest e past))
client-further releases times e past A02 = last (breaks_A02 Client (newest e past))
client-further releases times e past A03 = last (breaks_A03 Client (newest e past))
client-further releases times e past _ = refl

server-further : (releases times : Bool) (e : Seen) (past : List Seen) (rule : Rule)
    → picked (further_verdicts Server (first_connect Server (connection past)) (first_connack Server (connection past)) (heard_on past) (method_on Server past) e.note) rule ≡ ((is_untimed rule && past_says (statement Server rule) (newest e past)) && binds rule (server releases (requested times)))
unfolding picked pick past_says found_line lines line_of breaks_F01 breaks_F02 breaks_F03 breaks_F04 breaks_F05 breaks_F06 breaks_V03 breaks_V04 breaks_V06 breaks_A01 breaks_A02 breaks_A03
server-further releases times e past F01 = sym (and_false (breaks_F01 (newest e past)))
server-further releases times e past F02 = sym (and_false (breaks_F02 (newest e past)))
server-further releases times e past F03 = sym (and_false (breaks_F03 (newest e past)))
server-further releases times e past F04 = sym (and_false (breaks_F04 (newest e past)))
server-further releases times e past F05 = last (breaks_F05 (newest e past))
server-further releases times e past F06 = last (breaks_F06 (newest e past))
server-further releases times e past V03 = sym (and_false (breaks_V03 (newest e past)))
server-further releases times e past V04 = sym (and_false (breaks_V04 (newest e past)))
server-further releases times e past V06 = last (breaks_V06 Server (newest e past))
server-further releases times e past A01 = sym (and_false (breaks_A01 (newest e past)))
server-further releases times e past A02 = last (breaks_A02 Server (newest e past))
server-further releases times e past A03 = last (breaks_A03 Server (newest e past))
server-further releases times e past _ = refl

-- by what is kept, exactly the further statements that are false at an event are found there
finds : (tested : Tested) (e : Seen) (past : List Seen) (rule : Rule) → tested.further.on_request ≡ true
    → is_among (further_verdicts tested.role (first_connect tested.role (connection past)) (first_connack tested.role (connection past)) (heard_on past) (method_on tested.role past) e.note) rule ≡ ((is_untimed rule && past_says (statement tested.role rule) (newest e past)) && binds rule tested)
finds tested e past rule asked =
    among-picked (further_verdicts tested.role (first_connect tested.role (connection past)) (first_connack tested.role (connection past)) (heard_on past) (method_on tested.role past) e.note) rule
    ∙ go tested.role tested.releases tested.further.with_times
    ∙ ap (λ f. (is_untimed rule && past_says (statement tested.role rule) (newest e past)) && binds rule (record { role = tested.role; releases = tested.releases; further = record { on_request = f; with_times = tested.further.with_times } })) (sym asked)
  where
    go : (role : Role) (releases times : Bool) → picked (further_verdicts role (first_connect role (connection past)) (first_connack role (connection past)) (heard_on past) (method_on role past) e.note) rule
        ≡ ((is_untimed rule && past_says (statement role rule) (newest e past)) && binds rule (record { role = role; releases = releases; further = requested times }))
    go Client releases times = client-further releases times e past rule
    go Server releases times = server-further releases times e past rule

-- the same of a watcher
found_by : (m : Manners) (tested : Tested) (taken : Option Fate) (e : Seen) (past : List Seen) (rule : Rule) → m.further ≡ true → IsManners m tested taken past
    → is_among (further_verdicts m.role m.connect m.connack m.has_heard_connack m.method e.note) rule ≡ ((is_untimed rule && past_says (statement tested.role rule) (newest e past)) && binds rule tested)
found_by m tested taken e past rule asked here =
    (λ i. is_among (further_verdicts (here.same_role i) (here.same_connect asked i) (here.same_connack asked i) (here.same_heard asked i) (here.same_method asked i) e.note) rule) ∙ finds tested e past rule (sym here.same_further ∙ asked)

at_place-further : (m : Manners) (tested : Tested) (taken : Option Fate) (e : Seen) (past : List Seen) (k : ℕ) (rule : Rule) → m.further ≡ true → e.place.position ≡ length past + 1 → IsManners m tested taken past
    → at_place e.place k (is_among (further_verdicts m.role m.connect m.connack m.has_heard_connack m.method e.note) rule) ≡ news (is_on_further tested) tested e past k rule
unfolding turns
at_place-further m tested taken e past k rule asked placed here =
    found_news (statement tested.role rule) (is_untimed rule) (binds rule tested) (is_among (further_verdicts m.role m.connect m.connack m.has_heard_connack m.method e.note) rule) tested.role e past k placed (found_by m tested taken e past rule asked here)

pub further-gains : (m : Manners) (tested : Tested) (taken : Option Fate) (e : Seen) (past : List Seen) (old new : FaultMap) → m.further ≡ true → Follows tested e past → IsManners m tested taken past
    → Judges (is_among (further_verdicts m.role m.connect m.connack m.has_heard_connack m.method e.note)) e.place old new
    → Gains (λ k r. is_on_further tested r && turns tested e past k r) tested (e ∷ past) (length past + 1) old new
further-gains m tested taken e past old new asked follows here h = record {
  each = λ k rule. h.each k rule ∙ ap (option_or (fault_at old k rule)) (at_place-further m tested taken e past k rule asked follows.placed.0 here);
}

pub further-within : (m : Manners) (tested : Tested) (taken : Option Fate) (e : Seen) (past : List Seen) (old new : FaultMap) → m.further ≡ true → Follows tested e past → IsManners m tested taken past
    → JudgesWithin (is_among (further_verdicts m.role m.connect m.connack m.has_heard_connack m.method e.note)) e.place old new
    → GainsWithin (λ k r. is_on_further tested r && turns tested e past k r) tested (e ∷ past) (length past + 1) old new
further-within m tested taken e past old new asked follows here h = record { each = λ k rule. go k rule (h.each k rule) }
  where
    go : (k : ℕ) (rule : Rule) → (fault_at new k rule ≡ fault_at old k rule) ⊎ (fault_at new k rule ≡ option_or (fault_at old k rule) (at_place e.place k (is_among (further_verdicts m.role m.connect m.connack m.has_heard_connack m.method e.note) rule)))
        → (fault_at new k rule ≡ fault_at old k rule) ⊎ (fault_at new k rule ≡ option_or (fault_at old k rule) (added (λ k r. is_on_further tested r && turns tested e past k r) tested (e ∷ past) (length past + 1) k rule))
    go k rule (inl same) = inl same
    go k rule (inr more) = inr (more ∙ ap (option_or (fault_at old k rule)) (at_place-further m tested taken e past k rule asked follows.placed.0 here))

-- ---- where the further statements aren't asked for

-- then none of them binds the end
unbound : (role : Role) (releases times : Bool) (r : Rule) → (is_untimed r && binds r (record { role = role; releases = releases; further = record { on_request = false; with_times = times } })) ≡ false
unfolding found_line lines line_of
unbound Client releases times W01 = refl
unbound Client releases times _ = refl
unbound Server releases times W01 = refl
unbound Server releases times _ = refl

not-bound : (tested : Tested) (r : Rule) → tested.further.on_request ≡ false → (is_untimed r && binds r tested) ≡ false
not-bound tested r off = ap (λ f. is_untimed r && binds r (record { role = tested.role; releases = tested.releases; further = record { on_request = f; with_times = tested.further.with_times } })) off ∙ unbound tested.role tested.releases tested.further.with_times r

apart : (a f b s : Bool) → (f && b) ≡ false → ((a && f) && (b && s)) ≡ false
apart false f b s h = refl
apart true false b s h = refl
apart true true false s h = refl
apart true true true s h = absurd (cc)

pub unasked-gains : (tested : Tested) (e : Seen) (past : List Seen) (m : FaultMap) → tested.further.on_request ≡ false → Gains (λ k r. is_on_further tested r && turns tested e past k r) tested (e ∷ past) (length past + 1) m m
unfolding turns
unasked-gains tested e past m off = gains_nothing (λ k r. is_on_further tested r && turns tested e past k r) tested (e ∷ past) (length past + 1) m
    (λ k r. apart (is_by_past (statement tested.role r)) (is_untimed r) (binds r tested) (shows tested.role (statement tested.role r) e past k) (not-bound tested r off))

-- ---- the Authentication Method that is kept

-- the method of a CONNECT, as it counts
abbrev weighed : Option (Option (List ℕ)) → ℕ
weighed method = cond (is_some (option_and_then (λ method. method) method)) 1 0

method-next : (old new : Manners) (tested : Tested) (taken : Option Fate) (e : Seen) (past : List Seen) → IsManners old tested taken past → old.further ≡ true → new.method ≡ method_after old.role old.method e.note
    → new.method ≡ method_on tested.role (e ∷ past)
method-next old new tested taken e past here asked method =
    method ∙ (λ i. method_after (here.same_role i) (here.same_method asked i) e.note) ∙ sym (first_found-next (connect_method tested.role) e past)

bound-asked : (role : Role) (releases times : Bool) → binds A03 (record { role = role; releases = releases; further = requested times }) ≡ true
unfolding found_line lines line_of
bound-asked Client releases times = refl
bound-asked Server releases times = refl

bound-unasked : (tested : Tested) → tested.further.on_request ≡ false → binds A03 tested ≡ false
unfolding found_line lines line_of
bound-unasked tested off = not-bound tested A03 off

-- what is kept counts as much as the log gives to keep, where the statements are asked for
kept-many : (m : Manners) (tested : Tested) (log : List Seen) → tested.further.on_request ≡ true → m.method ≡ method_on tested.role log → manners_weigh m ≡ methods_kept tested log
unfolding methods_kept
kept-many m tested log asked same =
    ap weighed same
    ∙ sym (ap (λ b. cond (b && is_some (option_and_then (λ method. method) (method_on tested.role log))) 1 0)
    (ap (λ f. binds A03 (record { role = tested.role; releases = tested.releases; further = record { on_request = f; with_times = tested.further.with_times } })) asked ∙ bound-asked tested.role tested.releases tested.further.with_times))

pub many-next : (old new : Manners) (tested : Tested) (taken : Option Fate) (e : Seen) (past : List Seen) → IsManners old tested taken past → old.further ≡ true → new.method ≡ method_after old.role old.method e.note
    → manners_weigh new ≡ methods_kept tested (e ∷ past)
many-next old new tested taken e past here asked method = kept-many new tested (e ∷ past) (sym here.same_further ∙ asked) (method-next old new tested taken e past here asked method)

-- and where they aren't asked for, that is nothing
none-kept : (tested : Tested) (log : List Seen) → tested.further.on_request ≡ false → methods_kept tested log ≡ 0
unfolding methods_kept
none-kept tested log off = ap (λ b. cond (b && is_some (option_and_then (λ method. method) (method_on tested.role log))) 1 0) (bound-unasked tested off)

none-said : (tested : Tested) → methods_kept tested [] ≡ 0
unfolding methods_kept
none-said tested = ap (λ (b : Bool). cond b 1 0) (and_false (binds A03 tested))

-- before any event
pub manners-start : (m : Manners) (tested : Tested) → m.role ≡ tested.role → m.further ≡ tested.further.on_request → m.connect ≡ None → m.connack ≡ None → m.has_heard_connack ≡ false → m.method ≡ None → IsManners m tested (Some Void) []
manners-start m tested role further connect connack heard method = record {
  same_role = role;
  same_further = further;
  same_connect = λ asked. connect;
  same_connack = λ asked. connack;
  same_heard = λ asked. heard;
  same_method = λ asked. method;
  as_many = ap weighed method ∙ sym (none-said tested);
}

-- ---- what is kept with one event more

pub manners-next : (old new : Manners) (tested : Tested) (taken after : Option Fate) (e : Seen) (past : List Seen) → IsManners old tested taken past → new.role ≡ old.role → new.further ≡ old.further
    → (old.further ≡ true → new.connect ≡ connect_after old.role old.connect e.note) → (old.further ≡ true → new.connack ≡ connack_after old.role old.connack e.note)
    → (old.further ≡ true → new.has_heard_connack ≡ heard_after old.has_heard_connack e.note) → (old.further ≡ true → new.method ≡ method_after old.role old.method e.note)
    → manners_weigh new ≡ methods_kept tested (e ∷ past) → IsManners new tested after (e ∷ past)
manners-next old new tested taken after e past here role further connect connack heard method many = record {
  same_role = role ∙ here.same_role;
  same_further = further ∙ here.same_further;
  same_connect = λ asked.
      let was = sym further ∙ asked in
      connect was ∙ (λ i. connect_after (here.same_role i) (here.same_connect was i) e.note) ∙ sym (first_found-next (connect_of tested.role) e past);
  same_connack = λ asked.
      let was = sym further ∙ asked in
      connack was ∙ (λ i. connack_after (here.same_role i) (here.same_connack was i) e.note) ∙ sym (first_found-next (connack_of tested.role) e past);
  same_heard = λ asked.
      let was = sym further ∙ asked in
      heard was ∙ ap (λ b. heard_after b e.note) (here.same_heard was)
      ∙ sym (some-next (λ j. hears_connack (note j)) e past ∙ or-turn (hears_connack e.note) (not (is_open e.note) && heard_on past));
  same_method = λ asked. method-next old new tested taken e past here (sym further ∙ asked) (method (sym further ∙ asked));
  as_many = many;
}

-- where they aren't asked for, nothing is kept
pub unasked-stays : (m : Manners) (tested : Tested) (taken after : Option Fate) (e : Seen) (past : List Seen) → m.further ≡ false → IsManners m tested taken past → IsManners m tested after (e ∷ past)
unasked-stays m tested taken after e past off here = manners-next m m tested taken after e past here refl refl (λ asked. absurd (cc)) (λ asked. absurd (cc)) (λ asked. absurd (cc)) (λ asked. absurd (cc))
    (here.as_many ∙ none-kept tested past (sym here.same_further ∙ off) ∙ sym (none-kept tested (e ∷ past) (sym here.same_further ∙ off)))

-- ---- how often each is put to the test

tried-F01 : (role : Role) (releases times : Bool) (e : Seen) (past : List Seen) → (binds F01 (record { role = role; releases = releases; further = requested times }) && applies_F01 (newest e past)) ≡ tries_F01 role (first_connack role (connection past)) e.note
unfolding found_line lines line_of applies_F01
tried-F01 Client releases times e past = refl
tried-F01 Server releases times e past = refl

tried-F02 : (role : Role) (releases times : Bool) (e : Seen) (past : List Seen) → (binds F02 (record { role = role; releases = releases; further = requested times }) && applies_F02 (newest e past)) ≡ tries_F02 role (first_connack role (connection past)) e.note
unfolding found_line lines line_of applies_F02
tried-F02 Client releases times e past = refl
tried-F02 Server releases times e past = refl

tried-F03 : (role : Role) (releases times : Bool) (e : Seen) (past : List Seen) → (binds F03 (record { role = role; releases = releases; further = requested times }) && applies_F03 (newest e past)) ≡ tries_F03 role (first_connack role (connection past)) e.note
unfolding found_line lines line_of applies_F03
tried-F03 Client releases times e past = refl
tried-F03 Server releases times e past = refl

tried-F04 : (role : Role) (releases times : Bool) (e : Seen) (past : List Seen) → (binds F04 (record { role = role; releases = releases; further = requested times }) && applies_F04 (newest e past)) ≡ tries_F04 role (first_connack role (connection past)) e.note
unfolding found_line lines line_of applies_F04
tried-F04 Client releases times e past = refl
tried-F04 Server releases times e past = refl

tried-F05 : (role : Role) (releases times : Bool) (e : Seen) (past : List Seen) → (binds F05 (record { role = role; releases = releases; further = requested times }) && applies_F05 (newest e past)) ≡ tries_F05 role (first_connect role (connection past)) e.note
unfolding found_line lines line_of applies_F05
tried-F05 Client releases times e past = refl
tried-F05 Server releases times e past = refl

tried-F06 : (role : Role) (releases times : Bool) (e : Seen) (past : List Seen) → (binds F06 (record { role = role; releases = releases; further = requested times }) && applies_F06 (newest e past)) ≡ tries_F06 role (first_connect role (connection past)) e.note
unfolding found_line lines line_of applies_F06
tried-F06 Client releases times e past = refl
tried-F06 Server releases times e past = refl

tried-V03 : (role : Role) (releases times : Bool) (e : Seen) (past : List Seen) → (binds V03 (record { role = role; releases = releases; further = requested times }) && applies_V03 (newest e past)) ≡ tries_shares role e.note
unfolding found_line lines line_of applies_V03
tried-V03 Client releases times e past = refl
tried-V03 Server releases times e past = refl

tried-V04 : (role : Role) (releases times : Bool) (e : Seen) (past : List Seen) → (binds V04 (record { role = role; releases = releases; further = requested times }) && applies_V04 (newest e past)) ≡ tries_shares role e.note
unfolding found_line lines line_of applies_V04
tried-V04 Client releases times e past = refl
tried-V04 Server releases times e past = refl

tried-V06 : (role : Role) (releases times : Bool) (e : Seen) (past : List Seen) → (binds V06 (record { role = role; releases = releases; further = requested times }) && applies_V06 role (newest e past)) ≡ tries_V06 role e.note
unfolding found_line lines line_of applies_V06
tried-V06 Client releases times e past = refl
tried-V06 Server releases times e past = refl

tried-A01 : (role : Role) (releases times : Bool) (e : Seen) (past : List Seen) → (binds A01 (record { role = role; releases = releases; further = requested times }) && applies_A01 (newest e past)) ≡ tries_A01 role (first_connect role (connection past)) (heard_on past) e.note
unfolding found_line lines line_of applies_A01
tried-A01 Client releases times e past = refl
tried-A01 Server releases times e past = refl

tried-A02 : (role : Role) (releases times : Bool) (e : Seen) (past : List Seen) → (binds A02 (record { role = role; releases = releases; further = requested times }) && applies_A02 role (newest e past)) ≡ tries_A02 role (first_connect role (connection past)) e.note
unfolding found_line lines line_of applies_A02
tried-A02 Client releases times e past = refl
tried-A02 Server releases times e past = refl

tried-A03 : (role : Role) (releases times : Bool) (e : Seen) (past : List Seen) → (binds A03 (record { role = role; releases = releases; further = requested times }) && applies_A03 role (newest e past)) ≡ tries_A03 role (method_on role past) e.note
unfolding found_line lines line_of applies_A03
tried-A03 Client releases times e past = refl
tried-A03 Server releases times e past = refl

-- one event more: what is counted of a statement
counted : (tested : Tested) (rule : Rule) (test : Moment → Bool) (tries : Bool) (e : Seen) (past : List Seen) (old new at : ℕ) → occasion tested.role rule ≡ Some (on_past test) → (binds rule tested && test (newest e past)) ≡ tries
    → at ≡ length past + 1 → old ≡ places tested past rule → (old < at → new ≡ cond tries 1 0 + old) → new ≡ places tested (e ∷ past) rule
counted tested rule test tries e past old new at says is placed was more =
    let most = places-most tested past rule in
    more (omega (arith, was, most, placed))
    ∙ ap (λ n. cond tries 1 0 + n) was
    ∙ ap (λ b. cond b 1 0 + places tested past rule) (sym is)
    ∙ sym (places-past tested rule test e past says)

asked-for : (tested : Tested) → tested.further.on_request ≡ true → tested ≡ record { role = tested.role; releases = tested.releases; further = requested tested.further.with_times }
asked-for tested asked = ap (λ f. record { role = tested.role; releases = tested.releases; further = record { on_request = f; with_times = tested.further.with_times } }) asked

-- what is counted at an event
pub record Counted (m : Manners) (old new : MannersPlaces) (e : Seen) : Type 0 where
  pub f01 : old.f01 < e.place.position → new.f01 ≡ cond (tries_F01 m.role m.connack e.note) 1 0 + old.f01
  pub f02 : old.f02 < e.place.position → new.f02 ≡ cond (tries_F02 m.role m.connack e.note) 1 0 + old.f02
  pub f03 : old.f03 < e.place.position → new.f03 ≡ cond (tries_F03 m.role m.connack e.note) 1 0 + old.f03
  pub f04 : old.f04 < e.place.position → new.f04 ≡ cond (tries_F04 m.role m.connack e.note) 1 0 + old.f04
  pub f05 : old.f05 < e.place.position → new.f05 ≡ cond (tries_F05 m.role m.connect e.note) 1 0 + old.f05
  pub f06 : old.f06 < e.place.position → new.f06 ≡ cond (tries_F06 m.role m.connect e.note) 1 0 + old.f06
  pub v03 : old.v03 < e.place.position → new.v03 ≡ cond (tries_shares m.role e.note) 1 0 + old.v03
  pub v04 : old.v04 < e.place.position → new.v04 ≡ cond (tries_shares m.role e.note) 1 0 + old.v04
  pub v06 : old.v06 < e.place.position → new.v06 ≡ cond (tries_V06 m.role e.note) 1 0 + old.v06
  pub a01 : old.a01 < e.place.position → new.a01 ≡ cond (tries_A01 m.role m.connect m.has_heard_connack e.note) 1 0 + old.a01
  pub a02 : old.a02 < e.place.position → new.a02 ≡ cond (tries_A02 m.role m.connect e.note) 1 0 + old.a02
  pub a03 : old.a03 < e.place.position → new.a03 ≡ cond (tries_A03 m.role m.method e.note) 1 0 + old.a03

pub counts-next : (m : Manners) (old new : MannersPlaces) (tested : Tested) (taken : Option Fate) (e : Seen) (past : List Seen) → m.further ≡ true → Follows tested e past → IsManners m tested taken past → CountsManners old tested past
    → Counted m old new e → CountsManners new tested (e ∷ past)
counts-next m old new tested taken e past asked follows here was more = record {
  f01 = counted tested F01 applies_F01 (tries_F01 m.role m.connack e.note) e past old.f01 new.f01 e.place.position refl
      (ap (λ t. binds F01 t && applies_F01 (newest e past)) whole ∙ tried-F01 tested.role tested.releases tested.further.with_times e past ∙ sym (λ i. tries_F01 (here.same_role i) (here.same_connack asked i) e.note)) follows.placed.0 was.f01 more.f01;
  f02 = counted tested F02 applies_F02 (tries_F02 m.role m.connack e.note) e past old.f02 new.f02 e.place.position refl
      (ap (λ t. binds F02 t && applies_F02 (newest e past)) whole ∙ tried-F02 tested.role tested.releases tested.further.with_times e past ∙ sym (λ i. tries_F02 (here.same_role i) (here.same_connack asked i) e.note)) follows.placed.0 was.f02 more.f02;
  f03 = counted tested F03 applies_F03 (tries_F03 m.role m.connack e.note) e past old.f03 new.f03 e.place.position refl
      (ap (λ t. binds F03 t && applies_F03 (newest e past)) whole ∙ tried-F03 tested.role tested.releases tested.further.with_times e past ∙ sym (λ i. tries_F03 (here.same_role i) (here.same_connack asked i) e.note)) follows.placed.0 was.f03 more.f03;
  f04 = counted tested F04 applies_F04 (tries_F04 m.role m.connack e.note) e past old.f04 new.f04 e.place.position refl
      (ap (λ t. binds F04 t && applies_F04 (newest e past)) whole ∙ tried-F04 tested.role tested.releases tested.further.with_times e past ∙ sym (λ i. tries_F04 (here.same_role i) (here.same_connack asked i) e.note)) follows.placed.0 was.f04 more.f04;
  f05 = counted tested F05 applies_F05 (tries_F05 m.role m.connect e.note) e past old.f05 new.f05 e.place.position refl
      (ap (λ t. binds F05 t && applies_F05 (newest e past)) whole ∙ tried-F05 tested.role tested.releases tested.further.with_times e past ∙ sym (λ i. tries_F05 (here.same_role i) (here.same_connect asked i) e.note)) follows.placed.0 was.f05 more.f05;
  f06 = counted tested F06 applies_F06 (tries_F06 m.role m.connect e.note) e past old.f06 new.f06 e.place.position refl
      (ap (λ t. binds F06 t && applies_F06 (newest e past)) whole ∙ tried-F06 tested.role tested.releases tested.further.with_times e past ∙ sym (λ i. tries_F06 (here.same_role i) (here.same_connect asked i) e.note)) follows.placed.0 was.f06 more.f06;
  v03 = counted tested V03 applies_V03 (tries_shares m.role e.note) e past old.v03 new.v03 e.place.position refl
      (ap (λ t. binds V03 t && applies_V03 (newest e past)) whole ∙ tried-V03 tested.role tested.releases tested.further.with_times e past ∙ sym (λ i. tries_shares (here.same_role i) e.note)) follows.placed.0 was.v03 more.v03;
  v04 = counted tested V04 applies_V04 (tries_shares m.role e.note) e past old.v04 new.v04 e.place.position refl
      (ap (λ t. binds V04 t && applies_V04 (newest e past)) whole ∙ tried-V04 tested.role tested.releases tested.further.with_times e past ∙ sym (λ i. tries_shares (here.same_role i) e.note)) follows.placed.0 was.v04 more.v04;
  v06 = counted tested V06 (applies_V06 tested.role) (tries_V06 m.role e.note) e past old.v06 new.v06 e.place.position refl
      (ap (λ t. binds V06 t && applies_V06 tested.role (newest e past)) whole ∙ tried-V06 tested.role tested.releases tested.further.with_times e past ∙ sym (λ i. tries_V06 (here.same_role i) e.note)) follows.placed.0 was.v06 more.v06;
  a01 = counted tested A01 applies_A01 (tries_A01 m.role m.connect m.has_heard_connack e.note) e past old.a01 new.a01 e.place.position refl
      (ap (λ t. binds A01 t && applies_A01 (newest e past)) whole ∙ tried-A01 tested.role tested.releases tested.further.with_times e past ∙ sym (λ i. tries_A01 (here.same_role i) (here.same_connect asked i) (here.same_heard asked i) e.note)) follows.placed.0 was.a01 more.a01;
  a02 = counted tested A02 (applies_A02 tested.role) (tries_A02 m.role m.connect e.note) e past old.a02 new.a02 e.place.position refl
      (ap (λ t. binds A02 t && applies_A02 tested.role (newest e past)) whole ∙ tried-A02 tested.role tested.releases tested.further.with_times e past ∙ sym (λ i. tries_A02 (here.same_role i) (here.same_connect asked i) e.note)) follows.placed.0 was.a02 more.a02;
  a03 = counted tested A03 (applies_A03 tested.role) (tries_A03 m.role m.method e.note) e past old.a03 new.a03 e.place.position refl
      (ap (λ t. binds A03 t && applies_A03 tested.role (newest e past)) whole ∙ tried-A03 tested.role tested.releases tested.further.with_times e past ∙ sym (λ i. tries_A03 (here.same_role i) (here.same_method asked i) e.note)) follows.placed.0 was.a03 more.a03;
}
  where
    whole : tested ≡ record { role = tested.role; releases = tested.releases; further = requested tested.further.with_times }
    whole = asked-for tested (sym here.same_further ∙ asked)

-- where they aren't asked for, none has a place
pub counts-unasked : (p : MannersPlaces) (tested : Tested) (e : Seen) (past : List Seen) → tested.further.on_request ≡ false → CountsManners p tested past → CountsManners p tested (e ∷ past)
unfolding line_of found_line lines
counts-unasked p tested e past off was = record {
  f01 = was.f01 ∙ none F01 past refl ∙ sym (none F01 (e ∷ past) refl);
  f02 = was.f02 ∙ none F02 past refl ∙ sym (none F02 (e ∷ past) refl);
  f03 = was.f03 ∙ none F03 past refl ∙ sym (none F03 (e ∷ past) refl);
  f04 = was.f04 ∙ none F04 past refl ∙ sym (none F04 (e ∷ past) refl);
  f05 = was.f05 ∙ none F05 past refl ∙ sym (none F05 (e ∷ past) refl);
  f06 = was.f06 ∙ none F06 past refl ∙ sym (none F06 (e ∷ past) refl);
  v03 = was.v03 ∙ none V03 past refl ∙ sym (none V03 (e ∷ past) refl);
  v04 = was.v04 ∙ none V04 past refl ∙ sym (none V04 (e ∷ past) refl);
  v06 = was.v06 ∙ none V06 past refl ∙ sym (none V06 (e ∷ past) refl);
  a01 = was.a01 ∙ none A01 past refl ∙ sym (none A01 (e ∷ past) refl);
  a02 = was.a02 ∙ none A02 past refl ∙ sym (none A02 (e ∷ past) refl);
  a03 = was.a03 ∙ none A03 past refl ∙ sym (none A03 (e ∷ past) refl);
}
  where
    bound : (r : Rule) → is_untimed r ≡ true → binds r tested ≡ false
    bound r is = ap (λ b. b && binds r tested) (sym is) ∙ not-bound tested r off

    none : (r : Rule) (log : List Seen) → is_untimed r ≡ true → places tested log r ≡ 0
    none r log is = places-unbound tested log r (bound r is)

pub counts-start : (tested : Tested) → CountsManners (record { f01 = 0; f02 = 0; f03 = 0; f04 = 0; f05 = 0; f06 = 0; v03 = 0; v04 = 0; v06 = 0; a01 = 0; a02 = 0; a03 = 0 }) tested []
counts-start tested = record {
  f01 = sym (places-start tested F01);
  f02 = sym (places-start tested F02);
  f03 = sym (places-start tested F03);
  f04 = sym (places-start tested F04);
  f05 = sym (places-start tested F05);
  f06 = sym (places-start tested F06);
  v03 = sym (places-start tested V03);
  v04 = sym (places-start tested V04);
  v06 = sym (places-start tested V06);
  a01 = sym (places-start tested A01);
  a02 = sym (places-start tested A02);
  a03 = sym (places-start tested A03);
}

-- these are the further statements on the past of a connection, without those on times
pub is-whole : (role : Role) (rule : Rule) → (is_by_past (statement role rule) && is_untimed rule) ≡ (same_rule rule F01 || (same_rule rule F02 || (same_rule rule F03 || (same_rule rule F04 || (same_rule rule F05 || (same_rule rule F06 || (same_rule rule V03 || (same_rule rule V04 || (same_rule rule V06 || (same_rule rule A01 || (same_rule rule A02 || same_rule rule A03)))))))))))
unfolding found_line lines line_of
is-whole role W01 = refl
is-whole role _ = refl

is-F01 : (role : Role) → (is_by_past (statement role F01) && is_untimed F01) ≡ true
unfolding found_line lines line_of
is-F01 role = refl

is-F02 : (role : Role) → (is_by_past (statement role F02) && is_untimed F02) ≡ true
unfolding found_line lines line_of
is-F02 role = refl

is-F03 : (role : Role) → (is_by_past (statement role F03) && is_untimed F03) ≡ true
unfolding found_line lines line_of
is-F03 role = refl

is-F04 : (role : Role) → (is_by_past (statement role F04) && is_untimed F04) ≡ true
unfolding found_line lines line_of
is-F04 role = refl

is-F05 : (role : Role) → (is_by_past (statement role F05) && is_untimed F05) ≡ true
unfolding found_line lines line_of
is-F05 role = refl

is-F06 : (role : Role) → (is_by_past (statement role F06) && is_untimed F06) ≡ true
unfolding found_line lines line_of
is-F06 role = refl

is-V03 : (role : Role) → (is_by_past (statement role V03) && is_untimed V03) ≡ true
unfolding found_line lines line_of
is-V03 role = refl

is-V04 : (role : Role) → (is_by_past (statement role V04) && is_untimed V04) ≡ true
unfolding found_line lines line_of
is-V04 role = refl

is-V06 : (role : Role) → (is_by_past (statement role V06) && is_untimed V06) ≡ true
unfolding found_line lines line_of
is-V06 role = refl

is-A01 : (role : Role) → (is_by_past (statement role A01) && is_untimed A01) ≡ true
unfolding found_line lines line_of
is-A01 role = refl

is-A02 : (role : Role) → (is_by_past (statement role A02) && is_untimed A02) ≡ true
unfolding found_line lines line_of
is-A02 role = refl

is-A03 : (role : Role) → (is_by_past (statement role A03) && is_untimed A03) ≡ true
unfolding found_line lines line_of
is-A03 role = refl

-- what is counted of a statement, where that one is asked for
counted-there : (tested : Tested) (rule one : Rule) (past : List Seen) (n : ℕ) → same_rule rule one ≡ true → n ≡ places tested past one → is_on_further tested one ≡ true
    → Some n ≡ cond (is_on_further tested rule) (Some (places tested past rule)) None
counted-there tested rule one past n same is on =
    subst (λ r. Some n ≡ cond (is_on_further tested r) (Some (places tested past r)) None) (sym (same_true the_type tt rule one same))
    (ap Some is ∙ ap (λ (b : Bool). cond b (Some (places tested past one)) None) (sym on))

pub counted-F01 : (tested : Tested) (rule : Rule) (past : List Seen) (p : MannersPlaces) → same_rule rule F01 ≡ true → CountsManners p tested past → Some p.f01 ≡ cond (is_on_further tested rule) (Some (places tested past rule)) None
counted-F01 tested rule past p same was = counted-there tested rule F01 past p.f01 same was.f01 (is-F01 tested.role)

pub counted-F02 : (tested : Tested) (rule : Rule) (past : List Seen) (p : MannersPlaces) → same_rule rule F02 ≡ true → CountsManners p tested past → Some p.f02 ≡ cond (is_on_further tested rule) (Some (places tested past rule)) None
counted-F02 tested rule past p same was = counted-there tested rule F02 past p.f02 same was.f02 (is-F02 tested.role)

pub counted-F03 : (tested : Tested) (rule : Rule) (past : List Seen) (p : MannersPlaces) → same_rule rule F03 ≡ true → CountsManners p tested past → Some p.f03 ≡ cond (is_on_further tested rule) (Some (places tested past rule)) None
counted-F03 tested rule past p same was = counted-there tested rule F03 past p.f03 same was.f03 (is-F03 tested.role)

pub counted-F04 : (tested : Tested) (rule : Rule) (past : List Seen) (p : MannersPlaces) → same_rule rule F04 ≡ true → CountsManners p tested past → Some p.f04 ≡ cond (is_on_further tested rule) (Some (places tested past rule)) None
counted-F04 tested rule past p same was = counted-there tested rule F04 past p.f04 same was.f04 (is-F04 tested.role)

pub counted-F05 : (tested : Tested) (rule : Rule) (past : List Seen) (p : MannersPlaces) → same_rule rule F05 ≡ true → CountsManners p tested past → Some p.f05 ≡ cond (is_on_further tested rule) (Some (places tested past rule)) None
counted-F05 tested rule past p same was = counted-there tested rule F05 past p.f05 same was.f05 (is-F05 tested.role)

pub counted-F06 : (tested : Tested) (rule : Rule) (past : List Seen) (p : MannersPlaces) → same_rule rule F06 ≡ true → CountsManners p tested past → Some p.f06 ≡ cond (is_on_further tested rule) (Some (places tested past rule)) None
counted-F06 tested rule past p same was = counted-there tested rule F06 past p.f06 same was.f06 (is-F06 tested.role)

pub counted-V03 : (tested : Tested) (rule : Rule) (past : List Seen) (p : MannersPlaces) → same_rule rule V03 ≡ true → CountsManners p tested past → Some p.v03 ≡ cond (is_on_further tested rule) (Some (places tested past rule)) None
counted-V03 tested rule past p same was = counted-there tested rule V03 past p.v03 same was.v03 (is-V03 tested.role)

pub counted-V04 : (tested : Tested) (rule : Rule) (past : List Seen) (p : MannersPlaces) → same_rule rule V04 ≡ true → CountsManners p tested past → Some p.v04 ≡ cond (is_on_further tested rule) (Some (places tested past rule)) None
counted-V04 tested rule past p same was = counted-there tested rule V04 past p.v04 same was.v04 (is-V04 tested.role)

pub counted-V06 : (tested : Tested) (rule : Rule) (past : List Seen) (p : MannersPlaces) → same_rule rule V06 ≡ true → CountsManners p tested past → Some p.v06 ≡ cond (is_on_further tested rule) (Some (places tested past rule)) None
counted-V06 tested rule past p same was = counted-there tested rule V06 past p.v06 same was.v06 (is-V06 tested.role)

pub counted-A01 : (tested : Tested) (rule : Rule) (past : List Seen) (p : MannersPlaces) → same_rule rule A01 ≡ true → CountsManners p tested past → Some p.a01 ≡ cond (is_on_further tested rule) (Some (places tested past rule)) None
counted-A01 tested rule past p same was = counted-there tested rule A01 past p.a01 same was.a01 (is-A01 tested.role)

pub counted-A02 : (tested : Tested) (rule : Rule) (past : List Seen) (p : MannersPlaces) → same_rule rule A02 ≡ true → CountsManners p tested past → Some p.a02 ≡ cond (is_on_further tested rule) (Some (places tested past rule)) None
counted-A02 tested rule past p same was = counted-there tested rule A02 past p.a02 same was.a02 (is-A02 tested.role)

pub counted-A03 : (tested : Tested) (rule : Rule) (past : List Seen) (p : MannersPlaces) → same_rule rule A03 ≡ true → CountsManners p tested past → Some p.a03 ≡ cond (is_on_further tested rule) (Some (places tested past rule)) None
counted-A03 tested rule past p same was = counted-there tested rule A03 past p.a03 same was.a03 (is-A03 tested.role)

-- another statement isn't counted here
pub counted-elsewhere : (tested : Tested) (rule : Rule) (past : List Seen) → same_rule rule F01 ≡ false → same_rule rule F02 ≡ false → same_rule rule F03 ≡ false → same_rule rule F04 ≡ false → same_rule rule F05 ≡ false → same_rule rule F06 ≡ false → same_rule rule V03 ≡ false → same_rule rule V04 ≡ false → same_rule rule V06 ≡ false → same_rule rule A01 ≡ false → same_rule rule A02 ≡ false → same_rule rule A03 ≡ false
    → None ≡ cond (is_on_further tested rule) (Some (places tested past rule)) None
counted-elsewhere tested rule past f01 f02 f03 f04 f05 f06 v03 v04 v06 a01 a02 a03 =
    sym (ap (λ (t : Bool). cond t (Some (places tested past rule)) None) (is-whole tested.role rule ∙ (λ i. (f01 i || (f02 i || (f03 i || (f04 i || (f05 i || (f06 i || (v03 i || (v04 i || (v06 i || (a01 i || (a02 i || a03 i))))))))))))))
