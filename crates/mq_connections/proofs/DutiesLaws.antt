-- By what is kept of the latest connection, what the server still owes on it, and what an event shows of that.
use Rattle.std.proofs.Common.{◌≡◌, ℕ, ◌+◌, ◌<◌, Bool, true, false, cond, ◌&&◌, ◌||◌, not, List, [], ◌∷◌, length, Option, Some, None, refl, ap, sym, subst, ◌∙◌}
use Rattle.mq_packet.specs.declared.packet.PacketType.TheVariants as types
use Rattle.mq_rules.specs.declared.role.Role.{Role}
use Rattle.mq_rules.specs.declared.role.Role.TheVariants.{Server}
use Rattle.mq_rules.specs.declared.role.Tested.{Tested}
use Rattle.mq_rules.specs.declared.fate.Fate.{Fate}
use Rattle.mq_rules.specs.declared.fate.Fate.TheVariants.{Void}
use Rattle.mq_rules.specs.declared.rule.Rule.{Rule}
use Rattle.mq_rules.specs.declared.rule.Rule.TheVariants.{W01, C24, D01, D02, D03, D05}
use Rattle.mq_rules.specs.declared.note.Note.{Note}
use Rattle.mq_rules.specs.declared.note.Note.TheVariants as notes
use Rattle.mq_rules.specs.declared.note.Seen.{Seen}
use Rattle.mq_connections.specs.declared.duties.Duties.{Duties}
use Rattle.mq_connections.specs.declared.duties.DutiesPlaces.{DutiesPlaces}
use Rattle.mq_connections.specs.declared.duties.Found.{Found}
use Rattle.mq_connections.specs.declared.duties.Talk.{Talk}
use Rattle.mq_connections.specs.declared.duties.terms.Terms.{Terms}
use Rattle.mq_connections.specs.declared.duties.unfinished.Unfinished.{Unfinished}
use Rattle.mq_rules.specs.Words.{is_some_and}
use Rattle.mq_rules.specs.Notes.{connect_of, is_open, is_rest, received_exactly_once, receives_type, sends_type}
use Rattle.mq_rules.specs.Moments.{Moment, newest, note, since, some, latest}
use Rattle.mq_rules.specs.Connections.{connection, on_open, IsOnConnection}
use Rattle.mq_rules.specs.ProtocolErrors.{is_protocol_error}
use Rattle.mq_rules.specs.ReceiveMaximum.{exceeds_maximum, refuses_message, unfinished}
use Rattle.mq_rules.specs.Pasts.{came_before}
use Rattle.mq_rules.specs.FurtherRests.{applies_C24, applies_D01, applies_D02, applies_D03, applies_D05, ends_talk, is_first_of, is_unrefused, leaves_unanswered, owes_C24, owes_D01, owes_D02, owes_D03, owes_D05, receives_connect, receives_malformed, repeats_connect, says_goodbye, settles_connect, shows_C24, shows_D01, shows_D02, shows_D03, shows_D05, shows_outcome, stays_open, takes_connack}
use Rattle.mq_rules.specs.Rules.{binds, found_line, line_of, lines, same_rule}
use Rattle.mq_rules.specs.Statements.{is_by_later, is_on_later, statement}
use Rattle.mq_rules.specs.Steps.{turns}
use Rattle.mq_rules.specs.Under.{Follows}
use Rattle.mq_rules.specs.Growing.{Gains, GainsWithin}
use Rattle.mq_rules.specs.Occasions.{adds_place, places}
use Rattle.mq_rules.specs.FaultKeys.{FaultMap}
use Rattle.mq_connections.specs.Duties.{blamed_all, blamed_four, blamed_one, blamed_three, blamed_two, finds_excessive, finds_malformed, finds_mistake, finds_repeated, finds_unanswered, followed, found, leaves_now, nothing_said, owed_on, place_of, stays_now, stays_unrefused, talk, talk_after, tries_answer, tries_excess, BlamesWithin, nothing, one, two, three, four, all, CountsDuties, CountsTrial, IsDuties}
use Rattle.mq_rules.specs.Burden.{aliases_received}
use Rattle.mq_connections.specs.Terms.{finds_error, terms_weigh, IsTerms, TermsNext}
use Rattle.mq_connections.specs.Unfinished.{finds_excess, has_identifier, IsUnfinished, UnfinishedNext}
use Rattle.mq_rules.proofs.Exports.{among-some, and_false, both_true, connection-newest as connection-next, gains_either, gains_same, not_true, or-turn, rest-opens-nothing, within_all, within_either_first, within_nothing, within_same}
use Rattle.mq_connections.proofs.DutyLaws.{IsDuty, duty-gains, duty-unbound, trial-next, trial-start, trial-unbound}
use Rattle.mq_connections.proofs.LaterLaws.{IsOnce, is_at, latest-passes, once-shown}
use Rattle.mq_connections.proofs.TermsLaws.{error-known, none-received, open-no_error, terms-many, terms-next}
use Rattle.mq_connections.proofs.UnfinishedLaws.{excess-known, none-unfinished, open-no_excess, received-small, unfinished-many, unfinished-next, unfinished-start}

-- ---- which events open no connection

receives-closed : (n : Note) → receives_type types.Connect n ≡ true → is_open n ≡ false
receives-closed notes.Open h = absurd (cc)
receives-closed (notes.Close cuts part) h = refl
receives-closed notes.Rest h = refl
receives-closed (notes.Release i) h = refl
receives-closed (notes.Sent item) h = refl
receives-closed (notes.Recv item) h = refl

malformed-closed : (n : Note) → receives_malformed n ≡ true → is_open n ≡ false
malformed-closed notes.Open h = absurd (cc)
malformed-closed (notes.Close cuts part) h = refl
malformed-closed notes.Rest h = refl
malformed-closed (notes.Release i) h = refl
malformed-closed (notes.Sent item) h = refl
malformed-closed (notes.Recv item) h = refl

outcome-closed : (n : Note) → shows_outcome n ≡ true → is_open n ≡ false
outcome-closed notes.Open h = absurd (cc)
outcome-closed (notes.Close cuts part) h = refl
outcome-closed notes.Rest h = refl
outcome-closed (notes.Release i) h = refl
outcome-closed (notes.Sent item) h = refl
outcome-closed (notes.Recv item) h = refl

answer-closed : (t : Talk) (n : Note) → tries_answer t n ≡ true → is_open n ≡ false
answer-closed t notes.Open h = absurd (cc)
answer-closed t (notes.Close cuts part) h = refl
answer-closed t notes.Rest h = refl
answer-closed t (notes.Release i) h = refl
answer-closed t (notes.Sent item) h = refl
answer-closed t (notes.Recv item) h = refl

-- ---- the first of its kind on a connection comes once

once-first : (test also owes : Moment → Bool) → ((m : Moment) → owes m ≡ (is_first_of test m && also m)) → ((e : Seen) (past : List Seen) → test (newest e past) ≡ true → is_open e.note ≡ false) → IsOnce owes
once-first test also owes is closed = record {
  closed = λ e past h. closed e past (first (newest e past) h).0;
  alone = λ e past h. none past (first (newest e past) h).1 (owed_on owes past) refl;
}
  where
    first : (m : Moment) → owes m ≡ true → (test m ≡ true) × (not (some test (connection m.past)) ≡ true)
    first m h =
        let a = (both_true (is_first_of test m) (also m) (sym (is m) ∙ h)).0 in
        both_true (test m) (not (some test (connection m.past))) a

    none : (past : List Seen) → not (some test (connection past)) ≡ true → (o : Option Moment) → owed_on owes past ≡ o → o ≡ None
    none past h None here = refl
    none past h (Some m) here =
        let a = latest-passes owes past m here in
        let there : some test (connection past) ≡ true = among-some test (connection past) m a.0 (first m a.1).0 in
        absurd (cc)

once-C24 : IsOnce owes_C24
once-C24 = once-first receives_connect (λ m. is_some_and takes_connack (connect_of Server (note m))) owes_C24 (λ m. refl) (λ e past h. receives-closed e.note h)

once-D01 : IsOnce owes_D01
once-D01 = once-first (λ j. receives_malformed (note j)) (λ m. not (came_before ends_talk m)) owes_D01 (λ m. refl) (λ e past h. malformed-closed e.note h)

once-D02 : IsOnce owes_D02
once-D02 = once-first repeats_connect (λ m. not (came_before ends_talk m)) owes_D02 (λ m. refl) (λ e past h. receives-closed e.note (both_true (receives_type types.Connect e.note) (came_before (receives_type types.Connect) (newest e past)) h).0)

once-D03 : IsOnce owes_D03
once-D03 = once-first is_protocol_error (λ m. not (came_before ends_talk m)) owes_D03 (λ m. refl) (λ e past h. open-no_error e past h)

once-D05 : IsOnce owes_D05
once-D05 = once-first exceeds_maximum (λ m. not (came_before ends_talk m)) owes_D05 (λ m. refl) (λ e past h. open-no_excess e past h)

-- ---- the five statements

C24-turns : (tested : Tested) (e : Seen) (past : List Seen) (k : ℕ) → turns tested e past k C24 ≡ (binds C24 tested && (leaves_now (talk past) e.note && is_at k (owed_on owes_C24 past)))
unfolding turns shows_C24 talk
C24-turns tested e past k =
    ap (λ b. binds C24 tested && b) (once-shown owes_C24 once-C24 (leaves_unanswered (newest e past)) e past k
    (λ h. rest-opens-nothing e.note (both_true (is_rest e.note) (not (came_before settles_connect (newest e past)) && not (since (λ j. sends_type types.Auth (note j)) (λ j. receives_type types.Auth (note j)) (connection past))) h).0))

D01-turns : (tested : Tested) (e : Seen) (past : List Seen) (k : ℕ) → turns tested e past k D01 ≡ (binds D01 tested && (stays_now (talk past) e.note && is_at k (owed_on owes_D01 past)))
unfolding turns shows_D01 talk
D01-turns tested e past k =
    ap (λ b. binds D01 tested && b) (once-shown owes_D01 once-D01 (stays_open (newest e past)) e past k
    (λ h. rest-opens-nothing e.note (both_true (is_rest e.note) (not (came_before says_goodbye (newest e past))) h).0))

D02-turns : (tested : Tested) (e : Seen) (past : List Seen) (k : ℕ) → turns tested e past k D02 ≡ (binds D02 tested && (stays_now (talk past) e.note && is_at k (owed_on owes_D02 past)))
unfolding turns shows_D02 talk
D02-turns tested e past k =
    ap (λ b. binds D02 tested && b) (once-shown owes_D02 once-D02 (stays_open (newest e past)) e past k
    (λ h. rest-opens-nothing e.note (both_true (is_rest e.note) (not (came_before says_goodbye (newest e past))) h).0))

D03-turns : (tested : Tested) (e : Seen) (past : List Seen) (k : ℕ) → turns tested e past k D03 ≡ (binds D03 tested && (stays_now (talk past) e.note && is_at k (owed_on owes_D03 past)))
unfolding turns shows_D03 talk
D03-turns tested e past k =
    ap (λ b. binds D03 tested && b) (once-shown owes_D03 once-D03 (stays_open (newest e past)) e past k
    (λ h. rest-opens-nothing e.note (both_true (is_rest e.note) (not (came_before says_goodbye (newest e past))) h).0))

D05-turns : (tested : Tested) (e : Seen) (past : List Seen) (k : ℕ) → turns tested e past k D05 ≡ (binds D05 tested && (stays_unrefused (talk past) e.note && is_at k (owed_on owes_D05 past)))
unfolding turns shows_D05 talk
D05-turns tested e past k =
    ap (λ b. binds D05 tested && b) (once-shown owes_D05 once-D05 (stays_open (newest e past) && is_unrefused (newest e past)) e past k
    (λ h. rest-opens-nothing e.note (both_true (is_rest e.note) (not (came_before says_goodbye (newest e past))) (both_true (stays_open (newest e past)) (is_unrefused (newest e past)) h).0).0))

C24-placed : (tested : Tested) (e : Seen) (past : List Seen) (k : ℕ) → binds C24 tested ≡ true → adds_place tested e past k C24 ≡ (tries_answer (talk past) e.note && is_at k (owed_on owes_C24 past))
unfolding adds_place applies_C24 talk
C24-placed tested e past k bound =
    ap (λ b. binds C24 tested && b) (once-shown owes_C24 once-C24 (tries_answer (talk past) e.note) e past k (answer-closed (talk past) e.note))
    ∙ ap (λ b. b && (tries_answer (talk past) e.note && is_at k (owed_on owes_C24 past))) bound

D01-placed : (tested : Tested) (e : Seen) (past : List Seen) (k : ℕ) → binds D01 tested ≡ true → adds_place tested e past k D01 ≡ (shows_outcome e.note && is_at k (owed_on owes_D01 past))
unfolding adds_place applies_D01
D01-placed tested e past k bound =
    ap (λ b. binds D01 tested && b) (once-shown owes_D01 once-D01 (shows_outcome e.note) e past k (outcome-closed e.note))
    ∙ ap (λ b. b && (shows_outcome e.note && is_at k (owed_on owes_D01 past))) bound

D02-placed : (tested : Tested) (e : Seen) (past : List Seen) (k : ℕ) → binds D02 tested ≡ true → adds_place tested e past k D02 ≡ (shows_outcome e.note && is_at k (owed_on owes_D02 past))
unfolding adds_place applies_D02
D02-placed tested e past k bound =
    ap (λ b. binds D02 tested && b) (once-shown owes_D02 once-D02 (shows_outcome e.note) e past k (outcome-closed e.note))
    ∙ ap (λ b. b && (shows_outcome e.note && is_at k (owed_on owes_D02 past))) bound

D03-placed : (tested : Tested) (e : Seen) (past : List Seen) (k : ℕ) → binds D03 tested ≡ true → adds_place tested e past k D03 ≡ (shows_outcome e.note && is_at k (owed_on owes_D03 past))
unfolding adds_place applies_D03
D03-placed tested e past k bound =
    ap (λ b. binds D03 tested && b) (once-shown owes_D03 once-D03 (shows_outcome e.note) e past k (outcome-closed e.note))
    ∙ ap (λ b. b && (shows_outcome e.note && is_at k (owed_on owes_D03 past))) bound

D05-placed : (tested : Tested) (e : Seen) (past : List Seen) (k : ℕ) → binds D05 tested ≡ true → adds_place tested e past k D05 ≡ (tries_excess (talk past) e.note && is_at k (owed_on owes_D05 past))
unfolding adds_place applies_D05 talk
D05-placed tested e past k bound =
    ap (λ b. binds D05 tested && b) (once-shown owes_D05 once-D05 (tries_excess (talk past) e.note) e past k
    (λ h. outcome-closed e.note (both_true (shows_outcome e.note) (is_unrefused (newest e past)) h).0))
    ∙ ap (λ b. b && (tries_excess (talk past) e.note && is_at k (owed_on owes_D05 past))) bound

duty-C24 : IsDuty C24 owes_C24 leaves_now tries_answer
duty-C24 = record { once = once-C24; by = λ role. refl; turned = C24-turns; placed = C24-placed }

duty-D01 : IsDuty D01 owes_D01 stays_now (λ t n. shows_outcome n)
duty-D01 = record { once = once-D01; by = λ role. refl; turned = D01-turns; placed = D01-placed }

duty-D02 : IsDuty D02 owes_D02 stays_now (λ t n. shows_outcome n)
duty-D02 = record { once = once-D02; by = λ role. refl; turned = D02-turns; placed = D02-placed }

duty-D03 : IsDuty D03 owes_D03 stays_now (λ t n. shows_outcome n)
duty-D03 = record { once = once-D03; by = λ role. refl; turned = D03-turns; placed = D03-placed }

duty-D05 : IsDuty D05 owes_D05 stays_unrefused tries_excess
duty-D05 = record { once = once-D05; by = λ role. refl; turned = D05-turns; placed = D05-placed }

-- the server comes to owe something with an event, as what is kept says
C24-met : (e : Seen) (past : List Seen) → owes_C24 (newest e past) ≡ finds_unanswered (talk past) e.note
unfolding talk
C24-met e past = refl

D01-met : (e : Seen) (past : List Seen) → owes_D01 (newest e past) ≡ finds_malformed (talk past) e.note
unfolding talk
D01-met e past = refl

D02-met : (e : Seen) (past : List Seen) → owes_D02 (newest e past) ≡ finds_repeated (talk past) e.note
unfolding talk
D02-met e past = refl

D03-met : (e : Seen) (past : List Seen) → owes_D03 (newest e past) ≡ finds_mistake (talk past) (is_protocol_error (newest e past))
unfolding talk
D03-met e past = refl

D05-met : (e : Seen) (past : List Seen) → owes_D05 (newest e past) ≡ finds_excessive (talk past) (exceeds_maximum (newest e past))
unfolding talk
D05-met e past = refl

-- they bind the same ends
same-C24 : (tested : Tested) → binds C24 tested ≡ binds D02 tested
unfolding line_of found_line lines
same-C24 tested = refl

same-D01 : (tested : Tested) → binds D01 tested ≡ binds D02 tested
unfolding line_of found_line lines
same-D01 tested = refl

same-D03 : (tested : Tested) → binds D03 tested ≡ binds D02 tested
unfolding line_of found_line lines
same-D03 tested = refl

same-D05 : (tested : Tested) → binds D05 tested ≡ binds D02 tested
unfolding line_of found_line lines
same-D05 tested = refl

-- ---- what is kept with one event more

-- what an event is after these
abbrev pub found_after : Seen → List Seen → Found
found_after e past = record { is_error = is_protocol_error (newest e past); is_excess = exceeds_maximum (newest e past) }

-- what is kept of an event and of these before it on its connection
fresh : Seen → List Seen → List Moment → Talk
fresh e past ms = record {
  has_connect = receives_type types.Connect e.note || some receives_connect ms;
  has_repeat = repeats_connect (newest e past) || some repeats_connect ms;
  has_malformed = receives_malformed e.note || some (λ j. receives_malformed (note j)) ms;
  has_error = is_protocol_error (newest e past) || some is_protocol_error ms;
  has_excess = exceeds_maximum (newest e past) || some exceeds_maximum ms;
  has_refusal = refuses_message e.note || some (λ j. refuses_message (note j)) ms;
  has_ended = ends_talk e.note || some (λ j. ends_talk (note j)) ms;
  has_goodbye = says_goodbye e.note || some (λ j. says_goodbye (note j)) ms;
  has_settled = settles_connect e.note || some (λ j. settles_connect (note j)) ms;
  awaits_auth = sends_type types.Auth e.note || (not (receives_type types.Auth e.note) && since (λ j. sends_type types.Auth (note j)) (λ j. receives_type types.Auth (note j)) ms);
  unanswered = place_of (cond (owes_C24 (newest e past)) (Some (newest e past)) (latest owes_C24 ms));
  malformed = place_of (cond (owes_D01 (newest e past)) (Some (newest e past)) (latest owes_D01 ms));
  repeated = place_of (cond (owes_D02 (newest e past)) (Some (newest e past)) (latest owes_D02 ms));
  mistaken = place_of (cond (owes_D03 (newest e past)) (Some (newest e past)) (latest owes_D03 ms));
  excessive = place_of (cond (owes_D05 (newest e past)) (Some (newest e past)) (latest owes_D05 ms));
}

fresh-talk : (e : Seen) (past : List Seen) → talk (e ∷ past) ≡ fresh e past (cond (is_open e.note) [] (connection past))
unfolding talk fresh
fresh-talk e past = λ i. record {
  has_connect = some receives_connect (connection-next e past i);
  has_repeat = some repeats_connect (connection-next e past i);
  has_malformed = some (λ j. receives_malformed (note j)) (connection-next e past i);
  has_error = some is_protocol_error (connection-next e past i);
  has_excess = some exceeds_maximum (connection-next e past i);
  has_refusal = some (λ j. refuses_message (note j)) (connection-next e past i);
  has_ended = some (λ j. ends_talk (note j)) (connection-next e past i);
  has_goodbye = some (λ j. says_goodbye (note j)) (connection-next e past i);
  has_settled = some (λ j. settles_connect (note j)) (connection-next e past i);
  awaits_auth = since (λ j. sends_type types.Auth (note j)) (λ j. receives_type types.Auth (note j)) (connection-next e past i);
  unanswered = place_of (latest owes_C24 (connection-next e past i));
  malformed = place_of (latest owes_D01 (connection-next e past i));
  repeated = place_of (latest owes_D02 (connection-next e past i));
  mistaken = place_of (latest owes_D03 (connection-next e past i));
  excessive = place_of (latest owes_D05 (connection-next e past i));
}

same-or : (a : Bool) → (a || false) ≡ a
same-or true = refl
same-or false = refl

placed-of : (b : Bool) (m : Moment) (o : Option Moment) → place_of (cond b (Some m) o) ≡ cond b (Some m.event.place) (place_of o)
placed-of true m o = refl
placed-of false m o = refl

pub talk-next : (e : Seen) (past : List Seen) → talk (e ∷ past) ≡ talk_after (talk past) e.place e.note (found_after e past)
unfolding fresh talk
talk-next e past = fresh-talk e past ∙ go (is_open e.note) refl
  where
    connects : Bool
    connects = receives_type types.Connect e.note

    broken : Bool
    broken = receives_malformed e.note

    error : Bool
    error = is_protocol_error (newest e past)

    excess : Bool
    excess = exceeds_maximum (newest e past)

    none-found : (found owes : Bool) → owes ≡ false → found ≡ false → place_of (cond owes (Some (newest e past)) None) ≡ cond found (Some e.place) None
    none-found found owes a b = ap (λ t. place_of (cond t (Some (newest e past)) None)) a ∙ sym (ap (λ t. cond t (Some e.place) None) b)

    go : (b : Bool) → is_open e.note ≡ b → fresh e past (cond b [] (connection past)) ≡ followed (cond b nothing_said (talk past)) e.place e.note (found_after e past)
    go true opens =
        let none : connects ≡ false = not_true connects (λ h. let closed : is_open e.note ≡ false = receives-closed e.note h in absurd (cc)) in
        let sound : broken ≡ false = not_true broken (λ h. let closed : is_open e.note ≡ false = malformed-closed e.note h in absurd (cc)) in
        let no_error : error ≡ false = not_true error (λ h. let closed : is_open e.note ≡ false = open-no_error e past h in absurd (cc)) in
        let no_excess : excess ≡ false = not_true excess (λ h. let closed : is_open e.note ≡ false = open-no_excess e past h in absurd (cc)) in
        let no_repeat : repeats_connect (newest e past) ≡ false = ap (λ b. b && came_before (receives_type types.Connect) (newest e past)) none in
        let C24_none : owes_C24 (newest e past) ≡ false = ap (λ b. (b && not (some receives_connect (connection past))) && is_some_and takes_connack (connect_of Server e.note)) none in
        let D01_none : owes_D01 (newest e past) ≡ false = ap (λ b. (b && not (some (λ j. receives_malformed (note j)) (connection past))) && not (came_before ends_talk (newest e past))) sound in
        let D02_none : owes_D02 (newest e past) ≡ false = ap (λ b. (b && not (some repeats_connect (connection past))) && not (came_before ends_talk (newest e past))) no_repeat in
        let D03_none : owes_D03 (newest e past) ≡ false = ap (λ b. (b && not (some is_protocol_error (connection past))) && not (came_before ends_talk (newest e past))) no_error in
        let D05_none : owes_D05 (newest e past) ≡ false = ap (λ b. (b && not (some exceeds_maximum (connection past))) && not (came_before ends_talk (newest e past))) no_excess in
        λ i. record {
          has_connect = same-or connects i;
          has_repeat = (same-or (repeats_connect (newest e past)) ∙ no_repeat ∙ sym (and_false connects)) i;
          has_malformed = same-or broken i;
          has_error = same-or error i;
          has_excess = same-or excess i;
          has_refusal = same-or (refuses_message e.note) i;
          has_ended = same-or (ends_talk e.note) i;
          has_goodbye = same-or (says_goodbye e.note) i;
          has_settled = same-or (settles_connect e.note) i;
          awaits_auth = sends_type types.Auth e.note || (not (receives_type types.Auth e.note) && false);
          unanswered = none-found (finds_unanswered nothing_said e.note) (owes_C24 (newest e past)) C24_none (ap (λ b. (b && true) && is_some_and takes_connack (connect_of Server e.note)) none) i;
          malformed = none-found (finds_malformed nothing_said e.note) (owes_D01 (newest e past)) D01_none (ap (λ b. (b && true) && true) sound) i;
          repeated = none-found (finds_repeated nothing_said e.note) (owes_D02 (newest e past)) D02_none (ap (λ b. ((b && false) && true) && true) none) i;
          mistaken = none-found (finds_mistake nothing_said error) (owes_D03 (newest e past)) D03_none (ap (λ b. (b && true) && true) no_error) i;
          excessive = none-found (finds_excessive nothing_said excess) (owes_D05 (newest e past)) D05_none (ap (λ b. (b && true) && true) no_excess) i;
        }
    go false closed = λ i. record {
      has_connect = or-turn connects (some receives_connect (connection past)) i;
      has_repeat = or-turn (repeats_connect (newest e past)) (some repeats_connect (connection past)) i;
      has_malformed = or-turn broken (some (λ j. receives_malformed (note j)) (connection past)) i;
      has_error = or-turn error (some is_protocol_error (connection past)) i;
      has_excess = or-turn excess (some exceeds_maximum (connection past)) i;
      has_refusal = or-turn (refuses_message e.note) (some (λ j. refuses_message (note j)) (connection past)) i;
      has_ended = or-turn (ends_talk e.note) (some (λ j. ends_talk (note j)) (connection past)) i;
      has_goodbye = or-turn (says_goodbye e.note) (some (λ j. says_goodbye (note j)) (connection past)) i;
      has_settled = or-turn (settles_connect e.note) (some (λ j. settles_connect (note j)) (connection past)) i;
      awaits_auth = sends_type types.Auth e.note || (not (receives_type types.Auth e.note) && since (λ j. sends_type types.Auth (note j)) (λ j. receives_type types.Auth (note j)) (connection past));
      unanswered = placed-of (owes_C24 (newest e past)) (newest e past) (owed_on owes_C24 past) i;
      malformed = placed-of (owes_D01 (newest e past)) (newest e past) (owed_on owes_D01 past) i;
      repeated = placed-of (owes_D02 (newest e past)) (newest e past) (owed_on owes_D02 past) i;
      mistaken = placed-of (owes_D03 (newest e past)) (newest e past) (owed_on owes_D03 past) i;
      excessive = placed-of (owes_D05 (newest e past)) (newest e past) (owed_on owes_D05 past) i;
    }

-- before any event
pub duties-start : (t : Terms) (u : Unfinished) (tested : Tested) → IsTerms t [] → terms_weigh t ≡ 0 → ((i : ℕ) → has_identifier u i ≡ false)
    → IsDuties (record { is_bound = binds D02 tested; talk = nothing_said; terms = t; unfinished = u }) tested (Some Void) []
unfolding talk
duties-start t u tested is many none = record {
  same_bound = refl;
  same_talk = λ bound. refl;
  same_terms = λ bound. is;
  same_unfinished = λ bound. unfinished-start u none;
  as_many_aliases = many ∙ nothing-heard (binds D03 tested) (aliases_received []) none-received;
  as_many_identifiers = unfinished-many u [] (unfinished-start u none) ∙ none-unfinished ∙ nothing-heard (binds D05 tested) (unfinished (on_open [])) none-unfinished;
}
  where
    nothing-heard : (b : Bool) (n : ℕ) → n ≡ 0 → 0 ≡ cond b n 0
    nothing-heard true n is = sym is
    nothing-heard false n is = refl

-- what the next event is
pub duties-found : (d : Duties) (tested : Tested) (taken : Option Fate) (e : Seen) (past : List Seen) → d.is_bound ≡ true → IsOnConnection e past → IsDuties d tested taken past
    → ((j : ℕ) → received_exactly_once e.note ≡ Some j → j < 65536) → found d e.note ≡ found_after e past
unfolding talk
duties-found d tested taken e past bound on here small = λ i. record {
  is_error = (ap (λ t. finds_error t.has_connect d.terms e.note) (here.same_talk bound) ∙ error-known d.terms e past on (here.same_terms bound)) i;
  is_excess = (ap (λ c. finds_excess d.unfinished c e.note) (here.same_terms bound).same_connack ∙ excess-known d.unfinished e past on (here.same_unfinished bound) small) i;
}

pub duties-next : (old new : Duties) (tested : Tested) (taken after : Option Fate) (e : Seen) (past : List Seen) → old.is_bound ≡ true → IsOnConnection e past → IsDuties old tested taken past
    → new.is_bound ≡ old.is_bound → new.talk ≡ talk_after old.talk e.place e.note (found old e.note) → TermsNext old.terms new.terms e.note
    → UnfinishedNext old.unfinished new.unfinished e.note → IsDuties new tested after (e ∷ past)
duties-next old new tested taken after e past bound on here same kept more most = record {
  same_bound = same ∙ here.same_bound;
  same_talk = λ now.
      kept
      ∙ (λ i. talk_after (here.same_talk bound i) e.place e.note (duties-found old tested taken e past bound on here (received-small old.unfinished new.unfinished e.note most) i))
      ∙ sym (talk-next e past);
  same_terms = λ now. terms-next old.terms new.terms e past on (here.same_terms bound) more;
  same_unfinished = λ now. next;
  as_many_aliases =
      terms-many old.terms new.terms e past on (here.same_terms bound) more (here.as_many_aliases ∙ ap (λ b. cond b (aliases_received past) 0) (same-D03 tested ∙ judged))
      ∙ sym (ap (λ b. cond b (aliases_received (e ∷ past)) 0) (same-D03 tested ∙ judged));
  as_many_identifiers =
      unfinished-many new.unfinished (e ∷ past) next
      ∙ sym (ap (λ b. cond b (unfinished (on_open (e ∷ past))) 0) (same-D05 tested ∙ judged));
}
  where
    judged : binds D02 tested ≡ true
    judged = sym here.same_bound ∙ bound

    next : IsUnfinished new.unfinished (e ∷ past)
    next = unfinished-next old.unfinished new.unfinished e past on (here.same_unfinished bound) most

-- where they don't bind the end, nothing is kept
pub unbound-stays : (d : Duties) (tested : Tested) (taken after : Option Fate) (e : Seen) (past : List Seen) → d.is_bound ≡ false → IsDuties d tested taken past → IsDuties d tested after (e ∷ past)
unbound-stays d tested taken after e past off here = record {
  same_bound = here.same_bound;
  same_talk = λ bound. absurd (cc);
  same_terms = λ bound. absurd (cc);
  same_unfinished = λ bound. absurd (cc);
  as_many_aliases = here.as_many_aliases ∙ unheard (binds D03 tested) (aliases_received past) (aliases_received (e ∷ past)) (same-D03 tested ∙ unjudged);
  as_many_identifiers = here.as_many_identifiers ∙ unheard (binds D05 tested) (unfinished (on_open past)) (unfinished (on_open (e ∷ past))) (same-D05 tested ∙ unjudged);
}
  where
    unjudged : binds D02 tested ≡ false
    unjudged = sym here.same_bound ∙ off

    unheard : (b : Bool) (old new : ℕ) → b ≡ false → cond b old 0 ≡ cond b new 0
    unheard b old new h = ap (λ b. cond b old 0) h ∙ sym (ap (λ b. cond b new 0) h)

-- ---- which statements these are

abbrev is_C24 : Rule → Bool
is_C24 r = same_rule r C24

abbrev is_D01 : Rule → Bool
is_D01 r = same_rule r D01

abbrev is_D02 : Rule → Bool
is_D02 r = same_rule r D02

abbrev is_D03 : Rule → Bool
is_D03 r = same_rule r D03

abbrev is_D05 : Rule → Bool
is_D05 r = same_rule r D05

-- these alone are ones that a later event shows
later-five : (role : Role) (r : Rule) → is_by_later (statement role r) ≡ ((((same_rule r C24 || same_rule r D01) || same_rule r D02) || same_rule r D03) || same_rule r D05)
later-five role W01 = refl
later-five role _ = refl

-- ---- the faults

module _ (tested : Tested) (e : Seen) (past : List Seen) where
  later : ℕ → Rule → Bool
  later k r = is_on_later tested r && turns tested e past k r

  each : ℕ → Rule → Bool
  each k r = ((((is_C24 r || is_D01 r) || is_D02 r) || is_D03 r) || is_D05 r) && turns tested e past k r

  each-later : (k : ℕ) (r : Rule) → each k r ≡ later k r
  unfolding each later
  each-later k r = sym (ap (λ b. b && turns tested e past k r) (later-five tested.role r))

  gains-one : (old : FaultMap) → binds D02 tested ≡ true → Follows tested e past → Gains (λ k r. is_C24 r && turns tested e past k r) tested (e ∷ past) (length past + 1) old (blamed_one (talk past) e.note e.place old)
  unfolding talk
  gains-one old bound follows = duty-gains C24 owes_C24 leaves_now tries_answer duty-C24 tested e past old (same-C24 tested ∙ bound) follows

  gains-two : (old : FaultMap) → binds D02 tested ≡ true → Follows tested e past → Gains (λ k r. (is_C24 r || is_D01 r) && turns tested e past k r) tested (e ∷ past) (length past + 1) old (blamed_two (talk past) e.note e.place old)
  unfolding talk
  gains-two old bound follows =
      gains_either is_C24 is_D01 (turns tested e past) tested (e ∷ past) (length past + 1) old (blamed_one (talk past) e.note e.place old) (blamed_two (talk past) e.note e.place old)
      (gains-one old bound follows) (duty-gains D01 owes_D01 stays_now (λ t n. shows_outcome n) duty-D01 tested e past (blamed_one (talk past) e.note e.place old) (same-D01 tested ∙ bound) follows)

  gains-three : (old : FaultMap) → binds D02 tested ≡ true → Follows tested e past
      → Gains (λ k r. ((is_C24 r || is_D01 r) || is_D02 r) && turns tested e past k r) tested (e ∷ past) (length past + 1) old (blamed_three (talk past) e.note e.place old)
  unfolding talk
  gains-three old bound follows =
      gains_either (λ r. is_C24 r || is_D01 r) is_D02 (turns tested e past) tested (e ∷ past) (length past + 1) old (blamed_two (talk past) e.note e.place old) (blamed_three (talk past) e.note e.place old)
      (gains-two old bound follows) (duty-gains D02 owes_D02 stays_now (λ t n. shows_outcome n) duty-D02 tested e past (blamed_two (talk past) e.note e.place old) bound follows)

  gains-four : (old : FaultMap) → binds D02 tested ≡ true → Follows tested e past
      → Gains (λ k r. (((is_C24 r || is_D01 r) || is_D02 r) || is_D03 r) && turns tested e past k r) tested (e ∷ past) (length past + 1) old (blamed_four (talk past) e.note e.place old)
  unfolding talk
  gains-four old bound follows =
      gains_either (λ r. (is_C24 r || is_D01 r) || is_D02 r) is_D03 (turns tested e past) tested (e ∷ past) (length past + 1) old (blamed_three (talk past) e.note e.place old) (blamed_four (talk past) e.note e.place old)
      (gains-three old bound follows) (duty-gains D03 owes_D03 stays_now (λ t n. shows_outcome n) duty-D03 tested e past (blamed_three (talk past) e.note e.place old) (same-D03 tested ∙ bound) follows)

  gains-all : (old : FaultMap) → binds D02 tested ≡ true → Follows tested e past → Gains (λ k r. is_on_later tested r && turns tested e past k r) tested (e ∷ past) (length past + 1) old (blamed_all (talk past) e.note e.place old)
  unfolding talk each later
  gains-all old bound follows =
      gains_same each later tested (e ∷ past) (length past + 1) old (blamed_all (talk past) e.note e.place old) each-later
      (gains_either (λ r. ((is_C24 r || is_D01 r) || is_D02 r) || is_D03 r) is_D05 (turns tested e past) tested (e ∷ past) (length past + 1) old (blamed_four (talk past) e.note e.place old) (blamed_all (talk past) e.note e.place old)
      (gains-four old bound follows) (duty-gains D05 owes_D05 stays_unrefused tries_excess duty-D05 tested e past (blamed_four (talk past) e.note e.place old) (same-D05 tested ∙ bound) follows))

  -- those of the first four are a part, and those of the first three
  within-four : (old new : FaultMap) → GainsWithin (λ k r. (((is_C24 r || is_D01 r) || is_D02 r) || is_D03 r) && turns tested e past k r) tested (e ∷ past) (length past + 1) old new
      → GainsWithin (λ k r. is_on_later tested r && turns tested e past k r) tested (e ∷ past) (length past + 1) old new
  unfolding each later
  within-four old new h =
      within_same each later tested (e ∷ past) (length past + 1) old new each-later
      (within_either_first (λ r. ((is_C24 r || is_D01 r) || is_D02 r) || is_D03 r) is_D05 (turns tested e past) tested (e ∷ past) (length past + 1) old new h)

  within-three : (old new : FaultMap) → GainsWithin (λ k r. ((is_C24 r || is_D01 r) || is_D02 r) && turns tested e past k r) tested (e ∷ past) (length past + 1) old new
      → GainsWithin (λ k r. is_on_later tested r && turns tested e past k r) tested (e ∷ past) (length past + 1) old new
  within-three old new h = within-four old new (within_either_first (λ r. (is_C24 r || is_D01 r) || is_D02 r) is_D03 (turns tested e past) tested (e ∷ past) (length past + 1) old new h)

  gains-within : (old new : FaultMap) → binds D02 tested ≡ true → Follows tested e past → BlamesWithin (talk past) e.note e.place old new
      → GainsWithin (λ k r. is_on_later tested r && turns tested e past k r) tested (e ∷ past) (length past + 1) old new
  unfolding later
  gains-within old new bound follows (nothing h) = within_nothing later tested (e ∷ past) (length past + 1) old new h
  gains-within old new bound follows (one h) =
      within-three old new
      (within_either_first (λ r. is_C24 r || is_D01 r) is_D02 (turns tested e past) tested (e ∷ past) (length past + 1) old new
      (within_either_first is_C24 is_D01 (turns tested e past) tested (e ∷ past) (length past + 1) old new
      (within_all (λ k r. is_C24 r && turns tested e past k r) tested (e ∷ past) (length past + 1) old new (rw h (gains-one old bound follows)))))
  gains-within old new bound follows (two h) =
      within-three old new
      (within_either_first (λ r. is_C24 r || is_D01 r) is_D02 (turns tested e past) tested (e ∷ past) (length past + 1) old new
      (within_all (λ k r. (is_C24 r || is_D01 r) && turns tested e past k r) tested (e ∷ past) (length past + 1) old new (rw h (gains-two old bound follows))))
  gains-within old new bound follows (three h) =
      within-three old new
      (within_all (λ k r. ((is_C24 r || is_D01 r) || is_D02 r) && turns tested e past k r) tested (e ∷ past) (length past + 1) old new (rw h (gains-three old bound follows)))
  gains-within old new bound follows (four h) =
      within-four old new
      (within_all (λ k r. (((is_C24 r || is_D01 r) || is_D02 r) || is_D03 r) && turns tested e past k r) tested (e ∷ past) (length past + 1) old new (rw h (gains-four old bound follows)))
  gains-within old new bound follows (all h) = within_all later tested (e ∷ past) (length past + 1) old new (rw h (gains-all old bound follows))

  unbound-all : (m : FaultMap) → binds D02 tested ≡ false → Gains (λ k r. is_on_later tested r && turns tested e past k r) tested (e ∷ past) (length past + 1) m m
  unfolding each later
  unbound-all m off =
      gains_same each later tested (e ∷ past) (length past + 1) m m each-later
      (gains_either (λ r. ((is_C24 r || is_D01 r) || is_D02 r) || is_D03 r) is_D05 (turns tested e past) tested (e ∷ past) (length past + 1) m m m
      (gains_either (λ r. (is_C24 r || is_D01 r) || is_D02 r) is_D03 (turns tested e past) tested (e ∷ past) (length past + 1) m m m
      (gains_either (λ r. is_C24 r || is_D01 r) is_D02 (turns tested e past) tested (e ∷ past) (length past + 1) m m m
      (gains_either is_C24 is_D01 (turns tested e past) tested (e ∷ past) (length past + 1) m m m
      (duty-unbound C24 owes_C24 leaves_now tries_answer duty-C24 tested e past m (same-C24 tested ∙ off))
      (duty-unbound D01 owes_D01 stays_now (λ t n. shows_outcome n) duty-D01 tested e past m (same-D01 tested ∙ off)))
      (duty-unbound D02 owes_D02 stays_now (λ t n. shows_outcome n) duty-D02 tested e past m off))
      (duty-unbound D03 owes_D03 stays_now (λ t n. shows_outcome n) duty-D03 tested e past m (same-D03 tested ∙ off)))
      (duty-unbound D05 owes_D05 stays_unrefused tries_excess duty-D05 tested e past m (same-D05 tested ∙ off)))

pub duties-gain : (d : Duties) (tested : Tested) (taken : Option Fate) (e : Seen) (past : List Seen) (old new : FaultMap) → d.is_bound ≡ true → Follows tested e past → IsDuties d tested taken past
    → new ≡ blamed_all d.talk e.note e.place old → Gains (λ k r. is_on_later tested r && turns tested e past k r) tested (e ∷ past) (length past + 1) old new
duties-gain d tested taken e past old new bound follows here is =
    rw (is ∙ ap (λ t. blamed_all t e.note e.place old) (here.same_talk bound)) (gains-all tested e past old (sym here.same_bound ∙ bound) follows)

pub duties-within : (d : Duties) (tested : Tested) (taken : Option Fate) (e : Seen) (past : List Seen) (old new : FaultMap) → d.is_bound ≡ true → Follows tested e past → IsDuties d tested taken past
    → BlamesWithin d.talk e.note e.place old new → GainsWithin (λ k r. is_on_later tested r && turns tested e past k r) tested (e ∷ past) (length past + 1) old new
duties-within d tested taken e past old new bound follows here is =
    gains-within tested e past old new (sym here.same_bound ∙ bound) follows (rw (sym (here.same_talk bound)) is)

pub unbound-gains : (tested : Tested) (e : Seen) (past : List Seen) (m : FaultMap) → binds D02 tested ≡ false → Gains (λ k r. is_on_later tested r && turns tested e past k r) tested (e ∷ past) (length past + 1) m m
unbound-gains tested e past m off = unbound-all tested e past m off

-- ---- how often they are put to the test

-- what is counted at an event, which is such an error or not
pub record Counted (t : Talk) (old new : DutiesPlaces) (e : Seen) (f : Found) : Type 0 where
  pub c24 : CountsTrial old.c24 new.c24 (tries_answer t e.note) (finds_unanswered t e.note) (is_open e.note) e.place.position
  pub d01 : CountsTrial old.d01 new.d01 (shows_outcome e.note) (finds_malformed t e.note) (is_open e.note) e.place.position
  pub d02 : CountsTrial old.d02 new.d02 (shows_outcome e.note) (finds_repeated t e.note) (is_open e.note) e.place.position
  pub d03 : CountsTrial old.d03 new.d03 (shows_outcome e.note) (finds_mistake t f.is_error) (is_open e.note) e.place.position
  pub d05 : CountsTrial old.d05 new.d05 (tries_excess t e.note) (finds_excessive t f.is_excess) (is_open e.note) e.place.position

pub counts-next : (d : Duties) (old new : DutiesPlaces) (tested : Tested) (taken : Option Fate) (e : Seen) (past : List Seen) → d.is_bound ≡ true → Follows tested e past → IsOnConnection e past
    → IsDuties d tested taken past → ((j : ℕ) → received_exactly_once e.note ≡ Some j → j < 65536) → CountsDuties old tested past → Counted d.talk old new e (found d e.note) → CountsDuties new tested (e ∷ past)
counts-next d old new tested taken e past on follows there here small was more =
    go (subst (λ f. Counted (talk past) old new e f) (duties-found d tested taken e past on there here small) (subst (λ t. Counted t old new e (found d e.note)) (here.same_talk on) more))
  where
    bound : binds D02 tested ≡ true
    bound = sym here.same_bound ∙ on

    go : Counted (talk past) old new e (found_after e past) → CountsDuties new tested (e ∷ past)
    go now = record {
      c24 = trial-next C24 owes_C24 leaves_now tries_answer duty-C24 old.c24 new.c24 tested e past (finds_unanswered (talk past) e.note) (C24-met e past) (same-C24 tested ∙ bound) follows was.c24 now.c24;
      d01 = trial-next D01 owes_D01 stays_now (λ t n. shows_outcome n) duty-D01 old.d01 new.d01 tested e past (finds_malformed (talk past) e.note) (D01-met e past) (same-D01 tested ∙ bound) follows was.d01 now.d01;
      d02 = trial-next D02 owes_D02 stays_now (λ t n. shows_outcome n) duty-D02 old.d02 new.d02 tested e past (finds_repeated (talk past) e.note) (D02-met e past) bound follows was.d02 now.d02;
      d03 = trial-next D03 owes_D03 stays_now (λ t n. shows_outcome n) duty-D03 old.d03 new.d03 tested e past (finds_mistake (talk past) (is_protocol_error (newest e past))) (D03-met e past) (same-D03 tested ∙ bound) follows was.d03 now.d03;
      d05 = trial-next D05 owes_D05 stays_unrefused tries_excess duty-D05 old.d05 new.d05 tested e past (finds_excessive (talk past) (exceeds_maximum (newest e past))) (D05-met e past) (same-D05 tested ∙ bound) follows was.d05 now.d05;
    }

pub counts-unbound : (p : DutiesPlaces) (tested : Tested) (e : Seen) (past : List Seen) → binds D02 tested ≡ false → CountsDuties p tested past → CountsDuties p tested (e ∷ past)
counts-unbound p tested e past off was = record {
  c24 = trial-unbound C24 owes_C24 leaves_now tries_answer duty-C24 p.c24 tested e past (same-C24 tested ∙ off) was.c24;
  d01 = trial-unbound D01 owes_D01 stays_now (λ t n. shows_outcome n) duty-D01 p.d01 tested e past (same-D01 tested ∙ off) was.d01;
  d02 = trial-unbound D02 owes_D02 stays_now (λ t n. shows_outcome n) duty-D02 p.d02 tested e past off was.d02;
  d03 = trial-unbound D03 owes_D03 stays_now (λ t n. shows_outcome n) duty-D03 p.d03 tested e past (same-D03 tested ∙ off) was.d03;
  d05 = trial-unbound D05 owes_D05 stays_unrefused tries_excess duty-D05 p.d05 tested e past (same-D05 tested ∙ off) was.d05;
}

pub counts-start : (tested : Tested) → CountsDuties (record {
  c24 = record { places = 0; waits = false };
  d01 = record { places = 0; waits = false };
  d02 = record { places = 0; waits = false };
  d03 = record { places = 0; waits = false };
  d05 = record { places = 0; waits = false };
}) tested []
counts-start tested = record {
  c24 = trial-start C24 owes_C24 leaves_now tries_answer duty-C24 tested;
  d01 = trial-start D01 owes_D01 stays_now (λ t n. shows_outcome n) duty-D01 tested;
  d02 = trial-start D02 owes_D02 stays_now (λ t n. shows_outcome n) duty-D02 tested;
  d03 = trial-start D03 owes_D03 stays_now (λ t n. shows_outcome n) duty-D03 tested;
  d05 = trial-start D05 owes_D05 stays_unrefused tries_excess duty-D05 tested;
}

-- how many places a statement has, if it is one of these
pub counted-of : (tested : Tested) (rule own : Rule) (n : ℕ) (past : List Seen) → rule ≡ own → is_by_later (statement tested.role own) ≡ true → n ≡ places tested past own → Some n ≡ cond (is_on_later tested rule) (Some (places tested past rule)) None
counted-of tested rule own n past same by is =
    ap Some is
    ∙ ap (λ (b : Bool). cond b (Some (places tested past own)) None) (sym by)
    ∙ ap (λ r. cond (is_on_later tested r) (Some (places tested past r)) None) (sym same)

pub counted-elsewhere : (tested : Tested) (rule : Rule) (past : List Seen) → ((((same_rule rule C24 || same_rule rule D01) || same_rule rule D02) || same_rule rule D03) || same_rule rule D05) ≡ false → None ≡ cond (is_on_later tested rule) (Some (places tested past rule)) None
counted-elsewhere tested rule past other = sym (ap (λ (b : Bool). cond b (Some (places tested past rule)) None) (later-five tested.role rule ∙ other))
