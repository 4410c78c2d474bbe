-- E7R.
use Rattle.std.proofs.Common.{◌≡◌, ℕ, ◌+◌, ◌<◌, ◌≤◌, ◌==◌, nat_lt, arith, Bool, true, false, cond, ◌&&◌, ◌||◌, not, List, [], ◌∷◌, length, Option, Some, None, refl, ap, sym, ◌∙◌}
use Rattle.std.proofs.lemmas.Bool.{lt-ltb}
use Rattle.mq_rules.specs.declared.role.Role.{Role}
use Rattle.mq_rules.specs.declared.role.Role.TheVariants.{Client, Server}
use Rattle.mq_rules.specs.declared.role.Further.{Further}
use Rattle.mq_rules.specs.declared.role.Tested.{Tested}
use Rattle.mq_rules.specs.declared.fate.Fate.{Fate}
use Rattle.mq_rules.specs.declared.rule.Rule.TheVariants.{E7R}
use Rattle.mq_rules.specs.declared.note.Note.{Note}
use Rattle.mq_rules.specs.declared.note.Seen.{Seen}
use Rattle.mq_rules.specs.Notes.{is_open, is_rest, is_sent_pingresp, is_received_pingreq}
use Rattle.mq_rules.specs.Moments.{Moment, newest, note, some, count, is_next}
use Rattle.mq_rules.specs.Connections.{connection, accepts, ends_binding, is_binding}
use Rattle.mq_rules.specs.Exchanges.{breaks_E7R, applies_E7R}
use Rattle.mq_rules.specs.Rules.{binds, found_line, line_of, lines, same_rule}
use Rattle.mq_rules.specs.Statements.{statement}
use Rattle.mq_rules.specs.Faults.{offset_of}
use Rattle.mq_rules.specs.FaultKeys.{FaultMap}
use Rattle.mq_rules.proofs.Exports.{connection-newest as connection-next, some-next}
use Rattle.mq_exchanges.specs.declared.pings.Pings.{Pings}
use Rattle.mq_rules.specs.Under.{IsUnder, turns_with, fate_before}
use Rattle.mq_rules.specs.Growing.{Gains}
use Rattle.mq_fates.specs.Judgements.{judged_by}
use Rattle.mq_fates.specs.Taking.{ends_by}
use Rattle.mq_exchanges.specs.Pingings.{is_server, counted, unanswered, IsPings, pinged}
use Rattle.mq_fates.proofs.Exports.{session-turns_with, gains_judged, connection-most, binding-under, counted-session}
use Rattle.mq_rules.specs.Occasions.{places_under}

pub binds-E7R : (role : Role) (releases : Bool) (further : Further) → binds E7R (record { role = role; releases = releases; further = further }) ≡ is_server role
unfolding line_of found_line lines
binds-E7R Client releases further = refl
binds-E7R Server releases further = refl

no_offset-E7R : (tested : Tested) (m : Option Moment) → offset_of (statement tested.role E7R) m ≡ None
no_offset-E7R tested m = refl

-- counts on a connection
pub count-next : (test : Moment → Bool) (e : Seen) (past : List Seen) → count test (connection (e ∷ past)) ≡ counted (test (newest e past)) (is_open e.note) (count test (connection past))
count-next test e past = ap (count test) (connection-next e past) ∙ ap (λ n. cond (test (newest e past)) 1 0 + n) (go (is_open e.note))
  where
    go : (b : Bool) → count test (cond b [] (connection past)) ≡ cond b 0 (count test (connection past))
    go true = refl
    go false = refl

count-most : (test : Moment → Bool) (ms : List Moment) → count test ms ≤ length ms
count-most test [] = omega arith
count-most test (m ∷ ms) = go (test m) (count-most test ms)
  where
    go : (b : Bool) → count test ms ≤ length ms → cond b 1 0 + count test ms ≤ length (m ∷ ms)
    go true h = omega arith
    go false h = omega arith

below : (tested : Tested) (f : Fate) (at : ℕ) (e : Seen) (past : List Seen) (test : Moment → Bool) (n : ℕ) → IsUnder tested f at e past → n ≡ count test (connection past) → n < e.place.position
below tested f at e past test n under is = let a = count-most test (connection past) in let b = connection-most past in let c = under.follows.placed.0 in omega arith

pub pings-next : (tested : Tested) (old : Pings) (taken : Option Fate) (f : Fate) (at : ℕ) (e : Seen) (past : List Seen) (ended : Bool) (asked answered : ℕ) → IsPings old tested taken past → IsUnder tested f at e past
    → ended ≡ (ends_by e.note || (not (is_open e.note) && old.ended))
    → (old.asked < e.place.position → asked ≡ counted (is_received_pingreq e.note) (is_open e.note) old.asked)
    → (old.answered < e.place.position → answered ≡ counted (is_sent_pingresp e.note) (is_open e.note) old.answered)
    → IsPings (record { role = old.role; fate = f; ended = ended; asked = asked; answered = answered }) tested (Some f) (e ∷ past)
pings-next tested old taken f at e past ended asked answered p under a b c = record {
  same_role = p.same_role;
  same_fate = refl;
  ended = a ∙ ap (λ t. ends_by e.note || (not (is_open e.note) && t)) p.ended ∙ sym (some-next ends_binding e past);
  asked = b (below tested f at e past (λ m. is_received_pingreq (note m)) old.asked under p.asked) ∙ ap (counted (is_received_pingreq e.note) (is_open e.note)) p.asked ∙ sym (count-next (λ m. is_received_pingreq (note m)) e past);
  answered = c (below tested f at e past (λ m. is_sent_pingresp (note m)) old.answered under p.answered) ∙ ap (counted (is_sent_pingresp e.note) (is_open e.note)) p.answered ∙ sym (count-next (λ m. is_sent_pingresp (note m)) e past);
}

pub E7R-turns : (tested : Tested) (f : Fate) (at : ℕ) (e : Seen) (past : List Seen) (k : ℕ) → IsUnder tested f at e past → turns_with tested f e past k E7R
    ≡ (is_next past k && unanswered tested.role f (at == e.place.position) (some ends_binding (connection past)) e.note (count (λ m. is_received_pingreq (note m)) (connection past)) (count (λ m. is_sent_pingresp (note m)) (connection past)))
unfolding breaks_E7R
E7R-turns tested f at e past k under =
    session-turns_with tested E7R (λ f. breaks_E7R tested.role) refl f e past k
    ∙ ap (λ b. is_next past k && (b && (accepts f && breaks_E7R tested.role (newest e past)))) (binds-E7R tested.role tested.releases tested.further)
    ∙ ap (λ b. is_next past k && (is_server tested.role && (accepts f && (b && nat_lt (count (λ m. is_sent_pingresp (note m)) (connection past)) (count (λ m. is_received_pingreq (note m)) (connection past)))))) (binding-under tested f at e past under)

-- an event that is no REST shows none
pub awake-answered : (role : Role) (f : Fate) (known ended : Bool) (n : Note) (asked answered : ℕ) → is_rest n ≡ false → unanswered role f known ended n asked answered ≡ false
awake-answered role f known ended n asked answered h =
    ap (λ b. is_server role && (accepts f && ((b && (known && (accepts f && not ended))) && nat_lt answered asked))) h ∙ go (is_server role) (accepts f)
  where
    go : (a b : Bool) → (a && (b && false)) ≡ false
    go true true = refl
    go true false = refl
    go false b = refl

pub pings-gains : (tested : Tested) (old : Pings) (f : Fate) (taken : Option Fate) (at : ℕ) (e : Seen) (past : List Seen) (m : FaultMap) (b : Bool) → IsUnder tested f at e past → IsPings old tested taken past
    → b ≡ unanswered old.role f (at == e.place.position) old.ended e.note old.asked old.answered
    → Gains (λ k r. same_rule r E7R && turns_with tested f e past k r) tested (e ∷ past) at m (judged_by b E7R e.place at m)
pings-gains tested old f taken at e past m b under p is =
    gains_judged tested E7R f e past at m b (no_offset-E7R tested) under.follows.placed.0 (λ k. E7R-turns tested f at e past k under ∙ ap (λ b. is_next past k && b) (sym same))
  where
    same : b ≡ unanswered tested.role f (at == e.place.position) (some ends_binding (connection past)) e.note (count (λ m. is_received_pingreq (note m)) (connection past)) (count (λ m. is_sent_pingresp (note m)) (connection past))
    same = is ∙ ap (λ r. unanswered r f (at == e.place.position) old.ended e.note old.asked old.answered) p.same_role
        ∙ ap (λ t. unanswered tested.role f (at == e.place.position) t e.note old.asked old.answered) p.ended
        ∙ ap (λ n. unanswered tested.role f (at == e.place.position) (some ends_binding (connection past)) e.note n old.answered) p.asked
        ∙ ap (unanswered tested.role f (at == e.place.position) (some ends_binding (connection past)) e.note (count (λ m. is_received_pingreq (note m)) (connection past))) p.answered

-- ---- how often it is put to the test

-- some pass where not none do
some-count : (test : Moment → Bool) (ms : List Moment) → some test ms ≡ nat_lt 0 (count test ms)
some-count test [] = refl
some-count test (m ∷ ms) = go (test m) (some-count test ms)
  where
    go : (b : Bool) → some test ms ≡ nat_lt 0 (count test ms) → (b || some test ms) ≡ nat_lt 0 (cond b 1 0 + count test ms)
    go true h = sym (lt-ltb 0 (1 + count test ms) (omega arith))
    go false h = let same : count test ms ≡ 0 + count test ms = omega arith in h ∙ ap (nat_lt 0) same

pub pings-places : (tested : Tested) (kept : Pings) (taken : Option Fate) (f : Fate) (at : ℕ) (e : Seen) (past : List Seen) (here : Bool) (old new : ℕ) → IsPings kept tested taken past → IsUnder tested f at e past
    → old ≡ places_under tested (fate_before tested f e past) past E7R → here ≡ pinged kept.role f (at == e.place.position) kept.ended e.note kept.asked
    → (old < e.place.position → new ≡ cond here 1 0 + old) → new ≡ places_under tested (Some f) (e ∷ past) E7R
unfolding applies_E7R
pings-places tested kept taken f at e past here old new p under was is more =
    counted-session tested E7R (λ f. applies_E7R tested.role) refl f at e past here old new under was same more
  where
    pings : Moment → Bool
    pings m = is_received_pingreq (note m)

    same : here ≡ (binds E7R tested && (accepts f && (is_binding tested.role (newest e past) && some pings (connection past))))
    same = is
        ∙ ap (λ r. pinged r f (at == e.place.position) kept.ended e.note kept.asked) p.same_role
        ∙ ap (λ t. pinged tested.role f (at == e.place.position) t e.note kept.asked) p.ended
        ∙ ap (λ n. pinged tested.role f (at == e.place.position) (some ends_binding (connection past)) e.note n) p.asked
        ∙ ap (λ t. is_server tested.role && (accepts f && ((is_rest e.note && ((at == e.place.position) && (accepts f && not (some ends_binding (connection past))))) && t))) (sym (some-count pings (connection past)))
        ∙ ap (λ t. is_server tested.role && (accepts f && (t && some pings (connection past)))) (sym (binding-under tested f at e past under))
        ∙ ap (λ t. t && (accepts f && (is_binding tested.role (newest e past) && some pings (connection past)))) (sym (binds-E7R tested.role tested.releases tested.further))
