-- How often it is put to the test that each cause is answered before a REST.
use Rattle.std.proofs.Common.{◌≡◌, ℕ, ◌+◌, ◌<◌, ◌≤◌, ◌==◌, arith, Bool, true, false, cond, ◌&&◌, ◌||◌, not, List, ◌∷◌, length, Option, Some, None, refl, ap, sym, ◌∙◌}
use Rattle.std.specs.Prelude.{is_some}
use Rattle.mq_log.specs.declared.place.Place3.{Place3}
use Rattle.mq_rules.specs.declared.role.Tested.{Tested}
use Rattle.mq_rules.specs.declared.fate.Fate.{Fate}
use Rattle.mq_rules.specs.declared.rule.Rule.{Rule}
use Rattle.mq_rules.specs.declared.note.Seen.{Seen}
use Rattle.mq_rules.specs.Words.{is_some_and}
use Rattle.mq_rules.specs.Notes.{is_open, is_rest, is_release}
use Rattle.mq_rules.specs.Moments.{Moment, newest}
use Rattle.mq_rules.specs.Connections.{accepts, accepted, latest_fate, is_binding}
use Rattle.mq_rules.specs.Exchanges.{Exchange, first_unanswered, applies_R}
use Rattle.mq_rules.specs.Rules.{binds, same_rule}
use Rattle.mq_rules.specs.Statements.{at_rest}
use Rattle.mq_rules.specs.Under.{IsUnder, fate_before}
use Rattle.mq_rules.specs.Occasions.{occasion, places, places_under, is_first, waiting}
use Rattle.mq_rules.proofs.Exports.{both_true, places-at-rest, places-awake, places-most, places-rest, places-unbound, rest-opens-nothing, waiting-most, waiting-next}
use Rattle.mq_exchanges.specs.Answering.{IsApart}
use Rattle.mq_exchanges.specs.Owings.{due_of, place_of, IsOwed, IsSettling}
use Rattle.mq_fates.specs.Taking.{binds_by}
use Rattle.mq_fates.proofs.Exports.{places-same, binding-under}

place-there : (o : Option Moment) → is_some (place_of o) ≡ is_some o
place-there None = refl
place-there (Some m) = refl

-- what is due says whether the event is a first cause
begins-first : (x : Exchange) (due : ℕ → Option Place3) (e : Seen) (past : List Seen) → ((i : ℕ) → due i ≡ place_of (due_of x i past)) → is_some_and (λ i. not (is_some (due i))) (x.cause e.note) ≡ is_first x (newest e past)
begins-first x due e past each = go (x.cause e.note)
  where
    go : (o : Option ℕ) → is_some_and (λ i. not (is_some (due i))) o ≡ is_some_and (λ i. not (is_some (first_unanswered x i (newest e past)))) o
    go None = refl
    go (Some i) = ap (λ p. not (is_some p)) (each i) ∙ ap not (place-there (due_of x i past))

-- the sums have their bounds as premises that hold only where they matter: elsewhere what waits isn't known
pub settling-next : (tested : Tested) (x : Exchange) (settled : Rule) (f fate : Fate) (at : ℕ) (ended binding : Bool) (due : ℕ → Option Place3) (e : Seen) (past : List Seen) (pending number : ℕ) (rests begins : Bool) (pending_now number_now : ℕ)
    → IsApart x → occasion tested.role settled ≡ Some (at_rest (applies_R x)) → IsUnder tested f at e past → IsOwed x fate ended due tested (fate_before tested f e past) past → binding ≡ binds settled tested
    → IsSettling x settled pending number tested (fate_before tested f e past) past
    → rests ≡ (binding && binds_by f (at == e.place.position) ended e.note) → begins ≡ is_some_and (λ i. not (is_some (due i))) (x.cause e.note) → e.place.position < 4294967296
    → ((rests ≡ true → number + pending < 4294967296) → number_now ≡ cond rests (number + pending) number)
    → (((is_open e.note || rests) ≡ false → pending < 4294967295) → pending_now ≡ cond begins 1 0 + cond (is_open e.note || rests) 0 pending)
    → IsSettling x settled pending_now number_now tested (Some f) (e ∷ past)
settling-next tested x settled f fate at ended binding due e past pending number rests begins pending_now number_now packets says under owed binds_are old rests_are begins_are small numbered waited =
    record { places_are = go (binds settled tested) refl (is_binding tested.role (newest e past)) refl; waiting_are = wait (is_open e.note) refl }
  where
    bound_rests : is_binding tested.role (newest e past) ≡ binds_by f (at == e.place.position) ended e.note
    bound_rests = binding-under tested f at e past under ∙ ap (λ t. is_rest e.note && ((at == e.place.position) && (accepts f && not t))) (sym owed.is_ended)

    rests_is : rests ≡ (binds settled tested && is_binding tested.role (newest e past))
    rests_is = rests_are ∙ ap (λ b. b && binds_by f (at == e.place.position) ended e.note) binds_are ∙ ap (λ b. binds settled tested && b) (sym bound_rests)

    -- the fate is that of before, unless a connection begins
    before : is_open e.note ≡ false → accepts f ≡ true → accepted (fate_before tested f e past) ≡ true
    before closed accepting = ap (λ b. accepted (cond b (latest_fate tested.role past) (Some f))) closed ∙ accepting

    fate_is : is_open e.note ≡ false → accepts f ≡ true → accepts fate ≡ true
    fate_is closed accepting = sym (ap accepted owed.same_fate) ∙ before closed accepting

    -- no REST puts anything to the test
    idle : rests ≡ false → number_now ≡ number
    idle h = numbered (λ t. absurd (cc)) ∙ ap (λ t. cond t (number + pending) number) h

    go : (b : Bool) → binds settled tested ≡ b → (r : Bool) → is_binding tested.role (newest e past) ≡ r → number_now ≡ places tested (e ∷ past) settled
    go false is r h =
        idle (rests_is ∙ ap (λ b. b && is_binding tested.role (newest e past)) is) ∙ old.places_are
        ∙ places-unbound tested past settled is ∙ sym (places-unbound tested (e ∷ past) settled is)
    go true is false h = idle (rests_is ∙ ap (λ b. b && is_binding tested.role (newest e past)) is ∙ h) ∙ old.places_are ∙ sym (places-awake tested settled (applies_R x) e past says h)
    go true is true h =
        let resting = both_true (is_rest e.note) ((at == e.place.position) && (accepts f && not ended)) (sym bound_rests ∙ h) in
        let known = both_true (at == e.place.position) (accepts f && not ended) resting.1 in
        let accepting : accepts f ≡ true = (both_true (accepts f) (not ended) known.1).0 in
        let waits : pending ≡ waiting tested settled x past = old.waiting_are is (before (rest-opens-nothing e.note resting.0) accepting) in
        let all : number + pending ≡ places tested (e ∷ past) settled = ap (λ n. n + pending) old.places_are ∙ ap (λ n. places tested past settled + n) waits ∙ sym (places-rest tested settled x e past says is h) in
        let most = places-most tested (e ∷ past) settled in
        let placed = under.follows.placed.0 in
        let bound : number + pending < 4294967296 = omega arith in
        numbered (λ t. bound) ∙ ap (λ t. cond t (number + pending) number) (rests_is ∙ ap (λ b. b && is_binding tested.role (newest e past)) is ∙ h) ∙ all

    wait : (o : Bool) → is_open e.note ≡ o → binds settled tested ≡ true → accepts f ≡ true → pending_now ≡ waiting tested settled x (e ∷ past)
    wait true is bound accepting =
        let none : x.cause e.note ≡ None = (packets.none e.note (ap (λ b. b || is_release e.note) is)).0 in
        waited (λ h. absurd (let open_now : (is_open e.note || rests) ≡ true = ap (λ b. b || rests) is in cc))
        ∙ ap (λ b. cond b 1 0 + cond (is_open e.note || rests) 0 pending) (begins_are ∙ ap (is_some_and (λ i. not (is_some (due i)))) none)
        ∙ ap (λ b. 0 + cond (b || rests) 0 pending) is
        ∙ sym (waiting-next tested settled x e past says bound
        ∙ ap (λ o. cond (is_some_and (λ i. not (is_some (first_unanswered x i (newest e past)))) o) 1 0 + cond (is_open e.note || is_binding tested.role (newest e past)) 0 (waiting tested settled x past)) none
        ∙ ap (λ b. 0 + cond (b || is_binding tested.role (newest e past)) 0 (waiting tested settled x past)) is)
    wait false is bound accepting =
        let waits : pending ≡ waiting tested settled x past = old.waiting_are bound (before is accepting) in
        let most = waiting-most tested settled x past in
        let placed = under.follows.placed.0 in
        let low : pending < 4294967295 = omega arith in
        waited (λ h. low)
        ∙ ap (λ b. cond b 1 0 + cond (is_open e.note || rests) 0 pending) (begins_are ∙ begins-first x due e past (owed.due_are (fate_is is accepting)))
        ∙ ap (λ b. cond (is_first x (newest e past)) 1 0 + cond (is_open e.note || b) 0 pending) (rests_is ∙ ap (λ b. b && is_binding tested.role (newest e past)) bound)
        ∙ ap (λ n. cond (is_first x (newest e past)) 1 0 + cond (is_open e.note || is_binding tested.role (newest e past)) 0 n) waits
        ∙ sym (waiting-next tested settled x e past says bound)

-- what is counted of the two statements is what is asked of one of them
pub owed-picked : (tested : Tested) (taken : Option Fate) (past : List Seen) (x : Exchange) (settled : Rule) (ordered : Option Rule) (pending number other : ℕ) (rule : Rule) (first : Bool)
    → IsSettling x settled pending number tested taken past → ((r : Rule) → ordered ≡ Some r → other ≡ places_under tested taken past r) → occasion tested.role settled ≡ Some (at_rest (applies_R x))
    → first ≡ same_rule rule settled → (same_rule rule settled || is_some_and (same_rule rule) ordered) ≡ true → cond first number other ≡ places_under tested taken past rule
owed-picked tested taken past x settled ordered pending number other rule first old each says is judged = go (same_rule rule settled) refl judged
  where
    by : (o : Option Rule) → ordered ≡ o → is_some_and (same_rule rule) o ≡ true → other ≡ places_under tested taken past rule
    by None at j = absurd (cc)
    by (Some o) at j = places-same tested taken past o rule other (each o at) j

    go : (b : Bool) → same_rule rule settled ≡ b → (b || is_some_and (same_rule rule) ordered) ≡ true → cond first number other ≡ places_under tested taken past rule
    go true h j = ap (λ b. cond b number other) (is ∙ h) ∙ places-same tested taken past settled rule number (old.places_are ∙ sym (places-at-rest tested taken past settled (applies_R x) says)) h
    go false h j = ap (λ b. cond b number other) (is ∙ h) ∙ by ordered refl j
