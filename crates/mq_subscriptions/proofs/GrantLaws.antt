-- What a SUBACK grants, by what is kept of the SUBSCRIBEs that wait.
use Rattle.std.proofs.Common.{◌≡◌, ℕ, ◌+◌, ◌<◌, ◌==◌, arith, Bool, true, false, cond, ◌&&◌, ◌||◌, List, ◌∷◌, Option, Some, None, refl, ap, sym, ◌∙◌}
use Rattle.std.specs.Prelude.{is_some, option_map}
use Rattle.std.specs.Option.{option_or, option_and_then}
use Rattle.mq_rules.specs.declared.role.Tested.{Tested}
use Rattle.mq_rules.specs.declared.fate.Fate.{Fate}
use Rattle.mq_rules.specs.declared.rule.Rule.TheVariants.{B05}
use Rattle.mq_rules.specs.declared.note.Note.{Note}
use Rattle.mq_rules.specs.declared.note.Seen.{Seen}
use Rattle.mq_rules.specs.declared.packet_note.PacketFields.{PacketFields}
use Rattle.mq_rules.specs.declared.packet_note.PacketFields.TheVariants.{Subscribe, Suback}
use Rattle.mq_rules.specs.Words.{is_some_and, is_id}
use Rattle.mq_rules.specs.Notes.{Subscription, Grant, is_boundary, sent_fields, received_fields, subscribe_in, suback_in, subscription_in, grant_in, received_subscription, sent_grant}
use Rattle.mq_rules.specs.Moments.{Moment, newest, note, is_next, earliest_since}
use Rattle.mq_rules.specs.Connections.{is_connected, accepts, needs_connection, IsOnConnection}
use Rattle.mq_rules.specs.Exchanges.{causes, answers, first_unanswered, subscribe_suback}
use Rattle.mq_rules.specs.Subscriptions.{requested_each, some_granted, is_granted_so, applies_B05, breaks_B05}
use Rattle.mq_rules.specs.Rules.{binds, same_rule}
use Rattle.mq_rules.specs.FaultKeys.{FaultMap}
use Rattle.mq_rules.specs.Under.{IsUnder, fate_before, turns_with}
use Rattle.mq_rules.specs.Occasions.{places_under}
use Rattle.mq_rules.specs.Growing.{Gains}
use Rattle.mq_rules.proofs.Exports.{not_true, on_open-connected, option_or-none}
use Rattle.mq_fates.specs.Judgements.{judged_by}
use Rattle.mq_subscriptions.specs.Countings.{subscribes, subscribe_request, subscription_count, suback_reply, grant_count}
use Rattle.mq_subscriptions.specs.Concerns.{concerns_count, concerns_grants}
use Rattle.mq_subscriptions.specs.Firsts.{first_next}
use Rattle.mq_subscriptions.specs.Grantings.{asked_in, asks_under, grants_under, first_asked, asked_next, AreAsked, granted_as, grants_kept}
use Rattle.mq_fates.proofs.Exports.{neither, and2_false, counted-session, session-turns_with, gains_judged}
use Rattle.mq_subscriptions.proofs.FirstLaws.{none-sent, kept-next}

-- ---- what is kept

asks-are : (o : Option PacketFields) (i : ℕ) → is_id i (option_and_then subscribe_in o) ≡ is_some_and (λ s. i == s.identifier) (option_and_then subscription_in o)
asks-are None i = refl
asks-are (Some (Subscribe identifier filters wishes)) i = refl
asks-are (Some _) i = refl

grants-are : (o : Option PacketFields) (i : ℕ) → is_id i (option_and_then suback_in o) ≡ is_some_and (λ a. i == a.identifier) (option_and_then grant_in o)
grants-are None i = refl
grants-are (Some (Suback identifier codes)) i = refl
grants-are (Some _) i = refl

-- a SUBSCRIBE asks for something
asked-there : (n : Note) (i : ℕ) → is_id i (subscribe_suback.cause n) ≡ true → (asked : List ℕ) × (asked_in n ≡ Some asked)
asked-there n i h = go (received_subscription n) (sym (asks-are (received_fields n) i) ∙ h)
  where
    go : (o : Option Subscription) → is_some_and (λ s. i == s.identifier) o ≡ true → (asked : List ℕ) × (option_map (λ s. requested_each s.filters) o ≡ Some asked)
    go None h = absurd (cc)
    go (Some s) h = (requested_each s.filters, refl)

first-asked-next : (i : ℕ) (e : Seen) (past : List Seen) → IsOnConnection e past → first_asked i (e ∷ past) ≡ asked_next e.note i (first_asked i past)
first-asked-next i e past on =
    kept-next subscribe_suback asked_in (λ n i h. ap (λ o. is_id i (option_and_then subscribe_in o)) h) asked-there i e past on
    ∙ ap (λ b. first_next (is_boundary e.note) b (is_id i (subscribe_suback.answer e.note)) (asked_in e.note) (first_asked i past)) (asks-are (received_fields e.note) i)
    ∙ ap (λ b. first_next (is_boundary e.note) (asks_under i e.note) b (asked_in e.note) (first_asked i past)) (grants-are (sent_fields e.note) i)

pub asked-next : (bound : Bool) (wanted next : ℕ → Option (List ℕ)) (e : Seen) (past : List Seen) → IsOnConnection e past → AreAsked bound wanted past
    → (bound ≡ true → (i : ℕ) → next i ≡ asked_next e.note i (wanted i)) → (bound ≡ false → (i : ℕ) → next i ≡ wanted i) → AreAsked bound next (e ∷ past)
asked-next true wanted next e past on are took left = record { asked_are = λ i. took refl i ∙ ap (asked_next e.note i) (are.asked_are i) ∙ sym (first-asked-next i e past on) }
asked-next false wanted next e past on are took left = record { asked_are = λ i. left refl i ∙ are.asked_are i }

-- ---- what is granted

-- what is compared is what the first unanswered SUBSCRIBE asks for
kept-granted : (test : ℕ → ℕ → Bool) (wanted : ℕ → Option (List ℕ)) (e : Seen) (past : List Seen) → IsOnConnection e past → ((i : ℕ) → wanted i ≡ first_asked i past) → grants_kept test wanted (sent_grant e.note) ≡ is_granted_so (newest e past) test
kept-granted test wanted e past on are = by_connection (is_connected past) refl
  where
    within : (codes : List ℕ) (o : Option Subscription) → is_some_and (λ asked. some_granted test asked codes) (option_map (λ s. requested_each s.filters) o) ≡ is_some_and (λ s. some_granted test (requested_each s.filters) codes) o
    within codes None = refl
    within codes (Some s) = refl

    at : (codes : List ℕ) (o : Option Moment)
        → is_some_and (λ asked. some_granted test asked codes) (option_and_then (λ m. asked_in (note m)) o) ≡ is_some_and (λ j. is_some_and (λ s. some_granted test (requested_each s.filters) codes) (received_subscription (note j))) o
    at codes None = refl
    at codes (Some j) = within codes (received_subscription (note j))

    given : Option Grant → Bool
    given o = is_some_and (λ a. is_some_and (λ j. is_some_and (λ s. some_granted test (requested_each s.filters) a.codes) (received_subscription (note j))) (first_unanswered subscribe_suback a.identifier (newest e past))) o

    go : is_connected past ≡ true → (o : Option Grant) → grants_kept test wanted o ≡ given o
    go k None = refl
    go k (Some a) =
        ap (is_some_and (λ asked. some_granted test asked a.codes)) (are a.identifier
        ∙ ap (λ ms. option_and_then (λ m. asked_in (note m)) (earliest_since (causes subscribe_suback a.identifier) (answers subscribe_suback a.identifier) ms)) (on_open-connected past k))
        ∙ at a.codes (first_unanswered subscribe_suback a.identifier (newest e past))

    -- where none is open, nothing is sent
    by_connection : (b : Bool) → is_connected past ≡ b → grants_kept test wanted (sent_grant e.note) ≡ given (sent_grant e.note)
    by_connection true k = go k (sent_grant e.note)
    by_connection false k =
        let closed : needs_connection e.note ≡ false = not_true (needs_connection e.note) (λ t. let there : is_connected past ≡ true = on t in absurd (cc)) in
        let none : sent_grant e.note ≡ None = ap (option_and_then grant_in) (none-sent e.note closed) in
        ap (grants_kept test wanted) none ∙ sym (ap given none)

granted-is : (test : ℕ → ℕ → Bool) (bound : Bool) (f : Fate) (wanted : ℕ → Option (List ℕ)) (e : Seen) (past : List Seen) → IsOnConnection e past → AreAsked bound wanted past
    → (bound && (accepts f && grants_kept test wanted (sent_grant e.note))) ≡ (bound && (accepts f && is_granted_so (newest e past) test))
granted-is test true f wanted e past on are = ap (λ t. accepts f && t) (kept-granted test wanted e past on are.asked_are)
granted-is test false f wanted e past on are = refl

-- the event is a place where it grants something
pub grants-places : (tested : Tested) (f : Fate) (wanted : ℕ → Option (List ℕ)) (at : ℕ) (e : Seen) (past : List Seen) (bound here : Bool) (old new : ℕ) → IsUnder tested f at e past → AreAsked bound wanted past → bound ≡ binds B05 tested
    → old ≡ places_under tested (fate_before tested f e past) past B05 → here ≡ (bound && (accepts f && grants_kept (granted_as false) wanted (sent_grant e.note)))
    → (old < e.place.position → new ≡ cond here 1 0 + old) → new ≡ places_under tested (Some f) (e ∷ past) B05
unfolding applies_B05
grants-places tested f wanted at e past bound here old new under are judged was placed more =
    counted-session tested B05 (λ f. applies_B05) refl f at e past here old new under was
    (placed ∙ granted-is (granted_as false) bound f wanted e past under.follows.on_connections.0 are ∙ ap (λ b. b && (accepts f && is_granted_so (newest e past) (granted_as false))) judged) more

pub grants-gain : (tested : Tested) (f : Fate) (wanted : ℕ → Option (List ℕ)) (at : ℕ) (e : Seen) (past : List Seen) (m : FaultMap) (bound b : Bool) → IsUnder tested f at e past → AreAsked bound wanted past → bound ≡ binds B05 tested
    → b ≡ (bound && (accepts f && grants_kept (granted_as true) wanted (sent_grant e.note))) → Gains (λ k r. same_rule r B05 && turns_with tested f e past k r) tested (e ∷ past) at m (judged_by b B05 e.place at m)
unfolding breaks_B05
grants-gain tested f wanted at e past m bound b under are judged broken =
    gains_judged tested B05 f e past at m b (λ m. refl) under.follows.placed.0 (λ k.
    session-turns_with tested B05 (λ f. breaks_B05) refl f e past k
    ∙ ap (λ t. is_next past k && t) (sym (broken ∙ granted-is (granted_as true) bound f wanted e past under.follows.on_connections.0 are
    ∙ ap (λ b. b && (accepts f && is_granted_so (newest e past) (granted_as true))) judged)))

-- ---- an event that doesn't concern it

-- neither a SUBSCRIBE nor a SUBACK
record IsQuiet (n : Note) : Type 0 where
  inside : is_boundary n ≡ false
  asks : received_subscription n ≡ None
  grants : sent_grant n ≡ None

unasked : (o : Option Subscription) → is_some (option_map subscription_count o) ≡ false → o ≡ None
unasked None h = refl
unasked (Some s) h = absurd (cc)

ungranted : (o : Option Grant) → is_some (option_map grant_count o) ≡ false → o ≡ None
ungranted None h = refl
ungranted (Some a) h = absurd (cc)

quiet : (n : Note) → concerns_count subscribes n ≡ false → IsQuiet n
quiet n h =
    let h1 = neither (is_boundary n) (is_some (subscribe_request n) || is_some (suback_reply n)) h in
    let h2 = neither (is_some (subscribe_request n)) (is_some (suback_reply n)) h1.1 in
    record { inside = h1.0; asks = unasked (received_subscription n) h2.0; grants = ungranted (sent_grant n) h2.1 }

unchanged : (n : Note) → IsQuiet n → (i : ℕ) (old : Option (List ℕ)) → old ≡ asked_next n i old
unchanged n q i old = sym (
    ap (λ b. option_or (cond (grants_under i n) None (cond b None old)) (cond (asks_under i n) (asked_in n) None)) q.inside
    ∙ ap (λ o. option_or (cond (is_some_and (λ a. i == a.identifier) o) None old) (cond (asks_under i n) (asked_in n) None)) q.grants
    ∙ ap (λ o. option_or old (cond (is_some_and (λ s. i == s.identifier) o) (option_map (λ s. requested_each s.filters) o) None)) q.asks
    ∙ option_or-none old)

nothing-granted : (n : Note) → IsQuiet n → (above bound : Bool) (f : Fate) (wanted : ℕ → Option (List ℕ)) → false ≡ (bound && (accepts f && grants_kept (granted_as above) wanted (sent_grant n)))
nothing-granted n q above bound f wanted = sym (and2_false bound (accepts f) (grants_kept (granted_as above) wanted (sent_grant n)) (ap (grants_kept (granted_as above) wanted) q.grants))

-- it grants nothing that is judged
none-granted : (tested : Tested) (n : Note) → concerns_grants tested n ≡ false → (above bound : Bool) → bound ≡ binds B05 tested → (f : Fate) (wanted : ℕ → Option (List ℕ)) → false ≡ (bound && (accepts f && grants_kept (granted_as above) wanted (sent_grant n)))
none-granted tested n h above bound judged f wanted = go bound (ap (λ b. b && concerns_count subscribes n) judged ∙ h)
  where
    go : (b : Bool) → (b && concerns_count subscribes n) ≡ false → false ≡ (b && (accepts f && grants_kept (granted_as above) wanted (sent_grant n)))
    go true h = nothing-granted n (quiet n h) above true f wanted
    go false h = refl

pub grants-pass : (tested : Tested) (f : Fate) (wanted : ℕ → Option (List ℕ)) (at : ℕ) (e : Seen) (past : List Seen) (bound : Bool) → concerns_grants tested e.note ≡ false → IsUnder tested f at e past → bound ≡ binds B05 tested → AreAsked bound wanted past
    → AreAsked bound wanted (e ∷ past) × ((m : FaultMap) → Gains (λ k r. same_rule r B05 && turns_with tested f e past k r) tested (e ∷ past) at m m)
grants-pass tested f wanted at e past bound h under judged are = (
  asked-next bound wanted wanted e past under.follows.on_connections.0 are (λ is i. unchanged e.note (quiet e.note (ap (λ b. b && concerns_count subscribes e.note) (sym is ∙ judged) ∙ h)) i (wanted i)) (λ is i. refl),
  λ m. grants-gain tested f wanted at e past m bound false under are judged (none-granted tested e.note h true bound judged f wanted),
)

none-counted : (n : ℕ) → n ≡ cond false 1 0 + n
none-counted n = omega arith

pub grants-leave : (tested : Tested) (f : Fate) (wanted : ℕ → Option (List ℕ)) (at : ℕ) (e : Seen) (past : List Seen) (bound : Bool) (n : ℕ) → concerns_grants tested e.note ≡ false → IsUnder tested f at e past → bound ≡ binds B05 tested → AreAsked bound wanted past
    → n ≡ places_under tested (fate_before tested f e past) past B05 → n ≡ places_under tested (Some f) (e ∷ past) B05
grants-leave tested f wanted at e past bound n h under judged are was =
    grants-places tested f wanted at e past bound false n n under are judged was (none-granted tested e.note h false bound judged f wanted) (λ low. none-counted n)
