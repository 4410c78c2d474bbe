-- How many filters an unanswered packet has.
use Rattle.std.proofs.Common.{◌≡◌, ℕ, ◌+◌, ◌<◌, ◌==◌, Bool, true, false, cond, ◌&&◌, not, List, ◌∷◌, Option, Some, None, refl, ap, sym, ◌∙◌}
use Rattle.std.specs.Prelude.{is_some}
use Rattle.std.specs.Option.{option_and_then}
use Rattle.mq_rules.specs.declared.role.Role.{Role}
use Rattle.mq_rules.specs.declared.role.Tested.{Tested}
use Rattle.mq_rules.specs.declared.fate.Fate.{Fate}
use Rattle.mq_rules.specs.declared.rule.Rule.{Rule}
use Rattle.mq_rules.specs.declared.note.Note.{Note}
use Rattle.mq_rules.specs.declared.note.Seen.{Seen}
use Rattle.mq_rules.specs.Words.{is_some_and, is_id}
use Rattle.mq_rules.specs.Notes.{is_boundary}
use Rattle.mq_rules.specs.Moments.{Moment, newest, note, is_next, earliest_since, since}
use Rattle.mq_rules.specs.Connections.{is_connected, on_open, accepts, needs_connection, IsOnConnection}
use Rattle.mq_rules.specs.Exchanges.{causes, answers, first_unanswered}
use Rattle.mq_rules.specs.Statements.{statement, in_session}
use Rattle.mq_rules.specs.Rules.{binds, same_rule}
use Rattle.mq_rules.specs.Faults.{offset_of}
use Rattle.mq_rules.specs.FaultKeys.{FaultMap}
use Rattle.mq_rules.proofs.Exports.{not_true, on_open-connected, earliest_since-there}
use Rattle.mq_subscriptions.specs.declared.counts.Counted.{Counted}
use Rattle.mq_rules.specs.Under.{IsUnder, fate_before, turns_with}
use Rattle.mq_rules.specs.Occasions.{occasion, places_under}
use Rattle.mq_rules.specs.Growing.{Gains}
use Rattle.mq_fates.specs.Judgements.{judged_by}
use Rattle.mq_subscriptions.specs.Firsts.{first_next}
use Rattle.mq_subscriptions.specs.Countings.{names, count_in, Counting, IsCounting, miscounts, answers_one, first_count, counted_next, answers_kept, differs, IsCounted}
use Rattle.mq_fates.proofs.Exports.{counted-session, session-turns_with, gains_judged}
use Rattle.mq_subscriptions.proofs.FirstLaws.{found-passes, none-sent, kept-next}

-- one that is named has a count
named-counted : (i : ℕ) (o : Option Counted) → names i o ≡ true → (n : ℕ) × (count_in o ≡ Some n)
named-counted i None h = absurd (cc)
named-counted i (Some c) h = (c.count, refl)

first-next : (c : Counting) (breaks : Moment → Bool) → IsCounting c breaks → (i : ℕ) (e : Seen) (past : List Seen) → IsOnConnection e past
    → first_count c i (e ∷ past) ≡ counted_next (is_boundary e.note) (c.request e.note) (c.reply e.note) i (first_count c i past)
first-next c breaks is i e past on =
    kept-next c.exchange counts (λ n i h. is.causes_are n i ∙ ap (names i) (is.is_received n h)) (λ n i h. named-counted i (c.request n) (sym (is.causes_are n i) ∙ h)) i e past on
    ∙ ap (λ b. first_next (is_boundary e.note) (is_id i (c.exchange.cause e.note)) b (counts e.note) (first_count c i past)) (is.answers_are e.note i)
    ∙ ap (λ b. first_next (is_boundary e.note) b (names i (c.reply e.note)) (counts e.note) (first_count c i past)) (is.causes_are e.note i)
  where
    counts : Note → Option ℕ
    counts n = count_in (c.request n)

pub counted-next : (c : Counting) (breaks : Moment → Bool) → IsCounting c breaks → (fate f : Fate) (counts next : ℕ → Option ℕ) (taken : Option Fate) (e : Seen) (past : List Seen) → IsOnConnection e past → IsCounted c fate counts taken past
    → ((i : ℕ) → next i ≡ counted_next (is_boundary e.note) (c.request e.note) (c.reply e.note) i (counts i)) → IsCounted c f next (Some f) (e ∷ past)
counted-next c breaks is fate f counts next taken e past on o grown = record {
  same_fate = refl;
  counts_are = λ i. grown i ∙ ap (counted_next (is_boundary e.note) (c.request e.note) (c.reply e.note) i) (o.counts_are i) ∙ sym (first-next c breaks is i e past on);
}

-- what is compared is the count that is kept
differs-is : (c : Counting) (breaks : Moment → Bool) → IsCounting c breaks → (counts : ℕ → Option ℕ) (e : Seen) (past : List Seen) → IsOnConnection e past → ((i : ℕ) → counts i ≡ first_count c i past) → differs counts (c.reply e.note) ≡ miscounts c (newest e past)
differs-is c breaks is counts e past on are = by_connection (is_connected past) refl
  where
    within : (n : ℕ) (o : Option Counted) → is_some_and (λ count. not (count == n)) (count_in o) ≡ is_some_and (λ q. not (q.count == n)) o
    within n None = refl
    within n (Some q) = refl

    at : (n : ℕ) (o : Option Moment) → is_some_and (λ count. not (count == n)) (option_and_then (λ m. count_in (c.request (note m))) o) ≡ is_some_and (λ j. is_some_and (λ q. not (q.count == n)) (c.request (note j))) o
    at n None = refl
    at n (Some j) = within n (c.request (note j))

    given : Option Counted → Bool
    given o = is_some_and (λ r. is_some_and (λ j. is_some_and (λ q. not (q.count == r.count)) (c.request (note j))) (first_unanswered c.exchange r.identifier (newest e past))) o

    go : is_connected past ≡ true → (o : Option Counted) → differs counts o ≡ given o
    go k None = refl
    go k (Some r) =
        ap (is_some_and (λ count. not (count == r.count))) (are r.identifier
        ∙ ap (λ ms. option_and_then (λ m. count_in (c.request (note m))) (earliest_since (causes c.exchange r.identifier) (answers c.exchange r.identifier) ms)) (on_open-connected past k))
        ∙ at r.count (first_unanswered c.exchange r.identifier (newest e past))

    -- where none is open, nothing is sent
    by_connection : (b : Bool) → is_connected past ≡ b → differs counts (c.reply e.note) ≡ given (c.reply e.note)
    by_connection true k = go k (c.reply e.note)
    by_connection false k =
        let closed : needs_connection e.note ≡ false = not_true (needs_connection e.note) (λ t. let there : is_connected past ≡ true = on t in absurd (cc)) in
        let none : c.reply e.note ≡ None = is.is_sent e.note (none-sent e.note closed) in
        ap (differs counts) none ∙ sym (ap given none)

-- and whether an answer has an unanswered cause
asked-is : (c : Counting) (breaks : Moment → Bool) → IsCounting c breaks → (counts : ℕ → Option ℕ) (e : Seen) (past : List Seen) → IsOnConnection e past → ((i : ℕ) → counts i ≡ first_count c i past) → answers_kept counts (c.reply e.note) ≡ answers_one c (newest e past)
asked-is c breaks is counts e past on are = by_connection (is_connected past) refl
  where
    first : ℕ → List Moment → Option Moment
    first i ms = earliest_since (causes c.exchange i) (answers c.exchange i) ms

    at : (i : ℕ) (o : Option Moment) → first i (on_open past) ≡ o → is_some (option_and_then (λ m. count_in (c.request (note m))) o) ≡ is_some o
    at i None h = refl
    at i (Some j) h =
        let there = named-counted i (c.request (note j)) (sym (is.causes_are (note j) i) ∙ found-passes (causes c.exchange i) (answers c.exchange i) (on_open past) j h) in
        ap (λ (o : Option ℕ). is_some o) there.1

    given : Option Counted → Bool
    given o = is_some_and (λ r. is_some (first_unanswered c.exchange r.identifier (newest e past))) o

    go : is_connected past ≡ true → (o : Option Counted) → answers_kept counts o ≡ given o
    go k None = refl
    go k (Some r) =
        ap (λ (o : Option ℕ). is_some o) (are r.identifier)
        ∙ at r.identifier (first r.identifier (on_open past)) refl
        ∙ ap (λ ms. is_some (first r.identifier ms)) (on_open-connected past k)

    -- where none is open, nothing is sent
    by_connection : (b : Bool) → is_connected past ≡ b → answers_kept counts (c.reply e.note) ≡ given (c.reply e.note)
    by_connection true k = go k (c.reply e.note)
    by_connection false k =
        let closed : needs_connection e.note ≡ false = not_true (needs_connection e.note) (λ t. let there : is_connected past ≡ true = on t in absurd (cc)) in
        let none : c.reply e.note ≡ None = is.is_sent e.note (none-sent e.note closed) in
        ap (answers_kept counts) none ∙ sym (ap given none)

-- the event is a place where it answers what is kept
pub counts-places : (tested : Tested) (rule : Rule) (c : Counting) (breaks applies : Moment → Bool) → IsCounting c breaks → ((m : Moment) → applies m ≡ answers_one c m) → ((role : Role) → occasion role rule ≡ Some (in_session (λ f. applies)))
    → (fate f : Fate) (counts : ℕ → Option ℕ) (taken : Option Fate) (at : ℕ) (e : Seen) (past : List Seen) (bound here : Bool) (old new : ℕ) → IsUnder tested f at e past → IsCounted c fate counts taken past → bound ≡ binds rule tested
    → old ≡ places_under tested (fate_before tested f e past) past rule → here ≡ (bound && (accepts f && answers_kept counts (c.reply e.note)))
    → (old < e.place.position → new ≡ cond here 1 0 + old) → new ≡ places_under tested (Some f) (e ∷ past) rule
counts-places tested rule c breaks applies is asks says fate f counts taken at e past bound here old new under o judged was placed more =
    counted-session tested rule (λ f. applies) (says tested.role) f at e past here old new under was
    (placed ∙ ap (λ b. b && (accepts f && answers_kept counts (c.reply e.note))) judged
    ∙ ap (λ t. binds rule tested && (accepts f && t)) (asked-is c breaks is counts e past under.follows.on_connections.0 o.counts_are ∙ sym (asks (newest e past)))) more

pub counted-gains : (tested : Tested) (rule : Rule) (c : Counting) (breaks : Moment → Bool) → IsCounting c breaks → ((role : Role) → statement role rule ≡ in_session (λ f. breaks)) → ((role : Role) (m : Option Moment) → offset_of (statement role rule) m ≡ None)
    → (fate f : Fate) (counts : ℕ → Option ℕ) (taken : Option Fate) (at : ℕ) (e : Seen) (past : List Seen) (m : FaultMap) (bound b : Bool) → IsUnder tested f at e past → IsCounted c fate counts taken past
    → bound ≡ binds rule tested → b ≡ (bound && (accepts f && differs counts (c.reply e.note)))
    → Gains (λ k r. same_rule r rule && turns_with tested f e past k r) tested (e ∷ past) at m (judged_by b rule e.place at m)
counted-gains tested rule c breaks is says plain fate f counts taken at e past m bound b under o judged broken =
    gains_judged tested rule f e past at m b (plain tested.role) under.follows.placed.0 (λ k.
    session-turns_with tested rule (λ f. breaks) (says tested.role) f e past k
    ∙ ap (λ t. is_next past k && t) (ap (λ t. binds rule tested && (accepts f && t)) (is.breaks_are (newest e past) ∙ sym (differs-is c breaks is counts e past under.follows.on_connections.0 o.counts_are))
    ∙ ap (λ t. t && (accepts f && differs counts (c.reply e.note))) (sym judged) ∙ sym broken))

-- a packet whose count is kept is unanswered
pub counted-unanswered : (c : Counting) (i : ℕ) (log : List Seen) → is_some (first_count c i log) ≡ true → since (causes c.exchange i) (answers c.exchange i) (on_open log) ≡ true
counted-unanswered c i log h = sym (earliest_since-there (causes c.exchange i) (answers c.exchange i) (on_open log)) ∙ go (earliest_since (causes c.exchange i) (answers c.exchange i) (on_open log)) h
  where
    go : (o : Option Moment) → is_some (option_and_then (λ m. count_in (c.request (note m))) o) ≡ true → is_some o ≡ true
    go None h = absurd (cc)
    go (Some m) h = refl
