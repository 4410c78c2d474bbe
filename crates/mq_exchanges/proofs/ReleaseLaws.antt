-- L1, L2 and L3.
use Rattle.std.proofs.Common.{◌≡◌, ℕ, ◌+◌, ◌==◌, ◌<◌, ◌≤◌, arith, Bool, true, false, cond, ◌&&◌, ◌||◌, not, List, [], ◌∷◌, length, Option, Some, None, refl, ap, sym, subst, ◌∙◌}
use Rattle.std.specs.Prelude.{is_some}
use Rattle.std.specs.Option.{option_or}
use Rattle.std.proofs.lemmas.Bool.{eqb-true, eq-eqb}
use Rattle.mq_rules.specs.declared.role.Role.{Role}
use Rattle.mq_rules.specs.declared.role.Role.TheVariants.{Client, Server}
use Rattle.mq_rules.specs.declared.role.Further.{Further}
use Rattle.mq_rules.specs.declared.role.Tested.{Tested}
use Rattle.mq_rules.specs.declared.fate.Fate.{Fate}
use Rattle.mq_rules.specs.declared.rule.Rule.TheVariants.{L1, L2, L3}
use Rattle.mq_rules.specs.declared.note.Note.{Note}
use Rattle.mq_rules.specs.declared.note.Note.TheVariants as notes
use Rattle.mq_rules.specs.declared.note.Seen.{Seen}
use Rattle.mq_rules.specs.Words.{is_some_and, is_id, only}
use Rattle.mq_rules.specs.Notes.{is_open, is_release, released_id, received_exactly_once, sent_as, ended_in, success_pubcomp_in}
use Rattle.mq_rules.specs.Moments.{Moment, newest, note, position, is_same, since, earliest_since, is_next}
use Rattle.mq_rules.specs.Connections.{latest_fate, accepts, begins, any_accepted, has_session, with_first, session, is_void, is_placed_release}
use Rattle.mq_rules.specs.Folds.{gained}
use Rattle.mq_rules.specs.Releases.{brings, releases_message, ends, breaks_L1, breaks_L2, breaks_L3}
use Rattle.mq_rules.specs.Rules.{binds, found_line, line_of, lines, same_rule}
use Rattle.mq_rules.specs.Statements.{statement, where_placed}
use Rattle.mq_rules.specs.Faults.{offset_of}
use Rattle.mq_rules.specs.FaultKeys.{FaultMap}
use Rattle.mq_rules.proofs.Exports.{both_true, earliest_since-there, gains_either, release-needs, within_all, within_either_first}
use Rattle.mq_rules.specs.Under.{IsUnder, fate_before, turns_with}
use Rattle.mq_rules.specs.Growing.{Gains, GainsWithin}
use Rattle.mq_fates.specs.Judgements.{judged_by}
use Rattle.mq_exchanges.specs.Releasing.{expires, is_unmatched, needs_release, is_inside, starts_over, kept_next, lasting, due_next, is_unreceived, is_repeated, is_unreleased, IsReleasing}
use Rattle.mq_fates.specs.Knowing.{is_placed}
use Rattle.mq_fates.proofs.Exports.{and-apart, placed-known, session-turns_with, release-turns_with, gains_judged}

-- ---- the statements

pub binds-L1 : (role : Role) (releases : Bool) (further : Further) → binds L1 (record { role = role; releases = releases; further = further }) ≡ releases
unfolding line_of found_line lines
binds-L1 Client releases further = refl
binds-L1 Server releases further = refl

pub binds-L2 : (role : Role) (releases : Bool) (further : Further) → binds L2 (record { role = role; releases = releases; further = further }) ≡ releases
unfolding line_of found_line lines
binds-L2 Client releases further = refl
binds-L2 Server releases further = refl

pub binds-L3 : (role : Role) (releases : Bool) (further : Further) → binds L3 (record { role = role; releases = releases; further = further }) ≡ releases
unfolding line_of found_line lines
binds-L3 Client releases further = refl
binds-L3 Server releases further = refl

no_offset-L1 : (tested : Tested) (m : Option Moment) → offset_of (statement tested.role L1) m ≡ None
no_offset-L1 tested m = refl

no_offset-L2 : (tested : Tested) (m : Option Moment) → offset_of (statement tested.role L2) m ≡ None
no_offset-L2 tested m = refl

no_offset-L3 : (tested : Tested) (m : Option Moment) → offset_of (statement tested.role L3) m ≡ None
no_offset-L3 tested m = refl

-- ---- the events

-- an OPEN is none of what is looked at
pub open-unseen : (n : Note) → is_open n ≡ true → (received_exactly_once n ≡ None) × (released_id n ≡ None) × (sent_as success_pubcomp_in n ≡ None) × (is_release n ≡ false)
open-unseen notes.Open h = (refl, refl, refl, refl)
open-unseen (notes.Close cuts part) h = absurd (cc)
open-unseen notes.Rest h = absurd (cc)
open-unseen (notes.Release identifier) h = absurd (cc)
open-unseen (notes.Sent item) h = absurd (cc)
open-unseen (notes.Recv item) h = absurd (cc)

-- what brings a message doesn't end an exchange
brought-on : (i : ℕ) (n : Note) → is_id i (received_exactly_once n) ≡ true → is_id i (sent_as ended_in n) ≡ false
brought-on i notes.Open h = refl
brought-on i (notes.Close cuts part) h = refl
brought-on i notes.Rest h = refl
brought-on i (notes.Release identifier) h = refl
brought-on i (notes.Sent item) h = absurd (cc)
brought-on i (notes.Recv item) h = refl

-- ---- the first PUBLISH comes before the next event

abbrev IsWithin : ℕ → List Moment → Type 0
IsWithin n [] = Unit {0}
IsWithin n (m ∷ ms) = (position m ≤ n) × IsWithin n ms

within-more : (n k : ℕ) (ms : List Moment) → n ≤ k → IsWithin n ms → IsWithin k ms
within-more n k [] le h = tt
within-more n k (m ∷ ms) le h = (let a = h.0 in omega arith, within-more n k ms le h.1)

first-within : (b : Bool) (n : ℕ) (m : Moment) (ms : List Moment) → n ≤ position m → IsWithin n ms → IsWithin (position m) (with_first b m ms)
first-within true n m ms le h = (omega arith, within-more n (position m) ms le h)
first-within false n m ms le h = within-more n (position m) ms le h

older-within : (o b : Bool) (n : ℕ) (before same : List Moment) → IsWithin n before → IsWithin n same → IsWithin n (cond o (cond b [] before) same)
older-within true true n before same g h = tt
older-within true false n before same g h = g
older-within false b n before same g h = h

session-within : (role : Role) (f : Option Fate) (log : List Seen) → IsWithin (length log) (session role f log)
session-within role f [] = tt
session-within role f (e ∷ past) =
    within-more (length past + 1) (length (e ∷ past)) (session role f (e ∷ past)) (omega arith)
    (first-within (has_session role f e past) (length past) (newest e past) (cond (is_open e.note) (cond (begins f) [] (session role (latest_fate role past) past)) (session role f past)) (omega arith)
    (older-within (is_open e.note) (begins f) (length past) (session role (latest_fate role past) past) (session role f past) (session-within role (latest_fate role past) past) (session-within role f past)))

earliest-within : (starts stops : Moment → Bool) (n : ℕ) (ms : List Moment) (t : Moment) → IsWithin n ms → earliest_since starts stops ms ≡ Some t → position t ≤ n
earliest-within starts stops n [] t h is = absurd (cc)
earliest-within starts stops n (m ∷ ms) t h is = go (earliest_since starts stops ms) (stops m) (starts m) is refl (earliest-within starts stops n ms t h.1)
  where
    one : (c : Bool) → cond c (Some m) None ≡ Some t → position t ≤ n
    one true g = let same : m ≡ t = cc in subst (λ x. position x ≤ n) same h.0
    one false g = absurd (cc)

    go : (o : Option Moment) (b c : Bool) → option_or (cond b None o) (cond c (Some m) None) ≡ Some t → earliest_since starts stops ms ≡ o
        → (earliest_since starts stops ms ≡ Some t → position t ≤ n) → position t ≤ n
    go o true c g same rest = one c g
    go None false c g same rest = one c g
    go (Some x) false c g same rest = rest (same ∙ g)

-- ---- the session

-- the session with one event more, by what it was before
session-under : (tested : Tested) (f : Fate) (e : Seen) (past : List Seen) → session tested.role (Some f) (e ∷ past)
    ≡ with_first (has_session tested.role (Some f) e past) (newest e past) (cond (starts_over f e.note) [] (session tested.role (fate_before tested f e past) past))
session-under tested f e past = ap (with_first (has_session tested.role (Some f) e past) (newest e past)) (go (is_open e.note) (begins (Some f)))
  where
    go : (o b : Bool) → cond o (cond b [] (session tested.role (latest_fate tested.role past) past)) (session tested.role (Some f) past)
        ≡ cond (o && b) [] (session tested.role (cond o (latest_fate tested.role past) (Some f)) past)
    go true true = refl
    go true false = refl
    go false b = refl

inside-is : (tested : Tested) (f : Fate) (any : Bool) (e : Seen) (past : List Seen) → any ≡ any_accepted tested.role (fate_before tested f e past) past
    → is_inside f e.note any ≡ has_session tested.role (Some f) e past
inside-is tested f any e past is = go (accepts f) (is_release e.note) (is_open e.note) refl (λ h. (open-unseen e.note h).3) is
  where
    go : (a r o : Bool) → is_release e.note ≡ r → (is_open e.note ≡ true → is_release e.note ≡ false) → any ≡ any_accepted tested.role (cond (is_open e.note) (latest_fate tested.role past) (Some f)) past
        → (a || (r && (is_void f && any))) ≡ (a || (r && (is_void f && any_accepted tested.role (Some f) past)))
    go true r o h none is = refl
    go false false o h none is = refl
    go false true o h none is = ap (λ b. is_void f && b) (is ∙ same (is_open e.note) refl)
      where
        same : (b : Bool) → is_open e.note ≡ b → any_accepted tested.role (cond b (latest_fate tested.role past) (Some f)) past ≡ any_accepted tested.role (Some f) past
        same true g = absurd (let x = none g in cc)
        same false g = refl

any-next : (tested : Tested) (f : Fate) (any : Bool) (e : Seen) (past : List Seen) → any ≡ any_accepted tested.role (fate_before tested f e past) past
    → (any || (is_open e.note && accepts f)) ≡ any_accepted tested.role (Some f) (e ∷ past)
any-next tested f any e past is = go (is_open e.note) is
  where
    turn : (a b : Bool) → (a || b) ≡ (b || a)
    turn true true = refl
    turn true false = refl
    turn false true = refl
    turn false false = refl

    plain : (a : Bool) → (a || false) ≡ a
    plain true = refl
    plain false = refl

    go : (o : Bool) → any ≡ any_accepted tested.role (cond o (latest_fate tested.role past) (Some f)) past
        → (any || (o && accepts f)) ≡ cond o (accepts f || any_accepted tested.role (latest_fate tested.role past) past) (any_accepted tested.role (Some f) past)
    go true is = turn any (accepts f) ∙ ap (λ b. accepts f || b) is
    go false is = plain any ∙ is

-- ---- what is kept, with one moment more

since-next : (starts stops : Moment → Bool) (inside over : Bool) (m : Moment) (ms : List Moment) → since starts stops (with_first inside m (cond over [] ms))
    ≡ gained inside (starts m) (stops m) (not over && since starts stops ms)
since-next starts stops true true m ms = refl
since-next starts stops true false m ms = refl
since-next starts stops false true m ms = refl
since-next starts stops false false m ms = refl

needs-more : (i n : ℕ) (m : Moment) (ms : List Moment) → IsWithin n ms → n < position m → needs_release i (m ∷ ms)
    ≡ ((brings i m && (not (since (brings i) (ends i) ms) && not (expires (note m)))) || (not (ends i m) && (not (is_unmatched i m) && needs_release i ms)))
needs-more i n m ms within below =
    go (earliest_since (brings i) (ends i) ms) (brings i m) (ends i m) (is_unmatched i m) refl (λ h. brought-on i (note m) h)
    ∙ ap (λ b. (brings i m && (not b && not (expires (note m)))) || (not (ends i m) && (not (is_unmatched i m) && needs_release i ms))) (earliest_since-there (brings i) (ends i) ms)
  where
    sent : Moment → Bool
    sent t = since (is_same t) (is_unmatched i) ms

    other : (t : Moment) → earliest_since (brings i) (ends i) ms ≡ Some t → is_same t m ≡ false
    other t is = differs (is_same t m) refl
      where
        le : position t ≤ n
        le = earliest-within (brings i) (ends i) n ms t within is

        differs : (b : Bool) → is_same t m ≡ b → b ≡ false
        differs true h = absurd (let same : position t ≡ position m = eqb-true (position t) (position m) h in let l = le in omega arith)
        differs false h = refl

    bools : (x s u : Bool) → not (x || not (not u && s)) ≡ (not u && not (x || not s))
    bools true true true = refl
    bools true true false = refl
    bools true false true = refl
    bools true false false = refl
    bools false true true = refl
    bools false true false = refl
    bools false false true = refl
    bools false false false = refl

    nothing : (b : Bool) → (b && false) ≡ false
    nothing true = refl
    nothing false = refl

    fresh : (x u : Bool) → not (x || false) ≡ (not x || (not u && false))
    fresh true true = refl
    fresh true false = refl
    fresh false u = refl

    go : (o : Option Moment) (b c u : Bool) → earliest_since (brings i) (ends i) ms ≡ o → (b ≡ true → c ≡ false)
        → is_some_and (λ first. not (expires (note first) || not (is_same first m || (not u && sent first)))) (option_or (cond c None o) (cond b (Some m) None))
        ≡ ((b && (not (is_some o) && not (expires (note m)))) || (not c && (not u && is_some_and (λ first. not (expires (note first) || not (sent first))) o)))
    go o true true u is apart = absurd (let h = apart refl in cc)
    go o false true u is apart = refl
    go (Some t) b false u is apart =
        ap (λ s. not (expires (note t) || not (s || (not u && sent t)))) (other t is)
        ∙ bools (expires (note t)) (sent t) u
        ∙ sym (ap (λ s. s || (not u && not (expires (note t) || not (sent t)))) (nothing b))
    go None true false u is apart =
        ap (λ s. not (expires (note m) || not (s || (not u && sent m)))) (eq-eqb (position m) (position m) refl)
        ∙ fresh (expires (note m)) u
    go None false false u is apart = sym (nothing (not u))

lasting-is : (i : ℕ) (n : Note) (brought : ℕ → Bool) → is_id i (lasting n brought) ≡ (is_id i (received_exactly_once n) && (not (brought i) && not (expires n)))
lasting-is i n brought = go (received_exactly_once n)
  where
    none : (b : Bool) → is_id i (only b None) ≡ false
    none true = refl
    none false = refl

    some : (b : Bool) (j : ℕ) → is_id i (only b (Some j)) ≡ ((i == j) && b)
    some true j = sym (whole (i == j))
      where
        whole : (b : Bool) → (b && true) ≡ b
        whole true = refl
        whole false = refl
    some false j = sym (empty (i == j))
      where
        empty : (b : Bool) → (b && false) ≡ false
        empty true = refl
        empty false = refl

    same : (j : ℕ) (b : Bool) → (i == j) ≡ b → (b && (not (brought j) && not (expires n))) ≡ (b && (not (brought i) && not (expires n)))
    same j true h = ap (λ x. not (brought x) && not (expires n)) (sym (eqb-true i j h))
    same j false h = refl

    go : (o : Option ℕ) → is_id i (only (not (is_some_and brought o) && not (expires n)) o) ≡ (is_id i o && (not (brought i) && not (expires n)))
    go None = none (not (expires n))
    go (Some j) = some (not (brought j) && not (expires n)) j ∙ same j (i == j) refl

due-step : (i : ℕ) (inside over : Bool) (brought : ℕ → Bool) (old : Bool) (e : Seen) (past : List Seen) (ms : List Moment) → IsWithin (length past) ms → (over ≡ true → received_exactly_once e.note ≡ None)
    → brought i ≡ since (brings i) (ends i) ms → old ≡ needs_release i ms → due_next over inside e.note brought i old ≡ needs_release i (with_first inside (newest e past) (cond over [] ms))
due-step i true true brought old e past ms within none was is =
    ap (λ b. b || (not (ends i m) && (not (is_unmatched i m) && false))) (lasting-is i e.note brought)
    ∙ ap (λ o. (is_id i o && (not (brought i) && not (expires e.note))) || (not (ends i m) && (not (is_unmatched i m) && false))) (none refl)
    ∙ sym (needs-more i (length past) m [] tt (omega arith) ∙ ap (λ o. (is_id i o && not (expires e.note)) || (not (ends i m) && (not (is_unmatched i m) && false))) (none refl))
  where
    m : Moment
    m = newest e past
due-step i true false brought old e past ms within none was is =
    ap (λ b. b || (not (ends i m) && (not (is_unmatched i m) && old))) (lasting-is i e.note brought)
    ∙ ap (λ b. (brings i m && (not b && not (expires e.note))) || (not (ends i m) && (not (is_unmatched i m) && old))) was
    ∙ ap (λ b. (brings i m && (not (since (brings i) (ends i) ms) && not (expires e.note))) || (not (ends i m) && (not (is_unmatched i m) && b))) is
    ∙ sym (needs-more i (length past) m ms within (omega arith))
  where
    m : Moment
    m = newest e past
due-step i false true brought old e past ms within none was is = refl
due-step i false false brought old e past ms within none was is = is

-- ---- the book

pub releasing-next : (tested : Tested) (role : Role) (releases : Bool) (fate f : Fate) (any : Bool) (brought released due : ℕ → Bool) (inside over any2 : Bool) (brought2 released2 due2 : ℕ → Bool) (e : Seen) (past : List Seen)
    → IsReleasing role releases fate any brought released due tested (fate_before tested f e past) past → inside ≡ is_inside f e.note any → over ≡ starts_over f e.note → any2 ≡ (any || (is_open e.note && accepts f))
    → ((i : ℕ) → due2 i ≡ due_next over inside e.note brought i (due i)) → ((i : ℕ) → brought2 i ≡ kept_next over inside (received_exactly_once e.note) (sent_as ended_in e.note) i (brought i))
    → ((i : ℕ) → released2 i ≡ kept_next over inside (released_id e.note) (sent_as ended_in e.note) i (released i))
    → IsReleasing role releases f any2 brought2 released2 due2 tested (Some f) (e ∷ past)
releasing-next tested role releases fate f any brought released due inside over any2 brought2 released2 due2 e past r inside_is over_is any_is d b c = record {
  same_role = r.same_role;
  same_releases = r.same_releases;
  same_fate = refl;
  any_are = any_is ∙ any-next tested f any e past r.any_are;
  brought_are = λ i. b i ∙ ap (λ x. kept_next over inside (received_exactly_once e.note) (sent_as ended_in e.note) i x) (r.brought_are i)
      ∙ sym (since-next (brings i) (ends i) inside over (newest e past) before) ∙ ap (since (brings i) (ends i)) (sym whole);
  released_are = λ i. c i ∙ ap (λ x. kept_next over inside (released_id e.note) (sent_as ended_in e.note) i x) (r.released_are i)
      ∙ sym (since-next (releases_message i) (ends i) inside over (newest e past) before) ∙ ap (since (releases_message i) (ends i)) (sym whole);
  due_are = λ i. d i ∙ due-step i inside over brought (due i) e past before (session-within tested.role (fate_before tested f e past) past) opens (r.brought_are i) (r.due_are i) ∙ ap (needs_release i) (sym whole);
}
  where
    before : List Moment
    before = session tested.role (fate_before tested f e past) past

    whole : session tested.role (Some f) (e ∷ past) ≡ with_first inside (newest e past) (cond over [] before)
    whole = session-under tested f e past
        ∙ ap (λ b. with_first b (newest e past) (cond (starts_over f e.note) [] before)) (sym (inside_is ∙ inside-is tested f any e past r.any_are))
        ∙ ap (λ b. with_first inside (newest e past) (cond b [] before)) (sym over_is)

    opens : over ≡ true → received_exactly_once e.note ≡ None
    opens h = go (is_open e.note) refl (sym over_is ∙ h)
      where
        go : (o : Bool) → is_open e.note ≡ o → (o && begins (Some f)) ≡ true → received_exactly_once e.note ≡ None
        go true is t = (open-unseen e.note is).0
        go false is t = absurd (cc)

-- what is found at an event is tested by what is kept: at an OPEN nothing is found
pub same-found : (tested : Tested) (f : Fate) (e : Seen) (past : List Seen) (p : ℕ → Bool) (q : ℕ → List Moment → Bool) (o : Option ℕ) → (is_open e.note ≡ true → o ≡ None)
    → ((i : ℕ) → p i ≡ q i (session tested.role (fate_before tested f e past) past)) → is_some_and p o ≡ is_some_and (λ i. q i (session tested.role (Some f) past)) o
same-found tested f e past p q o none are = go (is_open e.note) refl o none are
  where
    go : (b : Bool) → is_open e.note ≡ b → (o : Option ℕ) → (is_open e.note ≡ true → o ≡ None) → ((i : ℕ) → p i ≡ q i (session tested.role (cond b (latest_fate tested.role past) (Some f)) past))
        → is_some_and p o ≡ is_some_and (λ i. q i (session tested.role (Some f) past)) o
    go true h None none are = refl
    go true h (Some i) none are = absurd (let x = none h in cc)
    go false h None none are = refl
    go false h (Some i) none are = are i

there_in : (p : ℕ → Bool) (o : Option ℕ) → is_some_and p o ≡ true → is_some o ≡ true
there_in p None h = absurd (cc)
there_in p (Some i) h = refl

placed-in : (a b p q : Bool) → a ≡ b → (b && p) ≡ (b && q) → (a && p) ≡ (b && q)
placed-in a b p q is h = ap (λ x. x && p) is ∙ h

L1-turns : (tested : Tested) (role : Role) (releases : Bool) (fate f : Fate) (any : Bool) (brought released due : ℕ → Bool) (at : ℕ) (e : Seen) (past : List Seen) → IsUnder tested f at e past
    → IsReleasing role releases fate any brought released due tested (fate_before tested f e past) past
    → (k : ℕ) → turns_with tested f e past k L1 ≡ (is_next past k && ((releases && is_unreceived e.note brought) && is_placed f (at == e.place.position)))
unfolding breaks_L1
L1-turns tested role releases fate f any brought released due at e past under r k =
    release-turns_with tested L1 (where_placed tested.role (breaks_L1 tested.role)) refl f e past k
    ∙ ap (λ b. is_next past k && (b && (breaks_L1 tested.role f (newest e past) && is_placed_release tested.role f (newest e past)))) (binds-L1 tested.role tested.releases tested.further ∙ sym r.same_releases)
    ∙ ap (λ b. is_next past k && b) (and-apart releases (breaks_L1 tested.role f (newest e past)) (is_placed_release tested.role f (newest e past)))
    ∙ ap (λ b. is_next past k && b) (placed-in (releases && breaks_L1 tested.role f (newest e past)) (releases && is_unreceived e.note brought) (is_placed_release tested.role f (newest e past)) (is_placed f (at == e.place.position))
    (ap (λ b. releases && b) (sym (same-found tested f e past (λ i. not (brought i)) (λ i ms. not (since (brings i) (ends i) ms)) (released_id e.note) (λ h. (open-unseen e.note h).1) (λ i. ap not (r.brought_are i)))))
    (placed-known tested f at e past (releases && is_unreceived e.note brought) under
    (λ t. release-needs e.note (there_in (λ i. not (brought i)) (released_id e.note) (both_true releases (is_unreceived e.note brought) t).1))))

L2-turns : (tested : Tested) (role : Role) (releases : Bool) (fate f : Fate) (any : Bool) (brought released due : ℕ → Bool) (at : ℕ) (e : Seen) (past : List Seen) → IsUnder tested f at e past
    → IsReleasing role releases fate any brought released due tested (fate_before tested f e past) past
    → (k : ℕ) → turns_with tested f e past k L2 ≡ (is_next past k && ((releases && is_repeated e.note released) && is_placed f (at == e.place.position)))
unfolding breaks_L2
L2-turns tested role releases fate f any brought released due at e past under r k =
    release-turns_with tested L2 (where_placed tested.role (breaks_L2 tested.role)) refl f e past k
    ∙ ap (λ b. is_next past k && (b && (breaks_L2 tested.role f (newest e past) && is_placed_release tested.role f (newest e past)))) (binds-L2 tested.role tested.releases tested.further ∙ sym r.same_releases)
    ∙ ap (λ b. is_next past k && b) (and-apart releases (breaks_L2 tested.role f (newest e past)) (is_placed_release tested.role f (newest e past)))
    ∙ ap (λ b. is_next past k && b) (placed-in (releases && breaks_L2 tested.role f (newest e past)) (releases && is_repeated e.note released) (is_placed_release tested.role f (newest e past)) (is_placed f (at == e.place.position))
    (ap (λ b. releases && b) (sym (same-found tested f e past released (λ i ms. since (releases_message i) (ends i) ms) (released_id e.note) (λ h. (open-unseen e.note h).1) r.released_are)))
    (placed-known tested f at e past (releases && is_repeated e.note released) under
    (λ t. release-needs e.note (there_in released (released_id e.note) (both_true releases (is_repeated e.note released) t).1))))

-- a RELEASE is missing for the first PUBLISH, and it needs one
missing-first : (a : Bool) (test : Moment → Bool) (o : Option Moment) → (not a && is_some_and (λ first. not (test first)) o) ≡ is_some_and (λ first. not a && not (test first)) o
missing-first true test None = refl
missing-first false test None = refl
missing-first true test (Some m) = refl
missing-first false test (Some m) = refl

L3-turns : (tested : Tested) (role : Role) (releases : Bool) (fate f : Fate) (any : Bool) (brought released due : ℕ → Bool) (e : Seen) (past : List Seen)
    → IsReleasing role releases fate any brought released due tested (fate_before tested f e past) past → (k : ℕ) → turns_with tested f e past k L3 ≡ (is_next past k && (releases && is_unreleased f e.note released due))
unfolding breaks_L3
L3-turns tested role releases fate f any brought released due e past r k =
    session-turns_with tested L3 (breaks_L3 tested.role) refl f e past k
    ∙ ap (λ b. is_next past k && (b && (accepts f && breaks_L3 tested.role f (newest e past)))) (binds-L3 tested.role tested.releases tested.further ∙ sym r.same_releases)
    ∙ ap (λ b. is_next past k && (releases && (accepts f && b))) (sym (same-found tested f e past (λ i. not (released i) && due i)
    (λ i ms. is_some_and (λ first. not (since (releases_message i) (ends i) ms) && not (expires (note first) || not (since (is_same first) (is_unmatched i) ms))) (earliest_since (brings i) (ends i) ms))
    (sent_as success_pubcomp_in e.note) (λ h. (open-unseen e.note h).2)
    (λ i. ap (λ b. not b && due i) (r.released_are i) ∙ ap (λ b. not (since (releases_message i) (ends i) before) && b) (r.due_are i)
    ∙ missing-first (since (releases_message i) (ends i) before) (λ first. expires (note first) || not (since (is_same first) (is_unmatched i) before)) (earliest_since (brings i) (ends i) before))))
  where
    before : List Moment
    before = session tested.role (fate_before tested f e past) past

L1-gains : (tested : Tested) (role : Role) (releases : Bool) (fate f : Fate) (any : Bool) (brought released due : ℕ → Bool) (at : ℕ) (e : Seen) (past : List Seen) (old new : FaultMap) (b : Bool) → IsUnder tested f at e past
    → IsReleasing role releases fate any brought released due tested (fate_before tested f e past) past → b ≡ ((releases && is_unreceived e.note brought) && is_placed f (at == e.place.position)) → new ≡ judged_by b L1 e.place at old
    → Gains (λ k r. same_rule r L1 && turns_with tested f e past k r) tested (e ∷ past) at old new
L1-gains tested role releases fate f any brought released due at e past old new b under r is grown =
    subst (λ (m : FaultMap). Gains (λ k r. same_rule r L1 && turns_with tested f e past k r) tested (e ∷ past) at old m) (sym grown)
    (gains_judged tested L1 f e past at old b (no_offset-L1 tested) under.follows.placed.0 (λ k. L1-turns tested role releases fate f any brought released due at e past under r k ∙ ap (λ b. is_next past k && b) (sym is)))

L2-gains : (tested : Tested) (role : Role) (releases : Bool) (fate f : Fate) (any : Bool) (brought released due : ℕ → Bool) (at : ℕ) (e : Seen) (past : List Seen) (old new : FaultMap) (b : Bool) → IsUnder tested f at e past
    → IsReleasing role releases fate any brought released due tested (fate_before tested f e past) past → b ≡ ((releases && is_repeated e.note released) && is_placed f (at == e.place.position)) → new ≡ judged_by b L2 e.place at old
    → Gains (λ k r. same_rule r L2 && turns_with tested f e past k r) tested (e ∷ past) at old new
L2-gains tested role releases fate f any brought released due at e past old new b under r is grown =
    subst (λ (m : FaultMap). Gains (λ k r. same_rule r L2 && turns_with tested f e past k r) tested (e ∷ past) at old m) (sym grown)
    (gains_judged tested L2 f e past at old b (no_offset-L2 tested) under.follows.placed.0 (λ k. L2-turns tested role releases fate f any brought released due at e past under r k ∙ ap (λ b. is_next past k && b) (sym is)))

L3-gains : (tested : Tested) (role : Role) (releases : Bool) (fate f : Fate) (any : Bool) (brought released due : ℕ → Bool) (at : ℕ) (e : Seen) (past : List Seen) (old new : FaultMap) (b : Bool) → IsUnder tested f at e past
    → IsReleasing role releases fate any brought released due tested (fate_before tested f e past) past → b ≡ (releases && is_unreleased f e.note released due) → new ≡ judged_by b L3 e.place at old
    → Gains (λ k r. same_rule r L3 && turns_with tested f e past k r) tested (e ∷ past) at old new
L3-gains tested role releases fate f any brought released due at e past old new b under r is grown =
    subst (λ (m : FaultMap). Gains (λ k r. same_rule r L3 && turns_with tested f e past k r) tested (e ∷ past) at old m) (sym grown)
    (gains_judged tested L3 f e past at old b (no_offset-L3 tested) under.follows.placed.0 (λ k. L3-turns tested role releases fate f any brought released due e past r k ∙ ap (λ b. is_next past k && b) (sym is)))

L2-both : (tested : Tested) (role : Role) (releases : Bool) (fate f : Fate) (any : Bool) (brought released due : ℕ → Bool) (at : ℕ) (e : Seen) (past : List Seen) (old mid new : FaultMap) (b1 b2 : Bool) → IsUnder tested f at e past
    → IsReleasing role releases fate any brought released due tested (fate_before tested f e past) past → b1 ≡ ((releases && is_unreceived e.note brought) && is_placed f (at == e.place.position)) → mid ≡ judged_by b1 L1 e.place at old
    → b2 ≡ ((releases && is_repeated e.note released) && is_placed f (at == e.place.position)) → new ≡ judged_by b2 L2 e.place at mid → Gains (λ k r. (same_rule r L1 || same_rule r L2) && turns_with tested f e past k r) tested (e ∷ past) at old new
L2-both tested role releases fate f any brought released due at e past old mid new b1 b2 under r is1 grown1 is2 grown2 =
    gains_either (λ r. same_rule r L1) (λ r. same_rule r L2) (turns_with tested f e past) tested (e ∷ past) at old mid new
    (L1-gains tested role releases fate f any brought released due at e past old mid b1 under r is1 grown1) (L2-gains tested role releases fate f any brought released due at e past mid new b2 under r is2 grown2)

-- after the first of the three, after two, and after all
pub within-first : (tested : Tested) (role : Role) (releases : Bool) (fate f : Fate) (any : Bool) (brought released due : ℕ → Bool) (at : ℕ) (e : Seen) (past : List Seen) (old new : FaultMap) (b1 : Bool) → IsUnder tested f at e past
    → IsReleasing role releases fate any brought released due tested (fate_before tested f e past) past → b1 ≡ ((releases && is_unreceived e.note brought) && is_placed f (at == e.place.position)) → new ≡ judged_by b1 L1 e.place at old
    → GainsWithin (λ k r. ((same_rule r L1 || same_rule r L2) || same_rule r L3) && turns_with tested f e past k r) tested (e ∷ past) at old new
within-first tested role releases fate f any brought released due at e past old new b1 under r is1 grown1 =
    within_either_first (λ r. same_rule r L1 || same_rule r L2) (λ r. same_rule r L3) (turns_with tested f e past) tested (e ∷ past) at old new
    (within_either_first (λ r. same_rule r L1) (λ r. same_rule r L2) (turns_with tested f e past) tested (e ∷ past) at old new
    (within_all (λ k r. same_rule r L1 && turns_with tested f e past k r) tested (e ∷ past) at old new (L1-gains tested role releases fate f any brought released due at e past old new b1 under r is1 grown1)))

pub within-both : (tested : Tested) (role : Role) (releases : Bool) (fate f : Fate) (any : Bool) (brought released due : ℕ → Bool) (at : ℕ) (e : Seen) (past : List Seen) (old mid new : FaultMap) (b1 b2 : Bool) → IsUnder tested f at e past
    → IsReleasing role releases fate any brought released due tested (fate_before tested f e past) past → b1 ≡ ((releases && is_unreceived e.note brought) && is_placed f (at == e.place.position)) → mid ≡ judged_by b1 L1 e.place at old
    → b2 ≡ ((releases && is_repeated e.note released) && is_placed f (at == e.place.position)) → new ≡ judged_by b2 L2 e.place at mid → GainsWithin (λ k r. ((same_rule r L1 || same_rule r L2) || same_rule r L3) && turns_with tested f e past k r) tested (e ∷ past) at old new
within-both tested role releases fate f any brought released due at e past old mid new b1 b2 under r is1 grown1 is2 grown2 =
    within_either_first (λ r. same_rule r L1 || same_rule r L2) (λ r. same_rule r L3) (turns_with tested f e past) tested (e ∷ past) at old new
    (within_all (λ k r. (same_rule r L1 || same_rule r L2) && turns_with tested f e past k r) tested (e ∷ past) at old new (L2-both tested role releases fate f any brought released due at e past old mid new b1 b2 under r is1 grown1 is2 grown2))

pub releases-gains : (tested : Tested) (role : Role) (releases : Bool) (fate f : Fate) (any : Bool) (brought released due : ℕ → Bool) (at : ℕ) (e : Seen) (past : List Seen) (old first second new : FaultMap) (b1 b2 b3 : Bool) → IsUnder tested f at e past
    → IsReleasing role releases fate any brought released due tested (fate_before tested f e past) past → b1 ≡ ((releases && is_unreceived e.note brought) && is_placed f (at == e.place.position)) → first ≡ judged_by b1 L1 e.place at old
    → b2 ≡ ((releases && is_repeated e.note released) && is_placed f (at == e.place.position)) → second ≡ judged_by b2 L2 e.place at first → b3 ≡ (releases && is_unreleased f e.note released due) → new ≡ judged_by b3 L3 e.place at second
    → Gains (λ k r. ((same_rule r L1 || same_rule r L2) || same_rule r L3) && turns_with tested f e past k r) tested (e ∷ past) at old new
releases-gains tested role releases fate f any brought released due at e past old first second new b1 b2 b3 under r is1 grown1 is2 grown2 is3 grown3 =
    gains_either (λ r. same_rule r L1 || same_rule r L2) (λ r. same_rule r L3) (turns_with tested f e past) tested (e ∷ past) at old second new
    (L2-both tested role releases fate f any brought released due at e past old first second b1 b2 under r is1 grown1 is2 grown2) (L3-gains tested role releases fate f any brought released due at e past second new b3 under r is3 grown3)
