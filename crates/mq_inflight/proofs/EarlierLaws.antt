-- What was cut off or sent on earlier connections, with one event more, and what S02 reads of it.
use Rattle.std.proofs.Common.{◌≡◌, ℕ, ◌+◌, ◌<◌, ◌≤◌, ◌==◌, nat_eq, nat_lt, arith, Bool, true, false, cond, ◌&&◌, ◌||◌, not, List, [], ◌∷◌, Option, Some, None, refl, ap, sym, ◌∙◌, inl, inr}
use Rattle.std.specs.Prelude.{is_some, is_none}
use Rattle.std.specs.Option.{option_or}
use Rattle.std.proofs.lemmas.Bool.{ltb-true, ltb-false, lt-ltb, eq-eqb}
use Rattle.indexmap.specs.IndexSet.{contains}
use Rattle.mq_rules.specs.declared.role.Role.{Role}
use Rattle.mq_rules.specs.declared.role.Role.TheVariants.{Client, Server}
use Rattle.mq_rules.specs.declared.role.Tested.{Tested}
use Rattle.mq_rules.specs.declared.fate.Fate.{Fate}
use Rattle.mq_rules.specs.declared.fate.Fate.TheVariants.{Void, Adrift, New, Forgotten, Resumed, Unasked, Unknown}
use Rattle.mq_rules.specs.declared.note.Note.{Note}
use Rattle.mq_rules.specs.declared.note.Note.TheVariants as notes
use Rattle.mq_rules.specs.declared.note.Seen.{Seen}
use Rattle.mq_rules.specs.Words.{is_some_and, is_id}
use Rattle.mq_rules.specs.Notes.{is_open, is_release, is_boundary, is_cutting, decides, delivery_of}
use Rattle.mq_rules.specs.Moments.{Moment, newest, note, moments, some, Among}
use Rattle.mq_rules.specs.Connections.{begun, number, connection, latest_outcome, fate, latest_fate, gives_fate, accepts, resumes, is_void, voided, begins, accepted, accepts_at, has_accepted, begins_session, comes_early, any_accepted, has_session, with_first, session}
use Rattle.mq_rules.specs.Identifiers.{delivers, cuts_publish, was_sent_before_session, was_cut_off}
use Rattle.mq_rules.specs.Under.{IsUnder, fate_before}
use Rattle.mq_rules.proofs.Exports.{accepted-gives, among-some, and_false, begins-gives, begun-closed, begun-open-of-given as begun-open, both_true, differ, fate-outcome, gives-decides, latest_fate-open, latest_fate-same, not_true, open-decides, or-turn, or_false, session-members, some-among, some-next}
use Rattle.mq_inflight.specs.declared.inflight.earlier.Earlier.{Earlier}
use Rattle.mq_inflight.specs.Earlier.{cut_on_void, cut_in_session, accepted_before, begins_here, sent_before, sent_first, cut_on_void_next, cut_next, accepted_next, early_next, first_next, may_resend, IsEarlier, GoesOn}
use Rattle.mq_inflight.proofs.VoidLaws.{some-same, on_void-next, on_void-read}
use Rattle.mq_fates.proofs.Exports.{numbers}

and-true : (b : Bool) → (b && true) ≡ b
and-true true = refl
and-true false = refl

-- ---- what an event is

open-uncut : (n : Note) → is_open n ≡ true → is_cutting n ≡ false
open-uncut notes.Open h = refl
open-uncut (notes.Close cuts part) h = absurd (cc)
open-uncut _ h = refl

-- a CLOSE is no RELEASE
cut-inside : (n : Note) (a x : Bool) → ((a || (is_release n && x)) && is_cutting n) ≡ (is_cutting n && a)
cut-inside notes.Open a x = and_false (a || false)
cut-inside (notes.Close cuts part) true x = sym (and-true cuts)
cut-inside (notes.Close cuts part) false x = sym (and_false cuts)
cut-inside notes.Rest a x = and_false (a || false)
cut-inside (notes.Release identifier) a x = and_false (a || x)
cut-inside (notes.Sent item) a x = and_false (a || false)
cut-inside (notes.Recv item) a x = and_false (a || false)

open-silent : (n : Note) → is_open n ≡ true → delivery_of n ≡ None
open-silent notes.Open h = refl
open-silent _ h = absurd (cc)

-- what a client sends doesn't decide
delivery-decides : (i : ℕ) (n : Note) → is_id i (delivery_of n) ≡ true → decides Client n ≡ None
delivery-decides i (notes.Sent item) h = refl
delivery-decides i _ h = absurd (cc)

-- ---- in the session, with one event more

some_session-next : (role : Role) (test : Moment → Bool) (f : Option Fate) (e : Seen) (past : List Seen) → some test (session role f (e ∷ past))
    ≡ ((has_session role f e past && test (newest e past)) || cond (is_open e.note) (not (begins f) && some test (session role (latest_fate role past) past)) (some test (session role f past)))
some_session-next role test f e past = first (has_session role f e past) ∙ ap (λ b. (has_session role f e past && test (newest e past)) || b) (rest (is_open e.note) (begins f))
  where
    others : List Moment
    others = cond (is_open e.note) (cond (begins f) [] (session role (latest_fate role past) past)) (session role f past)

    first : (b : Bool) → some test (with_first b (newest e past) others) ≡ ((b && test (newest e past)) || some test others)
    first true = refl
    first false = refl

    rest : (opens new : Bool) → some test (cond opens (cond new [] (session role (latest_fate role past) past)) (session role f past)) ≡ cond opens (not new && some test (session role (latest_fate role past) past)) (some test (session role f past))
    rest true true = refl
    rest true false = refl
    rest false new = refl

cut-next : (tested : Tested) (f : Fate) (e : Seen) (past : List Seen) → cut_in_session tested.role (Some f) (e ∷ past) ≡ cut_next f e.note (cut_in_session tested.role (fate_before tested f e past) past)
cut-next tested f e past =
    some_session-next tested.role cuts_publish (Some f) e past
    ∙ ap (λ b. b || cond (is_open e.note) (not (begins (Some f)) && cut_in_session tested.role (latest_fate tested.role past) past) (cut_in_session tested.role (Some f) past))
    (cut-inside e.note (accepts f) (is_void f && any_accepted tested.role (Some f) past))
    ∙ go (is_open e.note) refl
  where
    go : (b : Bool) → is_open e.note ≡ b → ((is_cutting e.note && accepts f) || cond b (not (begins (Some f)) && cut_in_session tested.role (latest_fate tested.role past) past) (cut_in_session tested.role (Some f) past))
        ≡ cond b (not (begins (Some f)) && cut_in_session tested.role (cond b (latest_fate tested.role past) (Some f)) past) ((is_cutting e.note && accepts f) || cut_in_session tested.role (cond b (latest_fate tested.role past) (Some f)) past)
    go true h = ap (λ c. (c && accepts f) || (not (begins (Some f)) && cut_in_session tested.role (latest_fate tested.role past) past)) (open-uncut e.note h)
    go false h = refl

-- ---- whether a connection was accepted before

abbrev lasts : Fate → Bool
lasts f = not (is_void f)

open-unaccepting : (role : Role) (e : Seen) (past : List Seen) → is_open e.note ≡ true → accepts_at role (newest e past) ≡ false
open-unaccepting role e past h = ap (λ o. is_none (latest_outcome role past) && accepted o) (open-decides role e.note h) ∙ and_false (is_none (latest_outcome role past))

itself : (n : ℕ) → nat_lt n n ≡ false
itself n = not_true (nat_lt n n) (λ t. let bad : n < n = ltb-true n n t in absurd (omega arith))

accepted-next : (role : Role) (e : Seen) (past : List Seen) → accepted_before role (e ∷ past) ≡ cond (is_open e.note) (has_accepted role past) (accepted_before role past)
accepted-next role e past = go (is_open e.note) refl
  where
    go : (b : Bool) → is_open e.note ≡ b → accepted_before role (e ∷ past) ≡ cond b (has_accepted role past) (accepted_before role past)
    go true h =
        ap (λ a. (a && nat_lt (begun (e ∷ past)) (begun (e ∷ past))) || some (λ m. accepts_at role m && nat_lt (number m) (begun (e ∷ past))) (moments past)) (open-unaccepting role e past h)
        ∙ some-same (λ m. accepts_at role m && nat_lt (number m) (begun (e ∷ past))) (accepts_at role) (moments past)
        (λ m a.
        let le = numbers past m a in
        let more : begun (e ∷ past) ≡ 1 + begun past = begun-open e past h in
        ap (λ b. accepts_at role m && b) (lt-ltb (number m) (begun (e ∷ past)) (omega arith)) ∙ and-true (accepts_at role m))
    go false h =
        ap (λ t. (accepts_at role (newest e past) && t) || some (λ m. accepts_at role m && nat_lt (number m) (begun (e ∷ past))) (moments past)) (itself (begun (e ∷ past)))
        ∙ ap (λ b. b || some (λ m. accepts_at role m && nat_lt (number m) (begun (e ∷ past))) (moments past)) (and_false (accepts_at role (newest e past)))
        ∙ ap (λ n. some (λ m. accepts_at role m && nat_lt (number m) n) (moments past)) (begun-closed e past h)

unanswered : (role : Role) (past : List Seen) → is_none (latest_outcome role past) ≡ is_none (latest_fate role past)
unanswered role past = ap not (sym (fate-outcome role past))

-- Some connection was accepted exactly if one before the latest was, or that is decided and not void.
accepted-is : (role : Role) (past : List Seen) → has_accepted role past ≡ (accepted_before role past || is_some_and lasts (latest_fate role past))
accepted-is role [] = refl
accepted-is role (e ∷ past) = go (is_open e.note) refl (accepted-is role past)
  where
    now : (o : Option Fate) (g : Option Fate) (a b c : Bool) → a ≡ is_some_and lasts g → c ≡ (b || is_some_and lasts o) → ((is_none o && a) || c) ≡ (b || is_some_and lasts (option_or o g))
    now None g a b c p q = ap (λ c. a || c) (q ∙ or_false b) ∙ or-turn a b ∙ ap (λ a. b || a) p
    now (Some f) g a b c p q = q

    go : (b : Bool) → is_open e.note ≡ b → has_accepted role past ≡ (accepted_before role past || is_some_and lasts (latest_fate role past)) → has_accepted role (e ∷ past) ≡ (accepted_before role (e ∷ past) || is_some_and lasts (latest_fate role (e ∷ past)))
    go true h before =
        ap (λ a. a || has_accepted role past) (open-unaccepting role e past h)
        ∙ sym (ap (λ o. accepted_before role (e ∷ past) || is_some_and lasts o) (latest_fate-open role e past h) ∙ or_false (accepted_before role (e ∷ past)) ∙ accepted-next role e past ∙ ap (λ b. cond b (has_accepted role past) (accepted_before role past)) h)
    go false h before =
        ap (λ b. (b && accepted (decides role e.note)) || has_accepted role past) (unanswered role past)
        ∙ now (latest_fate role past) (gives_fate role (newest e past)) (accepted (decides role e.note)) (accepted_before role past) (has_accepted role past) (sym (accepted-gives role (newest e past))) before
        ∙ sym (ap (λ o. accepted_before role (e ∷ past) || is_some_and lasts o) (latest_fate-same role e past h) ∙ ap (λ b. b || is_some_and lasts (option_or (latest_fate role past) (gives_fate role (newest e past)))) (accepted-next role e past ∙ ap (λ b. cond b (has_accepted role past) (accepted_before role past)) h))

-- ---- what was sent before the session began

-- the same on any connection, also the latest one
abbrev sent_ever : ℕ → Option Fate → List Seen → Bool
sent_ever i taken past = some (λ m. begins_session Client m && some (delivers i) (connection m.past)) (session Client taken past)

-- on the latest one alone
abbrev sent_here : ℕ → Option Fate → List Seen → Bool
sent_here i taken past = some (λ m. begins_session Client m && ((number m == begun past) && some (delivers i) (connection m.past))) (session Client taken past)

abbrev early : ℕ → List Seen → Bool
early i past = some (λ j. delivers i j && comes_early Client j) (connection past)

open-begins : (e : Seen) (past : List Seen) → is_open e.note ≡ true → begins_session Client (newest e past) ≡ false
open-begins e past h = ap (λ b. b && (begins (decides Client e.note) || not (has_accepted Client past))) (open-unaccepting Client e past h)

begins-here : (f : Fate) (before : Bool) → begins (Some f) ≡ true → begins_here (Some f) before ≡ true
begins-here f before h = let a = both_true (accepts f) (not (resumes f)) h in ap (λ b. b && (begins (Some f) || not before)) a.0 ∙ ap (λ b. b || not before) h

sent_before-next : (i : ℕ) (f : Fate) (e : Seen) (past : List Seen)
    → sent_before i (Some f) (e ∷ past) ≡ cond (is_open e.note) (not (begins (Some f)) && sent_ever i (latest_fate Client past) past) (sent_before i (Some f) past)
sent_before-next i f e past =
    some_session-next Client (test (begun (e ∷ past))) (Some f) e past
    ∙ ap (λ t. (has_session Client (Some f) e past && (begins_session Client (newest e past) && (t && some (delivers i) (connection past)))) || rest (begun (e ∷ past)) (is_open e.note)) (itself (begun (e ∷ past)))
    ∙ ap (λ t. (has_session Client (Some f) e past && t) || rest (begun (e ∷ past)) (is_open e.note)) (and_false (begins_session Client (newest e past)))
    ∙ ap (λ t. t || rest (begun (e ∷ past)) (is_open e.note)) (and_false (has_session Client (Some f) e past))
    ∙ go (is_open e.note) refl
  where
    test : ℕ → Moment → Bool
    test n m = begins_session Client m && (nat_lt (number m) n && some (delivers i) (connection m.past))

    rest : ℕ → Bool → Bool
    rest n opens = cond opens (not (begins (Some f)) && some (test n) (session Client (latest_fate Client past) past)) (some (test n) (session Client (Some f) past))

    go : (b : Bool) → is_open e.note ≡ b → rest (begun (e ∷ past)) b ≡ cond b (not (begins (Some f)) && sent_ever i (latest_fate Client past) past) (sent_before i (Some f) past)
    go true h =
        ap (λ b. not (begins (Some f)) && b)
        (some-same (test (begun (e ∷ past))) (λ m. begins_session Client m && some (delivers i) (connection m.past)) (session Client (latest_fate Client past) past)
        (λ m a.
        let le = numbers past m (session-members Client (latest_fate Client past) past m a).0 in
        let more : begun (e ∷ past) ≡ 1 + begun past = begun-open e past h in
        ap (λ b. begins_session Client m && (b && some (delivers i) (connection m.past))) (lt-ltb (number m) (begun (e ∷ past)) (omega arith))))
    go false h = ap (λ n. some (test n) (session Client (Some f) past)) (begun-closed e past h)

-- no RELEASE begins a session
release-undecided : (n : Note) → is_release n ≡ true → decides Client n ≡ None
release-undecided (notes.Release identifier) h = refl
release-undecided _ h = absurd (cc)

begins-inside : (f : Fate) (e : Seen) (past : List Seen) → (has_session Client (Some f) e past && begins_session Client (newest e past)) ≡ (accepts f && begins_session Client (newest e past))
begins-inside f e past = go (is_release e.note) refl
  where
    go : (b : Bool) → is_release e.note ≡ b → ((accepts f || (b && (is_void f && any_accepted Client (Some f) past))) && begins_session Client (newest e past)) ≡ (accepts f && begins_session Client (newest e past))
    go true h =
        let none : begins_session Client (newest e past) ≡ false = ap (λ o. (is_none (latest_outcome Client past) && accepted o) && (begins (decides Client e.note) || not (has_accepted Client past))) (release-undecided e.note h)
        ∙ ap (λ b. b && (begins (decides Client e.note) || not (has_accepted Client past))) (and_false (is_none (latest_outcome Client past))) in
        ap (λ b. (accepts f || (is_void f && any_accepted Client (Some f) past)) && b) none
        ∙ and_false (accepts f || (is_void f && any_accepted Client (Some f) past)) ∙ sym (ap (λ b. accepts f && b) none ∙ and_false (accepts f))
    go false h = ap (λ b. b && begins_session Client (newest e past)) (or_false (accepts f))

sent_here-open : (i : ℕ) (f : Fate) (e : Seen) (past : List Seen) → is_open e.note ≡ true → sent_here i (Some f) (e ∷ past) ≡ false
sent_here-open i f e past h =
    some_session-next Client test (Some f) e past
    ∙ ap (λ b. (has_session Client (Some f) e past && (b && ((begun (e ∷ past) == begun (e ∷ past)) && some (delivers i) (connection past)))) || rest (is_open e.note)) (open-begins e past h)
    ∙ ap (λ b. b || rest (is_open e.note)) (and_false (has_session Client (Some f) e past))
    ∙ ap rest h
    ∙ ap (λ b. not (begins (Some f)) && b) (none (session Client (latest_fate Client past) past) (λ m a. numbers past m (session-members Client (latest_fate Client past) past m a).0))
    ∙ and_false (not (begins (Some f)))
  where
    test : Moment → Bool
    test m = begins_session Client m && ((number m == begun (e ∷ past)) && some (delivers i) (connection m.past))

    rest : Bool → Bool
    rest opens = cond opens (not (begins (Some f)) && some test (session Client (latest_fate Client past) past)) (some test (session Client (Some f) past))

    none : (ms : List Moment) → ((m : Moment) → Among m ms → number m ≤ begun past) → some test ms ≡ false
    none [] all = refl
    none (m ∷ ms) all =
        let le = all m (inl refl) in
        let more : begun (e ∷ past) ≡ 1 + begun past = begun-open e past h in
        ap (λ b. (begins_session Client m && (b && some (delivers i) (connection m.past))) || some test ms) (differ (number m) (begun (e ∷ past)) (λ is. omega arith))
        ∙ ap (λ b. b || some test ms) (and_false (begins_session Client m)) ∙ none ms (λ n a. all n (inr a))

sent_here-next : (i : ℕ) (f : Fate) (e : Seen) (past : List Seen) → is_open e.note ≡ false
    → sent_here i (Some f) (e ∷ past) ≡ (((accepts f && begins_session Client (newest e past)) && some (delivers i) (connection past)) || sent_here i (Some f) past)
sent_here-next i f e past h =
    some_session-next Client (test (begun (e ∷ past))) (Some f) e past
    ∙ ap (λ b. (has_session Client (Some f) e past && (begins_session Client (newest e past) && (b && some (delivers i) (connection past)))) || rest (begun (e ∷ past)) (is_open e.note)) (eq-eqb (begun (e ∷ past)) (begun (e ∷ past)) refl)
    ∙ ap (λ b. b || rest (begun (e ∷ past)) (is_open e.note)) (apart (has_session Client (Some f) e past) (begins_session Client (newest e past)) (some (delivers i) (connection past)))
    ∙ ap (λ b. (b && some (delivers i) (connection past)) || rest (begun (e ∷ past)) (is_open e.note)) (begins-inside f e past)
    ∙ ap (λ b. ((accepts f && begins_session Client (newest e past)) && some (delivers i) (connection past)) || b) (ap (rest (begun (e ∷ past))) h ∙ ap (λ n. some (test n) (session Client (Some f) past)) (begun-closed e past h))
  where
    test : ℕ → Moment → Bool
    test n m = begins_session Client m && ((number m == n) && some (delivers i) (connection m.past))

    rest : ℕ → Bool → Bool
    rest n opens = cond opens (not (begins (Some f)) && some (test n) (session Client (latest_fate Client past) past)) (some (test n) (session Client (Some f) past))

    apart : (a b c : Bool) → (a && (b && c)) ≡ ((a && b) && c)
    apart true b c = refl
    apart false b c = refl

-- an event of the latest connection, as `early` sees it
early-next : (i : ℕ) (e : Seen) (past : List Seen) → early i (e ∷ past) ≡ ((delivers i (newest e past) && comes_early Client (newest e past)) || (not (is_open e.note) && early i past))
early-next i e past = some-next (λ j. delivers i j && comes_early Client j) e past

open-early : (i : ℕ) (e : Seen) (past : List Seen) → is_open e.note ≡ true → early i (e ∷ past) ≡ false
open-early i e past h =
    early-next i e past
    ∙ ap (λ o. (is_id i o && comes_early Client (newest e past)) || (not (is_open e.note) && early i past)) (open-silent e.note h)
    ∙ ap (λ b. not b && early i past) h

option_or-first : (o p : Option Fate) → option_or o p ≡ None → o ≡ None
option_or-first None p h = refl
option_or-first (Some f) p h = absurd (cc)

-- all that has come on an undecided connection came early
early-all : (i : ℕ) (past : List Seen) → latest_fate Client past ≡ None → early i past ≡ some (delivers i) (connection past)
early-all i [] h = absurd (cc)
early-all i (e ∷ past) h = early-next i e past ∙ go (is_open e.note) refl (early-all i past) ∙ sym (some-next (delivers i) e past)
  where
    go : (b : Bool) → is_open e.note ≡ b → (latest_fate Client past ≡ None → early i past ≡ some (delivers i) (connection past))
        → ((delivers i (newest e past) && comes_early Client (newest e past)) || (not b && early i past)) ≡ (delivers i (newest e past) || (not b && some (delivers i) (connection past)))
    go true t before = ap (λ o. (is_id i o && comes_early Client (newest e past)) || false) (open-silent e.note t) ∙ sym (ap (λ o. is_id i o || false) (open-silent e.note t))
    go false t before =
        let none : latest_fate Client past ≡ None = option_or-first (latest_fate Client past) (gives_fate Client (newest e past)) (sym (latest_fate-same Client e past t) ∙ h) in
        ap (λ o. (delivers i (newest e past) && is_none o) || early i past) none
        ∙ ap (λ b. b || early i past) (and-true (delivers i (newest e past)))
        ∙ ap (λ b. delivers i (newest e past) || b) (before none)

accepts-lasts : (f : Fate) (b : Bool) → (accepts f && (lasts f && b)) ≡ (accepts f && b)
accepts-lasts Void b = refl
accepts-lasts Adrift b = refl
accepts-lasts New b = refl
accepts-lasts Forgotten b = refl
accepts-lasts Resumed b = refl
accepts-lasts Unasked b = refl
accepts-lasts Unknown b = refl

-- what a client sends gives no fate
delivery-gives : (i : ℕ) (e : Seen) (past : List Seen) (f : Fate) → gives_fate Client (newest e past) ≡ Some f → delivers i (newest e past) ≡ false
delivery-gives i e past f h = not_true (delivers i (newest e past)) (λ t.
    let none : is_some (gives_fate Client (newest e past)) ≡ false = gives-decides Client e past ∙ ap is_some (delivery-decides i e.note t) in
    let given : is_some (gives_fate Client (newest e past)) ≡ true = ap is_some h in absurd (cc))

-- What was sent on the latest connection before the CONNACK with which the session begins there.
here-is : (i : ℕ) (g : Fate) (past : List Seen) → ((h : Fate) → latest_fate Client past ≡ Some h → h ≡ g)
    → sent_here i (Some g) past ≡ (is_some (latest_fate Client past) && (begins_here (Some g) (accepted_before Client past) && early i past))
here-is i g [] fits = sym (and_false (begins_here (Some g) (accepted_before Client [])))
here-is i g (e ∷ past) fits = go (is_open e.note) refl (λ closed. here-is i g past (λ f is. kept f closed is))
  where
    kept : (h : Fate) → is_open e.note ≡ false → latest_fate Client past ≡ Some h → h ≡ g
    kept h closed is = fits h (latest_fate-same Client e past closed ∙ ap (λ o. option_or o (gives_fate Client (newest e past))) is)

    before : Bool
    before = accepted_before Client past

    sends : Bool
    sends = some (delivers i) (connection past)

    same : is_open e.note ≡ false → accepted_before Client (e ∷ past) ≡ before
    same closed = accepted-next Client e past ∙ ap (λ b. cond b (has_accepted Client past) before) closed

    begins_now : begins_session Client (newest e past) ≡ ((is_none (latest_fate Client past) && is_some_and lasts (gives_fate Client (newest e past))) && (begins (gives_fate Client (newest e past)) || not (before || is_some_and lasts (latest_fate Client past))))
    begins_now =
        ap (λ b. (b && accepted (decides Client e.note)) && (begins (decides Client e.note) || not (has_accepted Client past))) (unanswered Client past)
        ∙ ap (λ b. (is_none (latest_fate Client past) && b) && (begins (decides Client e.note) || not (has_accepted Client past))) (sym (accepted-gives Client (newest e past)))
        ∙ ap (λ b. (is_none (latest_fate Client past) && is_some_and lasts (gives_fate Client (newest e past))) && (b || not (has_accepted Client past))) (sym (begins-gives Client (newest e past)))
        ∙ ap (λ b. (is_none (latest_fate Client past) && is_some_and lasts (gives_fate Client (newest e past))) && (begins (gives_fate Client (newest e past)) || not b)) (accepted-is Client past)

    Goal : Option Fate → Option Fate → Type 0
    Goal l o = (((accepts g && ((is_none l && is_some_and lasts o) && (begins o || not (before || is_some_and lasts l)))) && sends) || sent_here i (Some g) past)
        ≡ (is_some (option_or l o) && (begins_here (Some g) before && ((delivers i (newest e past) && is_none l) || early i past)))

    inner : is_open e.note ≡ false → (l o : Option Fate) → latest_fate Client past ≡ l → gives_fate Client (newest e past) ≡ o → sent_here i (Some g) past ≡ (is_some l && (begins_here (Some g) before && early i past)) → Goal l o
    inner closed (Some h) o l_is o_is was =
        ap (λ b. (b && sends) || sent_here i (Some g) past) (and_false (accepts g)) ∙ was
        ∙ sym (ap (λ b. begins_here (Some g) before && (b || early i past)) (and_false (delivers i (newest e past))))
    inner closed None None l_is o_is was = ap (λ b. (b && sends) || sent_here i (Some g) past) (and_false (accepts g)) ∙ was
    inner closed None (Some f) l_is o_is was =
        let is : f ≡ g = fits f (latest_fate-same Client e past closed ∙ ap (λ l. option_or l (gives_fate Client (newest e past))) l_is ∙ o_is) in
        ap (λ f. ((accepts g && (lasts f && (begins (Some f) || not (before || false)))) && sends) || sent_here i (Some g) past) is
        ∙ ap (λ b. ((accepts g && (lasts g && (begins (Some g) || not b))) && sends) || sent_here i (Some g) past) (or_false before)
        ∙ ap (λ b. (b && sends) || sent_here i (Some g) past) (accepts-lasts g (begins (Some g) || not before))
        ∙ ap (λ b. (begins_here (Some g) before && sends) || b) was
        ∙ or_false (begins_here (Some g) before && sends)
        ∙ ap (λ b. begins_here (Some g) before && b) (sym (early-all i past l_is))
        ∙ sym (ap (λ b. begins_here (Some g) before && ((b && true) || early i past)) (delivery-gives i e past f o_is))

    go : (b : Bool) → is_open e.note ≡ b → (is_open e.note ≡ false → sent_here i (Some g) past ≡ (is_some (latest_fate Client past) && (begins_here (Some g) before && early i past)))
        → sent_here i (Some g) (e ∷ past) ≡ (is_some (latest_fate Client (e ∷ past)) && (begins_here (Some g) (accepted_before Client (e ∷ past)) && early i (e ∷ past)))
    go true h was = sent_here-open i g e past h ∙ sym (ap (λ o. is_some o && (begins_here (Some g) (accepted_before Client (e ∷ past)) && early i (e ∷ past))) (latest_fate-open Client e past h))
    go false h was =
        sent_here-next i g e past h
        ∙ ap (λ b. ((accepts g && b) && sends) || sent_here i (Some g) past) begins_now
        ∙ inner h (latest_fate Client past) (gives_fate Client (newest e past)) refl refl (was h)
        ∙ sym (ap (λ o. is_some o && (begins_here (Some g) (accepted_before Client (e ∷ past)) && early i (e ∷ past))) (latest_fate-same Client e past h)
        ∙ ap (λ b. is_some (option_or (latest_fate Client past) (gives_fate Client (newest e past))) && (begins_here (Some g) b && early i (e ∷ past))) (same h)
        ∙ ap (λ b. is_some (option_or (latest_fate Client past) (gives_fate Client (newest e past))) && (begins_here (Some g) before && b))
        (early-next i e past ∙ ap (λ b. (delivers i (newest e past) && comes_early Client (newest e past)) || (not b && early i past)) h))

-- Where a session begins, nothing was sent before it on an earlier connection.
unsent-new : (i : ℕ) (f : Fate) (past : List Seen) → begins (Some f) ≡ true → sent_before i (Some f) past ≡ false
unsent-new i f [] h = refl
unsent-new i f (e ∷ past) h = sent_before-next i f e past ∙ go (is_open e.note) (unsent-new i f past h)
  where
    go : (b : Bool) → sent_before i (Some f) past ≡ false → cond b (not (begins (Some f)) && sent_ever i (latest_fate Client past) past) (sent_before i (Some f) past) ≡ false
    go true before = ap (λ b. not b && sent_ever i (latest_fate Client past) past) h
    go false before = before

unsent-first : (i : ℕ) (f : Fate) (past : List Seen) → accepted_before Client past ≡ false → sent_before i (Some f) past ≡ false
unsent-first i f past h = not_true (sent_before i (Some f) past) (λ t.
    let m = some-among (λ m. begins_session Client m && (nat_lt (number m) (begun past) && some (delivers i) (connection m.past))) (session Client (Some f) past) t in
    let parts = both_true (begins_session Client m.0) (nat_lt (number m.0) (begun past) && some (delivers i) (connection (m.0).past)) m.2 in
    let accepting = both_true (accepts_at Client m.0) (begins (decides Client (note m.0)) || not (has_accepted Client (m.0).past)) parts.0 in
    let earlier = both_true (nat_lt (number m.0) (begun past)) (some (delivers i) (connection (m.0).past)) parts.1 in
    let there : accepted_before Client past ≡ true = among-some (λ m. accepts_at Client m && nat_lt (number m) (begun past)) (moments past) m.0 (session-members Client (Some f) past m.0 m.1).0 (ap (λ b. b && nat_lt (number m.0) (begun past)) accepting.0 ∙ earlier.0) in
    absurd (cc))

unsent : (i : ℕ) (f : Fate) (past : List Seen) → begins_here (Some f) (accepted_before Client past) ≡ true → sent_before i (Some f) past ≡ false
unsent i f past h = go (begins (Some f)) refl (accepted_before Client past) refl (both_true (accepts f) (begins (Some f) || not (accepted_before Client past)) h).1
  where
    go : (b : Bool) → begins (Some f) ≡ b → (a : Bool) → accepted_before Client past ≡ a → (b || not a) ≡ true → sent_before i (Some f) past ≡ false
    go true is a there h = unsent-new i f past is
    go false is true there h = absurd (cc)
    go false is false there h = unsent-first i f past there

split : (b x : Moment → Bool) (n : ℕ) (ms : List Moment) → ((m : Moment) → Among m ms → number m ≤ n)
    → some (λ m. b m && x m) ms ≡ (some (λ m. b m && (nat_lt (number m) n && x m)) ms || some (λ m. b m && ((number m == n) && x m)) ms)
split b x n [] all = refl
split b x n (m ∷ ms) all =
    ap (λ t. (b m && x m) || t) (split b x n ms (λ k a. all k (inr a)))
    ∙ go (b m) (x m) (nat_lt (number m) n) (number m == n) (some (λ m. b m && (nat_lt (number m) n && x m)) ms) (some (λ m. b m && ((number m == n) && x m)) ms) either
  where
    either : (nat_lt (number m) n || (number m == n)) ≡ true
    either = within (nat_lt (number m) n) refl
      where
        within : (c : Bool) → nat_lt (number m) n ≡ c → (c || (number m == n)) ≡ true
        within true h = refl
        within false h = let le = all m (inl refl) in let ge : n ≤ number m = ltb-false (number m) n h in eq-eqb (number m) n (omega arith)

    or_true : (c : Bool) → (c || true) ≡ true
    or_true true = refl
    or_true false = refl

    go : (a c l q s t : Bool) → (l || q) ≡ true → ((a && c) || (s || t)) ≡ (((a && (l && c)) || s) || ((a && (q && c)) || t))
    go false c l q s t h = refl
    go true false true true s t h = refl
    go true false true false s t h = refl
    go true false false true s t h = refl
    go true false false false s t h = absurd (cc)
    go true true true q s t h = refl
    go true true false true s t h = sym (or_true s)
    go true true false false s t h = absurd (cc)

-- Where the latest connection is decided, what was sent before the session began is what was sent before some CONNACK that began it.
ever-first : (i : ℕ) (g : Fate) (past : List Seen) → latest_fate Client past ≡ Some g → sent_ever i (Some g) past ≡ sent_first Client i (Some g) past
ever-first i g past h =
    split (begins_session Client) (λ m. some (delivers i) (connection m.past)) (begun past) (session Client (Some g) past) (λ m a. numbers past m (session-members Client (Some g) past m a).0)
    ∙ ap (λ b. sent_before i (Some g) past || b) (here-is i g past (λ f is. let same : Some f ≡ Some g = sym is ∙ h in cc))
    ∙ ap (λ o. sent_before i (Some g) past || (is_some o && (begins_here (Some g) (accepted_before Client past) && early i past))) h
    ∙ go (begins_here (Some g) (accepted_before Client past)) refl
  where
    go : (b : Bool) → begins_here (Some g) (accepted_before Client past) ≡ b → (sent_before i (Some g) past || (b && early i past)) ≡ cond b (early i past) (sent_before i (Some g) past)
    go true is = ap (λ b. b || early i past) (unsent i g past is)
    go false is = or_false (sent_before i (Some g) past)

-- ---- what is kept

-- an event comes before the CONNACK exactly if its fate isn't known yet
known-is : (tested : Tested) (f : Fate) (at : ℕ) (e : Seen) (past : List Seen) → IsUnder tested f at e past → (at == e.place.position) ≡ is_some (latest_fate tested.role (e ∷ past))
known-is tested f at e past under = go (latest_fate tested.role (e ∷ past)) refl
  where
    go : (o : Option Fate) → latest_fate tested.role (e ∷ past) ≡ o → (at == e.place.position) ≡ is_some o
    go None h = let after = under.later h in differ at e.place.position (λ is. omega arith)
    go (Some g) h = eq-eqb at e.place.position (under.fits g h).1

early-known : (tested : Tested) (i : ℕ) (f : Fate) (at : ℕ) (e : Seen) (past : List Seen) → tested.role ≡ Client → IsUnder tested f at e past → is_open e.note ≡ false
    → (delivers i (newest e past) && comes_early Client (newest e past)) ≡ (not (at == e.place.position) && is_id i (delivery_of e.note))
early-known tested i f at e past role under closed = go (delivers i (newest e past)) refl ∙ turned (delivers i (newest e past)) (at == e.place.position)
  where
    turned : (a b : Bool) → (a && not b) ≡ (not b && a)
    turned true true = refl
    turned true false = refl
    turned false true = refl
    turned false false = refl

    go : (b : Bool) → delivers i (newest e past) ≡ b → (b && comes_early Client (newest e past)) ≡ (b && not (at == e.place.position))
    go false h = refl
    go true h =
        let none : is_some (gives_fate Client (newest e past)) ≡ false = gives-decides Client e past ∙ ap is_some (delivery-decides i e.note h) in
        sym (ap not (known-is tested f at e past under ∙ ap (λ r. is_some (latest_fate r (e ∷ past))) role ∙ ap is_some (latest_fate-same Client e past closed) ∙ nothing (latest_fate Client past) (gives_fate Client (newest e past)) none))
      where
        nothing : (o p : Option Fate) → is_some p ≡ false → is_some (option_or o p) ≡ is_some o
        nothing (Some f) p h = refl
        nothing None p h = h

first-next : (tested : Tested) (i : ℕ) (f : Fate) (at : ℕ) (e : Seen) (past : List Seen) → IsUnder tested f at e past → (before : Fate) → fate_before tested f e past ≡ Some before
    → first_next tested.role f (at == e.place.position) (accepted_before tested.role (e ∷ past)) e.note i (sent_first tested.role i (fate_before tested f e past) past) ≡ sent_first tested.role i (Some f) (e ∷ past)
first-next tested i f at e past under before was = by tested.role refl
  where
    by : (r : Role) → tested.role ≡ r → first_next r f (at == e.place.position) (accepted_before r (e ∷ past)) e.note i (sent_first r i (cond (is_open e.note) (latest_fate r past) (Some f)) past) ≡ sent_first r i (Some f) (e ∷ past)
    by Server is = never (is_open e.note) (begins_here (Some f) (accepted_before Server (e ∷ past))) (at == e.place.position)
      where
        never : (o b k : Bool) → cond o (not b && false) (cond k false false) ≡ false
        never true b k = and_false (not b)
        never false b true = refl
        never false b false = refl
    by Client is = go (is_open e.note) refl
      where
        here : Bool
        here = begins_here (Some f) (accepted_before Client (e ∷ past))

        -- an OPEN
        opens : is_open e.note ≡ true → (b : Bool) → here ≡ b → (not b && sent_first Client i (latest_fate Client past) past) ≡ cond b (early i (e ∷ past)) (sent_before i (Some f) (e ∷ past))
        opens h true t = sym (open-early i e past h)
        opens h false t =
            let latest : latest_fate Client past ≡ Some before = ap (λ r. latest_fate r past) (sym is) ∙ ap (λ b. cond b (latest_fate tested.role past) (Some f)) (sym h) ∙ was in
            let goes : begins (Some f) ≡ false = not_true (begins (Some f)) (λ b. let bad : here ≡ true = begins-here f (accepted_before Client (e ∷ past)) b in absurd (cc)) in
            sym (sent_before-next i f e past
            ∙ ap (λ b. cond b (not (begins (Some f)) && sent_ever i (latest_fate Client past) past) (sent_before i (Some f) past)) h
            ∙ ap (λ b. not b && sent_ever i (latest_fate Client past) past) goes
            ∙ ap (λ o. sent_ever i o past) latest ∙ ever-first i before past latest ∙ ap (λ o. sent_first Client i o past) (sym latest))

        now : (b k : Bool) (d c p : Bool) → cond k (cond b c p) ((b && d) || cond b c p) ≡ cond b ((not k && d) || c) p
        now true true d c p = refl
        now true false d c p = refl
        now false true d c p = refl
        now false false d c p = refl

        go : (b : Bool) → is_open e.note ≡ b → cond b (not here && sent_first Client i (cond b (latest_fate Client past) (Some f)) past) (cond (at == e.place.position) (sent_first Client i (cond b (latest_fate Client past) (Some f)) past) ((here && is_id i (delivery_of e.note)) || sent_first Client i (cond b (latest_fate Client past) (Some f)) past))
            ≡ cond here (early i (e ∷ past)) (sent_before i (Some f) (e ∷ past))
        go true h = opens h here refl
        go false h =
            let same : accepted_before Client (e ∷ past) ≡ accepted_before Client past = accepted-next Client e past ∙ ap (λ b. cond b (has_accepted Client past) (accepted_before Client past)) h in
            let at_here : here ≡ begins_here (Some f) (accepted_before Client past) = ap (begins_here (Some f)) same in
            ap (λ b. cond (at == e.place.position) (cond b (early i past) (sent_before i (Some f) past)) ((here && is_id i (delivery_of e.note)) || cond b (early i past) (sent_before i (Some f) past))) (sym at_here)
            ∙ now here (at == e.place.position) (is_id i (delivery_of e.note)) (early i past) (sent_before i (Some f) past)
            ∙ ap (λ b. cond here (b || early i past) (sent_before i (Some f) past)) (sym (early-known tested i f at e past is under h))
            ∙ sym (ap (λ b. cond here b (sent_before i (Some f) (e ∷ past))) (early-next i e past ∙ ap (λ b. (delivers i (newest e past) && comes_early Client (newest e past)) || (not b && early i past)) h)
            ∙ ap (λ b. cond here ((delivers i (newest e past) && comes_early Client (newest e past)) || early i past) b)
            (sent_before-next i f e past ∙ ap (λ b. cond b (not (begins (Some f)) && sent_ever i (latest_fate Client past) past) (sent_before i (Some f) past)) h))

pub earlier-next : (tested : Tested) (s t : Earlier) (before f : Fate) (at : ℕ) (e : Seen) (past : List Seen) → IsUnder tested f at e past → fate_before tested f e past ≡ Some before
    → IsEarlier s tested.role (fate_before tested f e past) past → GoesOn s t tested.role before f (at == e.place.position) e.note → IsEarlier t tested.role (Some f) (e ∷ past)
earlier-next tested s t before f at e past under was is g = record {
  cut_on_void_is = g.cut_on_void ∙ ap (cut_on_void_next f e.note) is.cut_on_void_is ∙ sym (on_void-next tested cuts_publish f e past);
  cut_is = g.cut ∙ ap (cut_next f e.note) is.cut_is ∙ sym (cut-next tested f e past);
  accepted_is = accepted;
  first_are = λ i. g.first i ∙ ap (λ a. first_next tested.role f (at == e.place.position) a e.note i (contains nat_eq s.first i)) accepted
      ∙ ap (first_next tested.role f (at == e.place.position) (accepted_before tested.role (e ∷ past)) e.note i) (is.first_are i) ∙ first-next tested i f at e past under before was;
}
  where
    opened : (b : Bool) → is_open e.note ≡ b → accepted_next before e.note s.accepted ≡ cond b (has_accepted tested.role past) (accepted_before tested.role past)
    opened true h =
        let latest : latest_fate tested.role past ≡ Some before = ap (λ b. cond b (latest_fate tested.role past) (Some f)) (sym h) ∙ was in
        ap (λ b. cond b (not (is_void before) || s.accepted) s.accepted) h
        ∙ ap (λ a. not (is_void before) || a) is.accepted_is
        ∙ or-turn (not (is_void before)) (accepted_before tested.role past)
        ∙ sym (accepted-is tested.role past ∙ ap (λ o. accepted_before tested.role past || is_some_and lasts o) latest)
    opened false h = ap (λ b. cond b (not (is_void before) || s.accepted) s.accepted) h ∙ is.accepted_is

    accepted : t.accepted ≡ accepted_before tested.role (e ∷ past)
    accepted = g.accepted ∙ opened (is_open e.note) refl ∙ sym (accepted-next tested.role e past)

-- an event of the connection that cuts off nothing, and comes after the CONNACK or sends no PUBLISH
pub earlier-stays : (s : Earlier) (role : Role) (before f : Fate) (known : Bool) (n : Note) → is_open n ≡ false → is_cutting n ≡ false → ((i : ℕ) → (not known && is_id i (delivery_of n)) ≡ false) → GoesOn s s role before f known n
earlier-stays s role before f known n closed uncut silent = record {
  cut_on_void = sym (ap (λ b. (b && is_void f) || s.cut_on_void) uncut);
  cut = sym (ap (λ b. cond b (not (begins (Some f)) && s.cut) ((is_cutting n && accepts f) || s.cut)) closed ∙ ap (λ b. (b && accepts f) || s.cut) uncut);
  accepted = sym (ap (λ b. cond b (not (is_void before) || s.accepted) s.accepted) closed);
  first = λ i. sym (ap (λ b. cond b (not (begins_here (Some f) s.accepted) && contains nat_eq s.first i) (cond known (contains nat_eq s.first i) (early_next role (begins_here (Some f) s.accepted) n i (contains nat_eq s.first i)))) closed
      ∙ go i role known (begins_here (Some f) s.accepted) (contains nat_eq s.first i) (silent i));
}
  where
    go : (i : ℕ) (r : Role) (k b old : Bool) → (not k && is_id i (delivery_of n)) ≡ false → cond k old (early_next r b n i old) ≡ old
    go i r true b old h = refl
    go i Server false b old h = refl
    go i Client false b old h = ap (λ d. (b && d) || old) h ∙ ap (λ d. d || old) (and_false b)

pub inside-uncut : (n : Note) → is_boundary n ≡ false → is_cutting n ≡ false
inside-uncut (notes.Close cuts part) h = absurd (cc)
inside-uncut _ h = refl

-- ---- what S02 reads

pub may_resend-is : (tested : Tested) (s : Earlier) (i : ℕ) (f : Fate) (at : ℕ) (e : Seen) (past : List Seen) → IsUnder tested f at e past → is_open e.note ≡ false → accepts f ≡ true → IsEarlier s tested.role (Some f) past
    → may_resend s f i ≡ (was_sent_before_session tested.role f i (newest e past) || was_cut_off tested.role f (newest e past))
may_resend-is tested s i f at e past under closed accepted is =
    ap (λ b. (not (begins_here (Some f) s.accepted) && b) || (s.cut_on_void || s.cut)) (is.first_are i)
    ∙ ap (λ b. (not (begins_here (Some f) b) && sent_first tested.role i (Some f) past) || (s.cut_on_void || s.cut)) is.accepted_is
    ∙ ap (λ b. (not (begins_here (Some f) (accepted_before tested.role past)) && sent_first tested.role i (Some f) past) || (b || s.cut)) (is.cut_on_void_is ∙ sym (on_void-read tested cuts_publish f at e past under closed accepted))
    ∙ ap (λ b. (not (begins_here (Some f) (accepted_before tested.role past)) && sent_first tested.role i (Some f) past) || (some (λ j. cuts_publish j && voided (fate tested.role (number j) past)) (moments past) || b)) is.cut_is
    ∙ ap (λ b. b || was_cut_off tested.role f (newest e past)) (first tested.role)
  where
    before : (b : Bool) → begins_here (Some f) (accepted_before Client past) ≡ b → (not b && cond b (early i past) (sent_before i (Some f) past)) ≡ sent_before i (Some f) past
    before true h = sym (unsent i f past h)
    before false h = refl

    first : (r : Role) → (not (begins_here (Some f) (accepted_before r past)) && sent_first r i (Some f) past) ≡ was_sent_before_session r f i (newest e past)
    first Server = and_false (not (begins_here (Some f) (accepted_before Server past)))
    first Client =
        before (begins_here (Some f) (accepted_before Client past)) refl
        ∙ sym (ap (λ n. some (λ m. begins_session Client m && (nat_lt (number m) n && some (delivers i) (connection m.past))) (session Client (Some f) past)) (begun-closed e past closed))
