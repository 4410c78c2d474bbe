-- Openers of what is open, now and when the latest connection began.
use Rattle.std.proofs.Common.{◌≡◌, ℕ, ◌+◌, ◌-◌, ◌<◌, ◌≤◌, ◌==◌, nat_le, nat_lt, arith, Bool, true, false, cond, ◌&&◌, ◌||◌, not, List, [], ◌∷◌, length, Option, Some, None, refl, ap, sym, ◌∙◌, subst, inl, inr}
use Rattle.std.specs.Prelude.{is_some, option_map}
use Rattle.std.specs.Option.{option_or, option_and_then}
use Rattle.std.proofs.lemmas.Bool.{eqb-true, eq-eqb, leb-true, leb-false, le-leb, ltb-true, ltb-false}
use Rattle.mq_rules.specs.declared.role.Role.{Role}
use Rattle.mq_rules.specs.declared.fate.Fate.{Fate}
use Rattle.mq_rules.specs.declared.note.Note.{Note}
use Rattle.mq_rules.specs.declared.note.Note.TheVariants as notes
use Rattle.mq_rules.specs.declared.note.Seen.{Seen}
use Rattle.mq_rules.specs.Words.{is_some_and, is_id}
use Rattle.mq_rules.specs.Notes.{is_open, is_rest, is_release, opener_of, closer_of}
use Rattle.mq_rules.specs.Moments.{Moment, newest, note, position, moments, is_same, some, since, is_unended, count, Among, IsDescending, HoldsSince, IsPlaced}
use Rattle.mq_rules.specs.Connections.{connection, latest_fate, accepts, resumes, begins, voided, any_accepted, has_session, with_first, session}
use Rattle.mq_rules.specs.Identifiers.{opens_id, closes_id}
use Rattle.mq_rules.specs.Passing.{opened_at, before_latest}
use Rattle.mq_rules.proofs.Exports.{among-some, among-within, and_false, both_true, differ, moments-descend, not_true, or_false, or_left, same_test, session-descend, session-members, since-stands, some-among, stands-since}
use Rattle.mq_inflight.specs.declared.inflight.entry.Entry.{Entry}
use Rattle.mq_inflight.specs.Opened.{moves, entry_in}
use Rattle.mq_inflight.specs.Resumings.{stands, stood, is_here, moved, moved_on}
use Rattle.mq_inflight.proofs.DueLaws.{opened-within, to-connection, from-connection, same-moment, opener-place}
use Rattle.mq_inflight.proofs.OpenedLaws.{entry-there, entry-is, IsEntry}

-- ---- counting moments

pub count-among : (a b : Moment → Bool) (ms : List Moment) → ((m : Moment) → Among m ms → a m ≡ b m) → count a ms ≡ count b ms
count-among a b [] same = refl
count-among a b (m ∷ ms) same =
    ap (λ t. cond t 1 0 + count a ms) (same m (inl refl))
    ∙ ap (λ n. cond (b m) 1 0 + n) (count-among a b ms (λ x h. same x (inr h)))

pub count-nothing : (a : Moment → Bool) (ms : List Moment) → ((m : Moment) → Among m ms → a m ≡ false) → count a ms ≡ 0
count-nothing a [] none = refl
count-nothing a (m ∷ ms) none =
    ap (λ t. cond t 1 0 + count a ms) (none m (inl refl))
    ∙ ap (λ n. 0 + n) (count-nothing a ms (λ x h. none x (inr h)))

past-one : (c n : ℕ) → c + (1 + n) ≡ 1 + (c + n)
past-one c n = omega arith

-- two tests that differ at one moment
count-but : (a b : Moment → Bool) (ms : List Moment) → IsDescending ms → (x : Moment) → Among x ms → a x ≡ true → b x ≡ false → ((m : Moment) → Among m ms → (position m ≡ position x → ⊥) → a m ≡ b m) → count a ms ≡ 1 + count b ms
count-but a b [] d x h passes fails same = absurd h
count-but a b (m ∷ ms) d x (inl is) passes fails same =
    ap (λ t. cond t 1 0 + count a ms) (ap a (sym is) ∙ passes)
    ∙ ap (λ n. 1 + n) (count-among a b ms (λ y h. same y (inr h) (λ at. let lt = d.0 y h in let p : position x ≡ position m = ap position is in absurd (omega (arith, lt, p, at)))))
    ∙ ap (λ n. 1 + n) (sym (ap (λ t. cond t 1 0 + count b ms) (ap b (sym is) ∙ fails) ∙ none (count b ms)))
  where
    none : (n : ℕ) → 0 + n ≡ n
    none n = omega arith
count-but a b (m ∷ ms) d x (inr h) passes fails same =
    let lt = d.0 x h in
    ap (λ t. cond t 1 0 + count a ms) (same m (inl refl) (λ at. absurd (omega (arith, lt, at))))
    ∙ ap (λ n. cond (b m) 1 0 + n) (count-but a b ms d.1 x h passes fails (λ y g. same y (inr g)))
    ∙ past-one (cond (b m) 1 0) (count b ms)

-- ---- what an event opens or closes

second-none : (i : ℕ) (o : Option ℕ) → (is_id i o || false) ≡ is_id i (option_or o None)
second-none i None = refl
second-none i (Some j) = or_false (i == j)

moves-moved : (i : ℕ) (n : Note) → (is_id i (opener_of n) || is_id i (closer_of n)) ≡ is_id i (moved n)
moves-moved i (notes.Sent item) = second-none i (opener_of (notes.Sent item))
moves-moved i notes.Open = refl
moves-moved i (notes.Close cuts part) = refl
moves-moved i notes.Rest = refl
moves-moved i (notes.Release identifier) = refl
moves-moved i (notes.Recv item) = refl

release-moves : (n : Note) → is_release n ≡ true → (opener_of n ≡ None) × (moved n ≡ None)
release-moves (notes.Release identifier) h = (refl, refl)
release-moves _ h = absurd (cc)

pub open-moves : (n : Note) → is_open n ≡ true → (opener_of n ≡ None) × (moved n ≡ None)
open-moves notes.Open h = (refl, refl)
open-moves _ h = absurd (cc)

pub rest-moves : (n : Note) → is_rest n ≡ true → (opener_of n ≡ None) × (moved n ≡ None)
rest-moves notes.Rest h = (refl, refl)
rest-moves _ h = absurd (cc)

-- ---- a moment of before, with one event more

pub is-older : (m : Moment) (e : Seen) (past : List Seen) → position m ≤ length past → is_same m (newest e past) ≡ false
is-older m e past le = differ (position m) (length past + 1) (λ is. absurd (omega (arith, le, is)))

since-first : (b : Bool) (m x : Moment) (ends : Moment → Bool) (ms : List Moment) → is_same m x ≡ false → since (is_same m) ends (with_first b x ms) ≡ (not (b && ends x) && since (is_same m) ends ms)
since-first true m x ends ms other = ap (λ s. s || (not (ends x) && since (is_same m) ends ms)) other
since-first false m x ends ms other = refl

-- what an event of a session does to what is open under i
moves-on : (role : Role) (f : Fate) (i : ℕ) (e : Seen) (past : List Seen) → (has_session role (Some f) e past && moves i (newest e past)) ≡ is_id i (moved_on f e.note)
moves-on role f i e past = ap (λ b. has_session role (Some f) e past && b) (moves-moved i e.note) ∙ go (accepts f) (is_release e.note) (voided (Some f) && any_accepted role (Some f) past) refl
  where
    go : (a r y : Bool) → is_release e.note ≡ r → ((a || (r && y)) && is_id i (moved e.note)) ≡ is_id i (cond a (moved e.note) None)
    go true r y h = refl
    go false true y h = ap (λ o. y && is_id i o) (release-moves e.note h).1 ∙ and_false y
    go false false y h = refl

-- the session before an event
abbrev pub session_old : Role → Fate → Seen → List Seen → List Moment
session_old role f e past = cond (is_open e.note) (cond (begins (Some f)) [] (session role (latest_fate role past) past)) (session role (Some f) past)

unended-next : (role : Role) (f : Fate) (i : ℕ) (e : Seen) (past : List Seen) (m : Moment) → position m ≤ length past
    → is_unended m (moves i) (session role (Some f) (e ∷ past)) ≡ (not (is_id i (moved_on f e.note)) && is_unended m (moves i) (session_old role f e past))
unended-next role f i e past m le =
    since-first (has_session role (Some f) e past) m (newest e past) (moves i) (session_old role f e past) (is-older m e past le)
    ∙ ap (λ b. not b && is_unended m (moves i) (session_old role f e past)) (moves-on role f i e past)

same-some : (p q : ℕ → Bool) (o : Option ℕ) → ((i : ℕ) → p i ≡ q i) → is_some_and p o ≡ is_some_and q o
same-some p q None each = refl
same-some p q (Some i) each = each i

-- what stood before does, unless the event opens or closes its identifier
abbrev pub stays : Role → Fate → Option ℕ → List Seen → Moment → Bool
stays role f o past m = is_some_and (λ i. not (is_id i o) && is_unended m (moves i) (session role (Some f) past)) (opener_of (note m))

pub stands-next : (role : Role) (f : Fate) (e : Seen) (past : List Seen) (m : Moment) → is_open e.note ≡ false → position m ≤ length past → stands role (Some f) (e ∷ past) m ≡ stays role f (moved_on f e.note) past m
stands-next role f e past m closed le =
    same-some (λ i. is_unended m (moves i) (session role (Some f) (e ∷ past))) (λ i. not (is_id i (moved_on f e.note)) && is_unended m (moves i) (session role (Some f) past)) (opener_of (note m))
    (λ i. unended-next role f i e past m le
    ∙ ap (λ b. not (is_id i (moved_on f e.note)) && is_unended m (moves i) (cond b (cond (begins (Some f)) [] (session role (latest_fate role past) past)) (session role (Some f) past))) closed)

pub stays-stands : (role : Role) (f : Fate) (o : Option ℕ) (past : List Seen) (m : Moment) → stays role f o past m ≡ true → stands role (Some f) past m ≡ true
stays-stands role f o past m h = go (opener_of (note m)) h
  where
    go : (q : Option ℕ) → is_some_and (λ i. not (is_id i o) && is_unended m (moves i) (session role (Some f) past)) q ≡ true → is_some_and (λ i. is_unended m (moves i) (session role (Some f) past)) q ≡ true
    go None h = absurd (cc)
    go (Some i) h = (both_true (not (is_id i o)) (is_unended m (moves i) (session role (Some f) past)) h).1

-- at an OPEN, where the session goes on or begins
pub stands-opened : (role : Role) (f : Fate) (e : Seen) (past : List Seen) (m : Moment) → is_open e.note ≡ true → position m ≤ length past
    → stands role (Some f) (e ∷ past) m ≡ (not (begins (Some f)) && stands role (latest_fate role past) past m)
stands-opened role f e past m opens le =
    same-some (λ i. is_unended m (moves i) (session role (Some f) (e ∷ past))) (λ i. not (begins (Some f)) && is_unended m (moves i) (session role (latest_fate role past) past)) (opener_of (note m))
    (λ i. unended-next role f i e past m le
    ∙ ap (λ o. not (is_id i (cond (accepts f) o None)) && is_unended m (moves i) (session_old role f e past)) (open-moves e.note opens).1
    ∙ still i (accepts f)
    ∙ ap (λ b. is_unended m (moves i) (cond b (cond (begins (Some f)) [] (session role (latest_fate role past) past)) (session role (Some f) past))) opens
    ∙ new i (begins (Some f)))
    ∙ out (begins (Some f)) (opener_of (note m))
  where
    still : (i : ℕ) (a : Bool) → (not (is_id i (cond a None None)) && is_unended m (moves i) (session_old role f e past)) ≡ is_unended m (moves i) (session_old role f e past)
    still i true = refl
    still i false = refl

    new : (i : ℕ) (b : Bool) → is_unended m (moves i) (cond b [] (session role (latest_fate role past) past)) ≡ (not b && is_unended m (moves i) (session role (latest_fate role past) past))
    new i true = refl
    new i false = refl

    out : (b : Bool) (o : Option ℕ) → is_some_and (λ i. not b && is_unended m (moves i) (session role (latest_fate role past) past)) o ≡ (not b && is_some_and (λ i. is_unended m (moves i) (session role (latest_fate role past) past)) o)
    out b None = sym (and_false (not b))
    out b (Some i) = refl

-- ---- a moment that comes later stands nowhere

since-below : (role : Role) (f : Option Fate) (past : List Seen) (m : Moment) (ends : Moment → Bool) → length past < position m → since (is_same m) ends (session role f past) ≡ false
since-below role f past m stops lt = not_true (since (is_same m) stops (session role f past)) (λ h.
    let s = since-stands (is_same m) stops (session role f past) (session-descend role f past) h in
    let le = among-within s.at past (session-members role f past s.at s.there).0 in
    let at = eqb-true (position m) (position s.at) s.passes in
    absurd (omega (arith, lt, le, at)))

stands-within : (role : Role) (f : Option Fate) (past : List Seen) (m : Moment) → stands role f past m ≡ true → position m ≤ length past
stands-within role f past m h = go (opener_of (note m)) h
  where
    go : (o : Option ℕ) → is_some_and (λ i. is_unended m (moves i) (session role f past)) o ≡ true → position m ≤ length past
    go None h = absurd (cc)
    go (Some i) h =
        let s = since-stands (is_same m) (moves i) (session role f past) (session-descend role f past) h in
        let le = among-within s.at past (session-members role f past s.at s.there).0 in
        let at = eqb-true (position m) (position s.at) s.passes in
        omega (arith, le, at)

pub stood-before : (role : Role) (past : List Seen) (m : Moment) → stood role past m ≡ true → position m < opened_at past
stood-before role [] m h = absurd (cc)
stood-before role (e ∷ past) m h = go (is_open e.note) h (stood-before role past m)
  where
    go : (b : Bool) → is_some_and (λ before. stands role (latest_fate role before) before m) (cond b (Some past) (before_latest past)) ≡ true → (stood role past m ≡ true → position m < opened_at past)
        → position m < cond b (length past + 1) (opened_at past)
    go true h rest = let le = stands-within role (latest_fate role past) past m h in omega (arith, le)
    go false h rest = rest h

pub newest-stood : (role : Role) (e : Seen) (past : List Seen) → is_open e.note ≡ false → stood role (e ∷ past) (newest e past) ≡ false
newest-stood role e past closed = not_true (stood role (e ∷ past) (newest e past)) (λ h.
    let lt = stood-before role (e ∷ past) (newest e past) h in
    let same : opened_at (e ∷ past) ≡ opened_at past = ap (λ b. cond b (length past + 1) (opened_at past)) closed in
    let le = opened-within past in
    absurd (omega (arith, lt, same, le)))

-- ---- the newest event stands if it opens an identifier of its session

opener-no-release : (n : Note) (i : ℕ) → opener_of n ≡ Some i → is_release n ≡ false
opener-no-release n i is = not_true (is_release n) (λ h. let none = (release-moves n h).0 in absurd (cc))

pub newest-stands : (role : Role) (f : Fate) (e : Seen) (past : List Seen) → is_open e.note ≡ false → stands role (Some f) (e ∷ past) (newest e past) ≡ (accepts f && is_some (opener_of e.note))
newest-stands role f e past closed = go (opener_of e.note) refl
  where
    k : Moment
    k = newest e past

    old : ℕ → Bool
    old i = is_unended k (moves i) (session_old role f e past)

    none : (i : ℕ) → old i ≡ false
    none i =
        ap (λ b. is_unended k (moves i) (cond b (cond (begins (Some f)) [] (session role (latest_fate role past) past)) (session role (Some f) past))) closed
        ∙ since-below role (Some f) past k (moves i) (omega arith)

    by : (i : ℕ) (a r y : Bool) → r ≡ false → since (is_same k) (moves i) (with_first (a || (r && y)) k (session_old role f e past)) ≡ (a && true)
    by i true r y h = or_left (is_same k k) (not (moves i k) && old i) (eq-eqb (position k) (position k) refl)
    by i false true y h = absurd (cc)
    by i false false y h = none i

    go : (o : Option ℕ) → opener_of e.note ≡ o → is_some_and (λ i. since (is_same k) (moves i) (with_first (has_session role (Some f) e past) k (session_old role f e past))) o ≡ (accepts f && is_some o)
    go None is = sym (and_false (accepts f))
    go (Some i) is = by i (accepts f) (is_release e.note) (voided (Some f) && any_accepted role (Some f) past) (opener-no-release e.note i is)

-- what opens nothing doesn't
pub newest-idle : (role : Role) (f : Fate) (e : Seen) (past : List Seen) → opener_of e.note ≡ None → stands role (Some f) (e ∷ past) (newest e past) ≡ false
newest-idle role f e past none = ap (is_some_and (λ i. is_unended (newest e past) (moves i) (session role (Some f) (e ∷ past)))) none

-- ---- what stands was opened on the latest connection, or stood when that began

not-begun : (f : Fate) → resumes f ≡ true → begins (Some f) ≡ false
not-begun f r = ap (λ b. accepts f && not b) r ∙ and_false (accepts f)

pub stands-stood : (role : Role) (f : Fate) (past : List Seen) (m : Moment) → resumes f ≡ true → stands role (Some f) past m ≡ true → position m < opened_at past → stood role past m ≡ true
stands-stood role f [] m r h lt = absurd (omega (arith, lt))
stands-stood role f (e ∷ past) m r h lt = go (is_open e.note) refl lt (stands-stood role f past m r)
  where
    le : (b : Bool) → position m < cond b (length past + 1) (opened_at past) → position m ≤ length past
    le true lt = omega (arith, lt)
    le false lt = let w = opened-within past in omega (arith, lt, w)

    go : (b : Bool) → is_open e.note ≡ b → position m < cond b (length past + 1) (opened_at past) → (stands role (Some f) past m ≡ true → position m < opened_at past → stood role past m ≡ true)
        → is_some_and (λ before. stands role (latest_fate role before) before m) (cond b (Some past) (before_latest past)) ≡ true
    go true t lt rest = (both_true (not (begins (Some f))) (stands role (latest_fate role past) past m) (sym (stands-opened role f e past m t (le true lt)) ∙ h)).1
    go false t lt rest = rest (stays-stands role f (moved_on f e.note) past m (sym (stands-next role f e past m t (le false lt)) ∙ h)) lt

-- ---- what was open when a connection began, by the whole session

since-alike : (starts a b : Moment → Bool) (ms : List Moment) → ((m : Moment) → Among m ms → a m ≡ b m) → since starts a ms ≡ since starts b ms
since-alike starts a b [] same = refl
since-alike starts a b (m ∷ ms) same =
    ap (λ t. starts m || (not t && since starts a ms)) (same m (inl refl))
    ∙ ap (λ t. starts m || (not (b m) && t)) (since-alike starts a b ms (λ x h. same x (inr h)))

-- the event opens or closes i, before this position
abbrev moves_before : ℕ → ℕ → Moment → Bool
moves_before at i m = moves i m && not (nat_le at (position m))

and-yes : (a : Bool) → (a && true) ≡ a
and-yes true = refl
and-yes false = refl

was-there : (role : Role) (f : Fate) → resumes f ≡ true → (i : ℕ) (past : List Seen) (m : Moment)
    → (since (is_same m) (moves_before (opened_at past) i) (session role (Some f) past) && not (nat_le (opened_at past) (position m)))
    ≡ is_some_and (λ before. is_unended m (moves i) (session role (latest_fate role before) before)) (before_latest past)
was-there role f r i [] m = refl
was-there role f r i (e ∷ past) m = go (is_open e.note) (was-there role f r i past m)
  where
    latest : List Moment
    latest = session role (latest_fate role past) past

    same : List Moment
    same = session role (Some f) past

    in_session : Bool
    in_session = has_session role (Some f) e past

    -- the event itself ends nothing where it doesn't come before this position
    passed : (at : ℕ) (ms : List Moment) → at ≤ length past + 1 → is_same m (newest e past) ≡ false
        → since (is_same m) (moves_before at i) (with_first in_session (newest e past) ms) ≡ since (is_same m) (moves_before at i) ms
    passed at ms le other =
        since-first in_session m (newest e past) (moves_before at i) ms other
        ∙ ap (λ b. not (in_session && (moves i (newest e past) && not b)) && since (is_same m) (moves_before at i) ms) (le-leb at (length past + 1) le)
        ∙ ap (λ b. not (in_session && b) && since (is_same m) (moves_before at i) ms) (and_false (moves i (newest e past)))
        ∙ ap (λ b. not b && since (is_same m) (moves_before at i) ms) (and_false in_session)

    began : (b : Bool) → nat_le (length past + 1) (position m) ≡ b → (since (is_same m) (moves_before (length past + 1) i) (with_first in_session (newest e past) (cond (begins (Some f)) [] latest)) && not b) ≡ is_unended m (moves i) latest
    began true t = and_false _ ∙ sym (since-below role (latest_fate role past) past m (moves i) (let le = leb-true (length past + 1) (position m) t in omega (arith, le)))
    began false t =
        let lt = leb-false (length past + 1) (position m) t in
        and-yes _
        ∙ passed (length past + 1) (cond (begins (Some f)) [] latest) (omega arith) (is-older m e past (omega (arith, lt)))
        ∙ ap (λ b. since (is_same m) (moves_before (length past + 1) i) (cond b [] latest)) (not-begun f r)
        ∙ since-alike (is_same m) (moves_before (length past + 1) i) (moves i) latest (λ n there.
        let le = among-within n past (session-members role (latest_fate role past) past n there).0 in
        ap (λ b. moves i n && not b) (not_true (nat_le (length past + 1) (position n)) (λ t. let at = leb-true (length past + 1) (position n) t in absurd (omega (arith, le, at)))) ∙ and-yes (moves i n))

    went : (b : Bool) → is_same m (newest e past) ≡ b
        → (since (is_same m) (moves_before (opened_at past) i) same && not (nat_le (opened_at past) (position m))) ≡ is_some_and (λ before. is_unended m (moves i) (session role (latest_fate role before) before)) (before_latest past)
        → (since (is_same m) (moves_before (opened_at past) i) (with_first in_session (newest e past) same) && not (nat_le (opened_at past) (position m))) ≡ is_some_and (λ before. is_unended m (moves i) (session role (latest_fate role before) before)) (before_latest past)
    went true t rest =
        let at = eqb-true (position m) (length past + 1) t in
        let w = opened-within past in
        let late : nat_le (opened_at past) (position m) ≡ true = le-leb (opened_at past) (position m) (omega (arith, at, w)) in
        ap (λ b. since (is_same m) (moves_before (opened_at past) i) (with_first in_session (newest e past) same) && not b) late
        ∙ and_false _
        ∙ sym (and_false (since (is_same m) (moves_before (opened_at past) i) same))
        ∙ ap (λ b. since (is_same m) (moves_before (opened_at past) i) same && not b) (sym late)
        ∙ rest
    went false t rest =
        let w = opened-within past in
        ap (λ b. b && not (nat_le (opened_at past) (position m))) (passed (opened_at past) same (omega (arith, w)) t) ∙ rest

    go : (b : Bool)
        → (since (is_same m) (moves_before (opened_at past) i) same && not (nat_le (opened_at past) (position m))) ≡ is_some_and (λ before. is_unended m (moves i) (session role (latest_fate role before) before)) (before_latest past)
        → (since (is_same m) (moves_before (cond b (length past + 1) (opened_at past)) i) (with_first in_session (newest e past) (cond b (cond (begins (Some f)) [] latest) same)) && not (nat_le (cond b (length past + 1) (opened_at past)) (position m)))
        ≡ is_some_and (λ before. is_unended m (moves i) (session role (latest_fate role before) before)) (cond b (Some past) (before_latest past))
    go true rest = began (nat_le (length past + 1) (position m)) refl
    go false rest = went (is_same m (newest e past)) refl rest

-- a moment came on the latest connection if it is there
came-is : (past : List Seen) (m : Moment) → Among m (moments past) → some (is_same m) (connection past) ≡ is_here past m
came-is past m among = same_test (some (is_same m) (connection past)) (is_here past m) forth back
  where
    forth : some (is_same m) (connection past) ≡ true → is_here past m ≡ true
    forth h =
        let x = some-among (is_same m) (connection past) h in
        let le = (from-connection past x.0 x.1).1 in
        let at = eqb-true (position m) (position x.0) x.2 in
        le-leb (opened_at past) (position m) (omega (arith, le, at))

    back : is_here past m ≡ true → some (is_same m) (connection past) ≡ true
    back h = among-some (is_same m) (connection past) m (to-connection past m among (leb-true (opened_at past) (position m) h)) (eq-eqb (position m) (position m) refl)

-- so says S06
pub was-open-stood : (role : Role) (f : Fate) → resumes f ≡ true → (past : List Seen) (m : Moment) → Among m (moments past)
    → is_some_and (λ i. since (is_same m) (λ n. (opens_id i n || closes_id i n) && not (some (is_same n) (connection past))) (session role (Some f) past) && not (some (is_same m) (connection past))) (opener_of (note m))
    ≡ stood role past m
was-open-stood role f r past m among =
    same-some (λ i. since (is_same m) (λ n. moves i n && not (some (is_same n) (connection past))) (session role (Some f) past) && not (some (is_same m) (connection past)))
    (λ i. is_some_and (λ before. is_unended m (moves i) (session role (latest_fate role before) before)) (before_latest past)) (opener_of (note m)) each
    ∙ turn (opener_of (note m)) (before_latest past)
  where
    each : (i : ℕ) → (since (is_same m) (λ n. moves i n && not (some (is_same n) (connection past))) (session role (Some f) past) && not (some (is_same m) (connection past)))
        ≡ is_some_and (λ before. is_unended m (moves i) (session role (latest_fate role before) before)) (before_latest past)
    each i =
        ap (λ b. b && not (some (is_same m) (connection past)))
        (since-alike (is_same m) (λ n. moves i n && not (some (is_same n) (connection past))) (moves_before (opened_at past) i) (session role (Some f) past)
        (λ n there. ap (λ b. moves i n && not b) (came-is past n (session-members role (Some f) past n there).0)))
        ∙ ap (λ b. since (is_same m) (moves_before (opened_at past) i) (session role (Some f) past) && not b) (came-is past m among)
        ∙ was-there role f r i past m

    turn : (o : Option ℕ) (b : Option (List Seen)) → is_some_and (λ i. is_some_and (λ before. is_unended m (moves i) (session role (latest_fate role before) before)) b) o
        ≡ is_some_and (λ before. is_some_and (λ i. is_unended m (moves i) (session role (latest_fate role before) before)) o) b
    turn None None = refl
    turn None (Some before) = refl
    turn (Some i) None = refl
    turn (Some i) (Some before) = refl

-- ---- one opener of each identifier stands

one-stands : (role : Role) (f : Option Fate) (past : List Seen) (i : ℕ) (a b : Moment) → Among a (moments past) → Among b (moments past) → opens_id i a ≡ true → opens_id i b ≡ true
    → is_unended a (moves i) (session role f past) ≡ true → is_unended b (moves i) (session role f past) ≡ true → position a ≡ position b
one-stands role f past i a b among_a among_b opens_a opens_b stands_a stands_b = by (nat_lt (position a) (position b)) refl (nat_lt (position b) (position a)) refl
  where
    ms : List Moment
    ms = session role f past

    never : (p q : Moment) → Among p (moments past) → Among q (moments past) → opens_id i q ≡ true → is_unended p (moves i) ms ≡ true → is_unended q (moves i) ms ≡ true → position p < position q → ⊥
    never p q among_p among_q opens hp hq lt =
        let s = since-stands (is_same p) (moves i) ms (session-descend role f past) hp in
        let t = since-stands (is_same q) (moves i) ms (session-descend role f past) hq in
        let at_p = eqb-true (position p) (position s.at) s.passes in
        let same : q ≡ t.at = same-moment past q t.at among_q (session-members role f past t.at t.there).0 (eqb-true (position q) (position t.at) t.passes) in
        let there_q : Among q ms = subst (λ (n : Moment). Among n ms) (sym same) t.there in
        let none : moves i q ≡ false = s.none_after q there_q (omega (arith, lt, at_p)) in
        let moving : moves i q ≡ true = or_left (opens_id i q) (closes_id i q) opens in
        absurd (cc)

    by : (s : Bool) → nat_lt (position a) (position b) ≡ s → (t : Bool) → nat_lt (position b) (position a) ≡ t → position a ≡ position b
    by true s t w = absurd (never a b among_a among_b opens_b stands_a stands_b (ltb-true (position a) (position b) s))
    by false s true w = absurd (never b a among_b among_a opens_a stands_b stands_a (ltb-true (position b) (position a) w))
    by false s false w = let x : position b ≤ position a = ltb-false (position a) (position b) s in let y : position a ≤ position b = ltb-false (position b) (position a) w in omega (arith, x, y)

-- ---- how many stand, when an identifier is opened or closed

less : (n m : ℕ) → n ≡ 1 + m → m ≡ n - 1
less n m h = omega (arith, h)

no-less : (n m : ℕ) → m ≡ n → m ≡ n - 0
no-less n m h = omega (arith, h)

pub count-stays : (role : Role) (f : Fate) (past : List Seen) → IsPlaced past → (from : ℕ) (test : Moment → Bool) → ((m : Moment) → Among m (moments past) → stands role (Some f) past m ≡ true → test m ≡ nat_le from (position m)) → (o : Option ℕ)
    → count (λ m. stays role f o past m && test m) (moments past)
    ≡ count (λ m. stands role (Some f) past m && test m) (moments past) - cond (is_some_and (nat_le from) (option_map (λ x. x.place.position) (option_and_then (λ i. entry_in role i (session role (Some f) past)) o))) 1 0
count-stays role f past placed from test told None = no-less _ _ (count-among (λ m. stays role f None past m && test m) (λ m. stands role (Some f) past m && test m) (moments past) (λ m h. refl))
count-stays role f past placed from test told (Some j) = go (entry_in role j ms) refl
  where
    ms : List Moment
    ms = session role (Some f) past

    now : Moment → Bool
    now m = stays role f (Some j) past m && test m

    old : Moment → Bool
    old m = stands role (Some f) past m && test m

    -- of another identifier, or not of what is open
    kept : (m : Moment) → (opens_id j m ≡ true → is_unended m (moves j) ms ≡ true → ⊥) → stays role f (Some j) past m ≡ stands role (Some f) past m
    kept m never = go (opener_of (note m)) refl
      where
        go : (o : Option ℕ) → opener_of (note m) ≡ o → is_some_and (λ i. not (i == j) && is_unended m (moves i) ms) o ≡ is_some_and (λ i. is_unended m (moves i) ms) o
        go None is = refl
        go (Some i) is = by (i == j) refl
          where
            by : (b : Bool) → (i == j) ≡ b → (not b && is_unended m (moves i) ms) ≡ is_unended m (moves i) ms
            by false t = refl
            by true t =
                let same : i ≡ j = eqb-true i j t in
                sym (not_true (is_unended m (moves i) ms) (λ h. never (ap (is_id j) is ∙ eq-eqb j i (sym same)) (ap (λ n. is_unended m (moves n) ms) (sym same) ∙ h)))

    -- nothing is open under it
    idle : entry_in role j ms ≡ None → (m : Moment) → Among m (moments past) → now m ≡ old m
    idle none m among = ap (λ b. b && test m) (kept m (λ opens h.
        let s = since-stands (is_same m) (moves j) ms (session-descend role (Some f) past) h in
        let same : m ≡ s.at = same-moment past m s.at among (session-members role (Some f) past s.at s.there).0 (eqb-true (position m) (position s.at) s.passes) in
        let stood_open : HoldsSince (opens_id j) (closes_id j) ms = record { at = s.at; there = s.there; passes = subst (λ (n : Moment). opens_id j n ≡ true) same opens; none_after = λ n there lt. second (opens_id j n) (closes_id j n) (s.none_after n there lt) } in
        let there : is_some (entry_in role j ms) ≡ true = entry-there role j ms ∙ stands-since (opens_id j) (closes_id j) ms (session-descend role (Some f) past) stood_open in
        let never : is_some (entry_in role j ms) ≡ false = ap is_some none in
        absurd (cc)))
      where
        second : (p q : Bool) → (p || q) ≡ false → q ≡ false
        second false q h = h
        second true q h = absurd (cc)

    opened : (x : Entry) → (r : IsEntry j ms x) → x.place.position ≡ position r.opener → (b : Bool) → nat_le from (position r.opener) ≡ b → count now (moments past) ≡ count old (moments past) - cond b 1 0
    opened x r at b t = by b t
      where
        among : Among r.opener (moments past)
        among = (session-members role (Some f) past r.opener r.there).0

        -- its own opener
        standing : stands role (Some f) past r.opener ≡ true
        standing = go (opener_of (note r.opener)) r.begins_it
          where
            go : (o : Option ℕ) → is_id j o ≡ true → is_some_and (λ i. is_unended r.opener (moves i) ms) o ≡ true
            go None h = absurd (cc)
            go (Some i) h = ap (λ n. is_unended r.opener (moves n) ms) (sym (eqb-true j i h)) ∙ r.unmoved

        gone : stays role f (Some j) past r.opener ≡ false
        gone = go (opener_of (note r.opener)) r.begins_it
          where
            go : (o : Option ℕ) → is_id j o ≡ true → is_some_and (λ i. not (i == j) && is_unended r.opener (moves i) ms) o ≡ false
            go None h = absurd (cc)
            go (Some i) h = ap (λ b. not b && is_unended r.opener (moves i) ms) (eq-eqb i j (sym (eqb-true j i h)))

        other : (m : Moment) → Among m (moments past) → (position m ≡ position r.opener → ⊥) → now m ≡ old m
        other m h differs = ap (λ b. b && test m) (kept m (λ opens stands_m. differs (one-stands role (Some f) past j m r.opener h among opens r.begins_it stands_m r.unmoved)))

        passing : (b : Bool) → nat_le from (position r.opener) ≡ b → old r.opener ≡ b
        passing b t = ap (λ s. s && test r.opener) standing ∙ told r.opener among standing ∙ t

        leaving : now r.opener ≡ false
        leaving = ap (λ s. s && test r.opener) gone

        by : (b : Bool) → nat_le from (position r.opener) ≡ b → count now (moments past) ≡ count old (moments past) - cond b 1 0
        by true t = less (count old (moments past)) (count now (moments past)) (count-but old now (moments past) (moments-descend past) r.opener among (passing true t) leaving (λ m h differs. sym (other m h differs)))
        by false t = no-less (count old (moments past)) (count now (moments past)) (count-among now old (moments past) (λ m h. at_one m h (position m == position r.opener) refl))
          where
            at_one : (m : Moment) → Among m (moments past) → (b : Bool) → (position m == position r.opener) ≡ b → now m ≡ old m
            at_one m h true s =
                let same : m ≡ r.opener = same-moment past m r.opener h among (eqb-true (position m) (position r.opener) s) in
                ap now same ∙ leaving ∙ sym (ap old same ∙ passing false t)
            at_one m h false s = other m h (λ is. absurd (let met : (position m == position r.opener) ≡ true = eq-eqb (position m) (position r.opener) is in cc))

    go : (o : Option Entry) → entry_in role j ms ≡ o → count now (moments past) ≡ count old (moments past) - cond (is_some_and (nat_le from) (option_map (λ x. x.place.position) o)) 1 0
    go None is = no-less (count old (moments past)) (count now (moments past)) (count-among now old (moments past) (idle is))
    go (Some x) is =
        let r = entry-is role j ms x (session-descend role (Some f) past) is in
        let at : x.place.position ≡ position r.opener = opener-place role (Some f) j past placed x r in
        opened x r at (nat_le from x.place.position) (sym (ap (nat_le from) at))
