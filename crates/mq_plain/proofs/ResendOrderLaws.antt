-- Whether something was sent again that was opened later, in one look back over the session: event by event, for all identifiers at once.
use Rattle.std.proofs.Common.{◌≡◌, ℕ, ◌+◌, ◌≤◌, ◌<◌, ◌==◌, nat_lt, Bool, true, false, cond, ◌&&◌, ◌||◌, not, List, [], ◌∷◌, length, Option, Some, None, refl, ap, sym, ◌∙◌, arith, ◌⊎◌, inl, inr}
use Rattle.std.proofs.lemmas.Bool.{eq-eqb, eqb-true, lt-ltb, le-ltb}
use Rattle.mq_rules.specs.declared.role.Role.{Role}
use Rattle.mq_rules.specs.declared.fate.Fate.{Fate}
use Rattle.mq_rules.specs.declared.note.Note.{Note}
use Rattle.mq_rules.specs.declared.note.Note.TheVariants as notes
use Rattle.mq_rules.specs.declared.note.Seen.{Seen}
use Rattle.mq_rules.specs.Words.{is_id, is_some_and}
use Rattle.mq_rules.specs.Notes.{is_open, is_release, opener_of, closer_of, resend_of}
use Rattle.mq_rules.specs.Moments.{Moment, newest, note, position, some, since, latest}
use Rattle.mq_rules.specs.Connections.{connection, latest_fate, session, has_session, with_first, begins, accepted, voided, any_accepted}
use Rattle.mq_rules.specs.Identifiers.{opens_id, closes_id, is_open_at, latest_opener, comes_after}
use Rattle.mq_rules.proofs.Exports.{and_false, both_true, or_parts, or_left, or_right, same_test, some-next}
use Rattle.mq_plain.specs.Lookback.{is_open_after}
use Rattle.mq_plain.specs.Resends.{is_overtaken}

-- ---- the look back

-- what is known of an identifier before an event: it was sent again later on the latest connection, and nothing has closed it since
abbrev pub met_before : Bool → Bool → (ℕ → Bool) → Note → ℕ → Bool
met_before inside on met n o = (on && is_id o (resend_of n)) || (not (inside && is_id o (closer_of n)) && met o)

-- whether an opener of what was sent again later is met before the latest opener of this identifier
abbrev pub overtaken_back : Role → ℕ → Option Fate → Bool → (ℕ → Bool) → List Seen → Bool
overtaken_back role i f on met [] = false
overtaken_back role i f on met (e ∷ past) = not (accepted f && is_id i (opener_of e.note)) && ((accepted f && is_some_and met (opener_of e.note))
    || (not (is_open e.note && begins f) && overtaken_back role i (cond (is_open e.note) (latest_fate role past) f) (on && not (is_open e.note)) (met_before (accepted f) on met e.note) past))

-- ---- one event of a session

-- no RELEASE opens or closes
opener_in : (n : Note) (a v : Bool) (o : ℕ) → ((a || (is_release n && v)) && is_id o (opener_of n)) ≡ (a && is_id o (opener_of n))
opener_in n true v o = refl
opener_in (notes.Release identifier) false v o = and_false v
opener_in notes.Open false v o = refl
opener_in (notes.Close cuts part) false v o = refl
opener_in notes.Rest false v o = refl
opener_in (notes.Sent item) false v o = refl
opener_in (notes.Recv item) false v o = refl

closer_in : (n : Note) (a v : Bool) (o : ℕ) → ((a || (is_release n && v)) && is_id o (closer_of n)) ≡ (a && is_id o (closer_of n))
closer_in n true v o = refl
closer_in (notes.Release identifier) false v o = and_false v
closer_in notes.Open false v o = refl
closer_in (notes.Close cuts part) false v o = refl
closer_in notes.Rest false v o = refl
closer_in (notes.Sent item) false v o = refl
closer_in (notes.Recv item) false v o = refl

-- no OPEN is sent again
open_resends : (n : Note) (o : ℕ) → is_open n ≡ true → is_id o (resend_of n) ≡ false
open_resends notes.Open o h = refl
open_resends (notes.Close cuts part) o h = absurd (cc)
open_resends notes.Rest o h = absurd (cc)
open_resends (notes.Release identifier) o h = absurd (cc)
open_resends (notes.Sent item) o h = absurd (cc)
open_resends (notes.Recv item) o h = absurd (cc)

first_since : (starts ends : Moment → Bool) (b : Bool) (m : Moment) (ms : List Moment) → since starts ends (with_first b m ms) ≡ ((b && starts m) || (not (b && ends m) && since starts ends ms))
first_since starts ends true m ms = refl
first_since starts ends false m ms = refl

first_latest : (test : Moment → Bool) (b : Bool) (m : Moment) (ms : List Moment) → latest test (with_first b m ms) ≡ cond (b && test m) (Some m) (latest test ms)
first_latest test true m ms = refl
first_latest test false m ms = refl

session_rest : (role : Role) (f : Option Fate) (e : Seen) (past : List Seen) → (is_open e.note && begins f) ≡ false
    → session role f (e ∷ past) ≡ with_first (has_session role f e past) (newest e past) (session role (cond (is_open e.note) (latest_fate role past) f) past)
session_rest role f e past h = ap (with_first (has_session role f e past) (newest e past)) (go (is_open e.note) (begins f) h)
  where
    go : (first fresh : Bool) → (first && fresh) ≡ false → cond first (cond fresh [] (session role (latest_fate role past) past)) (session role f past) ≡ session role (cond first (latest_fate role past) f) past
    go true true h = absurd (cc)
    go true false h = refl
    go false fresh h = refl

latest_next : (role : Role) (f : Option Fate) (e : Seen) (past : List Seen) (o : ℕ) → (is_open e.note && begins f) ≡ false
    → latest (opens_id o) (session role f (e ∷ past))
    ≡ cond (accepted f && is_id o (opener_of e.note)) (Some (newest e past)) (latest (opens_id o) (session role (cond (is_open e.note) (latest_fate role past) f) past))
latest_next role f e past o h =
    ap (latest (opens_id o)) (session_rest role f e past h)
    ∙ first_latest (opens_id o) (has_session role f e past) (newest e past) (session role (cond (is_open e.note) (latest_fate role past) f) past)
    ∙ ap (λ b. cond b (Some (newest e past)) (latest (opens_id o) (session role (cond (is_open e.note) (latest_fate role past) f) past))) (opener_in e.note (accepted f) (voided f && any_accepted role f past) o)

since_next : (role : Role) (f : Option Fate) (e : Seen) (past : List Seen) (o : ℕ) → (is_open e.note && begins f) ≡ false
    → since (opens_id o) (closes_id o) (session role f (e ∷ past))
    ≡ ((accepted f && is_id o (opener_of e.note)) || (not (accepted f && is_id o (closer_of e.note)) && since (opens_id o) (closes_id o) (session role (cond (is_open e.note) (latest_fate role past) f) past)))
since_next role f e past o h =
    let rest : Bool = since (opens_id o) (closes_id o) (session role (cond (is_open e.note) (latest_fate role past) f) past) in
    ap (since (opens_id o) (closes_id o)) (session_rest role f e past h)
    ∙ first_since (opens_id o) (closes_id o) (has_session role f e past) (newest e past) (session role (cond (is_open e.note) (latest_fate role past) f) past)
    ∙ ap (λ b. b || (not (has_session role f e past && is_id o (closer_of e.note)) && rest)) (opener_in e.note (accepted f) (voided f && any_accepted role f past) o)
    ∙ ap (λ b. (accepted f && is_id o (opener_of e.note)) || (not b && rest)) (closer_in e.note (accepted f) (voided f && any_accepted role f past) o)

-- ---- what the look back is to find of one identifier

-- it is open in these moments, and its latest opener among them is later than this position
abbrev opened_later : ℕ → ℕ → List Moment → Bool
opened_later p o ms = since (opens_id o) (closes_id o) ms && is_some_and (λ m. nat_lt p (position m)) (latest (opens_id o) ms)

-- it was sent again on the latest connection, where it was opened later
abbrev resent_later : Role → ℕ → ℕ → Option Fate → List Seen → Bool
resent_later role p o f log = some (λ j. is_id o (resend_of (note j)) && opened_later p o (session role f j.past)) (connection log)

-- so it was sent again later, if it was met, or is sent again here
abbrev found : Role → ℕ → ℕ → Option Fate → Bool → Bool → List Seen → Bool
found role p o f on met log = (met && opened_later p o (session role f log)) || (on && resent_later role p o f log)

one_met : (p : ℕ) (new : Moment) (l : Option Moment) (m a c u : Bool) → (a && m) ≡ false
    → (m && ((a || (not c && u)) && is_some_and (λ n. nat_lt p (position n)) (cond a (Some new) l))) ≡ ((not c && m) && (u && is_some_and (λ n. nat_lt p (position n)) l))
one_met p new l false a true u h = refl
one_met p new l false a false u h = refl
one_met p new l true true c u h = absurd (cc)
one_met p new l true false true u h = refl
one_met p new l true false false u h = refl

goes_on : (b x on r j : Bool) → ((b && x) || (on && ((r && x) || (true && j)))) ≡ ((((on && r) || b) && x) || ((on && true) && j))
goes_on b x false r j = refl
goes_on b x true false j = refl
goes_on true true true true j = refl
goes_on false true true true j = refl
goes_on true false true true j = refl
goes_on false false true true j = refl

ends_on : (b x on r y j k : Bool) → r ≡ false → ((b && x) || (on && ((r && y) || (false && j)))) ≡ ((((on && r) || b) && x) || ((on && false) && k))
ends_on b x true true y j k h = absurd (cc)
ends_on b x false true y j k h = absurd (cc)
ends_on b x true false y j k h = refl
ends_on b x false false y j k h = refl

-- with one event less, which is no opener of what was met
found_next : (role : Role) (p o : ℕ) (f : Option Fate) (on : Bool) (met : ℕ → Bool) (e : Seen) (past : List Seen) → (is_open e.note && begins f) ≡ false
    → ((accepted f && is_id o (opener_of e.note)) && met o) ≡ false
    → found role p o f on (met o) (e ∷ past)
    ≡ found role p o (cond (is_open e.note) (latest_fate role past) f) (on && not (is_open e.note)) (met_before (accepted f) on met e.note o) past
found_next role p o f on met e past h none =
    ap (λ b. (met o && (b && is_some_and (λ m. nat_lt p (position m)) (latest (opens_id o) (session role f (e ∷ past))))) || (on && resent_later role p o f (e ∷ past))) (since_next role f e past o h)
    ∙ ap (λ l. (met o && ((a || (not c && rest)) && is_some_and (λ m. nat_lt p (position m)) l)) || (on && resent_later role p o f (e ∷ past))) (latest_next role f e past o h)
    ∙ ap (λ b. b || (on && resent_later role p o f (e ∷ past))) (one_met p (newest e past) (latest (opens_id o) (session role (cond (is_open e.note) (latest_fate role past) f) past)) (met o) a c rest none)
    ∙ ap (λ b. ((not c && met o) && opened_later p o (session role (cond (is_open e.note) (latest_fate role past) f) past)) || (on && b))
    (some-next (λ j. is_id o (resend_of (note j)) && opened_later p o (session role f j.past)) e past)
    ∙ go (is_open e.note) refl
  where
    a : Bool
    a = accepted f && is_id o (opener_of e.note)

    c : Bool
    c = accepted f && is_id o (closer_of e.note)

    r : Bool
    r = is_id o (resend_of e.note)

    rest : Bool
    rest = since (opens_id o) (closes_id o) (session role (cond (is_open e.note) (latest_fate role past) f) past)

    go : (first : Bool) → is_open e.note ≡ first
        → (((not c && met o) && opened_later p o (session role (cond first (latest_fate role past) f) past)) || (on && ((r && opened_later p o (session role f past)) || (not first && resent_later role p o f past))))
        ≡ ((((on && r) || (not c && met o)) && opened_later p o (session role (cond first (latest_fate role past) f) past)) || ((on && not first) && resent_later role p o (cond first (latest_fate role past) f) past))
    go true is = ends_on (not c && met o) (opened_later p o (session role (latest_fate role past) past)) on r (opened_later p o (session role f past)) (resent_later role p o f past)
        (resent_later role p o (latest_fate role past) past) (open_resends e.note o is)
    go false is = goes_on (not c && met o) (opened_later p o (session role f past)) on r (resent_later role p o f past)

-- ---- positions

latest_within : (test : Moment → Bool) (role : Role) (f : Option Fate) (log : List Seen) (n : Moment) → latest test (session role f log) ≡ Some n → position n ≤ length log
latest_within test role f [] n at = absurd (cc)
latest_within test role f (e ∷ past) n at =
    go (has_session role f e past && test (newest e past)) (is_open e.note) (begins f)
    (sym (first_latest test (has_session role f e past) (newest e past) (cond (is_open e.note) (cond (begins f) [] (session role (latest_fate role past) past)) (session role f past))) ∙ at)
    (latest_within test role (latest_fate role past) past n) (latest_within test role f past n)
  where
    more : position n ≤ length past → position n ≤ length (e ∷ past)
    more le = omega arith

    go : (own first fresh : Bool) → cond own (Some (newest e past)) (latest test (cond first (cond fresh [] (session role (latest_fate role past) past)) (session role f past))) ≡ Some n
        → (latest test (session role (latest_fate role past) past) ≡ Some n → position n ≤ length past) → (latest test (session role f past) ≡ Some n → position n ≤ length past) → position n ≤ length (e ∷ past)
    go true first fresh at before same = let is : newest e past ≡ n = cc in let le : length past + 1 ≡ position n = ap position is in omega arith
    go false true true at before same = absurd (cc)
    go false true false at before same = more (before at)
    go false false fresh at before same = more (same at)

none_later : (role : Role) (p o : ℕ) (f : Option Fate) (log : List Seen) → length log ≤ p → opened_later p o (session role f log) ≡ false
none_later role p o f log le = go (latest (opens_id o) (session role f log)) refl
  where
    go : (l : Option Moment) → latest (opens_id o) (session role f log) ≡ l → (since (opens_id o) (closes_id o) (session role f log) && is_some_and (λ m. nat_lt p (position m)) l) ≡ false
    go None is = and_false (since (opens_id o) (closes_id o) (session role f log))
    go (Some n) is =
        let within = latest_within (opens_id o) role f log n is in
        ap (λ b. since (opens_id o) (closes_id o) (session role f log) && b) (le-ltb p (position n) (omega arith)) ∙ and_false (since (opens_id o) (closes_id o) (session role f log))

none_resent : (role : Role) (p o : ℕ) (f : Option Fate) (log : List Seen) → length log ≤ p → resent_later role p o f log ≡ false
none_resent role p o f [] le = refl
none_resent role p o f (e ∷ past) le =
    let less : length past ≤ p = omega arith in
    some-next (λ j. is_id o (resend_of (note j)) && opened_later p o (session role f j.past)) e past
    ∙ ap (λ b. (is_id o (resend_of e.note) && b) || (not (is_open e.note) && resent_later role p o f past)) (none_later role p o f past less)
    ∙ ap (λ b. (is_id o (resend_of e.note) && false) || (not (is_open e.note) && b)) (none_resent role p o f past less)
    ∙ go (is_id o (resend_of e.note)) (not (is_open e.note))
  where
    go : (b c : Bool) → ((b && false) || (c && false)) ≡ false
    go true true = refl
    go true false = refl
    go false true = refl
    go false false = refl

none_found : (role : Role) (p o : ℕ) (f : Option Fate) (on met : Bool) (log : List Seen) → length log ≤ p → found role p o f on met log ≡ false
none_found role p o f on met log le =
    ap (λ b. (met && b) || (on && resent_later role p o f log)) (none_later role p o f log le)
    ∙ ap (λ b. (met && false) || (on && b)) (none_resent role p o f log le)
    ∙ go met on
  where
    go : (b c : Bool) → ((b && false) || (c && false)) ≡ false
    go true true = refl
    go true false = refl
    go false true = refl
    go false false = refl

-- ---- what the look back finds

-- the latest opener that is looked for stands in front here, or further back
ahead : (role : Role) (i : ℕ) (f : Option Fate) (e : Seen) (past : List Seen) (n : Moment) → (is_open e.note && begins f) ≡ false → (accepted f && is_id i (opener_of e.note)) ≡ false
    → latest (opens_id i) (session role f (e ∷ past)) ≡ Some n → latest (opens_id i) (session role (cond (is_open e.note) (latest_fate role past) f) past) ≡ Some n
ahead role i f e past n h none at =
    sym (latest_next role f e past i h ∙ ap (λ b. cond b (Some (newest e past)) (latest (opens_id i) (session role (cond (is_open e.note) (latest_fate role past) f) past))) none) ∙ at

-- here it stands
own_opener : (role : Role) (i : ℕ) (f : Option Fate) (e : Seen) (past : List Seen) (n : Moment) → (accepted f && is_id i (opener_of e.note)) ≡ true
    → latest (opens_id i) (session role f (e ∷ past)) ≡ Some n → length (e ∷ past) ≤ position n
own_opener role i f e past n own at =
    let here : has_session role f e past && is_id i (opener_of e.note) ≡ true = opener_in e.note (accepted f) (voided f && any_accepted role f past) i ∙ own in
    let first : Some (newest e past) ≡ Some n =
    sym (first_latest (opens_id i) (has_session role f e past) (newest e past) rest ∙ ap (λ b. cond b (Some (newest e past)) (latest (opens_id i) rest)) here) ∙ at in
    let is : newest e past ≡ n = cc in
    let same : length past + 1 ≡ position n = ap position is in
    omega arith
  where
    rest : List Moment
    rest = cond (is_open e.note) (cond (begins f) [] (session role (latest_fate role past) past)) (session role f past)

-- the session that begins here has no opener further back
none_before : (role : Role) (i : ℕ) (f : Option Fate) (e : Seen) (past : List Seen) (n : Moment) → (is_open e.note && begins f) ≡ true → (accepted f && is_id i (opener_of e.note)) ≡ false
    → latest (opens_id i) (session role f (e ∷ past)) ≡ Some n → ⊥
none_before role i f e past n h none at =
    let here : has_session role f e past && is_id i (opener_of e.note) ≡ false = opener_in e.note (accepted f) (voided f && any_accepted role f past) i ∙ none in
    go (is_open e.note) (begins f) h
    (sym (first_latest (opens_id i) (has_session role f e past) (newest e past) rest ∙ ap (λ b. cond b (Some (newest e past)) (latest (opens_id i) rest)) here) ∙ at)
  where
    rest : List Moment
    rest = cond (is_open e.note) (cond (begins f) [] (session role (latest_fate role past) past)) (session role f past)

    go : (first fresh : Bool) → (first && fresh) ≡ true → latest (opens_id i) (cond first (cond fresh [] (session role (latest_fate role past) past)) (session role f past)) ≡ Some n → ⊥
    go true true h at = absurd (cc)
    go true false h at = absurd (cc)
    go false fresh h at = absurd (cc)

-- an opener of what was met is one of an identifier
hit_at : (inside : Bool) (met : ℕ → Bool) (x : Option ℕ) → (inside && is_some_and met x) ≡ true → (o : ℕ) × ((inside && is_id o x) ≡ true) × (met o ≡ true)
hit_at false met x h = absurd (cc)
hit_at true met None h = absurd (cc)
hit_at true met (Some o) h = (o, eq-eqb o o refl, h)

missed : (inside : Bool) (met : ℕ → Bool) (x : Option ℕ) (o : ℕ) → (inside && is_some_and met x) ≡ false → ((inside && is_id o x) && met o) ≡ false
missed false met x o h = refl
missed true met None o h = refl
missed true met (Some j) o h = go (o == j) refl
  where
    go : (b : Bool) → (o == j) ≡ b → (b && met o) ≡ false
    go true is = ap met (eqb-true o j is) ∙ h
    go false is = refl

-- an opener of what was met comes later
found_here : (role : Role) (i o : ℕ) (f : Option Fate) (on : Bool) (met : ℕ → Bool) (e : Seen) (past : List Seen) (n : Moment) → latest (opens_id i) (session role f (e ∷ past)) ≡ Some n
    → (accepted f && is_id i (opener_of e.note)) ≡ false → (accepted f && is_id o (opener_of e.note)) ≡ true → met o ≡ true → found role (position n) o f on (met o) (e ∷ past) ≡ true
found_here role i o f on met e past n at none own is_met =
    ap (λ b. (b && opened_later (position n) o (session role f (e ∷ past))) || (on && resent_later role (position n) o f (e ∷ past))) is_met
    ∙ or_left (opened_later (position n) o (session role f (e ∷ past))) (on && resent_later role (position n) o f (e ∷ past)) later
  where
    rest : List Moment
    rest = cond (is_open e.note) (cond (begins f) [] (session role (latest_fate role past) past)) (session role f past)

    here : has_session role f e past && is_id o (opener_of e.note) ≡ true
    here = opener_in e.note (accepted f) (voided f && any_accepted role f past) o ∙ own

    not_here : has_session role f e past && is_id i (opener_of e.note) ≡ false
    not_here = opener_in e.note (accepted f) (voided f && any_accepted role f past) i ∙ none

    before : latest (opens_id i) rest ≡ Some n
    before = sym (first_latest (opens_id i) (has_session role f e past) (newest e past) rest ∙ ap (λ b. cond b (Some (newest e past)) (latest (opens_id i) rest)) not_here) ∙ at

    less : (first fresh : Bool) → latest (opens_id i) (cond first (cond fresh [] (session role (latest_fate role past) past)) (session role f past)) ≡ Some n → position n < length past + 1
    less true true at = absurd (cc)
    less true false at = let le = latest_within (opens_id i) role (latest_fate role past) past n at in omega arith
    less false fresh at = let le = latest_within (opens_id i) role f past n at in omega arith

    later : opened_later (position n) o (session role f (e ∷ past)) ≡ true
    later =
        ap (λ b. b && is_some_and (λ m. nat_lt (position n) (position m)) (latest (opens_id o) (session role f (e ∷ past))))
        (first_since (opens_id o) (closes_id o) (has_session role f e past) (newest e past) rest
        ∙ ap (λ b. b || (not (has_session role f e past && is_id o (closer_of e.note)) && since (opens_id o) (closes_id o) rest)) here)
        ∙ ap (λ l. is_some_and (λ m. nat_lt (position n) (position m)) l)
        (first_latest (opens_id o) (has_session role f e past) (newest e past) rest ∙ ap (λ b. cond b (Some (newest e past)) (latest (opens_id o) rest)) here)
        ∙ lt-ltb (position n) (length past + 1) (less (is_open e.note) (begins f) before)

-- what it says is so
sound : (role : Role) (i : ℕ) (n : Moment) (f : Option Fate) (on : Bool) (met : ℕ → Bool) (log : List Seen) → latest (opens_id i) (session role f log) ≡ Some n
    → overtaken_back role i f on met log ≡ true → (o : ℕ) × (found role (position n) o f on (met o) log ≡ true)
sound role i n f on met [] at h = absurd (cc)
sound role i n f on met (e ∷ past) at h =
    go (accepted f && is_id i (opener_of e.note)) (accepted f && is_some_and met (opener_of e.note)) (is_open e.note && begins f) refl refl refl h
    (sound role i n (cond (is_open e.note) (latest_fate role past) f) (on && not (is_open e.note)) (met_before (accepted f) on met e.note) past)
  where
    rest : Bool
    rest = overtaken_back role i (cond (is_open e.note) (latest_fate role past) f) (on && not (is_open e.note)) (met_before (accepted f) on met e.note) past

    Goal : Type 0
    Goal = (o : ℕ) × (found role (position n) o f on (met o) (e ∷ past) ≡ true)

    Earlier : Type 0
    Earlier = (o : ℕ) × (found role (position n) o (cond (is_open e.note) (latest_fate role past) f) (on && not (is_open e.note)) (met_before (accepted f) on met e.note o) past ≡ true)

    go : (s k b : Bool) → (accepted f && is_id i (opener_of e.note)) ≡ s → (accepted f && is_some_and met (opener_of e.note)) ≡ k → (is_open e.note && begins f) ≡ b
        → (not s && (k || (not b && rest))) ≡ true → (latest (opens_id i) (session role (cond (is_open e.note) (latest_fate role past) f) past) ≡ Some n → rest ≡ true → Earlier) → Goal
    go true k b own hit fresh h again = absurd (cc)
    go false true b own hit fresh h again =
        let there = hit_at (accepted f) met (opener_of e.note) hit in
        (there.0, found_here role i there.0 f on met e past n at own there.1 there.2)
    go false false true own hit fresh h again = absurd (cc)
    go false false false own hit fresh h again =
        let there = again (ahead role i f e past n fresh own at) h in
        (there.0, found_next role (position n) there.0 f on met e past fresh (missed (accepted f) met (opener_of e.note) there.0 hit) ∙ there.1)

-- and what is so it says
complete : (role : Role) (i : ℕ) (n : Moment) (f : Option Fate) (on : Bool) (met : ℕ → Bool) (log : List Seen) (o : ℕ) → latest (opens_id i) (session role f log) ≡ Some n
    → found role (position n) o f on (met o) log ≡ true → overtaken_back role i f on met log ≡ true
complete role i n f on met [] o at h = absurd (cc)
complete role i n f on met (e ∷ past) o at h =
    go (accepted f && is_id i (opener_of e.note)) (accepted f && is_some_and met (opener_of e.note)) (is_open e.note && begins f) refl refl refl
    (complete role i n (cond (is_open e.note) (latest_fate role past) f) (on && not (is_open e.note)) (met_before (accepted f) on met e.note) past o)
  where
    rest : Bool
    rest = overtaken_back role i (cond (is_open e.note) (latest_fate role past) f) (on && not (is_open e.note)) (met_before (accepted f) on met e.note) past

    go : (s k b : Bool) → (accepted f && is_id i (opener_of e.note)) ≡ s → (accepted f && is_some_and met (opener_of e.note)) ≡ k → (is_open e.note && begins f) ≡ b
        → (latest (opens_id i) (session role (cond (is_open e.note) (latest_fate role past) f) past) ≡ Some n
        → found role (position n) o (cond (is_open e.note) (latest_fate role past) f) (on && not (is_open e.note)) (met_before (accepted f) on met e.note o) past ≡ true → rest ≡ true)
        → (not s && (k || (not b && rest))) ≡ true
    go true k b own hit fresh again = absurd (let never = none_found role (position n) o f on (met o) (e ∷ past) (own_opener role i f e past n own at) in cc)
    go false true b own hit fresh again = refl
    go false false true own hit fresh again = absurd (none_before role i f e past n fresh own at)
    go false false false own hit fresh again =
        again (ahead role i f e past n fresh own at) (sym (found_next role (position n) o f on met e past fresh (missed (accepted f) met (opener_of e.note) o hit)) ∙ h)

-- ---- all identifiers at once

each_of : (x : ℕ → Moment → Bool) (ms : List Moment) → some (λ j. is_some_and (λ o. x o j) (resend_of (note j))) ms ≡ true → (o : ℕ) × (some (λ j. is_id o (resend_of (note j)) && x o j) ms ≡ true)
each_of x [] h = absurd (cc)
each_of x (m ∷ ms) h = go (or_parts (is_some_and (λ o. x o m) (resend_of (note m))) (some (λ j. is_some_and (λ o. x o j) (resend_of (note j))) ms) h) (each_of x ms)
  where
    own : (r : Option ℕ) → is_some_and (λ o. x o m) r ≡ true → (o : ℕ) × ((is_id o r && x o m) ≡ true)
    own None h = absurd (cc)
    own (Some o) h = (o, ap (λ b. b && x o m) (eq-eqb o o refl) ∙ h)

    go : (is_some_and (λ o. x o m) (resend_of (note m)) ≡ true) ⊎ (some (λ j. is_some_and (λ o. x o j) (resend_of (note j))) ms ≡ true)
        → (some (λ j. is_some_and (λ o. x o j) (resend_of (note j))) ms ≡ true → (o : ℕ) × (some (λ j. is_id o (resend_of (note j)) && x o j) ms ≡ true))
        → (o : ℕ) × (some (λ j. is_id o (resend_of (note j)) && x o j) (m ∷ ms) ≡ true)
    go (inl here) again = let there = own (resend_of (note m)) here in (there.0, or_left (is_id there.0 (resend_of (note m)) && x there.0 m) (some (λ j. is_id there.0 (resend_of (note j)) && x there.0 j) ms) there.1)
    go (inr more) again = let there = again more in (there.0, or_right (is_id there.0 (resend_of (note m)) && x there.0 m) (some (λ j. is_id there.0 (resend_of (note j)) && x there.0 j) ms) there.1)

of_each : (x : ℕ → Moment → Bool) (o : ℕ) (ms : List Moment) → some (λ j. is_id o (resend_of (note j)) && x o j) ms ≡ true → some (λ j. is_some_and (λ o. x o j) (resend_of (note j))) ms ≡ true
of_each x o [] h = absurd (cc)
of_each x o (m ∷ ms) h = go (or_parts (is_id o (resend_of (note m)) && x o m) (some (λ j. is_id o (resend_of (note j)) && x o j) ms) h) (of_each x o ms)
  where
    own : (r : Option ℕ) → (is_id o r && x o m) ≡ true → is_some_and (λ o. x o m) r ≡ true
    own None h = absurd (cc)
    own (Some j) h = let both = both_true (o == j) (x o m) h in ap (λ k. x k m) (sym (eqb-true o j both.0)) ∙ both.1

    go : ((is_id o (resend_of (note m)) && x o m) ≡ true) ⊎ (some (λ j. is_id o (resend_of (note j)) && x o j) ms ≡ true)
        → (some (λ j. is_id o (resend_of (note j)) && x o j) ms ≡ true → some (λ j. is_some_and (λ o. x o j) (resend_of (note j))) ms ≡ true)
        → some (λ j. is_some_and (λ o. x o j) (resend_of (note j))) (m ∷ ms) ≡ true
    go (inl here) again = or_left (is_some_and (λ o. x o m) (resend_of (note m))) (some (λ j. is_some_and (λ o. x o j) (resend_of (note j))) ms) (own (resend_of (note m)) here)
    go (inr more) again = or_right (is_some_and (λ o. x o m) (resend_of (note m))) (some (λ j. is_some_and (λ o. x o j) (resend_of (note j))) ms) (again more)

-- what is open has an opener
has_opener : (starts ends : Moment → Bool) (ms : List Moment) → since starts ends ms ≡ true → (n : Moment) × (latest starts ms ≡ Some n)
has_opener starts ends [] h = absurd (cc)
has_opener starts ends (m ∷ ms) h = go (starts m) (ends m) h (has_opener starts ends ms)
  where
    go : (b c : Bool) → (b || (not c && since starts ends ms)) ≡ true → (since starts ends ms ≡ true → (n : Moment) × (latest starts ms ≡ Some n))
        → (n : Moment) × (cond b (Some m) (latest starts ms) ≡ Some n)
    go true c h again = (m, refl)
    go false true h again = absurd (cc)
    go false false h again = again h

-- ---- the whole look back, where nothing is met yet

overtaken_at : (role : Role) (i : ℕ) (f : Fate) (met : ℕ → Bool) (log : List Seen) (n : Moment) → ((o : ℕ) → met o ≡ false) → latest (opens_id i) (session role (Some f) log) ≡ Some n
    → overtaken_back role i (Some f) true met log ≡ is_overtaken role f i log
overtaken_at role i f met log n none at = same_test (overtaken_back role i (Some f) true met log) (is_overtaken role f i log) to from
  where
    later : ℕ → Moment → Bool
    later o j = opened_later (position n) o (session role (Some f) j.past)

    unmet : (o : ℕ) → found role (position n) o (Some f) true (met o) log ≡ resent_later role (position n) o (Some f) log
    unmet o = ap (λ b. (b && opened_later (position n) o (session role (Some f) log)) || resent_later role (position n) o (Some f) log) (none o)

    all : is_overtaken role f i log ≡ some (λ j. is_some_and (λ o. later o j) (resend_of (note j))) (connection log)
    all = ap (λ l. some (λ j. is_some_and (λ o. is_open_at role f o j && comes_after (latest_opener role f o j) l) (resend_of (note j))) (connection log)) at

    to : overtaken_back role i (Some f) true met log ≡ true → is_overtaken role f i log ≡ true
    to h =
        let there = sound role i n (Some f) true met log at h in
        all ∙ of_each later there.0 (connection log) (sym (unmet there.0) ∙ there.1)

    from : is_overtaken role f i log ≡ true → overtaken_back role i (Some f) true met log ≡ true
    from h =
        let there = each_of later (connection log) (sym all ∙ h) in
        complete role i n (Some f) true met log there.0 at (unmet there.0 ∙ there.1)

pub overtaken_all : (role : Role) (i : ℕ) (f : Fate) (met : ℕ → Bool) (log : List Seen) → ((o : ℕ) → met o ≡ false) → is_open_after role f i log ≡ true
    → overtaken_back role i (Some f) true met log ≡ is_overtaken role f i log
overtaken_all role i f met log none now = let there = has_opener (opens_id i) (closes_id i) (session role (Some f) log) now in overtaken_at role i f met log there.0 none there.1

-- ---- one step of the loop

pub back_stops : (role : Role) (i : ℕ) (f : Option Fate) (on : Bool) (met : ℕ → Bool) (e : Seen) (past : List Seen) (inside own : Bool) → inside ≡ accepted f
    → own ≡ (inside && is_id i (opener_of e.note)) → own ≡ true → overtaken_back role i f on met (e ∷ past) ≡ false
back_stops role i f on met e past inside own is_in is_own is_so =
    ap (λ b. not b && ((accepted f && is_some_and met (opener_of e.note)) || (not (is_open e.note && begins f)
    && overtaken_back role i (cond (is_open e.note) (latest_fate role past) f) (on && not (is_open e.note)) (met_before (accepted f) on met e.note) past)))
    (ap (λ b. b && is_id i (opener_of e.note)) (sym is_in) ∙ sym is_own ∙ is_so)

pub back_hits : (role : Role) (i : ℕ) (f : Option Fate) (on : Bool) (met : ℕ → Bool) (e : Seen) (past : List Seen) (inside own hit : Bool) → inside ≡ accepted f
    → own ≡ (inside && is_id i (opener_of e.note)) → own ≡ false → hit ≡ (inside && is_some_and met (opener_of e.note)) → hit ≡ true → overtaken_back role i f on met (e ∷ past) ≡ true
back_hits role i f on met e past inside own hit is_in is_own not_own is_hit is_so =
    go (accepted f && is_id i (opener_of e.note)) (accepted f && is_some_and met (opener_of e.note))
    (ap (λ b. b && is_id i (opener_of e.note)) (sym is_in) ∙ sym is_own ∙ not_own) (ap (λ b. b && is_some_and met (opener_of e.note)) (sym is_in) ∙ sym is_hit ∙ is_so)
  where
    go : (s k : Bool) → s ≡ false → k ≡ true → (not s && (k || (not (is_open e.note && begins f)
        && overtaken_back role i (cond (is_open e.note) (latest_fate role past) f) (on && not (is_open e.note)) (met_before (accepted f) on met e.note) past))) ≡ true
    go true k p q = absurd (cc)
    go false true p q = refl
    go false false p q = absurd (cc)

-- what stands further back decides, where the session doesn't begin here
back_rest : (role : Role) (i : ℕ) (f : Option Fate) (on : Bool) (met : ℕ → Bool) (e : Seen) (past : List Seen) (inside own hit : Bool) → inside ≡ accepted f
    → own ≡ (inside && is_id i (opener_of e.note)) → own ≡ false → hit ≡ (inside && is_some_and met (opener_of e.note)) → hit ≡ false
    → overtaken_back role i f on met (e ∷ past) ≡ (not (is_open e.note && begins f)
    && overtaken_back role i (cond (is_open e.note) (latest_fate role past) f) (on && not (is_open e.note)) (met_before (accepted f) on met e.note) past)
back_rest role i f on met e past inside own hit is_in is_own not_own is_hit not_hit =
    go (accepted f && is_id i (opener_of e.note)) (accepted f && is_some_and met (opener_of e.note))
    (ap (λ b. b && is_id i (opener_of e.note)) (sym is_in) ∙ sym is_own ∙ not_own) (ap (λ b. b && is_some_and met (opener_of e.note)) (sym is_in) ∙ sym is_hit ∙ not_hit)
  where
    rest : Bool
    rest = not (is_open e.note && begins f) && overtaken_back role i (cond (is_open e.note) (latest_fate role past) f) (on && not (is_open e.note)) (met_before (accepted f) on met e.note) past

    go : (s k : Bool) → s ≡ false → k ≡ false → (not s && (k || rest)) ≡ rest
    go true k p q = absurd (cc)
    go false true p q = absurd (cc)
    go false false p q = refl

pub back_begins : (role : Role) (i : ℕ) (f : Option Fate) (on : Bool) (met : ℕ → Bool) (e : Seen) (past : List Seen) (inside own hit begun : Bool) → inside ≡ accepted f
    → own ≡ (inside && is_id i (opener_of e.note)) → own ≡ false → hit ≡ (inside && is_some_and met (opener_of e.note)) → hit ≡ false
    → begun ≡ (is_open e.note && begins f) → begun ≡ true → overtaken_back role i f on met (e ∷ past) ≡ false
back_begins role i f on met e past inside own hit begun is_in is_own not_own is_hit not_hit is_begun is_so =
    back_rest role i f on met e past inside own hit is_in is_own not_own is_hit not_hit
    ∙ ap (λ b. not b && overtaken_back role i (cond (is_open e.note) (latest_fate role past) f) (on && not (is_open e.note)) (met_before (accepted f) on met e.note) past) (sym is_begun ∙ is_so)

pub back_goes : (role : Role) (i : ℕ) (f g : Option Fate) (on before : Bool) (met closed now : ℕ → Bool) (e : Seen) (past : List Seen) (inside own hit begun : Bool) → inside ≡ accepted f
    → own ≡ (inside && is_id i (opener_of e.note)) → own ≡ false → hit ≡ (inside && is_some_and met (opener_of e.note)) → hit ≡ false
    → begun ≡ (is_open e.note && begins f) → begun ≡ false
    → ((o : ℕ) → closed o ≡ (not (inside && is_id o (closer_of e.note)) && met o)) → ((o : ℕ) → now o ≡ ((on && is_id o (resend_of e.note)) || closed o))
    → before ≡ (on && not (is_open e.note)) → g ≡ cond (is_open e.note) (latest_fate role past) f
    → overtaken_back role i f on met (e ∷ past) ≡ overtaken_back role i g before now past
back_goes role i f g on before met closed now e past inside own hit begun is_in is_own not_own is_hit not_hit is_begun not_begun is_closed is_now is_before is_g =
    back_rest role i f on met e past inside own hit is_in is_own not_own is_hit not_hit
    ∙ ap (λ b. not b && overtaken_back role i (cond (is_open e.note) (latest_fate role past) f) (on && not (is_open e.note)) (met_before (accepted f) on met e.note) past) (sym is_begun ∙ not_begun)
    ∙ ap (λ h. overtaken_back role i h (on && not (is_open e.note)) (met_before (accepted f) on met e.note) past) (sym is_g)
    ∙ ap (λ b. overtaken_back role i g b (met_before (accepted f) on met e.note) past) (sym is_before)
    ∙ ap (λ m. overtaken_back role i g before m past) (λ k o. sym (table o) k)
  where
    table : (o : ℕ) → now o ≡ met_before (accepted f) on met e.note o
    table o = is_now o ∙ ap (λ b. (on && is_id o (resend_of e.note)) || b) (is_closed o ∙ ap (λ b. not (b && is_id o (closer_of e.note)) && met o) is_in)
