-- Looking back over a connection and over a session, event by event.
use Rattle.std.proofs.Common.{◌≡◌, ◌+◌, ◌==◌, Bool, true, false, cond, ◌&&◌, ◌||◌, not, List, [], ◌∷◌, length, Option, Some, None, unwrap_or, refl, ap, sym, ◌∙◌, arith}
use Rattle.mq_rules.specs.declared.role.Role.{Role}
use Rattle.mq_rules.specs.declared.fate.Fate.{Fate}
use Rattle.mq_rules.specs.declared.note.Note.{Note}
use Rattle.mq_rules.specs.declared.note.Note.TheVariants as notes
use Rattle.mq_rules.specs.declared.note.Seen.{Seen}
use Rattle.mq_rules.specs.Notes.{is_open, is_release}
use Rattle.mq_rules.specs.Moments.{Moment, newest, note, some, since, latest}
use Rattle.mq_rules.specs.Connections.{connection, latest_fate, session, has_session, with_first, begins, accepted, voided, any_accepted}
use Rattle.mq_plain.specs.Lookback.{answer_by}
use Rattle.std.specs.Prelude.{reverse}
use Rattle.std.proofs.lemmas.Bool.{eqb-true, eq-eqb}
use Rattle.std.proofs.lemmas.List.{length-reverse}
use Rattle.mq_rules.proofs.Exports.{same_test, connection-next}

pub no_events : (events : List Seen) → length events ≡ 0 → events ≡ []
no_events [] h = refl
no_events (e ∷ past) h = absurd (cc)

-- on a connection, one event further back
pub since-connection : (starts ends : Note → Bool) (e : Seen) (past : List Seen)
    → since (λ m. starts (note m)) (λ m. ends (note m)) (connection (e ∷ past))
    ≡ (starts e.note || (not (ends e.note) && (not (is_open e.note) && since (λ m. starts (note m)) (λ m. ends (note m)) (connection past))))
since-connection starts ends e past = ap (since (λ m. starts (note m)) (λ m. ends (note m))) (connection-next e past) ∙ go (is_open e.note)
  where
    go : (b : Bool) → since (λ m. starts (note m)) (λ m. ends (note m)) (cond b (newest e past ∷ []) (newest e past ∷ connection past))
        ≡ (starts e.note || (not (ends e.note) && (not b && since (λ m. starts (note m)) (λ m. ends (note m)) (connection past))))
    go true = refl
    go false = refl

-- in a session, one event further back
pub since-session : (starts ends : Moment → Bool) (role : Role) (f : Option Fate) (e : Seen) (past : List Seen)
    → since starts ends (session role f (e ∷ past))
    ≡ ((has_session role f e past && starts (newest e past)) || (not (has_session role f e past && ends (newest e past))
    && cond (is_open e.note) (not (begins f) && since starts ends (session role (latest_fate role past) past)) (since starts ends (session role f past))))
since-session starts ends role f e past = first (has_session role f e past) (is_open e.note) (begins f)
  where
    rest : List Moment → Bool
    rest ms = since starts ends ms

    after : (opens fresh : Bool) → rest (cond opens (cond fresh [] (session role (latest_fate role past) past)) (session role f past))
        ≡ cond opens (not fresh && rest (session role (latest_fate role past) past)) (rest (session role f past))
    after true true = refl
    after true false = refl
    after false fresh = refl

    first : (b opens fresh : Bool) → rest (with_first b (newest e past) (cond opens (cond fresh [] (session role (latest_fate role past) past)) (session role f past)))
        ≡ ((b && starts (newest e past)) || (not (b && ends (newest e past)) && cond opens (not fresh && rest (session role (latest_fate role past) past)) (rest (session role f past))))
    first true opens fresh = ap (λ b. starts (newest e past) || (not (ends (newest e past)) && b)) (after opens fresh)
    first false opens fresh = after opens fresh

pub over_at_open : (starts ends opens rest : Bool) → starts ≡ false → ends ≡ false → opens ≡ true → (starts || (not ends && (not opens && rest))) ≡ false
over_at_open starts ends opens rest p q s = rw (p, q, s) refl

-- what an event answers by itself, and else whether the session begins there, and else what stands before it
pub session_back : (starts ends : Moment → Bool) (role : Role) (f : Option Fate) (e : Seen) (past : List Seen) (here there : Bool)
    → here ≡ (has_session role f e past && starts (newest e past)) → there ≡ (has_session role f e past && ends (newest e past))
    → since starts ends (session role f (e ∷ past))
    ≡ unwrap_or (answer_by here there) (not (is_open e.note && begins f) && since starts ends (session role (cond (is_open e.note) (latest_fate role past) f) past))
session_back starts ends role f e past here there is_here is_there =
    since-session starts ends role f e past ∙ rw (is_here, is_there) (go (has_session role f e past && starts (newest e past)) (has_session role f e past && ends (newest e past)) (is_open e.note) (begins f))
  where
    rest : List Moment → Bool
    rest ms = since starts ends ms

    go : (a b o n : Bool) → (a || (not b && cond o (not n && rest (session role (latest_fate role past) past)) (rest (session role f past))))
        ≡ unwrap_or (answer_by a b) (not (o && n) && rest (session role (cond o (latest_fate role past) f) past))
    go true b o n = refl
    go false true o n = refl
    go false false true true = refl
    go false false true false = refl
    go false false false n = refl

-- the same for "some connection is accepted"
pub accepted_back : (role : Role) (f : Option Fate) (e : Seen) (past : List Seen)
    → any_accepted role f (e ∷ past) ≡ ((is_open e.note && accepted f) || any_accepted role (cond (is_open e.note) (latest_fate role past) f) past)
accepted_back role f e past = go (is_open e.note) (accepted f)
  where
    go : (o a : Bool) → cond o (a || any_accepted role (latest_fate role past) past) (any_accepted role f past) ≡ ((o && a) || any_accepted role (cond o (latest_fate role past) f) past)
    go true a = refl
    go false a = refl

-- by what is known of all connections up to an event, whether a RELEASE is in a session
pub in_known : (role : Role) (f : Option Fate) (any : Bool) (e : Seen) (past : List Seen) → any ≡ any_accepted role f (e ∷ past)
    → (accepted f || (is_release e.note && (voided f && any))) ≡ has_session role f e past
in_known role f any e past is = ap (λ b. accepted f || (is_release e.note && (voided f && b))) is ∙ go e.note
  where
    go : (n : Note) → (accepted f || (is_release n && (voided f && cond (is_open n) (accepted f || any_accepted role (latest_fate role past) past) (any_accepted role f past))))
        ≡ (accepted f || (is_release n && (voided f && any_accepted role f past)))
    go (notes.Release i) = refl
    go notes.Open = refl
    go (notes.Close cuts part) = refl
    go notes.Rest = refl
    go (notes.Sent item) = refl
    go (notes.Recv item) = refl

-- and one event further back what is known is so of those before it
pub any_back : (role : Role) (f g : Option Fate) (any after : Bool) (e : Seen) (past : List Seen) → any ≡ any_accepted role f (e ∷ past)
    → after ≡ cond (is_open e.note && accepted f) (any_accepted role (latest_fate role past) past) any → g ≡ cond (is_open e.note) (latest_fate role past) f → after ≡ any_accepted role g past
any_back role f g any after e past is now before = now ∙ ap (cond (is_open e.note && accepted f) (any_accepted role (latest_fate role past) past)) is ∙ go (is_open e.note) (accepted f) ∙ ap (λ h. any_accepted role h past) (sym before)
  where
    go : (o a : Bool) → cond (o && a) (any_accepted role (latest_fate role past) past) (cond o (a || any_accepted role (latest_fate role past) past) (any_accepted role f past))
        ≡ any_accepted role (cond o (latest_fate role past) f) past
    go true true = refl
    go true false = refl
    go false a = refl

-- where the event answers nothing, and the session doesn't begin there
pub session_on-moments : (starts ends : Moment → Bool) (role : Role) (f g : Option Fate) (e : Seen) (past : List Seen) (is_in begun : Bool)
    → is_in ≡ has_session role f e past → answer_by (is_in && starts (newest e past)) (is_in && ends (newest e past)) ≡ None → begun ≡ (is_open e.note && begins f) → begun ≡ false
    → g ≡ cond (is_open e.note) (latest_fate role past) f
    → since starts ends (session role f (e ∷ past)) ≡ since starts ends (session role g past)
session_on-moments starts ends role f g e past is_in begun here none at over before =
    session_back starts ends role f e past (is_in && starts (newest e past)) (is_in && ends (newest e past)) (ap (λ b. b && starts (newest e past)) here) (ap (λ b. b && ends (newest e past)) here)
    ∙ rw (none, sym at ∙ over, sym before) refl

-- the same for tests on notes
pub session_on : (starts ends : Note → Bool) (role : Role) (f g : Option Fate) (e : Seen) (past : List Seen) (is_in begun : Bool)
    → is_in ≡ has_session role f e past → answer_by (is_in && starts e.note) (is_in && ends e.note) ≡ None → begun ≡ (is_open e.note && begins f) → begun ≡ false
    → g ≡ cond (is_open e.note) (latest_fate role past) f
    → since (λ m. starts (note m)) (λ m. ends (note m)) (session role f (e ∷ past)) ≡ since (λ m. starts (note m)) (λ m. ends (note m)) (session role g past)
session_on starts ends role f g e past is_in begun here none at over before =
    session_on-moments (λ m. starts (note m)) (λ m. ends (note m)) role f g e past is_in begun here none at over before

-- some moment passes a test, where none ends the look back
pub some_since : (test : Note → Bool) (ms : List Moment) → since (λ m. test (note m)) (λ m. false) ms ≡ some (λ m. test (note m)) ms
some_since test [] = refl
some_since test (m ∷ ms) = ap (λ b. test (note m) || b) (some_since test ms)

-- two moments are one where as many events stand before each
pub same_place : (xs ys : List Seen) → (length (reverse xs) + 1 == length (reverse ys) + 1) ≡ (length xs == length ys)
same_place xs ys =
    let left : length (reverse xs) ≡ length xs = length-reverse xs in
    let right : length (reverse ys) ≡ length ys = length-reverse ys in
    same_test (length (reverse xs) + 1 == length (reverse ys) + 1) (length xs == length ys)
    (λ h. let same : length (reverse xs) + 1 ≡ length (reverse ys) + 1 = eqb-true _ _ h in eq-eqb (length xs) (length ys) (omega arith))
    (λ h. let same : length xs ≡ length ys = eqb-true _ _ h in eq-eqb (length (reverse xs) + 1) (length (reverse ys) + 1) (omega arith))

-- ---- the latest in a session

-- one event further back
pub latest-session : (test : Note → Bool) (role : Role) (f : Option Fate) (e : Seen) (past : List Seen)
    → latest (λ m. test (note m)) (session role f (e ∷ past))
    ≡ cond (has_session role f e past && test e.note) (Some (newest e past)) (cond (is_open e.note && begins f) None (latest (λ m. test (note m)) (session role (cond (is_open e.note) (latest_fate role past) f) past)))
latest-session test role f e past = first (has_session role f e past) ∙ ap (cond (has_session role f e past && test e.note) (Some (newest e past))) (after (is_open e.note) (begins f))
  where
    rest : List Moment
    rest = cond (is_open e.note) (cond (begins f) [] (session role (latest_fate role past) past)) (session role f past)

    first : (b : Bool) → latest (λ m. test (note m)) (with_first b (newest e past) rest) ≡ cond (b && test e.note) (Some (newest e past)) (latest (λ m. test (note m)) rest)
    first true = refl
    first false = refl

    after : (o n : Bool) → latest (λ m. test (note m)) (cond o (cond n [] (session role (latest_fate role past) past)) (session role f past))
        ≡ cond (o && n) None (latest (λ m. test (note m)) (session role (cond o (latest_fate role past) f) past))
    after true true = refl
    after true false = refl
    after false n = refl

-- where the event doesn't pass, and the session doesn't begin there
pub latest-on : (test : Note → Bool) (role : Role) (f g : Option Fate) (e : Seen) (past : List Seen) (passes begun : Bool)
    → passes ≡ (has_session role f e past && test e.note) → passes ≡ false → begun ≡ (is_open e.note && begins f) → begun ≡ false → g ≡ cond (is_open e.note) (latest_fate role past) f
    → latest (λ m. test (note m)) (session role f (e ∷ past)) ≡ latest (λ m. test (note m)) (session role g past)
latest-on test role f g e past passes begun here none at over before =
    latest-session test role f e past
    ∙ ap (λ b. cond b (Some (newest e past)) (cond (is_open e.note && begins f) None (latest (λ m. test (note m)) (session role (cond (is_open e.note) (latest_fate role past) f) past)))) (sym here ∙ none)
    ∙ ap (λ b. cond b None (latest (λ m. test (note m)) (session role (cond (is_open e.note) (latest_fate role past) f) past))) (sym at ∙ over)
    ∙ ap (λ h. latest (λ m. test (note m)) (session role h past)) (sym before)

-- where it passes
pub latest-here : (test : Note → Bool) (role : Role) (f : Option Fate) (e : Seen) (past : List Seen) (passes : Bool) → passes ≡ (has_session role f e past && test e.note) → passes ≡ true
    → latest (λ m. test (note m)) (session role f (e ∷ past)) ≡ Some (newest e past)
latest-here test role f e past passes here does =
    latest-session test role f e past
    ∙ ap (λ b. cond b (Some (newest e past)) (cond (is_open e.note && begins f) None (latest (λ m. test (note m)) (session role (cond (is_open e.note) (latest_fate role past) f) past)))) (sym here ∙ does)

-- where the session begins, and it doesn't pass
pub latest-begun : (test : Note → Bool) (role : Role) (f : Option Fate) (e : Seen) (past : List Seen) (passes begun : Bool)
    → passes ≡ (has_session role f e past && test e.note) → passes ≡ false → begun ≡ (is_open e.note && begins f) → begun ≡ true
    → latest (λ m. test (note m)) (session role f (e ∷ past)) ≡ None
latest-begun test role f e past passes begun here none at over =
    latest-session test role f e past
    ∙ ap (λ b. cond b (Some (newest e past)) (cond (is_open e.note && begins f) None (latest (λ m. test (note m)) (session role (cond (is_open e.note) (latest_fate role past) f) past)))) (sym here ∙ none)
    ∙ ap (λ b. cond b None (latest (λ m. test (note m)) (session role (cond (is_open e.note) (latest_fate role past) f) past))) (sym at ∙ over)
