-- Looking back over a session, where a test on an event may look at its connection.
use Rattle.std.proofs.Common.{◌≡◌, ℕ, ◌+◌, ◌≤◌, ◌==◌, Bool, true, false, cond, ◌&&◌, ◌||◌, not, List, [], ◌∷◌, Option, Some, None, unwrap_or, refl, ap, sym, ◌∙◌, arith, zero-add}
use Rattle.std.specs.Prelude.{is_some}
use Rattle.mq_rules.specs.declared.role.Role.{Role}
use Rattle.mq_rules.specs.declared.fate.Fate.{Fate}
use Rattle.mq_rules.specs.declared.note.Seen.{Seen}
use Rattle.mq_rules.specs.declared.note.Note.{Note}
use Rattle.mq_rules.specs.declared.note.Note.TheVariants as notes
use Rattle.mq_rules.specs.Words.{is_id}
use Rattle.mq_rules.specs.Notes.{is_open, is_release}
use Rattle.mq_plain.specs.Received.{IsReceived, IsSent}
use Rattle.mq_rules.specs.Moments.{Moment, newest, since}
use Rattle.mq_rules.specs.Connections.{begun, latest_fate, session, has_session, with_first, begins, accepted, voided, any_accepted}
use Rattle.mq_plain.specs.Lookback.{answer_by}
use Rattle.mq_rules.proofs.Exports.{differ, and_false}

-- the answer of an event by itself, else whether the session begins there, else the answer of what comes before it
pub asked_back : (starts ends : Moment → Bool) (role : Role) (f : Option Fate) (e : Seen) (past : List Seen)
    → since starts ends (session role f (e ∷ past))
    ≡ unwrap_or (answer_by (has_session role f e past && starts (newest e past)) (has_session role f e past && ends (newest e past)))
    (not (is_open e.note && begins f) && since starts ends (session role (cond (is_open e.note) (latest_fate role past) f) past))
asked_back starts ends role f e past = go (has_session role f e past) (starts (newest e past)) (ends (newest e past)) (is_open e.note) (begins f) refl refl
  where
    rest : List Moment → Bool
    rest ms = since starts ends ms

    after : (o n : Bool) → rest (cond o (cond n [] (session role (latest_fate role past) past)) (session role f past)) ≡ (not (o && n) && rest (session role (cond o (latest_fate role past) f) past))
    after true true = refl
    after true false = refl
    after false n = refl

    go : (h a b o n : Bool) → starts (newest e past) ≡ a → ends (newest e past) ≡ b
        → rest (with_first h (newest e past) (cond o (cond n [] (session role (latest_fate role past) past)) (session role f past)))
        ≡ unwrap_or (answer_by (h && a) (h && b)) (not (o && n) && rest (session role (cond o (latest_fate role past) f) past))
    go true true b o n p q = ap (λ s. s || (not (ends (newest e past)) && rest (cond o (cond n [] (session role (latest_fate role past) past)) (session role f past)))) p
    go true false true o n p q = rw (p, q) refl
    go true false false o n p q = rw (p, q) (after o n)
    go false a b o n p q = after o n

-- the same, by what the code found; where the event gives no answer, what comes before it does
pub asked_on : (starts ends : Moment → Bool) (role : Role) (f g : Option Fate) (e : Seen) (past : List Seen) (begun starting ending : Bool)
    → starting ≡ (has_session role f e past && starts (newest e past)) → ending ≡ (has_session role f e past && ends (newest e past))
    → answer_by starting ending ≡ None → begun ≡ (is_open e.note && begins f) → begun ≡ false → g ≡ cond (is_open e.note) (latest_fate role past) f
    → since starts ends (session role f (e ∷ past)) ≡ since starts ends (session role g past)
asked_on starts ends role f g e past begun starting ending s t none at over before =
    asked_back starts ends role f e past ∙ rw (sym s, sym t, none, sym at ∙ over, sym before) refl

-- no RELEASE asks or answers, and any other event is in a session where its connection is accepted
release-asks : (cause : Note → Option ℕ) → IsReceived cause → (n : Note) → is_release n ≡ true → is_some (cause n) ≡ false
release-asks cause received (notes.Release identifier) h = received (notes.Release identifier)
release-asks cause received notes.Open h = absurd (cc)
release-asks cause received (notes.Close cuts part) h = absurd (cc)
release-asks cause received notes.Rest h = absurd (cc)
release-asks cause received (notes.Sent item) h = absurd (cc)
release-asks cause received (notes.Recv item) h = absurd (cc)

release-answers : (answer : Note → Option ℕ) → IsSent answer → (n : Note) → is_release n ≡ true → is_some (answer n) ≡ false
release-answers answer sent (notes.Release identifier) h = sent (notes.Release identifier)
release-answers answer sent notes.Open h = absurd (cc)
release-answers answer sent (notes.Close cuts part) h = absurd (cc)
release-answers answer sent notes.Rest h = absurd (cc)
release-answers answer sent (notes.Sent item) h = absurd (cc)
release-answers answer sent (notes.Recv item) h = absurd (cc)

in_session : (role : Role) (f : Option Fate) (e : Seen) (past : List Seen) (passes : Bool) → (is_release e.note ≡ true → passes ≡ false) → (accepted f && passes) ≡ (has_session role f e past && passes)
in_session role f e past passes nothing = go (accepted f) (is_release e.note) (voided f && any_accepted role f past) passes nothing
  where
    go : (a r b t : Bool) → (r ≡ true → t ≡ false) → (a && t) ≡ ((a || (r && b)) && t)
    go true r b t h = refl
    go false false b t h = refl
    go false true false t h = refl
    go false true true t h = sym (h refl)

unnamed : (i : ℕ) (o : Option ℕ) → is_some o ≡ false → is_id i o ≡ false
unnamed i None h = refl
unnamed i (Some j) h = absurd (cc)

pub asks_in : (cause : Note → Option ℕ) → IsReceived cause → (role : Role) (f : Option Fate) (e : Seen) (past : List Seen) (i : ℕ) → (accepted f && is_id i (cause e.note)) ≡ (has_session role f e past && is_id i (cause e.note))
asks_in cause received role f e past i = in_session role f e past (is_id i (cause e.note)) (λ h. unnamed i (cause e.note) (release-asks cause received e.note h))

pub answers_in : (answer : Note → Option ℕ) → IsSent answer → (role : Role) (f : Option Fate) (e : Seen) (past : List Seen) (i : ℕ) (own : Bool)
    → (accepted f && (is_id i (answer e.note) && own)) ≡ (has_session role f e past && (is_id i (answer e.note) && own))
answers_in answer sent role f e past i own =
    in_session role f e past (is_id i (answer e.note) && own) (λ h. ap (λ b. b && own) (unnamed i (answer e.note) (release-answers answer sent e.note h)))

-- what stands before an event is on the connection of this number, where the event is and no OPEN
pub latest_before : (c : ℕ) (e : Seen) (past : List Seen) (is_latest : Bool) → begun (e ∷ past) ≤ c → is_latest ≡ (begun (e ∷ past) == c) → (is_latest && not (is_open e.note)) ≡ (begun past == c)
latest_before c e past is_latest within is = ap (λ b. b && not (is_open e.note)) is ∙ go (is_open e.note) (begun past) within
  where
    go : (b : Bool) (n : ℕ) → cond b 1 0 + n ≤ c → (((cond b 1 0 + n) == c) && not b) ≡ (n == c)
    go true n within = and_false ((1 + n) == c) ∙ sym (differ n c (λ same. absurd (omega arith)))
    go false n within = ap (λ m. (m == c) && true) (zero-add n) ∙ last (n == c)
      where
        last : (b : Bool) → (b && true) ≡ b
        last true = refl
        last false = refl

pub within_before : (c : ℕ) (e : Seen) (past : List Seen) → begun (e ∷ past) ≤ c → begun past ≤ c
within_before c e past h = go (is_open e.note) (begun past) h
  where
    go : (b : Bool) (n : ℕ) → cond b 1 0 + n ≤ c → n ≤ c
    go true n h = omega arith
    go false n h = omega arith
