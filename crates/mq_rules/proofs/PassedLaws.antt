-- Openers that were passed over, with one event more.
use Rattle.std.proofs.Common.{◌≡◌, ℕ, ◌+◌, ◌<◌, ◌≤◌, ◌==◌, nat_lt, arith, Bool, true, false, cond, ◌&&◌, ◌||◌, not, List, [], ◌∷◌, length, Option, Some, None, refl, ap, sym, ◌∙◌, inl, inr}
use Rattle.std.proofs.lemmas.Bool.{eqb-true, eq-eqb, ltb-true, ltb-false, le-ltb, lt-ltb}
use Rattle.mq_rules.specs.declared.role.Role.{Role}
use Rattle.mq_rules.specs.declared.fate.Fate.{Fate}
use Rattle.mq_rules.specs.declared.note.Seen.{Seen}
use Rattle.mq_rules.specs.Notes.{is_open}
use Rattle.mq_rules.specs.Moments.{Moment, newest, note, position, moments, some, Among}
use Rattle.mq_rules.specs.Connections.{begun, number, of_connection, connection, fate, latest_fate, resumed}
use Rattle.mq_rules.specs.Identifiers.{announces_bound, sends_again, passes_over, is_passed_over}
use Rattle.mq_rules.specs.Passing.{opened_at, before_latest, passes, passed_before}
use Rattle.mq_rules.proofs.BoolLaws.{and_false, differ, or_false}
use Rattle.mq_rules.proofs.FateLaws.{begun-open, begun-same, fate-elsewhere}
use Rattle.mq_rules.proofs.PositionLaws.{among-within}

-- ---- some moments

some-same : (p q : Moment → Bool) (ms : List Moment) → ((m : Moment) → Among m ms → p m ≡ q m) → some p ms ≡ some q ms
some-same p q [] h = refl
some-same p q (m ∷ ms) h = ap (λ b. b || some p ms) (h m (inl refl)) ∙ ap (λ b. q m || b) (some-same p q ms (λ n a. h n (inr a)))

some-none : (p : Moment → Bool) (ms : List Moment) → ((m : Moment) → Among m ms → p m ≡ false) → some p ms ≡ false
some-none p [] h = refl
some-none p (m ∷ ms) h = ap (λ b. b || some p ms) (h m (inl refl)) ∙ some-none p ms (λ n a. h n (inr a))

some-or : (p q : Moment → Bool) (ms : List Moment) → some (λ m. p m || q m) ms ≡ (some p ms || some q ms)
some-or p q [] = refl
some-or p q (m ∷ ms) = ap (λ b. (p m || q m) || b) (some-or p q ms) ∙ turn (p m) (q m) (some p ms) (some q ms)
  where
    turn : (a b c d : Bool) → ((a || b) || (c || d)) ≡ ((a || c) || (b || d))
    turn true b c d = refl
    turn false true true d = refl
    turn false true false d = refl
    turn false false c d = refl

numbers : (past : List Seen) (m : Moment) → Among m (moments past) → number m ≤ begun past
numbers [] m h = absurd h
numbers (e ∷ past) m (inl same) = let at : number m ≡ begun (e ∷ past) = ap number same in omega arith
numbers (e ∷ past) m (inr there) = let le = numbers past m there in omega arith

none-below : (p : ℕ) → nat_lt p 0 ≡ false
none-below p = le-ltb p 0 (omega arith)

-- ---- a connection that isn't the latest

elsewhere : (c : ℕ) (e : Seen) (past : List Seen) → c < begun (e ∷ past) → of_connection c (e ∷ past) ≡ of_connection c past
elsewhere c e past h = ap (λ b. cond b (newest e past ∷ of_connection c past) (of_connection c past)) (differ (begun (e ∷ past)) c (λ is. omega arith))

passes-elsewhere : (role : Role) (i c : ℕ) (e : Seen) (past : List Seen) → c < begun (e ∷ past) → passes role i (e ∷ past) c ≡ passes role i past c
passes-elsewhere role i c e past h =
    ap (λ f. resumed f && (announces_bound role (of_connection c (e ∷ past)) && not (some (sends_again i) (of_connection c (e ∷ past))))) (fate-elsewhere role c e past h)
    ∙ ap (λ ms. resumed (fate role c past) && (announces_bound role ms && not (some (sends_again i) ms))) (elsewhere c e past h)

-- ---- the OPEN of the latest connection

abbrev latest_test : ℕ → ℕ → Bool → Moment → Bool
latest_test p last x w = is_open (note w) && (nat_lt p (position w) && ((number w == last) && x))

-- only one OPEN begins it
latest-only : (x : Bool) (p : ℕ) (past : List Seen) → some (latest_test p (begun past) x) (moments past) ≡ (nat_lt p (opened_at past) && x)
latest-only x p [] = sym (ap (λ b. b && x) (none-below p))
latest-only x p (e ∷ past) = go (is_open e.note) refl (latest-only x p past)
  where
    rest : Bool
    rest = some (latest_test p (begun (e ∷ past)) x) (moments past)

    go : (b : Bool) → is_open e.note ≡ b → some (latest_test p (begun past) x) (moments past) ≡ (nat_lt p (opened_at past) && x) → ((b && (nat_lt p (length past + 1) && ((begun (e ∷ past) == begun (e ∷ past)) && x))) || rest) ≡ (nat_lt p (cond b (length past + 1) (opened_at past)) && x)
    go true h before =
        let more : begun (e ∷ past) ≡ 1 + begun past = begun-open e past h in
        ap (λ b. (nat_lt p (length past + 1) && (b && x)) || rest) (eq-eqb (begun (e ∷ past)) (begun (e ∷ past)) refl)
        ∙ ap (λ b. (nat_lt p (length past + 1) && x) || b) (some-none (latest_test p (begun (e ∷ past)) x) (moments past) (λ w a.
        let le = numbers past w a in
        ap (λ b. is_open (note w) && (nat_lt p (position w) && (b && x))) (differ (number w) (begun (e ∷ past)) (λ is. omega arith))
        ∙ ap (λ b. is_open (note w) && b) (and_false (nat_lt p (position w))) ∙ and_false (is_open (note w))))
        ∙ or_false (nat_lt p (length past + 1) && x)
    go false h before = ap (λ n. some (latest_test p n x) (moments past)) (begun-same e past h) ∙ before

-- ---- one event more

abbrev before_test : Role → ℕ → ℕ → List Seen → Moment → Bool
before_test role i p log w = is_open (note w) && (nat_lt p (position w) && (nat_lt (number w) (begun log) && passes role i log (number w)))

-- an event that begins no connection changes nothing
pub passed-stays : (role : Role) (i p : ℕ) (e : Seen) (past : List Seen) → is_open e.note ≡ false → passed_before role i p (e ∷ past) ≡ passed_before role i p past
passed-stays role i p e past closed =
    ap (λ b. (b && (nat_lt p (length past + 1) && (nat_lt (begun (e ∷ past)) (begun (e ∷ past)) && passes role i (e ∷ past) (begun (e ∷ past))))) || some (before_test role i p (e ∷ past)) (moments past)) closed
    ∙ some-same (before_test role i p (e ∷ past)) (before_test role i p past) (moments past) (λ w a. ap (λ b. is_open (note w) && (nat_lt p (position w) && b)) (inner w))
  where
    same : begun (e ∷ past) ≡ begun past
    same = begun-same e past closed

    inner : (w : Moment) → (nat_lt (number w) (begun (e ∷ past)) && passes role i (e ∷ past) (number w)) ≡ (nat_lt (number w) (begun past) && passes role i past (number w))
    inner w = ap (λ n. nat_lt (number w) n && passes role i (e ∷ past) (number w)) same ∙ go (nat_lt (number w) (begun past)) refl
      where
        go : (b : Bool) → nat_lt (number w) (begun past) ≡ b → (b && passes role i (e ∷ past) (number w)) ≡ (b && passes role i past (number w))
        go true t = let lt = ltb-true (number w) (begun past) t in let s = same in passes-elsewhere role i (number w) e past (omega (arith, lt, s))
        go false t = refl

-- what holds of a connection of this number, which is the latest one or comes before it
either-one : (n last : ℕ) (q x : Bool) (any : Bool) → n ≤ last → (n ≡ last → any ≡ x) → (n < last → any ≡ q) → any ≡ ((nat_lt n last && q) || ((n == last) && x))
either-one n last q x any le same less = go (n == last) refl
  where
    apart : (n == last) ≡ false → n < last
    apart h = by (nat_lt n last) refl
      where
        by : (b : Bool) → nat_lt n last ≡ b → n < last
        by true u = ltb-true n last u
        by false u = absurd (let ge : last ≤ n = ltb-false n last u in let is : n ≡ last = omega (arith, le, ge) in let yes : (n == last) ≡ true = eq-eqb n last is in cc)

    go : (b : Bool) → (n == last) ≡ b → any ≡ ((nat_lt n last && q) || (b && x))
    go true t =
        let is : n ≡ last = eqb-true n last t in
        let at_most : last ≤ n = omega (arith, is) in
        same is ∙ sym (ap (λ b. (b && q) || x) (le-ltb n last at_most))
    go false t =
        let lt : n < last = apart t in
        less lt ∙ sym (ap (λ b. (b && q) || false) (lt-ltb n last lt) ∙ or_false q)

over : (a b u v : Bool) → (a && (b && (u || v))) ≡ ((a && (b && u)) || (a && (b && v)))
over true true u v = refl
over true false u v = refl
over false b u v = refl

-- one that begins a connection makes the latest one an earlier one
pub passed-opens : (role : Role) (i p : ℕ) (e : Seen) (past : List Seen) → is_open e.note ≡ true
    → passed_before role i p (e ∷ past) ≡ (passed_before role i p past || (nat_lt p (opened_at past) && passes role i past (begun past)))
passed-opens role i p e past opens =
    ap (λ b. (is_open e.note && (nat_lt p (length past + 1) && (b && passes role i (e ∷ past) (begun (e ∷ past))))) || some (before_test role i p (e ∷ past)) (moments past)) (le-ltb (begun (e ∷ past)) (begun (e ∷ past)) (omega arith))
    ∙ ap (λ b. (is_open e.note && b) || some (before_test role i p (e ∷ past)) (moments past)) (and_false (nat_lt p (length past + 1)))
    ∙ ap (λ b. b || some (before_test role i p (e ∷ past)) (moments past)) (and_false (is_open e.note))
    ∙ some-same (before_test role i p (e ∷ past)) (λ w. before_test role i p past w || latest_test p (begun past) now w) (moments past) each
    ∙ some-or (before_test role i p past) (latest_test p (begun past) now) (moments past)
    ∙ ap (λ b. passed_before role i p past || b) (latest-only now p past)
  where
    now : Bool
    now = passes role i past (begun past)

    more : begun (e ∷ past) ≡ 1 + begun past
    more = begun-open e past opens

    each : (w : Moment) → Among w (moments past) → before_test role i p (e ∷ past) w ≡ (before_test role i p past w || latest_test p (begun past) now w)
    each w a =
        let le = numbers past w a in
        let s = more in
        let lt : number w < begun (e ∷ past) = omega (arith, le, s) in
        ap (λ b. is_open (note w) && (nat_lt p (position w) && (b && passes role i (e ∷ past) (number w)))) (lt-ltb (number w) (begun (e ∷ past)) lt)
        ∙ ap (λ b. is_open (note w) && (nat_lt p (position w) && b))
        (passes-elsewhere role i (number w) e past lt
        ∙ either-one (number w) (begun past) (passes role i past (number w)) now (passes role i past (number w)) le (λ is. ap (passes role i past) is) (λ less. refl))
        ∙ over (is_open (note w)) (nat_lt p (position w)) (nat_lt (number w) (begun past) && passes role i past (number w)) ((number w == begun past) && now)

-- nothing that comes later begins before it
pub passed-none : (role : Role) (i p : ℕ) (past : List Seen) → length past ≤ p → passed_before role i p past ≡ false
passed-none role i p past late = some-none (before_test role i p past) (moments past) (λ w a.
    let within = among-within w past a in
    ap (λ b. is_open (note w) && (b && (nat_lt (number w) (begun past) && passes role i past (number w)))) (le-ltb p (position w) (omega (arith, within, late))) ∙ and_false (is_open (note w)))

-- ---- the latest connection too

abbrev over_on : Role → ℕ → Option Fate → List Moment → Bool
over_on role i f ms = resumed f && (announces_bound role ms && not (some (sends_again i) ms))

pub passed_over-is : (role : Role) (taken : Option Fate) (i : ℕ) (past : List Seen) (k : Moment)
    → is_passed_over role taken i past k ≡ (passed_before role i (position k) past || (nat_lt (position k) (opened_at past) && (resumed taken && (announces_bound role (connection past) && not (some (sends_again i) (connection past))))))
passed_over-is role taken i past k =
    some-same (λ w. is_open (note w) && (nat_lt (position k) (position w) && passes_over role taken i past (number w))) (λ w. before_test role i (position k) past w || latest_test (position k) (begun past) now w) (moments past) each
    ∙ some-or (before_test role i (position k) past) (latest_test (position k) (begun past) now) (moments past)
    ∙ ap (λ b. passed_before role i (position k) past || b) (latest-only now (position k) past)
  where
    now : Bool
    now = over_on role i taken (connection past)

    each : (w : Moment) → Among w (moments past) → (is_open (note w) && (nat_lt (position k) (position w) && passes_over role taken i past (number w))) ≡ (before_test role i (position k) past w || latest_test (position k) (begun past) now w)
    each w a =
        ap (λ b. is_open (note w) && (nat_lt (position k) (position w) && b))
        (either-one (number w) (begun past) (passes role i past (number w)) now (passes_over role taken i past (number w)) (numbers past w a)
        (λ is. ap (λ b. over_on role i (cond b taken (fate role (number w) past)) (of_connection (number w) past)) (eq-eqb (number w) (begun past) is) ∙ ap (λ c. over_on role i taken (of_connection c past)) is)
        (λ lt. ap (λ b. over_on role i (cond b taken (fate role (number w) past)) (of_connection (number w) past)) (differ (number w) (begun past) (λ is. omega arith))))
        ∙ over (is_open (note w)) (nat_lt (position k) (position w)) (nat_lt (number w) (begun past) && passes role i past (number w)) ((number w == begun past) && now)

-- the same, connection by connection
abbrev pub earlier_over : Role → ℕ → Moment → Option (List Seen) → Bool
earlier_over role i k None = false
earlier_over role i k (Some rest) = is_passed_over role (latest_fate role rest) i rest k

passed-earlier : (role : Role) (i : ℕ) (past : List Seen) (k : Moment) → passed_before role i (position k) past ≡ earlier_over role i k (before_latest past)
passed-earlier role i [] k = refl
passed-earlier role i (e ∷ past) k = go (is_open e.note) refl (passed-earlier role i past k)
  where
    go : (b : Bool) → is_open e.note ≡ b → passed_before role i (position k) past ≡ earlier_over role i k (before_latest past) → passed_before role i (position k) (e ∷ past) ≡ earlier_over role i k (cond b (Some past) (before_latest past))
    go true h before = passed-opens role i (position k) e past h ∙ sym (passed_over-is role (latest_fate role past) i past k)
    go false h before = passed-stays role i (position k) e past h ∙ before

pub passed_over-back : (role : Role) (taken : Option Fate) (i : ℕ) (past : List Seen) (k : Moment)
    → is_passed_over role taken i past k ≡ (earlier_over role i k (before_latest past) || (nat_lt (position k) (opened_at past) && (resumed taken && (announces_bound role (connection past) && not (some (sends_again i) (connection past))))))
passed_over-back role taken i past k =
    passed_over-is role taken i past k
    ∙ ap (λ b. b || (nat_lt (position k) (opened_at past) && (resumed taken && (announces_bound role (connection past) && not (some (sends_again i) (connection past)))))) (passed-earlier role i past k)
