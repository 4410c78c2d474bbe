-- A moment that may come once on a connection, and what a later event of that connection shows of it.
use Rattle.std.proofs.Common.{◌≡◌, ℕ, ◌+◌, ◌≤◌, ◌==◌, arith, Bool, true, false, cond, ◌&&◌, ◌||◌, not, List, [], ◌∷◌, length, Option, Some, None, refl, ap, sym, ◌∙◌, inl, inr}
use Rattle.std.proofs.lemmas.Bool.{eq-eqb, eqb-true}
use Rattle.mq_rules.specs.declared.role.Tested.{Tested}
use Rattle.mq_rules.specs.declared.rule.Rule.{Rule}
use Rattle.mq_rules.specs.declared.note.Seen.{Seen}
use Rattle.mq_rules.specs.Words.{is_some_and}
use Rattle.mq_rules.specs.Notes.{is_open}
use Rattle.mq_rules.specs.Moments.{Moment, newest, position, moments, moment, is_next, latest, count, Among}
use Rattle.mq_rules.specs.Connections.{begun, number, connection, is_beside}
use Rattle.mq_rules.specs.Occasions.{applies, places, adds_place}
use Rattle.mq_rules.proofs.Exports.{among-moment, and_false, applies-step, begun-closed, begun-open-of-given as begun-open, connection-newest as connection-next, count-either, count-same, differ, from-zero, moment-within, number-within, places-once, those-among, unmet}

-- ---- the latest moment of the connection that passes a test

pub latest-next : (test : Moment → Bool) (e : Seen) (past : List Seen) → latest test (connection (e ∷ past)) ≡ cond (test (newest e past)) (Some (newest e past)) (cond (is_open e.note) None (latest test (connection past)))
latest-next test e past = ap (latest test) (connection-next e past) ∙ ap (cond (test (newest e past)) (Some (newest e past))) (go (is_open e.note))
  where
    go : (b : Bool) → latest test (cond b [] (connection past)) ≡ cond b None (latest test (connection past))
    go true = refl
    go false = refl

latest-among : (test : Moment → Bool) (ms : List Moment) (m : Moment) → latest test ms ≡ Some m → Among m ms × (test m ≡ true)
latest-among test [] m h = absurd (cc)
latest-among test (n ∷ ms) m h = go (test n) refl (latest-among test ms m) h
  where
    go : (b : Bool) → test n ≡ b → (latest test ms ≡ Some m → Among m ms × (test m ≡ true)) → cond b (Some n) (latest test ms) ≡ Some m → Among m (n ∷ ms) × (test m ≡ true)
    go true t rest h = let same : n ≡ m = cc in (inl (sym same), ap test (sym same) ∙ t)
    go false t rest h = let a = rest h in (inr a.0, a.1)

pub latest-passes : (test : Moment → Bool) (past : List Seen) (m : Moment) → latest test (connection past) ≡ Some m → Among m (connection past) × (test m ≡ true)
latest-passes test past m h = latest-among test (connection past) m h

-- it stands in the log at its position
pub latest-stands : (test : Moment → Bool) (past : List Seen) (m : Moment) → latest test (connection past) ≡ Some m → moment past (position m) ≡ Some m
latest-stands test past m h =
    among-moment m past (those-among (λ j. number j == begun past) (moments past) m (latest-passes test past m h).0).0

-- ---- a test that at most one moment of a connection passes, and no OPEN

pub record IsOnce (test : Moment → Bool) : Type 0 where
  pub closed : (e : Seen) (past : List Seen) → test (newest e past) ≡ true → is_open e.note ≡ false
  pub alone : (e : Seen) (past : List Seen) → test (newest e past) ≡ true → latest test (connection past) ≡ None

-- the position is that of the moment, if there is one
abbrev pub is_at : ℕ → Option Moment → Bool
is_at k o = is_some_and (λ m. k == position m) o

-- so of the latest connection exactly one position passes it, if any does
pub once-there : (test : Moment → Bool) → IsOnce test → (past : List Seen) (k : ℕ) → is_some_and (λ m. (begun past == number m) && test m) (moment past k) ≡ is_at k (latest test (connection past))
once-there test once [] k = refl
once-there test once (e ∷ past) k =
    go (once-there test once past k) (is_next past k) refl (test (newest e past)) refl (is_open e.note) refl
    ∙ sym (ap (is_at k) (latest-next test e past))
  where
    older : Option Moment
    older = latest test (connection past)

    here : Moment → Bool
    here m = (begun (e ∷ past) == number m) && test m

    before : (o : Option Moment) → older ≡ o → is_next past k ≡ true → is_at k o ≡ false
    before None is h = refl
    before (Some m) is h =
        let le : position m ≤ length past = moment-within past (position m) m (latest-stands test past m is) in
        let at : k ≡ length past + 1 = eqb-true k (length past + 1) h in
        differ k (position m) (λ same. omega arith)

    beyond : (o : Option Moment) → moment past k ≡ o → is_open e.note ≡ true → is_some_and here o ≡ false
    beyond None at p = refl
    beyond (Some m) at p =
        let le : number m ≤ begun past = number-within past k m at in
        let more : begun (e ∷ past) ≡ 1 + begun past = begun-open e past p in
        ap (λ b. b && test m) (differ (begun (e ∷ past)) (number m) (λ same. omega arith))

    earlier : Type 0
    earlier = is_some_and (λ m. (begun past == number m) && test m) (moment past k) ≡ is_at k older

    same : earlier → is_open e.note ≡ false → is_some_and here (moment past k) ≡ is_at k older
    same rest p = ap (λ n. is_some_and (λ m. (n == number m) && test m) (moment past k)) (begun-closed e past p) ∙ rest

    go : earlier → (b : Bool) → is_next past k ≡ b → (t : Bool) → test (newest e past) ≡ t → (o : Bool) → is_open e.note ≡ o
        → is_some_and here (cond b (Some (newest e past)) (moment past k)) ≡ is_at k (cond t (Some (newest e past)) (cond o None older))
    go rest true h true t o p = ap (λ b. b && test (newest e past)) (eq-eqb (begun (e ∷ past)) (begun (e ∷ past)) refl) ∙ t ∙ sym h
    go rest true h false t true p = ap (λ b. b && test (newest e past)) (eq-eqb (begun (e ∷ past)) (begun (e ∷ past)) refl) ∙ t
    go rest true h false t false p = ap (λ b. b && test (newest e past)) (eq-eqb (begun (e ∷ past)) (begun (e ∷ past)) refl) ∙ t ∙ sym (before older refl h)
    go rest false h true t o p = same rest (once.closed e past t) ∙ ap (is_at k) (once.alone e past t) ∙ sym h
    go rest false h false t true p = beyond (moment past k) refl p
    go rest false h false t false p = same rest p

-- an event that shows what comes of it, if it isn't an OPEN
pub once-shown : (test : Moment → Bool) → IsOnce test → (s : Bool) (e : Seen) (past : List Seen) (k : ℕ) → (s ≡ true → is_open e.note ≡ false)
    → is_some_and (λ m. is_beside (newest e past) m && (test m && s)) (moment past k) ≡ (s && is_at k (latest test (connection past)))
once-shown test once true e past k closed =
    last (moment past k) ∙ ap (λ n. is_some_and (λ m. (n == number m) && test m) (moment past k)) (begun-closed e past (closed refl)) ∙ once-there test once past k
  where
    whole : (a : Bool) → (a && true) ≡ a
    whole true = refl
    whole false = refl

    last : (o : Option Moment) → is_some_and (λ m. is_beside (newest e past) m && (test m && true)) o ≡ is_some_and (λ m. (begun (e ∷ past) == number m) && test m) o
    last None = refl
    last (Some m) = ap (λ b. is_beside (newest e past) m && b) (whole (test m))
once-shown test once false e past k closed = none (moment past k)
  where
    none : (o : Option Moment) → is_some_and (λ m. is_beside (newest e past) m && (test m && false)) o ≡ false
    none None = refl
    none (Some m) = ap (λ b. is_beside (newest e past) m && b) (and_false (test m)) ∙ and_false (is_beside (newest e past) m)

-- ---- how often such a moment is put to the test

-- one moment has the position
count-beyond : (p : ℕ) (b : Moment → Bool) (log : List Seen) → length log + 1 ≤ p → count (λ j. (position j == p) && b j) (moments log) ≡ 0
count-beyond p b [] h = refl
count-beyond p b (e ∷ past) h =
    ap (λ t. cond (t && b (newest e past)) 1 0 + count (λ j. (position j == p) && b j) (moments past)) (differ (length past + 1) p (λ same. omega arith))
    ∙ from-zero (count (λ j. (position j == p) && b j) (moments past))
    ∙ count-beyond p b past (omega arith)

count-one : (p : ℕ) (b : Moment → Bool) (m : Moment) (log : List Seen) → moment log p ≡ Some m → count (λ j. (position j == p) && b j) (moments log) ≡ cond (b m) 1 0
count-one p b m [] at = absurd (cc)
count-one p b m (e ∷ past) at = go (p == length past + 1) refl (count-one p b m past) at
  where
    go : (t : Bool) → (p == length past + 1) ≡ t → (moment past p ≡ Some m → count (λ j. (position j == p) && b j) (moments past) ≡ cond (b m) 1 0) → cond t (Some (newest e past)) (moment past p) ≡ Some m
        → cond ((length past + 1 == p) && b (newest e past)) 1 0 + count (λ j. (position j == p) && b j) (moments past) ≡ cond (b m) 1 0
    go true t rest is =
        let here : p ≡ length past + 1 = eqb-true p (length past + 1) t in
        let same : newest e past ≡ m = cc in
        ap (λ c. cond (c && b (newest e past)) 1 0 + count (λ j. (position j == p) && b j) (moments past)) (eq-eqb (length past + 1) p (sym here))
        ∙ ap (λ n. cond (b (newest e past)) 1 0 + n) (count-beyond p b past (omega arith))
        ∙ ap (λ j. cond (b j) 1 0 + 0) same
        ∙ last (b m)
      where
        last : (c : Bool) → cond c 1 0 + 0 ≡ cond c 1 0
        last true = refl
        last false = refl
    go false t rest is =
        ap (λ c. cond (c && b (newest e past)) 1 0 + count (λ j. (position j == p) && b j) (moments past)) (differ (length past + 1) p (λ same. let yes_it : (p == length past + 1) ≡ true = eq-eqb p (length past + 1) (sym same) in absurd (cc)))
        ∙ from-zero (count (λ j. (position j == p) && b j) (moments past))
        ∙ rest is

-- the moment waits: it isn't put to the test yet
abbrev pub waits_at : Tested → Rule → List Seen → Option Moment → Bool
waits_at tested rule past o = is_some_and (λ m. not (applies tested past (position m) rule)) o

-- an event that puts it to the test makes one place more, if it waits
pub places-shown : (tested : Tested) (rule : Rule) (e : Seen) (past : List Seen) (s : Bool) (o : Option Moment) → ((m : Moment) → o ≡ Some m → moment past (position m) ≡ Some m)
    → ((k : ℕ) → adds_place tested e past k rule ≡ (s && is_at k o)) → places tested (e ∷ past) rule ≡ cond (waits_at tested rule past o && s) 1 0 + places tested past rule
unfolding places
places-shown tested rule e past false o stands adds =
    places-once tested rule e past false (λ k. adds k ∙ sym (and_false (is_next past k)))
    ∙ ap (λ b. cond b 1 0 + places tested past rule) (sym (and_false (waits_at tested rule past o)))
places-shown tested rule e past true None stands adds = places-once tested rule e past false (λ k. adds k ∙ sym (and_false (is_next past k)))
places-shown tested rule e past true (Some m) stands adds = more
  where
    old : Moment → Bool
    old j = applies tested past (position j) rule

    own : Moment → Bool
    own j = position j == position m

    le : position m ≤ length past
    le = moment-within past (position m) m (stands m refl)

    newest-is : applies tested (e ∷ past) (length past + 1) rule ≡ false
    newest-is =
        applies-step tested e past (length past + 1) rule
        ∙ ap (λ b. b || adds_place tested e past (length past + 1) rule) (unmet tested past rule)
        ∙ adds (length past + 1)
        ∙ differ (length past + 1) (position m) (λ same. let less = le in omega (arith, less, same))

    last : (c : Bool) → (c && true) ≡ c
    last true = refl
    last false = refl

    sum : (a b : ℕ) → a + b ≡ b + a
    sum a b = omega arith

    more : places tested (e ∷ past) rule ≡ cond (not (old m) && true) 1 0 + places tested past rule
    more =
        ap (λ b. cond b 1 0 + count (λ j. applies tested (e ∷ past) (position j) rule) (moments past)) newest-is
        ∙ from-zero (count (λ j. applies tested (e ∷ past) (position j) rule) (moments past))
        ∙ count-same (λ j. applies tested (e ∷ past) (position j) rule) (λ j. old j || own j) past (λ j h. applies-step tested e past (position j) rule ∙ ap (λ b. old j || b) (adds (position j)))
        ∙ count-either old own (moments past)
        ∙ ap (λ n. count old (moments past) + n) (count-one (position m) (λ j. not (old j)) m past (stands m refl))
        ∙ sum (count old (moments past)) (cond (not (old m)) 1 0)
        ∙ ap (λ b. cond b 1 0 + count old (moments past)) (sym (last (not (old m))))

-- whether it waits with one event more: t says whether that is such a moment itself
pub waits-next : (tested : Tested) (rule : Rule) (e : Seen) (past : List Seen) (s t opens : Bool) (o : Option Moment) → ((m : Moment) → o ≡ Some m → moment past (position m) ≡ Some m)
    → ((k : ℕ) → adds_place tested e past k rule ≡ (s && is_at k o))
    → waits_at tested rule (e ∷ past) (cond t (Some (newest e past)) (cond opens None o)) ≡ (t || (waits_at tested rule past o && (not opens && not s)))
waits-next tested rule e past s true opens o stands adds = ap not (fresh o stands adds)
  where
    fresh : (o : Option Moment) → ((m : Moment) → o ≡ Some m → moment past (position m) ≡ Some m) → ((k : ℕ) → adds_place tested e past k rule ≡ (s && is_at k o)) → applies tested (e ∷ past) (length past + 1) rule ≡ false
    fresh o stands adds =
        applies-step tested e past (length past + 1) rule
        ∙ ap (λ b. b || adds_place tested e past (length past + 1) rule) (unmet tested past rule)
        ∙ adds (length past + 1)
        ∙ ap (λ b. s && b) (elsewhere o stands) ∙ and_false s
      where
        elsewhere : (o : Option Moment) → ((m : Moment) → o ≡ Some m → moment past (position m) ≡ Some m) → is_at (length past + 1) o ≡ false
        elsewhere None stands = refl
        elsewhere (Some m) stands =
            let less : position m ≤ length past = moment-within past (position m) m (stands m refl) in
            differ (length past + 1) (position m) (λ same. omega arith)
waits-next tested rule e past s false true o stands adds = sym (and_false (waits_at tested rule past o))
waits-next tested rule e past s false false None stands adds = refl
waits-next tested rule e past s false false (Some m) stands adds =
    ap not (applies-step tested e past (position m) rule ∙ ap (λ b. applies tested past (position m) rule || b) (adds (position m) ∙ ap (λ b. s && b) (eq-eqb (position m) (position m) refl)))
    ∙ split (applies tested past (position m) rule) s
  where
    split : (a s : Bool) → not (a || (s && true)) ≡ (not a && (true && not s))
    split true s = refl
    split false true = refl
    split false false = refl
