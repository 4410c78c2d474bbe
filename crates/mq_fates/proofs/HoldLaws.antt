-- Events that are held back, and what they show once their connection is decided.
use Rattle.std.proofs.Common.{◌≡◌, ℕ, ◌+◌, ◌≤◌, arith, Bool, true, false, cond, ◌&&◌, ◌||◌, not, ◌⊎◌, inl, inr, List, [], ◌∷◌, ◌++◌, Option, Some, None, refl, ap, sym, ◌∙◌}
use Rattle.std.specs.Prelude.{is_some}
use Rattle.std.specs.Option.{option_or}
use Rattle.mq_rules.specs.declared.role.Role.{Role}
use Rattle.mq_rules.specs.declared.role.Tested.{Tested}
use Rattle.mq_rules.specs.declared.fate.Fate.{Fate}
use Rattle.mq_rules.specs.declared.rule.Rule.{Rule}
use Rattle.mq_rules.specs.declared.note.Seen.{Seen}
use Rattle.mq_rules.specs.Words.{is_some_and}
use Rattle.mq_rules.specs.Notes.{is_open, is_rest, decides}
use Rattle.mq_rules.specs.Moments.{Moment, newest, moment, is_next, some}
use Rattle.mq_rules.specs.Connections.{begun, number, connection, fate, latest_fate, accepts, accepted, ends_binding, is_binding, gives_fate}
use Rattle.mq_rules.specs.Rules.{binds}
use Rattle.mq_rules.specs.Statements.{Statement, on_bytes, on_past, in_session, at_release, at_rest, by_later, statement, is_so_under, where_accepted}
use Rattle.mq_rules.specs.Steps.{given, shows_under, shows, turns}
use Rattle.mq_rules.proofs.Exports.{and-over, and_false, begun-closed, begun-open-of-given as begun-open, given-gives, latest_fate-same, moment-next, not_true, number-within, or-turn, or_false, rest-opens-nothing}
use Rattle.mq_rules.specs.Under.{is_by_session, shows_with, turns_with}
use Rattle.mq_fates.specs.Holding.{AreHeld, turns_held, turns_session}

-- ---- the fate that an event gives

-- the event that decides gives its fate to the latest connection
given-now : (role : Role) (f : Fate) (e : Seen) (past : List Seen) → is_open e.note ≡ false → latest_fate role past ≡ None → latest_fate role (e ∷ past) ≡ Some f → given role e past (begun past) ≡ Some f
given-now role f e past closed undecided h =
    ap (λ o. cond (is_some o) None (fate role (begun past) (e ∷ past))) undecided ∙ ap (λ n. fate role n (e ∷ past)) (sym (begun-closed e past closed)) ∙ h

-- and where it decides nothing it gives none
given-never : (role : Role) (e : Seen) (past : List Seen) (c : ℕ) → ((f : Fate) → c ≡ begun past → gives_fate role (newest e past) ≡ Some f → is_open e.note ≡ false → fate role c past ≡ None → ⊥) → given role e past c ≡ None
given-never role e past c never = go (given role e past c) refl
  where
    go : (o : Option Fate) → given role e past c ≡ o → o ≡ None
    go None is = refl
    go (Some f) is = let g = given-gives role e past c f is in absurd (never f g.0 g.2 g.1 g.3)

-- ---- an event that leaves its connection undecided

pub unbound-undecided : (role : Role) (e : Seen) (past : List Seen) → latest_fate role past ≡ None → is_binding role (newest e past) ≡ false
unfolding is_binding
unbound-undecided role e past h = ap (λ o. is_rest e.note && (accepted o && not (some ends_binding (connection past)))) h ∙ and_false (is_rest e.note)

pub unbound-open : (role : Role) (e : Seen) (past : List Seen) → is_open e.note ≡ true → is_binding role (newest e past) ≡ false
unfolding is_binding
unbound-open role e past h =
    ap (λ b. b && (accepted (latest_fate role past) && not (some ends_binding (connection past))))
    (not_true (is_rest e.note) (λ t. let closed : is_open e.note ≡ false = rest-opens-nothing e.note t in absurd (cc)))

pub unbound-after : (role : Role) (e : Seen) (past : List Seen) → latest_fate role (e ∷ past) ≡ None → is_binding role (newest e past) ≡ false
unbound-after role e past none = go (is_open e.note) refl
  where
    before : (o : Option Fate) → latest_fate role past ≡ o → option_or o (gives_fate role (newest e past)) ≡ None → o ≡ None
    before None is h = refl
    before (Some f) is h = absurd (cc)

    go : (b : Bool) → is_open e.note ≡ b → is_binding role (newest e past) ≡ false
    go true h = unbound-open role e past h
    go false h = unbound-undecided role e past (before (latest_fate role past) refl (sym (latest_fate-same role e past h) ∙ none))

pub shows-nothing : (role : Role) (breaks : Fate → Moment → Bool) (e : Seen) (past : List Seen) (k : ℕ) → latest_fate role (e ∷ past) ≡ None → shows_under role breaks e past k ≡ false
shows-nothing role breaks e past k none =
    ap (λ o. (is_next past k && is_so_under breaks (newest e past) o) || is_some_and (λ m. is_so_under breaks m (given role e past (number m))) (moment past k)) none
    ∙ ap (λ b. b || is_some_and (λ m. is_so_under breaks m (given role e past (number m))) (moment past k)) (and_false (is_next past k))
    ∙ go (moment past k)
  where
    never : (c : ℕ) → given role e past c ≡ None
    never c = given-never role e past c (λ f at gives closed unknown.
        let was : latest_fate role past ≡ None = ap (λ n. fate role n past) (sym at) ∙ unknown in
        let now : latest_fate role (e ∷ past) ≡ Some f = latest_fate-same role e past closed ∙ ap (λ o. option_or o (gives_fate role (newest e past))) was ∙ gives in
        absurd (cc))

    go : (o : Option Moment) → is_some_and (λ m. is_so_under breaks m (given role e past (number m))) o ≡ false
    go None = refl
    go (Some m) = ap (is_so_under breaks m) (never (number m))

pub undecided-turns : (tested : Tested) (e : Seen) (past : List Seen) → latest_fate tested.role (e ∷ past) ≡ None → (k : ℕ) (r : Rule) → turns_session tested e past k r ≡ false
unfolding turns
undecided-turns tested e past none k r = go (statement tested.role r)
  where
    go : (s : Statement) → (is_by_session s && (binds r tested && shows tested.role s e past k)) ≡ false
    go (on_bytes rule) = refl
    go (on_past breaks) = refl
    go (by_later test) = refl
    go (in_session breaks) = ap (λ b. binds r tested && b) (shows-nothing tested.role (where_accepted breaks) e past k none) ∙ and_false (binds r tested)
    go (at_release breaks) = ap (λ b. binds r tested && b) (shows-nothing tested.role breaks e past k none) ∙ and_false (binds r tested)
    go (at_rest test) = ap (λ b. binds r tested && (b && is_some_and (test (newest e past)) (moment past k))) (unbound-after tested.role e past none) ∙ and_false (binds r tested)

-- ---- what held events show

told_shape : Role → Fate → Statement → List Seen → List Seen → ℕ → Bool
told_shape role f s [] base k = false
told_shape role f s (e ∷ hs) base k = told_shape role f s hs base k || shows_with role f s e (hs ++ base) k

told_by : (Moment → Bool) → List Seen → List Seen → ℕ → Bool
told_by breaks [] base k = false
told_by breaks (e ∷ hs) base k = told_by breaks hs base k || (is_next (hs ++ base) k && breaks (newest e (hs ++ base)))

told-shaped : (tested : Tested) (f : Fate) (hs base : List Seen) (k : ℕ) (r : Rule) → turns_held tested f hs base k r ≡ (binds r tested && told_shape tested.role f (statement tested.role r) hs base k)
unfolding turns_with told_shape
told-shaped tested f [] base k r = sym (and_false (binds r tested))
told-shaped tested f (e ∷ hs) base k r =
    ap (λ b. b || turns_with tested f e (hs ++ base) k r) (told-shaped tested f hs base k r)
    ∙ sym (and-over (binds r tested) (told_shape tested.role f (statement tested.role r) hs base k) (shows_with tested.role f (statement tested.role r) e (hs ++ base) k))

told-session : (role : Role) (f : Fate) (breaks : Fate → Moment → Bool) (hs base : List Seen) (k : ℕ) → told_shape role f (in_session breaks) hs base k ≡ told_by (where_accepted breaks f) hs base k
unfolding told_shape told_by
told-session role f breaks [] base k = refl
told-session role f breaks (e ∷ hs) base k = ap (λ b. b || (is_next (hs ++ base) k && (accepts f && breaks f (newest e (hs ++ base))))) (told-session role f breaks hs base k)

told-release : (role : Role) (f : Fate) (breaks : Fate → Moment → Bool) (hs base : List Seen) (k : ℕ) → told_shape role f (at_release breaks) hs base k ≡ told_by (breaks f) hs base k
unfolding told_shape told_by
told-release role f breaks [] base k = refl
told-release role f breaks (e ∷ hs) base k = ap (λ b. b || (is_next (hs ++ base) k && breaks f (newest e (hs ++ base)))) (told-release role f breaks hs base k)

-- no REST of an undecided connection binds
told-rest : (role : Role) (f : Fate) (test : Moment → Moment → Bool) (hs base : List Seen) (k : ℕ) → AreHeld role hs base → told_shape role f (at_rest test) hs base k ≡ false
unfolding told_shape
told-rest role f test [] base k held = refl
told-rest role f test (e ∷ hs) base k held =
    ap (λ b. b || (is_binding role (newest e (hs ++ base)) && is_some_and (test (newest e (hs ++ base))) (moment (hs ++ base) k))) (told-rest role f test hs base k held.2)
    ∙ ap (λ b. b && is_some_and (test (newest e (hs ++ base))) (moment (hs ++ base) k)) (unbound-after role e (hs ++ base) held.1)

-- nor does it show other statements
told-bytes : (role : Role) (f : Fate) (s : Statement) (hs base : List Seen) (k : ℕ) → ((e : Seen) (past : List Seen) → shows_with role f s e past k ≡ false) → told_shape role f s hs base k ≡ false
unfolding told_shape
told-bytes role f s [] base k none = refl
told-bytes role f s (e ∷ hs) base k none = ap (λ b. b || shows_with role f s e (hs ++ base) k) (told-bytes role f s hs base k none) ∙ none e (hs ++ base)

-- ---- what the deciding event shows of held events

-- all held events are of one connection
pub held-number : (role : Role) (e : Seen) (hs base : List Seen) → AreHeld role (e ∷ hs) base → begun (e ∷ (hs ++ base)) ≡ 1 + begun base
held-number role e [] base held = begun-open e base held.0
held-number role e (d ∷ hs) base held = begun-closed e (d ∷ (hs ++ base)) held.0 ∙ held-number role d hs base held.2

older-told : (role : Role) (f : Fate) (breaks : Fate → Moment → Bool) (e : Seen) (past : List Seen) (hs base : List Seen) (k : ℕ) → AreHeld role hs base
    → ((hs ≡ []) ⊎ (given role e past (1 + begun base) ≡ Some f)) → ((m : Moment) → moment base k ≡ Some m → given role e past (number m) ≡ None)
    → is_some_and (λ m. is_so_under breaks m (given role e past (number m))) (moment (hs ++ base) k) ≡ told_by (breaks f) hs base k
unfolding told_by
older-told role f breaks e past [] base k held gives none = go (moment base k) refl
  where
    go : (o : Option Moment) → moment base k ≡ o → is_some_and (λ m. is_so_under breaks m (given role e past (number m))) o ≡ false
    go None is = refl
    go (Some m) is = ap (is_so_under breaks m) (none m is)
older-told role f breaks e past (d ∷ hs) base k held (inl h) none = absurd (cc)
older-told role f breaks e past (d ∷ hs) base k held (inr gives) none = go (is_next (hs ++ base) k) refl (older-told role f breaks e past hs base k held.2 (inr gives) none)
  where
    there : given role e past (number (newest d (hs ++ base))) ≡ Some f
    there = ap (given role e past) (held-number role d hs base held) ∙ gives

    go : (b : Bool) → is_next (hs ++ base) k ≡ b → is_some_and (λ m. is_so_under breaks m (given role e past (number m))) (moment (hs ++ base) k) ≡ told_by (breaks f) hs base k
        → is_some_and (λ m. is_so_under breaks m (given role e past (number m))) (cond b (Some (newest d (hs ++ base))) (moment (hs ++ base) k)) ≡ (told_by (breaks f) hs base k || (b && breaks f (newest d (hs ++ base))))
    go true h rest =
        ap (is_so_under breaks (newest d (hs ++ base))) there
        ∙ ap (λ b. b || breaks f (newest d (hs ++ base))) (sym (ap (is_some_and (λ m. is_so_under breaks m (given role e past (number m)))) (moment-next (hs ++ base) k h)) ∙ rest)
    go false h rest = rest ∙ sym (or_false (told_by (breaks f) hs base k))

decided-shows : (role : Role) (f : Fate) (breaks : Fate → Moment → Bool) (e : Seen) (hs base : List Seen) (k : ℕ) → AreHeld role hs base → is_some (latest_fate role base) ≡ true → is_open e.note ≡ false
    → latest_fate role (e ∷ (hs ++ base)) ≡ Some f → shows_under role breaks e (hs ++ base) k ≡ (told_by (breaks f) hs base k || (is_next (hs ++ base) k && breaks f (newest e (hs ++ base))))
decided-shows role f breaks e hs base k held known closed h =
    ap (λ o. (is_next (hs ++ base) k && is_so_under breaks (newest e (hs ++ base)) o) || is_some_and (λ m. is_so_under breaks m (given role e (hs ++ base) (number m))) (moment (hs ++ base) k)) h
    ∙ ap (λ b. (is_next (hs ++ base) k && breaks f (newest e (hs ++ base))) || b) (older-told role f breaks e (hs ++ base) hs base k held (gives hs held h) (none hs held))
    ∙ or-turn (is_next (hs ++ base) k && breaks f (newest e (hs ++ base))) (told_by (breaks f) hs base k)
  where
    gives : (ds : List Seen) → AreHeld role ds base → latest_fate role (e ∷ (ds ++ base)) ≡ Some f → (ds ≡ []) ⊎ (given role e (ds ++ base) (1 + begun base) ≡ Some f)
    gives [] held h = inl refl
    gives (d ∷ ds) held h = inr (ap (given role e (d ∷ (ds ++ base))) (sym (held-number role d ds base held)) ∙ given-now role f e (d ∷ (ds ++ base)) closed held.1 h)

    none : (ds : List Seen) → AreHeld role ds base → (m : Moment) → moment base k ≡ Some m → given role e (ds ++ base) (number m) ≡ None
    none [] held m at = given-never role e base (number m) (λ g is gives closed unknown.
        let was : latest_fate role base ≡ None = ap (λ n. fate role n base) (sym is) ∙ unknown in
        absurd (let bad : is_some {T = Fate} None ≡ true = sym (ap is_some was) ∙ known in cc))
    none (d ∷ ds) held m at = given-never role e (d ∷ (ds ++ base)) (number m) (λ g is gives closed unknown.
        let le : number m ≤ begun base = number-within base k m at in
        let one : begun (d ∷ (ds ++ base)) ≡ 1 + begun base = held-number role d ds base held in
        absurd (omega arith))

pub deciding-turns : (tested : Tested) (f : Fate) (e : Seen) (hs base : List Seen) → AreHeld tested.role hs base → is_some (latest_fate tested.role base) ≡ true → is_open e.note ≡ false
    → latest_fate tested.role (e ∷ (hs ++ base)) ≡ Some f → (k : ℕ) (r : Rule) → (turns_held tested f hs base k r || turns_with tested f e (hs ++ base) k r) ≡ turns_session tested e (hs ++ base) k r
unfolding turns turns_with
deciding-turns tested f e hs base held known closed h k r =
    ap (λ b. b || (binds r tested && shows_with tested.role f (statement tested.role r) e (hs ++ base) k)) (told-shaped tested f hs base k r)
    ∙ sym (and-over (binds r tested) (told_shape tested.role f (statement tested.role r) hs base k) (shows_with tested.role f (statement tested.role r) e (hs ++ base) k))
    ∙ go (statement tested.role r)
  where
    go : (s : Statement) → (binds r tested && (told_shape tested.role f s hs base k || shows_with tested.role f s e (hs ++ base) k)) ≡ (is_by_session s && (binds r tested && shows tested.role s e (hs ++ base) k))
    go (on_bytes rule) = ap (λ b. binds r tested && (b || false)) (told-bytes tested.role f (on_bytes rule) hs base k (λ e past. refl)) ∙ and_false (binds r tested)
    go (on_past breaks) = ap (λ b. binds r tested && (b || false)) (told-bytes tested.role f (on_past breaks) hs base k (λ e past. refl)) ∙ and_false (binds r tested)
    go (by_later test) = ap (λ b. binds r tested && (b || false)) (told-bytes tested.role f (by_later test) hs base k (λ e past. refl)) ∙ and_false (binds r tested)
    go (in_session breaks) =
        ap (λ b. binds r tested && (b || (is_next (hs ++ base) k && (accepts f && breaks f (newest e (hs ++ base)))))) (told-session tested.role f breaks hs base k)
        ∙ ap (λ b. binds r tested && b) (sym (decided-shows tested.role f (where_accepted breaks) e hs base k held known closed h))
    go (at_release breaks) =
        ap (λ b. binds r tested && (b || (is_next (hs ++ base) k && breaks f (newest e (hs ++ base))))) (told-release tested.role f breaks hs base k)
        ∙ ap (λ b. binds r tested && b) (sym (decided-shows tested.role f breaks e hs base k held known closed h))
    go (at_rest test) = ap (λ b. binds r tested && (b || (is_binding tested.role (newest e (hs ++ base)) && is_some_and (test (newest e (hs ++ base))) (moment (hs ++ base) k)))) (told-rest tested.role f test hs base k held)
