-- What fails where the latest connection is taken to have a fate: with the event that decides it, and with one that doesn't.
use Rattle.std.proofs.Common.{◌≡◌, ℕ, ◌+◌, ◌≤◌, ◌==◌, Bool, true, false, cond, ◌&&◌, ◌||◌, not, List, ◌∷◌, Option, Some, None, refl, ap, sym, ◌∙◌, arith}
use Rattle.std.proofs.lemmas.Bool.{eqb-true, eq-eqb}
use Rattle.std.specs.Option.{option_or}
use Rattle.mq_rules.specs.declared.role.Role.{Role}
use Rattle.mq_rules.specs.declared.role.Tested.{Tested}
use Rattle.mq_rules.specs.declared.fate.Fate.{Fate}
use Rattle.mq_rules.specs.declared.rule.Rule.{Rule}
use Rattle.mq_rules.specs.declared.note.Seen.{Seen}
use Rattle.mq_rules.specs.Words.{is_some_and}
use Rattle.mq_rules.specs.Notes.{is_open, is_rest}
use Rattle.mq_rules.specs.Moments.{Moment, newest, moments, moment, is_next, is_after, some}
use Rattle.mq_rules.specs.Connections.{number, begun, connection, fate, latest_fate, gives_fate, fate_under, accepted, ends_binding, is_binding}
use Rattle.mq_rules.specs.Rules.{binds}
use Rattle.mq_rules.specs.Statements.{Statement, on_bytes, on_past, in_session, at_release, at_rest, by_later, statement, is_by_later, is_on_later, breaks_bytes, is_so_under, where_accepted, is_so, fails, fails_under}
use Rattle.mq_rules.proofs.BoolLaws.{and_false, or_false, option_or-none, not_true, differ}
use Rattle.mq_rules.proofs.StepLaws.{moment-next, moment-older, fate-step, false-nowhere}
use Rattle.mq_rules.proofs.GivenLaws.{gives-closed, rest-gives, rest-opens-nothing, begun-open, begun-closed, number-within}

-- ---- what is false at older positions

older-fate : (breaks : Fate → Moment → Bool) (fates others : ℕ → Option Fate) (o : Option Moment) → ((m : Moment) → o ≡ Some m → fates (number m) ≡ others (number m))
    → is_some_and (λ m. is_so_under breaks m (fates (number m))) o ≡ is_some_and (λ m. is_so_under breaks m (others (number m))) o
older-fate breaks fates others None same = refl
older-fate breaks fates others (Some m) same = ap (is_so_under breaks m) (same m refl)

older-rest : (role : Role) (test : Moment → Moment → Bool) (e : Seen) (past : List Seen) (o : Option Moment) → is_binding role (newest e past) ≡ false
    → is_some_and (λ m. some (λ t. is_after t m && (is_binding role t && test t m)) (moments (e ∷ past))) o ≡ is_some_and (λ m. some (λ t. is_after t m && (is_binding role t && test t m)) (moments past)) o
older-rest role test e past None unbound = refl
older-rest role test e past (Some m) unbound =
    ap (λ b. (is_after (newest e past) m && (b && test (newest e past) m)) || rest) unbound ∙ ap (λ b. b || rest) (and_false (is_after (newest e past) m))
  where
    rest : Bool
    rest = some (λ t. is_after t m && (is_binding role t && test t m)) (moments past)

-- with an event that is no binding REST, and fates that are the same, nothing changes there, if no later event of any kind shows the statement to be false
older-same : (role : Role) (fates others : ℕ → Option Fate) (s : Statement) (e : Seen) (past : List Seen) (k : ℕ) → is_by_later s ≡ false → is_next past k ≡ false
    → ((m : Moment) → moment past k ≡ Some m → fates (number m) ≡ others (number m)) → is_binding role (newest e past) ≡ false → is_so role fates s (e ∷ past) k ≡ is_so role others s past k
older-same role fates others (on_bytes rule) e past k by apart same unbound = ap (is_some_and (breaks_bytes rule)) (moment-older e past k apart)
older-same role fates others (on_past breaks) e past k by apart same unbound = ap (is_some_and breaks) (moment-older e past k apart)
older-same role fates others (in_session breaks) e past k by apart same unbound =
    ap (is_some_and (λ m. is_so_under (where_accepted breaks) m (fates (number m)))) (moment-older e past k apart) ∙ older-fate (where_accepted breaks) fates others (moment past k) same
older-same role fates others (at_release breaks) e past k by apart same unbound =
    ap (is_some_and (λ m. is_so_under breaks m (fates (number m)))) (moment-older e past k apart) ∙ older-fate breaks fates others (moment past k) same
older-same role fates others (at_rest test) e past k by apart same unbound =
    ap (is_some_and (λ m. some (λ t. is_after t m && (is_binding role t && test t m)) (moments (e ∷ past)))) (moment-older e past k apart) ∙ older-rest role test e past (moment past k) unbound
older-same role fates others (by_later test) e past k by apart same unbound = absurd (cc)

-- so only the newest position can turn out false
fated-alike : (role : Role) (bound : Bool) (fates others : ℕ → Option Fate) (s : Statement) (e : Seen) (past : List Seen) (k : ℕ) → is_by_later s ≡ false
    → ((m : Moment) → moment past k ≡ Some m → fates (number m) ≡ others (number m)) → is_binding role (newest e past) ≡ false
    → (bound && is_so role fates s (e ∷ past) k) ≡ ((bound && is_so role others s past k) || (is_next past k && (bound && is_so role fates s (e ∷ past) k)))
fated-alike role bound fates others s e past k by same unbound = go (is_next past k) refl
  where
    now : Bool
    now = bound && is_so role fates s (e ∷ past) k

    go : (b : Bool) → is_next past k ≡ b → now ≡ ((bound && is_so role others s past k) || (b && now))
    go true t = sym (ap (λ b. b || now) (ap (λ b. bound && b) (false-nowhere role others s past k (moment-next past k t)) ∙ and_false bound))
    go false t = ap (λ b. bound && b) (older-same role fates others s e past k by t same unbound) ∙ sym (or_false (bound && is_so role others s past k))

-- ---- which events are no binding REST

unbound-deciding : (role : Role) (e : Seen) (past : List Seen) (f : Fate) → gives_fate role (newest e past) ≡ Some f → is_binding role (newest e past) ≡ false
unfolding is_binding
unbound-deciding role e past f h =
    ap (λ b. b && (accepted (latest_fate role past) && not (some ends_binding (connection past))))
    (not_true (is_rest e.note) (λ t. let none : gives_fate role (newest e past) ≡ None = rest-gives role e past t in absurd (cc)))

unbound-undecided : (role : Role) (e : Seen) (past : List Seen) → latest_fate role past ≡ None → is_binding role (newest e past) ≡ false
unfolding is_binding
unbound-undecided role e past h = ap (λ o. is_rest e.note && (accepted o && not (some ends_binding (connection past)))) h ∙ and_false (is_rest e.note)

unbound-open : (role : Role) (e : Seen) (past : List Seen) → is_open e.note ≡ true → is_binding role (newest e past) ≡ false
unfolding is_binding
unbound-open role e past h =
    ap (λ b. b && (accepted (latest_fate role past) && not (some ends_binding (connection past))))
    (not_true (is_rest e.note) (λ t. let closed : is_open e.note ≡ false = rest-opens-nothing e.note t in absurd (cc)))

-- ---- the fates

-- with the event that decides, each connection has the fate that it had where the latest one is taken to have that fate
deciding-fates : (role : Role) (c : ℕ) (f : Fate) (e : Seen) (past : List Seen) → latest_fate role past ≡ None → gives_fate role (newest e past) ≡ Some f → fate role c (e ∷ past) ≡ fate_under role (Some f) past c
deciding-fates role c f e past undecided h =
    fate-step role c e past
    ∙ ap (λ n. option_or (fate role c past) (cond (n == c) (gives_fate role (newest e past)) None)) (begun-closed e past (gives-closed role e past f h))
    ∙ ap (λ o. option_or (fate role c past) (cond (begun past == c) o None)) h
    ∙ go (c == begun past) refl
  where
    go : (b : Bool) → (c == begun past) ≡ b → option_or (fate role c past) (cond (begun past == c) (Some f) None) ≡ cond b (Some f) (fate role c past)
    go true t =
        let at : c ≡ begun past = eqb-true c (begun past) t in
        ap (λ o. option_or o (cond (begun past == c) (Some f) None)) (ap (λ n. fate role n past) at ∙ undecided)
        ∙ ap (λ b. cond b (Some f) None) (eq-eqb (begun past) c (sym at))
    go false t =
        ap (λ b. option_or (fate role c past) (cond b (Some f) None)) (differ (begun past) c (λ is. let same : (c == begun past) ≡ true = eq-eqb c (begun past) (sym is) in absurd (cc)))
        ∙ option_or-none (fate role c past)

-- with another event on the latest connection, and with an OPEN, each earlier connection has the fate that it had
pub going-fates : (role : Role) (c : ℕ) (f : Fate) (e : Seen) (past : List Seen) → is_open e.note ≡ false → fate_under role (Some f) (e ∷ past) c ≡ fate_under role (Some f) past c
going-fates role c f e past closed =
    ap (λ n. cond (c == n) (Some f) (fate role c (e ∷ past))) number-is
    ∙ go (c == begun past) refl
  where
    number-is : begun (e ∷ past) ≡ begun past
    number-is = begun-closed e past closed

    go : (b : Bool) → (c == begun past) ≡ b → cond b (Some f) (fate role c (e ∷ past)) ≡ cond b (Some f) (fate role c past)
    go true t = refl
    go false t =
        fate-step role c e past
        ∙ ap (λ n. option_or (fate role c past) (cond (n == c) (gives_fate role (newest e past)) None)) number-is
        ∙ ap (λ b. option_or (fate role c past) (cond b (gives_fate role (newest e past)) None)) (differ (begun past) c (λ is. let same : (c == begun past) ≡ true = eq-eqb c (begun past) (sym is) in absurd (cc)))
        ∙ option_or-none (fate role c past)

pub opened-fates : (role : Role) (c : ℕ) (f : Fate) (e : Seen) (past : List Seen) → is_open e.note ≡ true → c ≤ begun past → fate_under role (Some f) (e ∷ past) c ≡ fate role c past
opened-fates role c f e past opens le =
    let more : begun (e ∷ past) ≡ 1 + begun past = begun-open e past opens in
    ap (λ b. cond b (Some f) (fate role c (e ∷ past))) (differ c (begun (e ∷ past)) (λ is. omega arith))
    ∙ fate-step role c e past
    ∙ ap (λ b. option_or (fate role c past) (cond b (gives_fate role (newest e past)) None)) (differ (begun (e ∷ past)) c (λ is. omega arith))
    ∙ option_or-none (fate role c past)

-- ---- what fails

-- with the event that decides the latest connection, what failed under that fate fails, and else the newest position alone
pub decided-under : (tested : Tested) (f : Fate) (e : Seen) (past : List Seen) (k : ℕ) (rule : Rule) → is_on_later tested rule ≡ false → latest_fate tested.role past ≡ None → gives_fate tested.role (newest e past) ≡ Some f
    → fails tested (e ∷ past) k rule ≡ (fails_under tested f past k rule || (is_next past k && fails tested (e ∷ past) k rule))
unfolding fails fails_under
decided-under tested f e past k rule by undecided h =
    fated-alike tested.role (binds rule tested) (λ c. fate tested.role c (e ∷ past)) (fate_under tested.role (Some f) past) (statement tested.role rule) e past k by
    (λ m at. deciding-fates tested.role (number m) f e past undecided h) (unbound-deciding tested.role e past f h)

-- with another event of an undecided connection, what failed under the fate does, and else the newest position alone
pub fated-on : (tested : Tested) (f : Fate) (e : Seen) (past : List Seen) (k : ℕ) (rule : Rule) → is_on_later tested rule ≡ false → is_open e.note ≡ false → latest_fate tested.role past ≡ None
    → fails_under tested f (e ∷ past) k rule ≡ (fails_under tested f past k rule || (is_next past k && fails_under tested f (e ∷ past) k rule))
unfolding fails_under
fated-on tested f e past k rule by closed undecided =
    fated-alike tested.role (binds rule tested) (fate_under tested.role (Some f) (e ∷ past)) (fate_under tested.role (Some f) past) (statement tested.role rule) e past k by
    (λ m at. going-fates tested.role (number m) f e past closed) (unbound-undecided tested.role e past undecided)

-- with its OPEN, what failed before does, and else the newest position alone
pub fated-open : (tested : Tested) (f : Fate) (e : Seen) (past : List Seen) (k : ℕ) (rule : Rule) → is_on_later tested rule ≡ false → is_open e.note ≡ true
    → fails_under tested f (e ∷ past) k rule ≡ (fails tested past k rule || (is_next past k && fails_under tested f (e ∷ past) k rule))
unfolding fails fails_under
fated-open tested f e past k rule by opens =
    fated-alike tested.role (binds rule tested) (fate_under tested.role (Some f) (e ∷ past)) (λ c. fate tested.role c past) (statement tested.role rule) e past k by
    (λ m at. opened-fates tested.role (number m) f e past opens (number-within past k m at)) (unbound-open tested.role e past opens)

-- where the latest connection has that fate, it is what fails
pub fated-known : (tested : Tested) (f : Fate) (log : List Seen) (k : ℕ) (rule : Rule) → latest_fate tested.role log ≡ Some f → fails_under tested f log k rule ≡ fails tested log k rule
unfolding fails fails_under
fated-known tested f log k rule known = ap (λ fates. binds rule tested && is_so tested.role fates (statement tested.role rule) log k) (λ i c. same c i)
  where
    same : (c : ℕ) → fate_under tested.role (Some f) log c ≡ fate tested.role c log
    same c = go (c == begun log) refl
      where
        go : (b : Bool) → (c == begun log) ≡ b → cond b (Some f) (fate tested.role c log) ≡ fate tested.role c log
        go true t = sym (ap (λ n. fate tested.role n log) (eqb-true c (begun log) t) ∙ known)
        go false t = refl

-- what a later event shows doesn't depend on it
pub fated-later : (tested : Tested) (f : Fate) (log : List Seen) (k : ℕ) (rule : Rule) → is_on_later tested rule ≡ true → fails_under tested f log k rule ≡ fails tested log k rule
unfolding fails fails_under
fated-later tested f log k rule later = ap (λ b. binds rule tested && b) (go (statement tested.role rule) later)
  where
    go : (s : Statement) → is_by_later s ≡ true → is_so tested.role (fate_under tested.role (Some f) log) s log k ≡ is_so tested.role (λ c. fate tested.role c log) s log k
    go (on_bytes bytes) h = absurd (cc)
    go (on_past breaks) h = absurd (cc)
    go (in_session breaks) h = absurd (cc)
    go (at_release breaks) h = absurd (cc)
    go (at_rest test) h = absurd (cc)
    go (by_later test) h = refl
