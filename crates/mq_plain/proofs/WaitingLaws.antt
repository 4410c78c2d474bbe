-- Events that wait for the fate of their connection: what the event shows that decides it.
use Rattle.std.proofs.Common.{◌≡◌, ℕ, ◌+◌, ◌<◌, ◌≤◌, arith, nat_lt, Bool, true, false, cond, ◌&&◌, ◌||◌, not, List, [], ◌∷◌, length, Option, Some, None, refl, ap, sym, ◌∙◌}
use Rattle.std.specs.Prelude.{is_some}
use Rattle.std.specs.Option.{option_or}
use Rattle.std.proofs.lemmas.Bool.{lt-ltb, le-ltb, ltb-true}
use mathlib.Core.List.{reverse_aux}
use Rattle.mq_rules.specs.declared.role.Role.{Role}
use Rattle.mq_rules.specs.declared.role.Tested.{Tested}
use Rattle.mq_rules.specs.declared.fate.Fate.{Fate}
use Rattle.mq_rules.specs.declared.rule.Rule.{Rule}
use Rattle.mq_rules.specs.declared.note.Seen.{Seen}
use Rattle.mq_rules.specs.Words.{is_some_and}
use Rattle.mq_rules.specs.Notes.{is_open, is_rest}
use Rattle.mq_rules.specs.Moments.{Moment, newest, moment, is_next, some}
use Rattle.mq_rules.specs.Connections.{begun, number, connection, fate, latest_fate, accepted, ends_binding, is_binding, gives_fate}
use Rattle.mq_rules.specs.Rules.{binds}
use Rattle.mq_rules.specs.Statements.{Statement, on_bytes, on_past, in_session, at_release, at_rest, by_later, statement, is_so_under, where_accepted}
use Rattle.mq_rules.specs.Steps.{given, shows_under, shows, turns}
use Rattle.mq_rules.specs.Under.{is_by_session, is_on_session, shows_with, turns_with}
use Rattle.mq_rules.proofs.Exports.{and-over, and_false, begun-open, begun-same, given-gives, latest_fate-open, latest_fate-same, moment-next, not_true, number-within, or-turn, or_false, or_left, rest-opens-nothing}
use Rattle.mq_plain.specs.Waiting.{opened_at, settled, some_after, turns_after}

-- ---- the events after the first ones

never-below : (n : ℕ) → nat_lt n n ≡ false
never-below n = le-ltb n n (omega arith)

-- none of them comes after the first n, if there are no more
pub none-after : (test : Seen → List Seen → Bool) (n : ℕ) (log : List Seen) → length log ≤ n → some_after test n log ≡ false
none-after test n [] h = refl
none-after test n (e ∷ past) h = ap (λ b. cond b false (some_after test n past || test e past)) (lt-ltb (length past) n (omega arith))

-- one more event
pub one-after : (test : Seen → List Seen → Bool) (n : ℕ) (e : Seen) (past : List Seen) → n ≤ length past → some_after test n (e ∷ past) ≡ (some_after test n past || test e past)
one-after test n e past h = ap (λ b. cond b false (some_after test n past || test e past)) (le-ltb (length past) n h)

-- what some event passes of a log, one passes of a longer log
pub after-stays : (test : Seen → List Seen → Bool) (n : ℕ) (later log : List Seen) → some_after test n log ≡ true → some_after test n (reverse_aux later log) ≡ true
after-stays test n [] log h = h
after-stays test n (e ∷ later) log h = after-stays test n later (e ∷ log) (go (nat_lt (length log) n) refl)
  where
    go : (b : Bool) → nat_lt (length log) n ≡ b → cond b false (some_after test n log || test e log) ≡ true
    go true t = absurd (let lt : length log < n = ltb-true (length log) n t in let none : some_after test n log ≡ false = none-after test n log (omega arith) in cc)
    go false t = or_left (some_after test n log) (test e log) h

-- a test that asks something else first
guarded : (b : Bool) (test : Seen → List Seen → Bool) (n : ℕ) (log : List Seen) → some_after (λ e past. b && test e past) n log ≡ (b && some_after test n log)
guarded true test n log = refl
guarded false test n [] = refl
guarded false test n (e ∷ past) = ap (λ b. cond (nat_lt (length past) n) false (b || false)) (guarded false test n past) ∙ go (nat_lt (length past) n)
  where
    go : (b : Bool) → cond b false false ≡ false
    go true = refl
    go false = refl

-- ---- where the latest connection begins

opened-within : (log : List Seen) → opened_at log ≤ length log
opened-within [] = omega arith
opened-within (e ∷ past) = go (is_open e.note) (opened-within past)
  where
    go : (b : Bool) → opened_at past ≤ length past → cond b (length past) (opened_at past) ≤ length (e ∷ past)
    go true h = omega arith
    go false h = omega arith

-- before an event that isn't an OPEN its connection is undecided if it is so after the event
undecided-before : (role : Role) (e : Seen) (past : List Seen) → is_open e.note ≡ false → latest_fate role (e ∷ past) ≡ None → latest_fate role past ≡ None
undecided-before role e past closed h = go (latest_fate role past) (sym (latest_fate-same role e past closed) ∙ h)
  where
    go : (o : Option Fate) → option_or o (gives_fate role (newest e past)) ≡ None → o ≡ None
    go None h = refl
    go (Some f) h = absurd (cc)

-- no OPEN leaves the latest connection decided
decided-closed : (role : Role) (f : Fate) (e : Seen) (past : List Seen) → latest_fate role (e ∷ past) ≡ Some f → is_open e.note ≡ false
decided-closed role f e past h = not_true (is_open e.note) (λ t. let none : latest_fate role (e ∷ past) ≡ None = latest_fate-open role e past t in absurd (cc))

-- ---- a REST of an undecided connection

unbound : (role : Role) (e : Seen) (past : List Seen) → latest_fate role (e ∷ past) ≡ None → is_binding role (newest e past) ≡ false
unfolding is_binding
unbound role e past none = go (is_rest e.note) refl
  where
    go : (b : Bool) → is_rest e.note ≡ b → (b && (accepted (latest_fate role past) && not (some ends_binding (connection past)))) ≡ false
    go false rests = refl
    go true rests = ap (λ o. accepted o && not (some ends_binding (connection past))) (undecided-before role e past (rest-opens-nothing e.note rests) none)

-- ---- an event that leaves its connection undecided

given-none : (role : Role) (e : Seen) (past : List Seen) (c : ℕ) → ((f : Fate) → given role e past c ≡ Some f → ⊥) → given role e past c ≡ None
given-none role e past c never = go (given role e past c) refl
  where
    go : (o : Option Fate) → given role e past c ≡ o → o ≡ None
    go None is = refl
    go (Some f) is = absurd (never f is)

-- what none of the moments is given
ungiven : (breaks : Fate → Moment → Bool) (gives : ℕ → Option Fate) (o : Option Moment) → ((m : Moment) → o ≡ Some m → gives (number m) ≡ None) → is_some_and (λ m. is_so_under breaks m (gives (number m))) o ≡ false
ungiven breaks gives None none = refl
ungiven breaks gives (Some m) none = ap (is_so_under breaks m) (none m refl)

shows-nothing : (role : Role) (breaks : Fate → Moment → Bool) (e : Seen) (past : List Seen) (k : ℕ) → latest_fate role (e ∷ past) ≡ None → shows_under role breaks e past k ≡ false
shows-nothing role breaks e past k none =
    ap (λ o. (is_next past k && is_so_under breaks (newest e past) o) || is_some_and (λ m. is_so_under breaks m (given role e past (number m))) (moment past k)) none
    ∙ ap (λ b. b || is_some_and (λ m. is_so_under breaks m (given role e past (number m))) (moment past k)) (and_false (is_next past k))
    ∙ ungiven breaks (given role e past) (moment past k) (λ m at. given-none role e past (number m) (λ f is.
    let g = given-gives role e past (number m) f is in
    let was : latest_fate role past ≡ None = undecided-before role e past g.1 none in
    let now : latest_fate role (e ∷ past) ≡ Some f = latest_fate-same role e past g.1 ∙ ap (λ o. option_or o (gives_fate role (newest e past))) was ∙ g.2 in
    absurd (cc)))

-- so no statement on sessions turns out false with it
pub undecided-turns : (tested : Tested) (e : Seen) (past : List Seen) (k : ℕ) (r : Rule) → latest_fate tested.role (e ∷ past) ≡ None → is_on_session tested r ≡ true → turns tested e past k r ≡ false
unfolding turns
undecided-turns tested e past k r none session = go (statement tested.role r) session
  where
    go : (s : Statement) → is_by_session s ≡ true → (binds r tested && shows tested.role s e past k) ≡ false
    go (on_bytes rule) t = absurd (cc)
    go (on_past breaks) t = absurd (cc)
    go (by_later test) t = absurd (cc)
    go (in_session breaks) t = ap (λ b. binds r tested && b) (shows-nothing tested.role (where_accepted breaks) e past k none) ∙ and_false (binds r tested)
    go (at_release breaks) t = ap (λ b. binds r tested && b) (shows-nothing tested.role breaks e past k none) ∙ and_false (binds r tested)
    go (at_rest test) t = ap (λ b. binds r tested && (b && is_some_and (test (newest e past)) (moment past k))) (unbound tested.role e past none) ∙ and_false (binds r tested)

-- ---- an event that decides its connection, or comes after that

-- what the moments of a log show where only its latest connection, which is undecided, is given a fate: what its events show, from the OPEN on
waited : (role : Role) (f : Fate) (breaks : Fate → Moment → Bool) (gives : ℕ → Option Fate) (log : List Seen) (k : ℕ) → latest_fate role log ≡ None
    → gives (begun log) ≡ Some f → ((c : ℕ) → c < begun log → gives c ≡ None)
    → is_some_and (λ m. is_so_under breaks m (gives (number m))) (moment log k) ≡ some_after (λ e past. is_next past k && breaks f (newest e past)) (opened_at log) log
waited role f breaks gives [] k none now before = absurd (cc)
waited role f breaks gives (e ∷ past) k none now before = go (is_open e.note) refl (waited role f breaks gives past k)
  where
    test : Seen → List Seen → Bool
    test d older = is_next older k && breaks f (newest d older)

    found : Option Moment → Bool
    found o = is_some_and (λ m. is_so_under breaks m (gives (number m))) o

    -- the event's own moment, and those before it
    both : (n : ℕ) → n ≤ length past → found (moment past k) ≡ some_after test n past → found (moment (e ∷ past) k) ≡ some_after test n (e ∷ past)
    both n within older = at (is_next past k) refl ∙ sym (one-after test n e past within)
      where
        at : (b : Bool) → is_next past k ≡ b → found (cond b (Some (newest e past)) (moment past k)) ≡ (some_after test n past || (is_next past k && breaks f (newest e past)))
        at true t =
            ap (is_so_under breaks (newest e past)) now
            ∙ ap (λ b. b || breaks f (newest e past)) (sym (sym older ∙ ap found (moment-next past k t)))
            ∙ ap (λ b. some_after test n past || (b && breaks f (newest e past))) (sym t)
        at false t = older ∙ sym (or_false (some_after test n past)) ∙ ap (λ b. some_after test n past || (b && breaks f (newest e past))) (sym t)

    go : (b : Bool) → is_open e.note ≡ b
        → (latest_fate role past ≡ None → gives (begun past) ≡ Some f → ((c : ℕ) → c < begun past → gives c ≡ None) → found (moment past k) ≡ some_after test (opened_at past) past)
        → found (moment (e ∷ past) k) ≡ some_after test (cond b (length past) (opened_at past)) (e ∷ past)
    go true opens older = both (length past) (omega arith)
        (ungiven breaks gives (moment past k) (λ m at.
        let le : number m ≤ begun past = number-within past k m at in
        let one : begun (e ∷ past) ≡ 1 + begun past = begun-open e past opens in
        before (number m) (omega arith))
        ∙ sym (none-after test (length past) past (omega arith)))
    go false closed older =
        let same : begun (e ∷ past) ≡ begun past = begun-same e past closed in
        both (opened_at past) (opened-within past) (older (undecided-before role e past closed none) (ap gives (sym same) ∙ now) (λ c lt. before c (omega arith)))

-- what the event shows with those that waited
decided-shows : (role : Role) (f : Fate) (breaks : Fate → Moment → Bool) (e : Seen) (past : List Seen) (k : ℕ) → latest_fate role (e ∷ past) ≡ Some f
    → shows_under role breaks e past k ≡ (some_after (λ d older. is_next older k && breaks f (newest d older)) (settled role past) past || (is_next past k && breaks f (newest e past)))
decided-shows role f breaks e past k now =
    ap (λ o. (is_next past k && is_so_under breaks (newest e past) o) || found (moment past k)) now
    ∙ or-turn (is_next past k && breaks f (newest e past)) (found (moment past k))
    ∙ ap (λ b. b || (is_next past k && breaks f (newest e past))) (go (latest_fate role past) refl)
  where
    test : Seen → List Seen → Bool
    test d older = is_next older k && breaks f (newest d older)

    found : Option Moment → Bool
    found o = is_some_and (λ m. is_so_under breaks m (given role e past (number m))) o

    closed : is_open e.note ≡ false
    closed = decided-closed role f e past now

    go : (o : Option Fate) → latest_fate role past ≡ o → found (moment past k) ≡ some_after test (cond (is_some o) (length past) (opened_at past)) past
    go (Some g) is =
        ungiven breaks (given role e past) (moment past k) (λ m at. given-none role e past (number m) (λ h gives.
        let g = given-gives role e past (number m) h gives in
        let was : latest_fate role past ≡ None = ap (λ c. fate role c past) (sym g.0) ∙ g.3 in
        absurd (cc)))
        ∙ sym (none-after test (length past) past (omega arith))
    go None is = waited role f breaks (given role e past) past k is
        (ap (λ o. cond (is_some o) None (fate role (begun past) (e ∷ past))) is ∙ ap (λ c. fate role c (e ∷ past)) (sym (begun-same e past closed)) ∙ now)
        (λ c lt. given-none role e past c (λ h gives. let g = given-gives role e past c h gives in let at : c ≡ begun past = g.0 in absurd (omega arith)))

-- no REST that waits binds
unbound-waiting : (role : Role) (test : Seen → List Seen → Bool) (log : List Seen) → latest_fate role log ≡ None → some_after (λ e past. is_binding role (newest e past) && test e past) (opened_at log) log ≡ false
unbound-waiting role test [] none = refl
unbound-waiting role test (e ∷ past) none = go (is_open e.note) refl (unbound-waiting role test past)
  where
    binding : Seen → List Seen → Bool
    binding d older = is_binding role (newest d older) && test d older

    here : binding e past ≡ false
    here = ap (λ b. b && test e past) (unbound role e past none)

    both : (n : ℕ) → n ≤ length past → some_after binding n past ≡ false → some_after binding n (e ∷ past) ≡ false
    both n within older = one-after binding n e past within ∙ ap (λ b. b || binding e past) older ∙ here

    go : (b : Bool) → is_open e.note ≡ b → (latest_fate role past ≡ None → some_after binding (opened_at past) past ≡ false) → some_after binding (cond b (length past) (opened_at past)) (e ∷ past) ≡ false
    go true opens waiting = both (length past) (omega arith) (none-after binding (length past) past (omega arith))
    go false closed waiting = both (opened_at past) (opened-within past) (waiting (undecided-before role e past closed none))

settled-unbound : (role : Role) (test : Seen → List Seen → Bool) (past : List Seen) → some_after (λ d older. is_binding role (newest d older) && test d older) (settled role past) past ≡ false
settled-unbound role test past = go (latest_fate role past) refl
  where
    go : (o : Option Fate) → latest_fate role past ≡ o → some_after (λ d older. is_binding role (newest d older) && test d older) (cond (is_some o) (length past) (opened_at past)) past ≡ false
    go None is = unbound-waiting role test past is
    go (Some f) is = none-after (λ d older. is_binding role (newest d older) && test d older) (length past) past (omega arith)

-- With an event of a decided connection those pairs of statements on sessions turn out to fail that do so with it or with one of those that waited, under the fate.
pub decided-turns : (tested : Tested) (f : Fate) (n : ℕ) (e : Seen) (past : List Seen) (k : ℕ) (r : Rule) → latest_fate tested.role (e ∷ past) ≡ Some f → n ≡ settled tested.role past
    → is_on_session tested r ≡ true → (turns_after tested f n past k r || turns_with tested f e past k r) ≡ turns tested e past k r
unfolding turns turns_with
decided-turns tested f n e past k r now at session =
    ap (λ n. turns_after tested f n past k r || turns_with tested f e past k r) at ∙ go (statement tested.role r) session
  where
    bound : Bool
    bound = binds r tested

    over : (a b : Bool) → ((bound && a) || (bound && b)) ≡ (bound && (a || b))
    over a b = sym (and-over bound a b)

    both : (test : Seen → List Seen → Bool) (all : Bool) → (some_after test (settled tested.role past) past || test e past) ≡ all
        → (some_after (λ d older. bound && test d older) (settled tested.role past) past || (bound && test e past)) ≡ (bound && all)
    both test all same =
        ap (λ b. b || (bound && test e past)) (guarded bound test (settled tested.role past) past)
        ∙ over (some_after test (settled tested.role past) past) (test e past) ∙ ap (λ b. bound && b) same

    go : (s : Statement) → is_by_session s ≡ true
        → (some_after (λ d older. bound && shows_with tested.role f s d older k) (settled tested.role past) past || (bound && shows_with tested.role f s e past k)) ≡ (bound && shows tested.role s e past k)
    go (on_bytes rule) t = absurd (cc)
    go (on_past breaks) t = absurd (cc)
    go (by_later test) t = absurd (cc)
    go (in_session breaks) t = both (λ d older. is_next older k && where_accepted breaks f (newest d older)) _ (sym (decided-shows tested.role f (where_accepted breaks) e past k now))
    go (at_release breaks) t = both (λ d older. is_next older k && breaks f (newest d older)) _ (sym (decided-shows tested.role f breaks e past k now))
    go (at_rest test) t = both (λ d older. is_binding tested.role (newest d older) && is_some_and (test (newest d older)) (moment older k)) _
        (ap (λ b. b || (is_binding tested.role (newest e past) && is_some_and (test (newest e past)) (moment past k))) (settled-unbound tested.role (λ d older. is_some_and (test (newest d older)) (moment older k)) past))
