-- What turns out under a fate is what fails under it, and not before.
use Rattle.std.proofs.Common.{◌≡◌, ℕ, ◌+◌, ◌≤◌, ◌==◌, nat_lt, arith, Bool, true, false, cond, ◌&&◌, ◌||◌, List, [], ◌∷◌, length, Option, Some, None, refl, ap, sym, ◌∙◌}
use Rattle.std.specs.Prelude.{is_some}
use Rattle.std.specs.Option.{option_or}
use Rattle.std.proofs.lemmas.Bool.{eq-eqb, le-ltb}
use Rattle.mq_rules.specs.declared.role.Tested.{Tested}
use Rattle.mq_rules.specs.declared.fate.Fate.{Fate}
use Rattle.mq_rules.specs.declared.rule.Rule.{Rule}
use Rattle.mq_rules.specs.declared.note.Seen.{Seen}
use Rattle.mq_rules.specs.Words.{is_some_and}
use Rattle.mq_rules.specs.Notes.{is_open}
use Rattle.mq_rules.specs.Moments.{Moment, newest, position, moments, moment, is_next, is_after, some}
use Rattle.mq_rules.specs.Connections.{begun, number, fate, fate_under, latest_fate, accepts, is_binding, gives_fate}
use Rattle.mq_rules.specs.Rules.{binds}
use Rattle.mq_rules.specs.Statements.{Statement, on_bytes, on_past, in_session, at_release, at_rest, by_later, statement, is_by_later, is_on_later, is_so, is_so_under, where_accepted, fails, fails_under}
use Rattle.mq_rules.specs.Steps.{turns}
use Rattle.mq_rules.proofs.Exports.{and_false, fails-step, fated-known, fated-on, fated-open, latest_fate-same}
use Rattle.mq_rules.specs.Under.{is_by_session, is_on_session, shows_with, turns_with, IsUnder}
use Rattle.mq_fates.proofs.HoldLaws.{unbound-open, unbound-undecided, deciding-turns}

-- no moment of the log comes after this position
none-after : (test : Moment → Bool) (n : ℕ) (log : List Seen) → length log ≤ n → some (λ t. nat_lt n (position t) && test t) (moments log) ≡ false
none-after test n [] h = refl
none-after test n (e ∷ past) h =
    let here : nat_lt n (length past + 1) ≡ false = le-ltb n (length past + 1) (omega arith) in
    ap (λ b. (b && test (newest e past)) || some (λ t. nat_lt n (position t) && test t) (moments past)) here ∙ none-after test n past (omega arith)

-- at the newest position
newest-under : (tested : Tested) (f : Fate) (e : Seen) (past : List Seen) (k : ℕ) (r : Rule) → is_on_session tested r ≡ true → is_binding tested.role (newest e past) ≡ false
    → (is_next past k && fails_under tested f (e ∷ past) k r) ≡ turns_with tested f e past k r
unfolding fails_under turns_with
newest-under tested f e past k r session unbound = go (statement tested.role r) session (is_next past k) refl
  where
    fates : ℕ → Option Fate
    fates = fate_under tested.role (Some f) (e ∷ past)

    own : (o : Option Fate) → cond (begun (e ∷ past) == begun (e ∷ past)) (Some f) o ≡ Some f
    own o = ap (λ b. cond b (Some f) o) (eq-eqb (begun (e ∷ past)) (begun (e ∷ past)) refl)

    turn : (a b c : Bool) → (b && (a && c)) ≡ (a && (b && c))
    turn true true c = refl
    turn true false c = refl
    turn false true c = refl
    turn false false c = refl

    go : (s : Statement) → is_by_session s ≡ true → (b : Bool) → is_next past k ≡ b → (b && (binds r tested && is_so tested.role fates s (e ∷ past) k)) ≡ (binds r tested && shows_with tested.role f s e past k)
    go (on_bytes rule) t b h = absurd (cc)
    go (on_past breaks) t b h = absurd (cc)
    go (by_later test) t b h = absurd (cc)
    go (in_session breaks) t true h =
        ap (λ n. binds r tested && is_some_and (λ m. is_so_under (where_accepted breaks) m (fates (number m))) (cond n (Some (newest e past)) (moment past k))) h
        ∙ ap (λ o. binds r tested && is_so_under (where_accepted breaks) (newest e past) o) (own (fate tested.role (begun (e ∷ past)) (e ∷ past)))
        ∙ sym (ap (λ n. binds r tested && (n && (accepts f && breaks f (newest e past)))) h)
    go (in_session breaks) t false h = sym (ap (λ n. binds r tested && (n && (accepts f && breaks f (newest e past)))) h ∙ and_false (binds r tested))
    go (at_release breaks) t true h =
        ap (λ n. binds r tested && is_some_and (λ m. is_so_under breaks m (fates (number m))) (cond n (Some (newest e past)) (moment past k))) h
        ∙ ap (λ o. binds r tested && is_so_under breaks (newest e past) o) (own (fate tested.role (begun (e ∷ past)) (e ∷ past)))
        ∙ sym (ap (λ n. binds r tested && (n && breaks f (newest e past))) h)
    go (at_release breaks) t false h = sym (ap (λ n. binds r tested && (n && breaks f (newest e past))) h ∙ and_false (binds r tested))
    go (at_rest test) t true h =
        ap (λ n. binds r tested && is_some_and (λ m. some (λ t. is_after t m && (is_binding tested.role t && test t m)) (moments (e ∷ past))) (cond n (Some (newest e past)) (moment past k))) h
        ∙ ap (λ b. binds r tested && b) (none-after (λ t. is_binding tested.role t && test t (newest e past)) (length past + 1) (e ∷ past) (omega arith))
        ∙ sym (ap (λ b. binds r tested && (b && is_some_and (test (newest e past)) (moment past k))) unbound)
    go (at_rest test) t false h = sym (ap (λ b. binds r tested && (b && is_some_and (test (newest e past)) (moment past k))) unbound ∙ and_false (binds r tested))

-- a statement on sessions isn't one that any later event shows
not-later : (s : Statement) → is_by_session s ≡ true → is_by_later s ≡ false
not-later (on_bytes rule) h = refl
not-later (on_past breaks) h = refl
not-later (in_session breaks) h = refl
not-later (at_release breaks) h = refl
not-later (at_rest test) h = refl
not-later (by_later test) h = absurd (cc)

-- With an event of a connection that is taken to have a fate, what failed before does, and else what turns out with it under that fate.
pub under-step : (tested : Tested) (f : Fate) (at : ℕ) (e : Seen) (past : List Seen) (k : ℕ) (r : Rule) → IsUnder tested f at e past → is_on_session tested r ≡ true
    → fails_under tested f (e ∷ past) k r ≡ (cond (is_open e.note) (fails tested past k r) (fails_under tested f past k r) || turns_with tested f e past k r)
under-step tested f at e past k r under session = go (is_open e.note) refl (latest_fate tested.role past) refl
  where
    other : is_on_later tested r ≡ false
    other = not-later (statement tested.role r) session

    go : (b : Bool) → is_open e.note ≡ b → (o : Option Fate) → latest_fate tested.role past ≡ o → fails_under tested f (e ∷ past) k r ≡ (cond b (fails tested past k r) (fails_under tested f past k r) || turns_with tested f e past k r)
    go true h o is = fated-open tested f e past k r other h ∙ ap (λ b. fails tested past k r || b) (newest-under tested f e past k r session (unbound-open tested.role e past h))
    go false h None is = fated-on tested f e past k r other h is ∙ ap (λ b. fails_under tested f past k r || b) (newest-under tested f e past k r session (unbound-undecided tested.role e past is))
    go false h (Some g) is =
        let now : latest_fate tested.role (e ∷ past) ≡ Some g = latest_fate-same tested.role e past h ∙ ap (λ o. option_or o (gives_fate tested.role (newest e past))) is in
        let same : g ≡ f = (under.fits g now).0 in
        let known : latest_fate tested.role past ≡ Some f = is ∙ ap (λ x. Some x) same in
        let later : latest_fate tested.role (e ∷ past) ≡ Some f = now ∙ ap (λ x. Some x) same in
        fated-known tested f (e ∷ past) k r later
        ∙ fails-step tested e past k r
        ∙ ap (λ b. b || turns tested e past k r) (sym (fated-known tested f past k r known))
        ∙ ap (λ b. fails_under tested f past k r || b) (sym (ap (λ b. b && turns tested e past k r) session))
        ∙ ap (λ b. fails_under tested f past k r || b) (sym (deciding-turns tested f e [] past tt (ap is_some known) h later k r))
