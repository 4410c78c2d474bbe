-- Statements that are judged at their own position, as soon as its event is there.
use Rattle.std.proofs.Common.{◌≡◌, ℕ, ◌+◌, Bool, true, false, cond, ◌&&◌, ◌||◌, not, nat_lt, List, [], ◌∷◌, length, Option, Some, None, is_some, refl, ap, sym, ◌∙◌}
use Rattle.std.specs.Option.{option_or}
use Rattle.mq_rules.specs.declared.role.Role.{Role}
use Rattle.mq_rules.specs.declared.role.Tested.{Tested}
use Rattle.mq_rules.specs.declared.fate.Fate.{Fate}
use Rattle.mq_rules.specs.declared.rule.Rule.{Rule}
use Rattle.mq_rules.specs.declared.note.Seen.{Seen}
use Rattle.mq_rules.specs.Words.{is_some_and}
use Rattle.mq_rules.specs.Notes.{is_open, is_rest, needs_session, is_sent_pingresp, is_received_pingreq}
use Rattle.mq_rules.specs.Moments.{Moment, newest, note, moment, is_next, some, count}
use Rattle.mq_rules.specs.Connections.{begun, number, connection, fate, latest_fate, gives_fate, accepts, accepted, ends_binding, is_binding, IsInOrder}
use Rattle.mq_rules.specs.Rules.{binds}
use Rattle.mq_rules.specs.Statements.{in_session, at_release, statement, is_so_under, where_accepted}
use Rattle.mq_rules.specs.Steps.{given, shows_under, shows, turns, JudgedAtOnce, IsLate}
use Rattle.mq_rules.specs.Exchanges.{breaks_E7R}
use Rattle.mq_rules.proofs.BoolLaws.{both_true, not_true, or_false, and-past}
use Rattle.mq_rules.proofs.StepLaws.{moment-stays, moment-newest}
use Rattle.mq_rules.proofs.FateLaws.{latest_fate-next}
use Rattle.mq_rules.proofs.GivenLaws.{open-sessionless, rest-opens-nothing, begun-closed, fate-from, given-gives}

-- ---- what depends on the fate, where that is decided before

some_of : {A : Type 0} (o : Option A) → is_some o ≡ true → (a : A) × (o ≡ Some a)
some_of None h = absurd (cc)
some_of (Some a) h = (a, refl)

-- a fate that comes later says nothing of an earlier moment
late-given : (role : Role) (breaks : Fate → Moment → Bool) (e : Seen) (past : List Seen) (k : ℕ) → IsLate role breaks (e ∷ past)
    → is_some_and (λ m. is_so_under breaks m (given role e past (number m))) (moment past k) ≡ false
late-given role breaks e past k late = go (moment past k) refl
  where
    go : (o : Option Moment) → moment past k ≡ o → is_some_and (λ m. is_so_under breaks m (given role e past (number m))) o ≡ false
    go None at = refl
    go (Some m) at = by_fate (given role e past (number m)) refl
      where
        decided : (f : Fate) → breaks f m ≡ true → is_some (fate role (number m) past) ≡ true
        decided f t =
            let there = moment-stays e past k m at in
            let known = some_of (latest_fate role m.past) (late.decided k m f there t) in
            ap (λ c. is_some (fate role c past)) (begun-closed m.event m.past (late.no_open k m f there t))
            ∙ ap is_some (fate-from role (begun m.past) known.0 past k m at known.1)

        by_fate : (o : Option Fate) → given role e past (number m) ≡ o → is_so_under breaks m o ≡ false
        by_fate None is = refl
        by_fate (Some f) is = not_true (breaks f m) (λ t. let some = decided f t in let none = (given-gives role e past (number m) f is).3 in absurd (cc))

-- and at the newest event the fate before it says all
late-newest : (role : Role) (breaks : Fate → Moment → Bool) (e : Seen) (past : List Seen) → IsLate role breaks (e ∷ past)
    → is_so_under breaks (newest e past) (latest_fate role (e ∷ past)) ≡ is_so_under breaks (newest e past) (latest_fate role past)
late-newest role breaks e past late = ap (is_so_under breaks (newest e past)) (latest_fate-next role e past) ∙ go (is_open e.note) refl (latest_fate role past) refl
  where
    there : moment (e ∷ past) (length past + 1) ≡ Some (newest e past)
    there = moment-newest e past

    at_open : (o : Option Fate) → is_open e.note ≡ true → is_so_under breaks (newest e past) o ≡ false
    at_open None h = refl
    at_open (Some f) h = not_true (breaks f (newest e past)) (λ t. let closed : is_open e.note ≡ false = late.no_open (length past + 1) (newest e past) f there t in absurd (cc))

    undecided : (o : Option Fate) → latest_fate role past ≡ None → is_so_under breaks (newest e past) o ≡ false
    undecided None h = refl
    undecided (Some f) h = not_true (breaks f (newest e past)) (λ t. let some : is_some (latest_fate role past) ≡ true = late.decided (length past + 1) (newest e past) f there t in absurd (cc))

    go : (b : Bool) → is_open e.note ≡ b → (o : Option Fate) → latest_fate role past ≡ o
        → is_so_under breaks (newest e past) (cond b None (option_or o (gives_fate role (newest e past)))) ≡ is_so_under breaks (newest e past) o
    go true h o is = sym (at_open o h)
    go false h (Some f) is = refl
    go false h None is = undecided (gives_fate role (newest e past)) is

late-shows : (role : Role) (breaks : Fate → Moment → Bool) (e : Seen) (past : List Seen) (k : ℕ) → IsLate role breaks (e ∷ past)
    → shows_under role breaks e past k ≡ (is_next past k && is_so_under breaks (newest e past) (latest_fate role past))
late-shows role breaks e past k late =
    ap (λ b. (is_next past k && is_so_under breaks (newest e past) (latest_fate role (e ∷ past))) || b) (late-given role breaks e past k late)
    ∙ or_false (is_next past k && is_so_under breaks (newest e past) (latest_fate role (e ∷ past)))
    ∙ ap (λ b. is_next past k && b) (late-newest role breaks e past late)

late-accepted : (role : Role) (breaks : Fate → Moment → Bool) (log : List Seen) → IsLate role breaks log → IsLate role (where_accepted breaks) log
late-accepted role breaks log late = record {
  decided = λ k m f at t. late.decided k m f at (both_true (accepts f) (breaks f m) t).1;
  no_open = λ k m f at t. late.no_open k m f at (both_true (accepts f) (breaks f m) t).1;
}

-- a statement of a session, and one of a RELEASE
pub late-turns : (tested : Tested) (rule : Rule) (breaks : Fate → Moment → Bool) (e : Seen) (past : List Seen) → statement tested.role rule ≡ in_session breaks → IsLate tested.role breaks (e ∷ past)
    → JudgedAtOnce tested rule e past (binds rule tested && is_some_and (λ f. accepts f && breaks f (newest e past)) (latest_fate tested.role past))
unfolding turns
late-turns tested rule breaks e past is late = λ k.
    ap (λ s. binds rule tested && shows tested.role s e past k) is
    ∙ ap (λ b. binds rule tested && b) (late-shows tested.role (where_accepted breaks) e past k (late-accepted tested.role breaks (e ∷ past) late))
    ∙ and-past (binds rule tested) (is_next past k) (is_some_and (λ f. accepts f && breaks f (newest e past)) (latest_fate tested.role past))

pub release-turns : (tested : Tested) (rule : Rule) (breaks : Fate → Moment → Bool) (e : Seen) (past : List Seen) → statement tested.role rule ≡ at_release breaks → IsLate tested.role breaks (e ∷ past)
    → JudgedAtOnce tested rule e past (binds rule tested && is_some_and (λ f. breaks f (newest e past)) (latest_fate tested.role past))
unfolding turns
release-turns tested rule breaks e past is late = λ k.
    ap (λ s. binds rule tested && shows tested.role s e past k) is
    ∙ ap (λ b. binds rule tested && b) (late-shows tested.role breaks e past k late)
    ∙ and-past (binds rule tested) (is_next past k) (is_some_and (λ f. breaks f (newest e past)) (latest_fate tested.role past))

-- ---- what is late

-- in a log in order, what needs a session stands where the latest connection is decided
pub in_order-at : (role : Role) (log : List Seen) (k : ℕ) (m : Moment) → IsInOrder role log → moment log k ≡ Some m → needs_session (note m) ≡ true → is_some (latest_fate role m.past) ≡ true
in_order-at role [] k m order at needs = absurd (cc)
in_order-at role (e ∷ past) k m order at needs = go (is_next past k) at (in_order-at role past k m order.1)
  where
    go : (b : Bool) → cond b (Some (newest e past)) (moment past k) ≡ Some m → (moment past k ≡ Some m → needs_session (note m) ≡ true → is_some (latest_fate role m.past) ≡ true) → is_some (latest_fate role m.past) ≡ true
    go true at rest =
        let same : newest e past ≡ m = cc in
        ap (λ (n : Moment). is_some (latest_fate role n.past)) (sym same) ∙ order.0 (ap (λ (n : Moment). needs_session (note n)) same ∙ needs)
    go false at rest = rest at needs

pub in_order-late : (role : Role) (breaks : Fate → Moment → Bool) (log : List Seen) → ((f : Fate) (m : Moment) → breaks f m ≡ true → needs_session (note m) ≡ true) → IsInOrder role log → IsLate role breaks log
in_order-late role breaks log needs order = record {
  decided = λ k m f at t. in_order-at role log k m order at (needs f m t);
  no_open = λ k m f at t. not_true (is_open (note m)) (λ opens. let a = needs f m t in let b = open-sessionless (note m) opens in absurd (cc));
}

accepted-some : (o : Option Fate) → accepted o ≡ true → is_some o ≡ true
accepted-some None h = absurd (cc)
accepted-some (Some f) h = refl

-- a REST that binds stands on an accepted connection, in any log
pub rest-late : (role : Role) (log : List Seen) → IsLate role (λ f. breaks_E7R role) log
unfolding breaks_E7R is_binding
rest-late role log = record { decided = λ k m f at t. accepted-some (latest_fate role m.past) (parts m t).1; no_open = λ k m f at t. rest-opens-nothing (note m) (parts m t).0 }
  where
    parts : (m : Moment) → breaks_E7R role m ≡ true → (is_rest (note m) ≡ true) × (accepted (latest_fate role m.past) ≡ true)
    parts m t =
        let binds = both_true (is_binding role m) (nat_lt (count (λ m. is_sent_pingresp (note m)) (connection m.past)) (count (λ m. is_received_pingreq (note m)) (connection m.past))) t in
        let rests = both_true (is_rest (note m)) (accepted (latest_fate role m.past) && not (some ends_binding (connection m.past))) binds.0 in
        (rests.0, (both_true (accepted (latest_fate role m.past)) (not (some ends_binding (connection m.past))) rests.1).0)
