-- Held events that are handed on.
use Rattle.std.proofs.Common.{◌≡◌, ℕ, ◌+◌, ◌<◌, arith, Bool, true, false, cond, ◌&&◌, ◌||◌, List, [], ◌∷◌, ◌++◌, length, take, drop, get_or, Option, Some, None, refl, ap, sym, subst, ◌∙◌}
use Rattle.std.specs.Prelude.{is_some, reverse}
use mathlib.Core.List.{reverse_aux}
use Rattle.mq_rules.specs.declared.role.Tested.{Tested}
use Rattle.mq_rules.specs.declared.fate.Fate.{Fate}
use Rattle.mq_rules.specs.declared.rule.Rule.{Rule}
use Rattle.mq_rules.specs.declared.note.Seen.{Seen}
use Rattle.mq_rules.specs.Words.{is_some_and}
use Rattle.std.specs.Option.{option_or}
use Rattle.mq_rules.specs.Notes.{is_open}
use Rattle.mq_rules.proofs.Exports.{beginning, both_true, gains_in, gains_same, gains_then, latest_fate-same, moment-stays, newest-first, or_parts, there, within_first, within_in, within_same, within_second}
use Rattle.mq_rules.specs.Moments.{Moment, newest, moment, is_next}
use Rattle.mq_rules.specs.Connections.{latest_fate, gives_fate, accepts, is_binding}
use Rattle.mq_rules.specs.Rules.{binds}
use Rattle.mq_rules.specs.FaultKeys.{FaultMap}
use Rattle.mq_rules.specs.Statements.{Statement, on_bytes, on_past, in_session, at_release, at_rest, by_later, statement}
use Rattle.mq_rules.specs.Under.{shows_with, turns_with, fate_before, IsUnder, IsKnown, turns_known}
use Rattle.mq_rules.specs.Growing.{Gains, GainsWithin}
use Rattle.mq_fates.specs.Holding.{is_nothing, CanHand, CanPass, fate_after, turns_held, turns_session}
use Rattle.mq_fates.proofs.KnownLaws.{decided-closed}
use Rattle.mq_fates.proofs.HoldLaws.{deciding-turns}
use Rattle.std.proofs.Common.{◌⊎◌, inl, inr}

-- ---- pairs that turn out to fail are of moments that are there

turned-there : (tested : Tested) (f : Fate) (e : Seen) (past : List Seen) (k : ℕ) (r : Rule) → turns_with tested f e past k r ≡ true → is_some (moment (e ∷ past) k) ≡ true
unfolding turns_with
turned-there tested f e past k r h = go (statement tested.role r) (both_true (binds r tested) (shows_with tested.role f (statement tested.role r) e past k) h).1
  where
    now : is_next past k ≡ true → is_some (moment (e ∷ past) k) ≡ true
    now t = ap (λ b. is_some (cond b (Some (newest e past)) (moment past k))) t

    before : (o : Option Moment) (test : Moment → Bool) → moment past k ≡ o → is_some_and test o ≡ true → is_some (moment (e ∷ past) k) ≡ true
    before None test at t = absurd (cc)
    before (Some m) test at t = ap is_some (moment-stays e past k m at)

    go : (s : Statement) → shows_with tested.role f s e past k ≡ true → is_some (moment (e ∷ past) k) ≡ true
    go (on_bytes rule) t = absurd (cc)
    go (on_past breaks) t = absurd (cc)
    go (in_session breaks) t = now (both_true (is_next past k) (accepts f && breaks f (newest e past)) t).0
    go (at_release breaks) t = now (both_true (is_next past k) (breaks f (newest e past)) t).0
    go (by_later test) t = absurd (cc)
    go (at_rest test) t = before (moment past k) (test (newest e past)) refl (both_true (is_binding tested.role (newest e past)) (is_some_and (test (newest e past)) (moment past k)) t).1

moment-same : (e : Seen) (past : List Seen) (k : ℕ) → is_some (moment past k) ≡ true → moment past k ≡ moment (e ∷ past) k
moment-same e past k h = let m = there (moment past k) h in m.1 ∙ sym (moment-stays e past k m.0 m.1)

told-there : (tested : Tested) (f : Fate) (hs base : List Seen) (k : ℕ) (r : Rule) → turns_held tested f hs base k r ≡ true → is_some (moment (hs ++ base) k) ≡ true
told-there tested f [] base k r h = absurd (cc)
told-there tested f (e ∷ hs) base k r h = go (told-there tested f hs base k r) (or_parts (turns_held tested f hs base k r) (turns_with tested f e (hs ++ base) k r) h)
  where
    go : (turns_held tested f hs base k r ≡ true → is_some (moment (hs ++ base) k) ≡ true) → (turns_held tested f hs base k r ≡ true) ⊎ (turns_with tested f e (hs ++ base) k r ≡ true) → is_some (moment (e ∷ (hs ++ base)) k) ≡ true
    go older (inl t) = let m = there (moment (hs ++ base) k) (older t) in ap is_some (moment-stays e (hs ++ base) k m.0 m.1)
    go older (inr t) = turned-there tested f e (hs ++ base) k r t

-- one event more leaves the moments of what was told
stays : (judges : Rule → Bool) (tested : Tested) (f : Fate) (d : Seen) (hs base : List Seen) (k : ℕ) (r : Rule) → (judges r && turns_held tested f hs base k r) ≡ true → moment (hs ++ base) k ≡ moment (d ∷ (hs ++ base)) k
stays judges tested f d hs base k r h = moment-same d (hs ++ base) k (told-there tested f hs base k r (both_true (judges r) (turns_held tested f hs base k r) h).1)

and-either : (j a b : Bool) → ((j && a) || (j && b)) ≡ (j && (a || b))
and-either true a b = refl
and-either false a b = refl

-- ---- one more held event

pub handed-next : (judges : Rule → Bool) (tested : Tested) (f : Fate) (e : Seen) (hs base : List Seen) (at : ℕ) (first old new : FaultMap)
    → Gains (λ k r. judges r && turns_held tested f hs base k r) tested (hs ++ base) at first old → Gains (λ k r. judges r && turns_with tested f e (hs ++ base) k r) tested (e ∷ (hs ++ base)) at old new
    → Gains (λ k r. judges r && turns_held tested f (e ∷ hs) base k r) tested (e ∷ (hs ++ base)) at first new
handed-next judges tested f e hs base at first old new g h =
    gains_same (λ k r. (judges r && turns_held tested f hs base k r) || (judges r && turns_with tested f e (hs ++ base) k r)) (λ k r. judges r && turns_held tested f (e ∷ hs) base k r) tested (e ∷ (hs ++ base)) at first new
    (λ k r. and-either (judges r) (turns_held tested f hs base k r) (turns_with tested f e (hs ++ base) k r))
    (gains_then (λ k r. judges r && turns_held tested f hs base k r) (λ k r. judges r && turns_with tested f e (hs ++ base) k r) tested (e ∷ (hs ++ base)) at first old new
    (gains_in (λ k r. judges r && turns_held tested f hs base k r) tested (hs ++ base) (e ∷ (hs ++ base)) at first old (stays judges tested f e hs base) g) h)

pub handed-within : (judges : Rule → Bool) (tested : Tested) (f : Fate) (e : Seen) (hs base : List Seen) (at : ℕ) (first old new : FaultMap)
    → Gains (λ k r. judges r && turns_held tested f hs base k r) tested (hs ++ base) at first old → GainsWithin (λ k r. judges r && turns_with tested f e (hs ++ base) k r) tested (e ∷ (hs ++ base)) at old new
    → GainsWithin (λ k r. judges r && turns_held tested f (e ∷ hs) base k r) tested (e ∷ (hs ++ base)) at first new
handed-within judges tested f e hs base at first old new g h =
    within_same (λ k r. (judges r && turns_held tested f hs base k r) || (judges r && turns_with tested f e (hs ++ base) k r)) (λ k r. judges r && turns_held tested f (e ∷ hs) base k r) tested (e ∷ (hs ++ base)) at first new
    (λ k r. and-either (judges r) (turns_held tested f hs base k r) (turns_with tested f e (hs ++ base) k r))
    (within_second (λ k r. judges r && turns_held tested f hs base k r) (λ k r. judges r && turns_with tested f e (hs ++ base) k r) tested (e ∷ (hs ++ base)) at first old new
    (gains_in (λ k r. judges r && turns_held tested f hs base k r) tested (hs ++ base) (e ∷ (hs ++ base)) at first old (stays judges tested f e hs base) g) h)

-- what is within the pairs of the first events is within those of more
within-more : (judges : Rule → Bool) (tested : Tested) (f : Fate) (d : Seen) (hs base : List Seen) (at : ℕ) (first new : FaultMap)
    → GainsWithin (λ k r. judges r && turns_held tested f hs base k r) tested (hs ++ base) at first new → GainsWithin (λ k r. judges r && turns_held tested f (d ∷ hs) base k r) tested (d ∷ (hs ++ base)) at first new
within-more judges tested f d hs base at first new g =
    within_same (λ k r. (judges r && turns_held tested f hs base k r) || (judges r && turns_with tested f d (hs ++ base) k r)) (λ k r. judges r && turns_held tested f (d ∷ hs) base k r) tested (d ∷ (hs ++ base)) at first new
    (λ k r. and-either (judges r) (turns_held tested f hs base k r) (turns_with tested f d (hs ++ base) k r))
    (within_first (λ k r. judges r && turns_held tested f hs base k r) (λ k r. judges r && turns_with tested f d (hs ++ base) k r) tested (d ∷ (hs ++ base)) at first new
    (within_in (λ k r. judges r && turns_held tested f hs base k r) tested (hs ++ base) (d ∷ (hs ++ base)) at first new (stays judges tested f d hs base) g))

within-later : (judges : Rule → Bool) (tested : Tested) (f : Fate) (later hs base : List Seen) (at : ℕ) (first new : FaultMap)
    → GainsWithin (λ k r. judges r && turns_held tested f hs base k r) tested (hs ++ base) at first new → GainsWithin (λ k r. judges r && turns_held tested f (reverse_aux later hs) base k r) tested (reverse_aux later hs ++ base) at first new
within-later judges tested f [] hs base at first new g = g
within-later judges tested f (d ∷ later) hs base at first new g = within-later judges tested f later (d ∷ hs) base at first new (within-more judges tested f d hs base at first new g)

-- ---- the next of the held events

can-tail : (tested : Tested) (at : ℕ) (e : Seen) (hs base : List Seen) → CanHand tested at (e ∷ hs) base → CanHand tested at hs base
can-tail tested at e hs base c = record { later = let l = c.later in omega arith; are_held = c.are_held.2; placed = c.placed.1; in_turn = c.in_turn.1; on_connections = c.on_connections.1 }

can-tails : (tested : Tested) (at : ℕ) (later hs base : List Seen) → CanHand tested at (reverse_aux later hs) base → CanHand tested at hs base
can-tails tested at [] hs base c = c
can-tails tested at (d ∷ later) hs base c = can-tail tested at d hs base (can-tails tested at later (d ∷ hs) base c)

-- what the loop knows of the event at an index
pub record IsAt (tested : Tested) (f : Fate) (at : ℕ) (held : List Seen) (i : ℕ) (e : Seen) (base : List Seen) : Type 0 where
  pub under : IsUnder tested f at e (reverse (take i held) ++ base)
  pub before : fate_after tested f (reverse (take i held)) base ≡ fate_before tested f e (reverse (take i held) ++ base)
  pub next : reverse (take (i + 1) held) ≡ e ∷ reverse (take i held)

pub can-at : (tested : Tested) (f : Fate) (at : ℕ) (held : List Seen) (i : ℕ) (e : Seen) (base : List Seen) → i < length held → e ≡ get_or held i e → CanHand tested at (reverse held) base → IsAt tested f at held i e base
can-at tested f at held i e base lt is can = record {
  under = record {
    follows = record { placed = here.placed; in_turn = here.in_turn; on_connections = here.on_connections };
    fits = λ g h. absurd (let none : latest_fate tested.role (e ∷ (reverse (take i held) ++ base)) ≡ None = here.are_held.1 in cc);
    later = λ h. let l = here.later in let p = here.placed.0 in omega arith;
  };
  before = go (reverse (take i held)) here.are_held.0;
  next = next;
}
  where
    next : reverse (take (i + 1) held) ≡ e ∷ reverse (take i held)
    next = newest-first held i e lt is

    here : CanHand tested at (e ∷ reverse (take i held)) base
    here = subst (λ hs. CanHand tested at hs base) next (can-tails tested at (drop (i + 1) held) (reverse (take (i + 1) held)) base (subst (λ hs. CanHand tested at hs base) (sym (beginning held (i + 1))) can))

    go : (hs : List Seen) → is_open e.note ≡ is_nothing hs → fate_after tested f hs base ≡ fate_before tested f e (hs ++ base)
    go [] h = ap (λ b. cond b (latest_fate tested.role base) (Some f)) (sym h)
    go (d ∷ hs) h = ap (λ b. cond b (latest_fate tested.role (d ∷ (hs ++ base))) (Some f)) (sym h)

-- a refusal at the event
pub within-whole : (judges : Rule → Bool) (tested : Tested) (f : Fate) (held : List Seen) (i : ℕ) (e : Seen) (base : List Seen) (at : ℕ) (first old new : FaultMap) → i < length held → e ≡ get_or held i e
    → Gains (λ k r. judges r && turns_held tested f (reverse (take i held)) base k r) tested (reverse (take i held) ++ base) at first old
    → GainsWithin (λ k r. judges r && turns_with tested f e (reverse (take i held) ++ base) k r) tested (e ∷ (reverse (take i held) ++ base)) at old new
    → GainsWithin (λ k r. judges r && turns_held tested f (reverse held) base k r) tested (reverse held ++ base) at first new
within-whole judges tested f held i e base at first old new lt is g h =
    subst (λ hs. GainsWithin (λ k r. judges r && turns_held tested f hs base k r) tested (hs ++ base) at first new) (ap (reverse_aux (drop (i + 1) held)) (sym (newest-first held i e lt is)) ∙ beginning held (i + 1))
    (within-later judges tested f (drop (i + 1) held) (e ∷ reverse (take i held)) base at first new (handed-within judges tested f e (reverse (take i held)) base at first old new g h))

pub handed-at : (judges : Rule → Bool) (tested : Tested) (f : Fate) (at : ℕ) (held : List Seen) (i : ℕ) (e : Seen) (base : List Seen) (first old new : FaultMap) → IsAt tested f at held i e base
    → Gains (λ k r. judges r && turns_held tested f (reverse (take i held)) base k r) tested (reverse (take i held) ++ base) at first old
    → Gains (λ k r. judges r && turns_with tested f e (reverse (take i held) ++ base) k r) tested (e ∷ (reverse (take i held) ++ base)) at old new
    → Gains (λ k r. judges r && turns_held tested f (reverse (take (i + 1) held)) base k r) tested (reverse (take (i + 1) held) ++ base) at first new
handed-at judges tested f at held i e base first old new is g h =
    subst (λ hs. Gains (λ k r. judges r && turns_held tested f hs base k r) tested (hs ++ base) at first new) (sym is.next) (handed-next judges tested f e (reverse (take i held)) base at first old new g h)

-- ---- the event after the held ones

pub record Passes (tested : Tested) (f : Fate) (e : Seen) (hs base : List Seen) : Type 0 where
  pub known : IsKnown tested (fate_after tested f hs base) e (hs ++ base)
  pub after : latest_fate tested.role (e ∷ (hs ++ base)) ≡ Some f
  pub position : length (hs ++ base) + 1 ≡ e.place.position
  pub adds_same : (judges : Rule → Bool) (k : ℕ) (r : Rule) → (judges r && turns_known tested e (hs ++ base) k r) ≡ (judges r && turns_with tested f e (hs ++ base) k r)
  pub under : IsUnder tested f e.place.position e (hs ++ base)
  pub before : fate_after tested f hs base ≡ fate_before tested f e (hs ++ base)
  pub same : (k : ℕ) (r : Rule) → (turns_held tested f hs base k r || turns_with tested f e (hs ++ base) k r) ≡ turns_session tested e (hs ++ base) k r

pub passes : (tested : Tested) (f : Fate) (e : Seen) (hs base : List Seen) → CanPass tested f e hs base → Passes tested f e hs base
passes tested f e hs base can = record {
  known = record { fate = f; latest = can.decided; same = go hs closed can.decided };
  after = can.decided;
  position = sym can.follows.placed.0;
  adds_same = λ judges k r. ap (λ o. judges r && is_some_and (λ f. turns_with tested f e (hs ++ base) k r) o) can.decided;
  under = record { follows = can.follows; fits = λ g h. (one g h, refl); later = λ h. absurd (let bad : Some f ≡ None = sym can.decided ∙ h in cc) };
  before = go hs closed can.decided ∙ ap (λ b. cond b (latest_fate tested.role (hs ++ base)) (Some f)) (sym closed);
  same = deciding-turns tested f e hs base can.hand.are_held can.known closed can.decided;
}
  where
    closed : is_open e.note ≡ false
    closed = decided-closed tested f e (hs ++ base) can.decided

    one : (g : Fate) → latest_fate tested.role (e ∷ (hs ++ base)) ≡ Some g → g ≡ f
    one g h = let both : Some f ≡ Some g = sym can.decided ∙ h in cc

    go : (ds : List Seen) → is_open e.note ≡ false → latest_fate tested.role (e ∷ (ds ++ base)) ≡ Some f → fate_after tested f ds base ≡ Some f
    go [] closed h =
        let g = there (latest_fate tested.role base) can.known in
        let now : Some g.0 ≡ Some f = ap (λ o. option_or o (gives_fate tested.role (newest e base))) (sym g.1) ∙ sym (latest_fate-same tested.role e base closed) ∙ h in
        g.1 ∙ now
    go (d ∷ ds) closed h = refl

either-turns : (judges : Rule → Bool) (tested : Tested) (f : Fate) (e : Seen) (hs base : List Seen) → Passes tested f e hs base → (k : ℕ) (r : Rule)
    → ((judges r && turns_held tested f hs base k r) || (judges r && turns_with tested f e (hs ++ base) k r)) ≡ (judges r && turns_session tested e (hs ++ base) k r)
either-turns judges tested f e hs base p k r = and-either (judges r) (turns_held tested f hs base k r) (turns_with tested f e (hs ++ base) k r) ∙ ap (λ b. judges r && b) (p.same k r)

pub passed-gains : (judges : Rule → Bool) (tested : Tested) (f : Fate) (e : Seen) (hs base : List Seen) (at : ℕ) (first mid new : FaultMap) → CanPass tested f e hs base
    → Gains (λ k r. judges r && turns_held tested f hs base k r) tested (hs ++ base) at first mid → Gains (λ k r. judges r && turns_with tested f e (hs ++ base) k r) tested (e ∷ (hs ++ base)) at mid new
    → Gains (λ k r. judges r && turns_session tested e (hs ++ base) k r) tested (e ∷ (hs ++ base)) at first new
passed-gains judges tested f e hs base at first mid new can g h =
    gains_same (λ k r. (judges r && turns_held tested f hs base k r) || (judges r && turns_with tested f e (hs ++ base) k r)) (λ k r. judges r && turns_session tested e (hs ++ base) k r) tested (e ∷ (hs ++ base)) at first new
    (either-turns judges tested f e hs base (passes tested f e hs base can))
    (gains_then (λ k r. judges r && turns_held tested f hs base k r) (λ k r. judges r && turns_with tested f e (hs ++ base) k r) tested (e ∷ (hs ++ base)) at first mid new
    (gains_in (λ k r. judges r && turns_held tested f hs base k r) tested (hs ++ base) (e ∷ (hs ++ base)) at first mid (stays judges tested f e hs base) g) h)

pub passed-second : (judges : Rule → Bool) (tested : Tested) (f : Fate) (e : Seen) (hs base : List Seen) (at : ℕ) (first mid new : FaultMap) → CanPass tested f e hs base
    → Gains (λ k r. judges r && turns_held tested f hs base k r) tested (hs ++ base) at first mid → GainsWithin (λ k r. judges r && turns_with tested f e (hs ++ base) k r) tested (e ∷ (hs ++ base)) at mid new
    → GainsWithin (λ k r. judges r && turns_session tested e (hs ++ base) k r) tested (e ∷ (hs ++ base)) at first new
passed-second judges tested f e hs base at first mid new can g h =
    within_same (λ k r. (judges r && turns_held tested f hs base k r) || (judges r && turns_with tested f e (hs ++ base) k r)) (λ k r. judges r && turns_session tested e (hs ++ base) k r) tested (e ∷ (hs ++ base)) at first new
    (either-turns judges tested f e hs base (passes tested f e hs base can))
    (within_second (λ k r. judges r && turns_held tested f hs base k r) (λ k r. judges r && turns_with tested f e (hs ++ base) k r) tested (e ∷ (hs ++ base)) at first mid new
    (gains_in (λ k r. judges r && turns_held tested f hs base k r) tested (hs ++ base) (e ∷ (hs ++ base)) at first mid (stays judges tested f e hs base) g) h)

pub passed-first : (judges : Rule → Bool) (tested : Tested) (f : Fate) (e : Seen) (hs base : List Seen) (at : ℕ) (first new : FaultMap) → CanPass tested f e hs base
    → GainsWithin (λ k r. judges r && turns_held tested f hs base k r) tested (hs ++ base) at first new → GainsWithin (λ k r. judges r && turns_session tested e (hs ++ base) k r) tested (e ∷ (hs ++ base)) at first new
passed-first judges tested f e hs base at first new can g =
    within_same (λ k r. (judges r && turns_held tested f hs base k r) || (judges r && turns_with tested f e (hs ++ base) k r)) (λ k r. judges r && turns_session tested e (hs ++ base) k r) tested (e ∷ (hs ++ base)) at first new
    (either-turns judges tested f e hs base (passes tested f e hs base can))
    (within_first (λ k r. judges r && turns_held tested f hs base k r) (λ k r. judges r && turns_with tested f e (hs ++ base) k r) tested (e ∷ (hs ++ base)) at first new
    (within_in (λ k r. judges r && turns_held tested f hs base k r) tested (hs ++ base) (e ∷ (hs ++ base)) at first new (stays judges tested f e hs base) g))
