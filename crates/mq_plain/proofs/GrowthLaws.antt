-- How the faults grow by events that waited, and by the one that decides their connection.
use Rattle.std.proofs.Common.{◌≡◌, ℕ, zero, suc, ◌+◌, ◌<◌, ◌≤◌, arith, nat_lt, Bool, true, false, cond, ◌&&◌, ◌||◌, ◌⊎◌, inl, inr, List, [], ◌∷◌, length, take, drop, get_or, Option, Some, None, refl, ap, sym, ◌∙◌, subst}
use Rattle.std.specs.Prelude.{is_some, reverse}
use Rattle.std.specs.Option.{option_or}
use Rattle.std.proofs.lemmas.List.{length-reverse, length-take-le, take_all}
use mathlib.Core.List.{reverse_aux}
use Rattle.mq_rules.specs.declared.role.Tested.{Tested}
use Rattle.mq_rules.specs.declared.fate.Fate.{Fate}
use Rattle.mq_rules.specs.declared.rule.Rule.{Rule}
use Rattle.mq_rules.specs.declared.note.Seen.{Seen}
use Rattle.mq_rules.specs.Words.{is_some_and}
use Rattle.mq_rules.specs.Notes.{is_open}
use Rattle.mq_rules.specs.Moments.{Moment, newest, moment, is_next}
use Rattle.mq_rules.specs.Connections.{latest_fate, accepts, is_binding, gives_fate}
use Rattle.mq_rules.specs.Rules.{binds}
use Rattle.mq_rules.specs.Statements.{Statement, on_bytes, on_past, in_session, at_release, at_rest, by_later, statement}
use Rattle.mq_rules.specs.Steps.{turns}
use Rattle.mq_rules.specs.Under.{shows_with, turns_with}
use Rattle.mq_rules.specs.FaultKeys.{FaultMap, fault_at}
use Rattle.mq_rules.specs.Faults.{reported}
use Rattle.mq_rules.specs.Growing.{added, Gains, GainsWithin, GrowsBy, GrowsByWithin}
use Rattle.mq_rules.proofs.Exports.{and-over, and_false, and_true, beginning, both_true, gains_in, gains_nothing, gains_same, gains_then, latest_fate-same, moment-stays, newest-first, option_or-none, or_parts, there, within_first, within_in, within_same, within_second}
use Rattle.mq_plain.specs.Events.{is_quiet, AreSilent}
use Rattle.mq_plain.specs.Waiting.{opened_at, settled, turns_after, AreOnSessions}
use Rattle.mq_plain.proofs.QuietLaws.{quiet-gains}
use Rattle.mq_plain.proofs.WaitingLaws.{none-after, one-after, after-stays, undecided-turns, decided-turns}

-- ---- pairs that turn out to fail are of moments that are there

-- a moment that is there is the same in a longer log
moment-later : (later log : List Seen) (k : ℕ) (m : Moment) → moment log k ≡ Some m → moment (reverse_aux later log) k ≡ Some m
moment-later [] log k m at = at
moment-later (e ∷ later) log k m at = moment-later later (e ∷ log) k m (moment-stays e log k m at)

moment-same : (later log : List Seen) (k : ℕ) → is_some (moment log k) ≡ true → moment log k ≡ moment (reverse_aux later log) k
moment-same later log k h = let m = there (moment log k) h in m.1 ∙ sym (moment-later later log k m.0 m.1)

turned-there : (tested : Tested) (f : Fate) (e : Seen) (past : List Seen) (k : ℕ) (r : Rule) → turns_with tested f e past k r ≡ true → is_some (moment (e ∷ past) k) ≡ true
unfolding turns_with
turned-there tested f e past k r h = go (statement tested.role r) (both_true (binds r tested) (shows_with tested.role f (statement tested.role r) e past k) h).1
  where
    now : is_next past k ≡ true → is_some (moment (e ∷ past) k) ≡ true
    now t = ap (λ b. is_some (cond b (Some (newest e past)) (moment past k))) t

    before : (o : Option Moment) (test : Moment → Bool) → moment past k ≡ o → is_some_and test o ≡ true → is_some (moment (e ∷ past) k) ≡ true
    before None test at t = absurd (cc)
    before (Some m) test at t = ap is_some (moment-stays e past k m at)

    go : (s : Statement) → shows_with tested.role f s e past k ≡ true → is_some (moment (e ∷ past) k) ≡ true
    go (on_bytes rule) t = absurd (cc)
    go (on_past breaks) t = absurd (cc)
    go (by_later test) t = absurd (cc)
    go (in_session breaks) t = now (both_true (is_next past k) (accepts f && breaks f (newest e past)) t).0
    go (at_release breaks) t = now (both_true (is_next past k) (breaks f (newest e past)) t).0
    go (at_rest test) t = before (moment past k) (test (newest e past)) refl (both_true (is_binding tested.role (newest e past)) (is_some_and (test (newest e past)) (moment past k)) t).1

after-there : (tested : Tested) (f : Fate) (n : ℕ) (log : List Seen) (k : ℕ) (r : Rule) → turns_after tested f n log k r ≡ true → is_some (moment log k) ≡ true
after-there tested f n [] k r h = absurd (cc)
after-there tested f n (e ∷ past) k r h = go (nat_lt (length past) n) h (after-there tested f n past k r)
  where
    parts : (turns_after tested f n past k r ≡ true → is_some (moment past k) ≡ true) → (turns_after tested f n past k r ≡ true) ⊎ (turns_with tested f e past k r ≡ true) → is_some (moment (e ∷ past) k) ≡ true
    parts before (inl t) = let m = there (moment past k) (before t) in ap is_some (moment-stays e past k m.0 m.1)
    parts before (inr t) = turned-there tested f e past k r t

    go : (b : Bool) → cond b false (turns_after tested f n past k r || turns_with tested f e past k r) ≡ true → (turns_after tested f n past k r ≡ true → is_some (moment past k) ≡ true) → is_some (moment (e ∷ past) k) ≡ true
    go true t before = absurd (cc)
    go false t before = parts before (or_parts (turns_after tested f n past k r) (turns_with tested f e past k r) t)

-- ---- events that waited, one after another

either : (c a b : Bool) → ((c && a) || (c && b)) ≡ (c && (a || b))
either c a b = sym (and-over c a b)

no-longer : (n : ℕ) (xs : List Seen) → length (take n xs) ≤ n
no-longer zero xs = omega arith
no-longer (suc n) [] = omega arith
no-longer (suc n) (x ∷ xs) = let le = no-longer n xs in omega arith

pub waiting-start : (chosen : Rule → Bool) (tested : Tested) (f : Fate) (n at : ℕ) (seen : List Seen) (faults : FaultMap)
    → Gains (λ k r. chosen r && turns_after tested f n (reverse (take n seen)) k r) tested (reverse seen) at faults faults
waiting-start chosen tested f n at seen faults =
    gains_nothing (λ k r. chosen r && turns_after tested f n (reverse (take n seen)) k r) tested (reverse seen) at faults
    (λ k r. ap (λ b. chosen r && b) (none-after (λ e past. turns_with tested f e past k r) n (reverse (take n seen)) within) ∙ and_false (chosen r))
  where
    within : length (reverse (take n seen)) ≤ n
    within = let same = length-reverse (take n seen) in let le = no-longer n seen in omega arith

-- what an event shows is the same in the whole list
here : (chosen : Rule → Bool) (tested : Tested) (f : Fate) (seen : List Seen) (i : ℕ) (e : Seen) → i < length seen → e ≡ get_or seen i e
    → (k : ℕ) (r : Rule) → (chosen r && turns_with tested f e (reverse (take i seen)) k r) ≡ true → moment (e ∷ reverse (take i seen)) k ≡ moment (reverse seen) k
here chosen tested f seen i e lt is k r h =
    moment-same (drop (i + 1) seen) (e ∷ reverse (take i seen)) k (turned-there tested f e (reverse (take i seen)) k r (both_true (chosen r) (turns_with tested f e (reverse (take i seen)) k r) h).1)
    ∙ ap (λ log. moment (reverse_aux (drop (i + 1) seen) log) k) (sym (newest-first seen i e lt is)) ∙ ap (λ log. moment log k) (beginning seen (i + 1))

-- with the events so far and this one
with-one : (chosen : Rule → Bool) (tested : Tested) (f : Fate) (n : ℕ) (seen : List Seen) (i : ℕ) (e : Seen) → i < length seen → e ≡ get_or seen i e → n ≤ i → (k : ℕ) (r : Rule)
    → ((chosen r && turns_after tested f n (reverse (take i seen)) k r) || (chosen r && turns_with tested f e (reverse (take i seen)) k r)) ≡ (chosen r && turns_after tested f n (reverse (take (i + 1) seen)) k r)
with-one chosen tested f n seen i e lt is after k r =
    either (chosen r) (turns_after tested f n (reverse (take i seen)) k r) (turns_with tested f e (reverse (take i seen)) k r)
    ∙ ap (λ b. chosen r && b) (sym (one-after (λ d past. turns_with tested f d past k r) n e (reverse (take i seen)) within) ∙ ap (λ log. turns_after tested f n log k r) (sym (newest-first seen i e lt is)))
  where
    within : n ≤ length (reverse (take i seen))
    within = let same = length-reverse (take i seen) in let whole = length-take-le i seen (omega arith) in omega arith

pub waiting-next : (chosen : Rule → Bool) (tested : Tested) (f : Fate) (n at : ℕ) (seen : List Seen) (i : ℕ) (e : Seen) (first old new : FaultMap) → i < length seen → e ≡ get_or seen i e → n ≤ i
    → Gains (λ k r. chosen r && turns_after tested f n (reverse (take i seen)) k r) tested (reverse seen) at first old
    → Gains (λ k r. chosen r && turns_with tested f e (reverse (take i seen)) k r) tested (e ∷ reverse (take i seen)) at old new
    → Gains (λ k r. chosen r && turns_after tested f n (reverse (take (i + 1) seen)) k r) tested (reverse seen) at first new
waiting-next chosen tested f n at seen i e first old new lt is after g h =
    gains_same (λ k r. (chosen r && turns_after tested f n (reverse (take i seen)) k r) || (chosen r && turns_with tested f e (reverse (take i seen)) k r))
    (λ k r. chosen r && turns_after tested f n (reverse (take (i + 1) seen)) k r) tested (reverse seen) at first new (with-one chosen tested f n seen i e lt is after)
    (gains_then (λ k r. chosen r && turns_after tested f n (reverse (take i seen)) k r) (λ k r. chosen r && turns_with tested f e (reverse (take i seen)) k r) tested (reverse seen) at first old new g
    (gains_in (λ k r. chosen r && turns_with tested f e (reverse (take i seen)) k r) tested (e ∷ reverse (take i seen)) (reverse seen) at old new (here chosen tested f seen i e lt is) h))

-- what is within some pairs is within more
within-more : (a b : ℕ → Rule → Bool) (tested : Tested) (log : List Seen) (at : ℕ) (old new : FaultMap) → ((k : ℕ) (r : Rule) → a k r ≡ true → b k r ≡ true) → GainsWithin a tested log at old new → GainsWithin b tested log at old new
within-more a b tested log at old new more g = record { each = λ k r. go k r (a k r) refl (g.each k r) }
  where
    go : (k : ℕ) (r : Rule) (t : Bool) → a k r ≡ t → (fault_at new k r ≡ fault_at old k r) ⊎ (fault_at new k r ≡ option_or (fault_at old k r) (cond t (Some (reported tested.role (moment log k) r at)) None))
        → (fault_at new k r ≡ fault_at old k r) ⊎ (fault_at new k r ≡ option_or (fault_at old k r) (added b tested log at k r))
    go k r t is (inl h) = inl h
    go k r false is (inr h) = inl (h ∙ option_or-none (fault_at old k r))
    go k r true is (inr h) = inr (h ∙ ap (λ t. option_or (fault_at old k r) (cond t (Some (reported tested.role (moment log k) r at)) None)) (sym (more k r is)))

-- a refusal at the event
pub waiting-within : (chosen : Rule → Bool) (tested : Tested) (f : Fate) (n at : ℕ) (seen : List Seen) (i : ℕ) (e : Seen) (first old new : FaultMap) → i < length seen → e ≡ get_or seen i e → n ≤ i
    → Gains (λ k r. chosen r && turns_after tested f n (reverse (take i seen)) k r) tested (reverse seen) at first old
    → GainsWithin (λ k r. chosen r && turns_with tested f e (reverse (take i seen)) k r) tested (e ∷ reverse (take i seen)) at old new
    → GainsWithin (λ k r. chosen r && turns_after tested f n (reverse seen) k r) tested (reverse seen) at first new
waiting-within chosen tested f n at seen i e first old new lt is after g h =
    within-more (λ k r. (chosen r && turns_after tested f n (reverse (take i seen)) k r) || (chosen r && turns_with tested f e (reverse (take i seen)) k r)) (λ k r. chosen r && turns_after tested f n (reverse seen) k r) tested (reverse seen) at first new whole
    (within_second (λ k r. chosen r && turns_after tested f n (reverse (take i seen)) k r) (λ k r. chosen r && turns_with tested f e (reverse (take i seen)) k r) tested (reverse seen) at first old new g
    (within_in (λ k r. chosen r && turns_with tested f e (reverse (take i seen)) k r) tested (e ∷ reverse (take i seen)) (reverse seen) at old new (here chosen tested f seen i e lt is) h))
  where
    whole : (k : ℕ) (r : Rule) → ((chosen r && turns_after tested f n (reverse (take i seen)) k r) || (chosen r && turns_with tested f e (reverse (take i seen)) k r)) ≡ true → (chosen r && turns_after tested f n (reverse seen) k r) ≡ true
    whole k r t =
        let both = both_true (chosen r) (turns_after tested f n (reverse (take (i + 1) seen)) k r) (sym (with-one chosen tested f n seen i e lt is after k r) ∙ t) in
        and_true (chosen r) (turns_after tested f n (reverse seen) k r) both.0
        (subst (λ log. turns_after tested f n log k r ≡ true) (beginning seen (i + 1)) (after-stays (λ d past. turns_with tested f d past k r) n (drop (i + 1) seen) (reverse (take (i + 1) seen)) both.1))

-- all of them
pub waiting-whole : (chosen : Rule → Bool) (tested : Tested) (f : Fate) (n at : ℕ) (seen : List Seen) (i : ℕ) (first new : FaultMap) → length seen ≤ i
    → Gains (λ k r. chosen r && turns_after tested f n (reverse (take i seen)) k r) tested (reverse seen) at first new → Gains (λ k r. chosen r && turns_after tested f n (reverse seen) k r) tested (reverse seen) at first new
waiting-whole chosen tested f n at seen i first new le g = subst (λ xs. Gains (λ k r. chosen r && turns_after tested f n (reverse xs) k r) tested (reverse seen) at first new) (take_all i seen le) g

-- ---- the event that decides, and those after it

grows-by : (a : ℕ → Rule → Bool) (chosen : Rule → Bool) (tested : Tested) (e : Seen) (past : List Seen) (at : ℕ) (old new : FaultMap) → at ≡ length past + 1 → ((k : ℕ) (r : Rule) → a k r ≡ (chosen r && turns tested e past k r))
    → Gains a tested (e ∷ past) at old new → GrowsBy chosen tested e past old new
grows-by a chosen tested e past at old new placed same g =
    record { each = (subst (λ n. Gains (λ k r. chosen r && turns tested e past k r) tested (e ∷ past) n old new) placed (gains_same a (λ k r. chosen r && turns tested e past k r) tested (e ∷ past) at old new same g)).each }

grows_by-within : (a : ℕ → Rule → Bool) (chosen : Rule → Bool) (tested : Tested) (e : Seen) (past : List Seen) (at : ℕ) (old new : FaultMap) → at ≡ length past + 1 → ((k : ℕ) (r : Rule) → a k r ≡ (chosen r && turns tested e past k r))
    → GainsWithin a tested (e ∷ past) at old new → GrowsByWithin chosen tested e past old new
grows_by-within a chosen tested e past at old new placed same g =
    record { each = (subst (λ n. GainsWithin (λ k r. chosen r && turns tested e past k r) tested (e ∷ past) n old new) placed (within_same a (λ k r. chosen r && turns tested e past k r) tested (e ∷ past) at old new same g)).each }

-- the event is placed, and its connection is decided by this fate; the others waited
pub record Decides (tested : Tested) (f : Fate) (at n : ℕ) (e : Seen) (past : List Seen) : Type 0 where
  pub placed : at ≡ length past + 1
  pub fate : latest_fate tested.role (e ∷ past) ≡ Some f
  pub settled_so : n ≡ settled tested.role past

-- the pairs that turn out to fail with the event are those of the events that waited, and its own
all-turns : (chosen : Rule → Bool) (tested : Tested) (f : Fate) (at n : ℕ) (e : Seen) (past : List Seen) → AreOnSessions chosen → Decides tested f at n e past → (k : ℕ) (r : Rule)
    → ((chosen r && turns_after tested f n past k r) || (chosen r && turns_with tested f e past k r)) ≡ (chosen r && turns tested e past k r)
all-turns chosen tested f at n e past sessions d k r = either (chosen r) (turns_after tested f n past k r) (turns_with tested f e past k r) ∙ go (chosen r) refl
  where
    go : (c : Bool) → chosen r ≡ c → (c && (turns_after tested f n past k r || turns_with tested f e past k r)) ≡ (c && turns tested e past k r)
    go false is = refl
    go true is = decided-turns tested f n e past k r d.fate d.settled_so (sessions.each tested r is)

-- one event more leaves the moments of those that waited
older : (chosen : Rule → Bool) (tested : Tested) (f : Fate) (n : ℕ) (e : Seen) (past : List Seen) (k : ℕ) (r : Rule) → (chosen r && turns_after tested f n past k r) ≡ true → moment past k ≡ moment (e ∷ past) k
older chosen tested f n e past k r h = moment-same (e ∷ []) past k (after-there tested f n past k r (both_true (chosen r) (turns_after tested f n past k r) h).1)

pub decided-grows : (chosen : Rule → Bool) (tested : Tested) (f : Fate) (at n : ℕ) (e : Seen) (past : List Seen) (first mid new : FaultMap) → AreOnSessions chosen → Decides tested f at n e past
    → Gains (λ k r. chosen r && turns_after tested f n past k r) tested past at first mid → Gains (λ k r. chosen r && turns_with tested f e past k r) tested (e ∷ past) at mid new → GrowsBy chosen tested e past first new
decided-grows chosen tested f at n e past first mid new sessions d g h =
    grows-by (λ k r. (chosen r && turns_after tested f n past k r) || (chosen r && turns_with tested f e past k r)) chosen tested e past at first new d.placed (all-turns chosen tested f at n e past sessions d)
    (gains_then (λ k r. chosen r && turns_after tested f n past k r) (λ k r. chosen r && turns_with tested f e past k r) tested (e ∷ past) at first mid new
    (gains_in (λ k r. chosen r && turns_after tested f n past k r) tested past (e ∷ past) at first mid (older chosen tested f n e past) g) h)

-- a refusal among those that waited, and one at the event itself
pub waited-within : (chosen : Rule → Bool) (tested : Tested) (f : Fate) (at n : ℕ) (e : Seen) (past : List Seen) (first new : FaultMap) → AreOnSessions chosen → Decides tested f at n e past
    → GainsWithin (λ k r. chosen r && turns_after tested f n past k r) tested past at first new → GrowsByWithin chosen tested e past first new
waited-within chosen tested f at n e past first new sessions d g =
    grows_by-within (λ k r. (chosen r && turns_after tested f n past k r) || (chosen r && turns_with tested f e past k r)) chosen tested e past at first new d.placed (all-turns chosen tested f at n e past sessions d)
    (within_first (λ k r. chosen r && turns_after tested f n past k r) (λ k r. chosen r && turns_with tested f e past k r) tested (e ∷ past) at first new
    (within_in (λ k r. chosen r && turns_after tested f n past k r) tested past (e ∷ past) at first new (older chosen tested f n e past) g))

pub decided-within : (chosen : Rule → Bool) (tested : Tested) (f : Fate) (at n : ℕ) (e : Seen) (past : List Seen) (first mid new : FaultMap) → AreOnSessions chosen → Decides tested f at n e past
    → Gains (λ k r. chosen r && turns_after tested f n past k r) tested past at first mid → GainsWithin (λ k r. chosen r && turns_with tested f e past k r) tested (e ∷ past) at mid new → GrowsByWithin chosen tested e past first new
decided-within chosen tested f at n e past first mid new sessions d g h =
    grows_by-within (λ k r. (chosen r && turns_after tested f n past k r) || (chosen r && turns_with tested f e past k r)) chosen tested e past at first new d.placed (all-turns chosen tested f at n e past sessions d)
    (within_second (λ k r. chosen r && turns_after tested f n past k r) (λ k r. chosen r && turns_with tested f e past k r) tested (e ∷ past) at first mid new
    (gains_in (λ k r. chosen r && turns_after tested f n past k r) tested past (e ∷ past) at first mid (older chosen tested f n e past) g) h)

-- ---- an event with which nothing turns out

none-grows : (chosen : Rule → Bool) (tested : Tested) (e : Seen) (past : List Seen) (faults : FaultMap) → ((k : ℕ) (r : Rule) → (chosen r && turns tested e past k r) ≡ false) → GrowsBy chosen tested e past faults faults
none-grows chosen tested e past faults none = record { each = (gains_nothing (λ k r. chosen r && turns tested e past k r) tested (e ∷ past) (length past + 1) faults none).each }

-- it leaves its connection undecided
pub undecided-grows : (chosen : Rule → Bool) (tested : Tested) (e : Seen) (past : List Seen) (faults : FaultMap) → AreOnSessions chosen → latest_fate tested.role (e ∷ past) ≡ None → GrowsBy chosen tested e past faults faults
undecided-grows chosen tested e past faults sessions none = none-grows chosen tested e past faults (λ k r. go k r (chosen r) refl)
  where
    go : (k : ℕ) (r : Rule) (c : Bool) → chosen r ≡ c → (c && turns tested e past k r) ≡ false
    go k r false is = refl
    go k r true is = undecided-turns tested e past k r none (sessions.each tested r is)

-- it comes after what decides its connection, and is quiet
pub passed-grows : (chosen : Rule → Bool) (tested : Tested) (kept : Option Fate) (e : Seen) (past : List Seen) (faults : FaultMap) → AreSilent chosen → AreOnSessions chosen
    → kept ≡ latest_fate tested.role past → is_some kept ≡ true → is_open e.note ≡ false → is_quiet tested.role e.note ≡ true → GrowsBy chosen tested e past faults faults
passed-grows chosen tested kept e past faults silent sessions kept_is decided closed quiet =
    decided-grows chosen tested f (length past + 1) (length past) e past faults faults faults sessions (record {
      placed = refl;
      fate = latest_fate-same tested.role e past closed ∙ ap (λ o. option_or o (gives_fate tested.role (newest e past))) was;
      settled_so = sym (ap (λ o. cond (is_some {T = Fate} o) (length past) (opened_at past)) was);
    })
    (gains_nothing (λ k r. chosen r && turns_after tested f (length past) past k r) tested past (length past + 1) faults
    (λ k r. ap (λ b. chosen r && b) (none-after (λ d older. turns_with tested f d older k r) (length past) past (omega arith)) ∙ and_false (chosen r)))
    (quiet-gains chosen tested f e past (length past + 1) faults silent quiet)
  where
    known : (f : Fate) × (latest_fate tested.role past ≡ Some f)
    known = there (latest_fate tested.role past) (ap is_some (sym kept_is) ∙ decided)

    f : Fate
    f = known.0

    was : latest_fate tested.role past ≡ Some f
    was = known.1
