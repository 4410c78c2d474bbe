-- The events of a list one after another: what comes before each of them, and what is kept of that.
use Rattle.std.proofs.Common.{◌≡◌, ℕ, ◌+◌, ◌<◌, Bool, true, false, cond, ◌||◌, List, [], ◌∷◌, ◌++◌, length, take, drop, get_or, Option, Some, None, refl, ap, sym, ◌∙◌, subst}
use Rattle.std.specs.Prelude.{is_some, reverse}
use Rattle.std.proofs.lemmas.List.{length-reverse, reverse-append, take-append-drop}
use Rattle.std.specs.Option.{option_or}
use Rattle.mq_rules.specs.declared.role.Role.{Role}
use Rattle.mq_rules.specs.declared.note.Note.{Note}
use Rattle.mq_rules.specs.declared.note.Seen.{Seen}
use Rattle.mq_rules.specs.declared.fate.Fate.{Fate}
use Rattle.mq_rules.specs.Notes.{is_open}
use Rattle.mq_rules.specs.Moments.{IsPlaced, newest}
use Rattle.mq_rules.specs.Connections.{latest_fate, gives_fate}
use Rattle.mq_rules.proofs.Exports.{latest_fate-next, newest-first, or-turn}
use Rattle.mq_plain.specs.declared.pass.Kept.{Kept}
use Rattle.mq_plain.specs.Events.{asks, some_asks}
use Rattle.mq_plain.specs.Waiting.{opened_at, settled, IsKept}

-- ---- a list that is read from its front

-- a list and its beginning
parts : (xs : List Seen) (i : ℕ) → reverse xs ≡ reverse (drop i xs) ++ reverse (take i xs)
parts xs i = ap reverse (sym (take-append-drop i xs)) ∙ reverse-append (take i xs) (drop i xs)

-- what holds of a list holds of its tails
tails : (P : List Seen → Type 0) → ((e : Seen) (past : List Seen) → P (e ∷ past) → P past) → (later past : List Seen) → P (later ++ past) → P past
tails P tail [] past h = h
tails P tail (e ∷ later) past h = tails P tail later past (tail e (later ++ past) h)

pub placed-beginning : (xs : List Seen) (i : ℕ) → IsPlaced (reverse xs) → IsPlaced (reverse (take i xs))
placed-beginning xs i h = tails IsPlaced (λ e past p. p.1) (reverse (drop i xs)) (reverse (take i xs)) (subst IsPlaced (parts xs i) h)

-- the event at place i and those before it have their places
pub placed-here : (xs : List Seen) (i : ℕ) (e : Seen) → i < length xs → e ≡ get_or xs i e → IsPlaced (reverse xs) → IsPlaced (e ∷ reverse (take i xs))
placed-here xs i e lt is placed = subst IsPlaced (newest-first xs i e lt is) (placed-beginning xs (i + 1) placed)

neither : (a b : Bool) → (a || b) ≡ false → b ≡ false
neither true b h = absurd (cc)
neither false b h = h

-- where none asks, none of the first ones does
pub unasked-beginning : (xs : List Seen) (i : ℕ) → some_asks (reverse xs) ≡ false → some_asks (reverse (take i xs)) ≡ false
unasked-beginning xs i h =
    tails (λ log. some_asks log ≡ false) (λ e past p. neither (asks e.note) (some_asks past) p) (reverse (drop i xs)) (reverse (take i xs)) (subst (λ log. some_asks log ≡ false) (parts xs i) h)

-- ---- what is kept

-- the fate of the latest connection with one event more
pub kept-fate : (role : Role) (e : Seen) (past : List Seen) (kept : Kept) (after : Option Fate) → IsKept kept role past → after ≡ cond (is_open e.note) None (option_or kept.fate (gives_fate role (newest e past)))
    → latest_fate role (e ∷ past) ≡ after
kept-fate role e past kept after was is = latest_fate-next role e past ∙ ap (λ f. cond (is_open e.note) None (option_or f (gives_fate role (newest e past)))) (sym was.fate) ∙ sym is

-- how many events don't wait
pub kept-settled : (role : Role) (before : List Seen) (kept : Kept) (n : ℕ) → IsKept kept role (reverse before) → n ≡ cond (is_some kept.fate) (length before) kept.opened → n ≡ settled role (reverse before)
kept-settled role before kept n was is =
    is ∙ ap (λ f. cond (is_some f) (length before) kept.opened) was.fate
    ∙ ap (λ m. cond (is_some (latest_fate role (reverse before))) m kept.opened) (sym (length-reverse before))
    ∙ ap (λ m. cond (is_some (latest_fate role (reverse before))) (length (reverse before)) m) was.opened

pub kept-unasked : (role : Role) (past : List Seen) (kept : Kept) → IsKept kept role past → kept.asked ≡ false → some_asks past ≡ false
kept-unasked role past kept was unasked = sym was.asked ∙ unasked

pub kept-step : (role : Role) (seen : List Seen) (i : ℕ) (e : Seen) (kept after : Kept) → i < length seen → e ≡ get_or seen i e → IsKept kept role (reverse (take i seen))
    → after.fate ≡ cond (is_open e.note) None (option_or kept.fate (gives_fate role (newest e (reverse (take i seen))))) → after.opened ≡ cond (is_open e.note) (length (take i seen)) kept.opened → after.asked ≡ (kept.asked || asks e.note)
    → IsKept after role (reverse (take (i + 1) seen))
kept-step role seen i e kept after lt is was fate_so opened_so asked_so = record {
  fate = fate_so ∙ ap (λ f. cond (is_open e.note) None (option_or f (gives_fate role (newest e (reverse (take i seen)))))) was.fate ∙ sym (latest_fate-next role e (reverse (take i seen))) ∙ ap (latest_fate role) next;
  opened = opened_so ∙ ap (λ n. cond (is_open e.note) n kept.opened) (sym (length-reverse (take i seen))) ∙ ap (λ n. cond (is_open e.note) (length (reverse (take i seen))) n) was.opened ∙ ap opened_at next;
  asked = asked_so ∙ ap (λ b. b || asks e.note) was.asked ∙ or-turn (some_asks (reverse (take i seen))) (asks e.note) ∙ ap some_asks next;
}
  where
    next : e ∷ reverse (take i seen) ≡ reverse (take (i + 1) seen)
    next = sym (newest-first seen i e lt is)

-- an event that begins nothing leaves a fate that is decided
pub fate-kept : (given : Option Fate) (n : Note) (fate : Option Fate) → is_some fate ≡ true → is_open n ≡ false → fate ≡ cond (is_open n) None (option_or fate given)
fate-kept given n None decided goes_on = absurd (cc)
fate-kept given n (Some f) decided goes_on = sym (ap (λ b. cond b None (Some f)) goes_on)

asked-kept : (n : Note) (asked : Bool) → asks n ≡ false → asked ≡ (asked || asks n)
asked-kept n true unasked = refl
asked-kept n false unasked = sym unasked

-- so one that asks nothing leaves all of it
pub kept-stays : (role : Role) (seen : List Seen) (i : ℕ) (e : Seen) (kept : Kept) → i < length seen → e ≡ get_or seen i e → IsKept kept role (reverse (take i seen))
    → is_some kept.fate ≡ true → is_open e.note ≡ false → asks e.note ≡ false → IsKept kept role (reverse (take (i + 1) seen))
kept-stays role seen i e kept lt is was decided goes_on unasked =
    kept-step role seen i e kept kept lt is was (fate-kept (gives_fate role (newest e (reverse (take i seen)))) e.note kept.fate decided goes_on) (sym (ap (λ b. cond b (length (take i seen)) kept.opened) goes_on)) (asked-kept e.note kept.asked unasked)
