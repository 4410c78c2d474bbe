-- Judging a statement that a later event shows: the faults of the places that one event shows, and what they are to the statement.
use Rattle.std.proofs.Common.{◌≡◌, ℕ, zero, suc, ◌+◌, ◌<◌, ◌==◌, Bool, true, false, cond, ◌&&◌, ◌||◌, not, List, [], ◌∷◌, length, take, get_or, Option, Some, None, refl, ap, sym, ◌∙◌, subst, arith, ◌⊎◌, inl, inr}
use Rattle.std.specs.Prelude.{option_map, is_some}
use Rattle.std.specs.List.{list_any, AllByRecursion}
use Rattle.std.proofs.lemmas.Bool.{eqb-true, eq-eqb}
use Rattle.std.proofs.lemmas.List.Elements.{recursion_from_All}
use Rattle.std.specs.Option.{option_or}
use denote.Enum.Bare.{same_true}
use Rattle.mq_log.specs.declared.place.Place3.{Place3}
use Rattle.mq_rules.specs.contracts.rule.Rule.{the_type}
use Rattle.mq_rules.specs.declared.role.Tested.{Tested}
use Rattle.mq_rules.specs.declared.rule.Rule.{Rule}
use Rattle.mq_rules.specs.declared.fate.Fate.{Fate}
use Rattle.mq_rules.specs.declared.note.Seen.{Seen}
use Rattle.mq_rules.specs.declared.fault.Fault.{Fault}
use Rattle.mq_rules.specs.Words.{is_some_and}
use Rattle.mq_rules.specs.Moments.{Moment, newest, moment}
use Rattle.mq_rules.specs.Connections.{is_binding}
use Rattle.mq_rules.specs.Rules.{binds, same_rule}
use Rattle.mq_rules.specs.Statements.{statement, at_rest}
use Rattle.mq_rules.specs.Under.{shows_with, turns_with}
use Rattle.mq_rules.specs.FaultKeys.{FaultMap, fault_at, with_fault}
use Rattle.mq_rules.specs.Faults.{record_of, offset_of, reported}
use Rattle.mq_rules.specs.Growing.{added, Gains, GainsWithin}
use Rattle.mq_rules.proofs.Exports.{and_false, option_or-none, same_test, fault_at-with_fault, moment-stays}
use Rattle.mq_plain.specs.Shown.{IsShown}
use Rattle.mq_plain.proofs.JudgedLaws.{IsPlain}
use Rattle.mq_plain.specs.Blames.{place_at, decided_by, Blames, BlamesWithin}

-- ---- one place after another

-- one place more is given where none before it has its position
place_at-more : (places : List Place3) (i k : ℕ) (d : Place3) → i < length places
    → place_at k (take (suc i) places) ≡ option_or (place_at k (take i places)) (cond (k == (get_or places i d).position) (Some (get_or places i d)) None)
place_at-more [] i k d h = absurd (omega arith)
place_at-more (p ∷ places) zero k d h = refl
place_at-more (p ∷ places) (suc i) k d h = go (k == p.position) (let lt : i < length places = omega arith in place_at-more places i k d lt)
  where
    go : (b : Bool) → place_at k (take (suc i) places) ≡ option_or (place_at k (take i places)) (cond (k == (get_or places i d).position) (Some (get_or places i d)) None)
        → cond b (Some p) (place_at k (take (suc i) places)) ≡ option_or (cond b (Some p) (place_at k (take i places))) (cond (k == (get_or places i d).position) (Some (get_or places i d)) None)
    go true rest = refl
    go false rest = rest

-- what a beginning of the list shows, the list shows
place_at-later : (places : List Place3) (i k : ℕ) (p : Place3) → place_at k (take i places) ≡ Some p → place_at k places ≡ Some p
place_at-later [] zero k p h = h
place_at-later [] (suc i) k p h = h
place_at-later (x ∷ places) zero k p h = absurd (cc)
place_at-later (x ∷ places) (suc i) k p h = go (k == x.position) h (place_at-later places i k p)
  where
    go : (b : Bool) → cond b (Some x) (place_at k (take i places)) ≡ Some p → (place_at k (take i places) ≡ Some p → place_at k places ≡ Some p) → cond b (Some x) (place_at k places) ≡ Some p
    go true h rest = h
    go false h rest = rest h

nothing : (c : Bool) → cond {A = Option Fault} c None None ≡ None
nothing true = refl
nothing false = refl

pub blames-start : (rule : Rule) (decided : ℕ) (faults : FaultMap) → Blames rule decided [] faults faults
blames-start rule decided faults = record { each = λ k r. sym (ap (option_or (fault_at faults k r)) (nothing (same_rule r rule)) ∙ option_or-none (fault_at faults k r)) }

pub blames-more : (rule : Rule) (decided : ℕ) (places : List Place3) (i : ℕ) (d : Place3) (first old new : FaultMap) → i < length places
    → Blames rule decided (take i places) first old → new ≡ with_fault (record { position = (get_or places i d).position; rule = rule }) (decided_by decided (get_or places i d)) old
    → Blames rule decided (take (i + 1) places) first new
blames-more rule decided places i d first old new lt was now = record {
  each = λ k r.
      ap (λ m. fault_at m k r) now ∙ fault_at-with_fault old (get_or places i d).position k rule r (decided_by decided (get_or places i d))
      ∙ ap (λ o. option_or o (cond ((k == (get_or places i d).position) && same_rule r rule) (Some (decided_by decided (get_or places i d))) None)) (was.each k r)
      ∙ go (get_or places i d) (fault_at first k r) (same_rule r rule) (place_at k (take i places)) (k == (get_or places i d).position)
      ∙ ap (λ o. option_or (fault_at first k r) (cond (same_rule r rule) (option_map (decided_by decided) o) None)) (sym (one_more k));
}
  where
    go : (p : Place3) (o : Option Fault) (s : Bool) (q : Option Place3) (t : Bool) → option_or (option_or o (cond s (option_map (decided_by decided) q) None)) (cond (t && s) (Some (decided_by decided p)) None)
        ≡ option_or o (cond s (option_map (decided_by decided) (option_or q (cond t (Some p) None))) None)
    go p (Some f) s q t = refl
    go p None true (Some q) t = refl
    go p None true None true = refl
    go p None true None false = refl
    go p None false q true = refl
    go p None false q false = refl

    one : i + 1 ≡ suc i
    one = omega arith

    one_more : (k : ℕ) → place_at k (take (i + 1) places) ≡ option_or (place_at k (take i places)) (cond (k == (get_or places i d).position) (Some (get_or places i d)) None)
    one_more k = ap (λ n. place_at k (take n places)) one ∙ place_at-more places i k d lt

-- a refusal after the first places
pub blames-part : (rule : Rule) (decided : ℕ) (places : List Place3) (i : ℕ) (old new : FaultMap) → Blames rule decided (take i places) old new → BlamesWithin rule decided places old new
blames-part rule decided places i old new h = record { each = λ k r. go (fault_at new k r) (fault_at old k r) (same_rule r rule) (place_at k (take i places)) (place_at k places) (h.each k r) (place_at-later places i k) }
  where
    go : (x o : Option Fault) (s : Bool) (here whole : Option Place3) → x ≡ option_or o (cond s (option_map (decided_by decided) here) None) → ((p : Place3) → here ≡ Some p → whole ≡ Some p)
        → (x ≡ o) ⊎ (x ≡ option_or o (cond s (option_map (decided_by decided) whole) None))
    go x o false here whole h later = inl (h ∙ option_or-none o)
    go x o true None whole h later = inl (h ∙ option_or-none o)
    go x o true (Some p) whole h later = inr (h ∙ ap (λ q. option_or o (option_map (decided_by decided) q)) (sym (later p refl)))

-- ---- what an event shows of those before it

-- of the pairs that turn out to fail with an event, those of one statement
abbrev pub own_of : Rule → (ℕ → Rule → Bool) → ℕ → Rule → Bool
own_of rule fails k r = same_rule r rule && fails k r

-- the fault of a position that the newest event shows, if the statement is judged there
shown_fault : Bool → (Moment → Bool) → List Seen → ℕ → ℕ → Option Fault
shown_fault judged test past at k = cond (judged && is_some_and test (moment past k)) (Some (record { decided = at; record_no = record_of (moment past k); offset = None })) None

added-own : (tested : Tested) (rule : Rule) (fails : ℕ → Rule → Bool) (judged : Bool) (test : Moment → Bool) (e : Seen) (past : List Seen) (at k : ℕ) (r : Rule) → IsPlain tested rule
    → ((n : ℕ) → fails n rule ≡ (judged && is_some_and test (moment past n)))
    → added (own_of rule fails) tested (e ∷ past) at k r ≡ cond (same_rule r rule) (shown_fault judged test past at k) None
unfolding shown_fault
added-own tested rule fails judged test e past at k r plain fails_so = go (same_rule r rule) refl
  where
    fault_shown : (o : Option Moment) → moment past k ≡ o → (b : Bool)
        → cond (b && is_some_and test o) (Some (record { decided = at; record_no = record_of (moment (e ∷ past) k); offset = None })) None
        ≡ cond {A = Option Fault} (b && is_some_and test o) (Some (record { decided = at; record_no = record_of o; offset = None })) None
    fault_shown None found true = refl
    fault_shown None found false = refl
    fault_shown (Some m) found b = ap (λ x. cond {A = Option Fault} (b && test m) (Some (record { decided = at; record_no = record_of x; offset = None })) None) (moment-stays e past k m found)

    go : (s : Bool) → same_rule r rule ≡ s
        → cond (s && fails k r) (Some (reported tested.role (moment (e ∷ past) k) r at)) None ≡ cond s (shown_fault judged test past at k) None
    go false is = refl
    go true is =
        let one : r ≡ rule = same_true the_type tt r rule is in
        ap (λ q. cond {A = Option Fault} (fails k q) (Some (reported tested.role (moment (e ∷ past) k) q at)) None) one
        ∙ ap (λ o. cond {A = Option Fault} (fails k rule) (Some (record { decided = at; record_no = record_of (moment (e ∷ past) k); offset = o })) None) (plain.offset (moment (e ∷ past) k))
        ∙ ap (λ t. cond {A = Option Fault} t (Some (record { decided = at; record_no = record_of (moment (e ∷ past) k); offset = None })) None) (fails_so k)
        ∙ fault_shown (moment past k) refl judged

-- where it isn't judged, nothing is added
pub shown-none : (tested : Tested) (rule : Rule) (fails : ℕ → Rule → Bool) (judged : Bool) (test : Moment → Bool) (e : Seen) (past : List Seen) (at : ℕ) (faults : FaultMap) → IsPlain tested rule
    → ((n : ℕ) → fails n rule ≡ (judged && is_some_and test (moment past n))) → judged ≡ false → Gains (own_of rule fails) tested (e ∷ past) at faults faults
unfolding shown_fault
shown-none tested rule fails judged test e past at faults plain fails_so none = record {
  each = λ k r. sym (ap (option_or (fault_at faults k r)) (added-own tested rule fails judged test e past at k r plain fails_so
      ∙ ap (λ b. cond (same_rule r rule) (shown_fault b test past at k) None) none ∙ nothing (same_rule r rule)) ∙ option_or-none (fault_at faults k r));
}

same_turned : (a b : ℕ) → (a == b) ≡ (b == a)
same_turned a b = same_test (a == b) (b == a) (λ h. eq-eqb b a (sym (eqb-true a b h))) (λ h. eq-eqb a b (sym (eqb-true b a h)))

-- some place has the position exactly where one is found there
any-place : (k : ℕ) (places : List Place3) → list_any (λ p. p.position == k) places ≡ is_some (place_at k places)
any-place k [] = refl
any-place k (p ∷ places) = ap (λ b. b || list_any (λ q. q.position == k) places) (same_turned p.position k) ∙ go (k == p.position) (any-place k places)
  where
    go : (b : Bool) → list_any (λ q. q.position == k) places ≡ is_some (place_at k places) → (b || list_any (λ q. q.position == k) places) ≡ is_some (cond b (Some p) (place_at k places))
    go true rest = refl
    go false rest = rest

-- what is found has the position, and is one of the places
found-place : (P : Place3 → Type 0) (k : ℕ) (places : List Place3) (p : Place3) → place_at k places ≡ Some p → AllByRecursion P places → (p.position ≡ k) × P p
found-place P k [] p h all = absurd (cc)
found-place P k (x ∷ places) p h all = go (k == x.position) refl h (λ there. found-place P k places p there all.1)
  where
    go : (b : Bool) → (k == x.position) ≡ b → cond b (Some x) (place_at k places) ≡ Some p → (place_at k places ≡ Some p → (p.position ≡ k) × P p) → (p.position ≡ k) × P p
    go true at h rest = let same : x ≡ p = cc in subst (λ q. (q.position ≡ k) × P q) same (sym (eqb-true k x.position at), all.0)
    go false at h rest = rest h

-- the faults that the places give are those that the event shows
shown-places : (test : Moment → Bool) (past : List Seen) (places : List Place3) (decided k : ℕ) → IsShown test past places
    → option_map (decided_by decided) (place_at k places) ≡ shown_fault true test past decided k
unfolding shown_fault
shown-places test past places decided k shown = go (place_at k places) refl (moment past k) refl (sym (any-place k places) ∙ shown.each k)
  where
    own : (p : Place3) → place_at k places ≡ Some p → option_map (λ m. m.event.place) (moment past k) ≡ Some p
    own p at =
        let both = found-place (λ q. option_map (λ m. m.event.place) (moment past q.position) ≡ Some q) k places p at (recursion_from_All _ places shown.own) in
        subst (λ n. option_map (λ m. m.event.place) (moment past n) ≡ Some p) both.0 both.1

    go : (o : Option Place3) → place_at k places ≡ o → (m : Option Moment) → moment past k ≡ m → is_some o ≡ is_some_and test m
        → option_map (decided_by decided) o ≡ cond (is_some_and test m) (Some (record { decided = decided; record_no = record_of m; offset = None })) None
    go None at m is same = ap (λ b. cond {A = Option Fault} b (Some (record { decided = decided; record_no = record_of m; offset = None })) None) same
    go (Some p) at None is same = absurd (cc)
    go (Some p) at (Some m) is same =
        let there : Some m.event.place ≡ Some p = ap (option_map (λ n. n.event.place)) (sym is) ∙ own p at in
        let place : m.event.place ≡ p = cc in
        ap (λ q. Some (decided_by decided q)) (sym place)
        ∙ ap (λ b. cond {A = Option Fault} b (Some (record { decided = decided; record_no = m.event.place.record_no; offset = None })) None) same

added-shown : (tested : Tested) (rule : Rule) (fails : ℕ → Rule → Bool) (judged : Bool) (test : Moment → Bool) (e : Seen) (past : List Seen) (places : List Place3) (decided k : ℕ) (r : Rule) → IsPlain tested rule
    → ((n : ℕ) → fails n rule ≡ (judged && is_some_and test (moment past n))) → judged ≡ true → IsShown test past places
    → cond (same_rule r rule) (option_map (decided_by decided) (place_at k places)) None ≡ added (own_of rule fails) tested (e ∷ past) decided k r
added-shown tested rule fails judged test e past places decided k r plain fails_so is_judged shown =
    ap (λ o. cond (same_rule r rule) o None) (shown-places test past places decided k shown)
    ∙ ap (λ b. cond (same_rule r rule) (shown_fault b test past decided k) None) (sym is_judged)
    ∙ sym (added-own tested rule fails judged test e past decided k r plain fails_so)

-- so the faults grow by what the event shows
pub shown-gains : (tested : Tested) (rule : Rule) (fails : ℕ → Rule → Bool) (judged : Bool) (test : Moment → Bool) (e : Seen) (past : List Seen) (places : List Place3) (decided : ℕ) (old new : FaultMap) → IsPlain tested rule
    → ((n : ℕ) → fails n rule ≡ (judged && is_some_and test (moment past n))) → judged ≡ true → IsShown test past places
    → Blames rule decided places old new → Gains (own_of rule fails) tested (e ∷ past) decided old new
shown-gains tested rule fails judged test e past places decided old new plain fails_so is_judged shown blames = record {
  each = λ k r. blames.each k r ∙ ap (option_or (fault_at old k r)) (added-shown tested rule fails judged test e past places decided k r plain fails_so is_judged shown);
}

pub shown-within : (tested : Tested) (rule : Rule) (fails : ℕ → Rule → Bool) (judged : Bool) (test : Moment → Bool) (e : Seen) (past : List Seen) (places : List Place3) (decided : ℕ) (old new : FaultMap) → IsPlain tested rule
    → ((n : ℕ) → fails n rule ≡ (judged && is_some_and test (moment past n))) → judged ≡ true → IsShown test past places
    → BlamesWithin rule decided places old new → GainsWithin (own_of rule fails) tested (e ∷ past) decided old new
shown-within tested rule fails judged test e past places decided old new plain fails_so is_judged shown blames = record { each = λ k r. go k r (blames.each k r) }
  where
    go : (k : ℕ) (r : Rule) → (fault_at new k r ≡ fault_at old k r) ⊎ (fault_at new k r ≡ option_or (fault_at old k r) (cond (same_rule r rule) (option_map (decided_by decided) (place_at k places)) None))
        → (fault_at new k r ≡ fault_at old k r) ⊎ (fault_at new k r ≡ option_or (fault_at old k r) (added (own_of rule fails) tested (e ∷ past) decided k r))
    go k r (inl same) = inl same
    go k r (inr more) = inr (more ∙ ap (option_or (fault_at old k r)) (added-shown tested rule fails judged test e past places decided k r plain fails_so is_judged shown))

-- ---- what a REST that binds shows

pub rest-plain : (tested : Tested) (rule : Rule) (shows_it : Moment → Moment → Bool) → statement tested.role rule ≡ at_rest shows_it → IsPlain tested rule
rest-plain tested rule shows_it says = record { offset = λ m. ap (λ s. offset_of s m) says }

and-last : (a b c : Bool) → (a && (b && c)) ≡ ((a && b) && c)
and-last true b c = refl
and-last false b c = refl

pub rest-at : (tested : Tested) (rule : Rule) (shows_it : Moment → Moment → Bool) (f : Fate) (e : Seen) (past : List Seen) → statement tested.role rule ≡ at_rest shows_it → (k : ℕ)
    → turns_with tested f e past k rule ≡ ((binds rule tested && is_binding tested.role (newest e past)) && is_some_and (shows_it (newest e past)) (moment past k))
unfolding turns_with
rest-at tested rule shows_it f e past says k =
    ap (λ s. binds rule tested && shows_with tested.role f s e past k) says
    ∙ and-last (binds rule tested) (is_binding tested.role (newest e past)) (is_some_and (shows_it (newest e past)) (moment past k))

-- ---- whether it is judged

pub unbound : (tested : Tested) (rule : Rule) (bound rests : Bool) → bound ≡ binds rule tested → bound ≡ false → (binds rule tested && rests) ≡ false
unbound tested rule bound rests is none = ap (λ b. b && rests) (sym is ∙ none)

pub unbinding : (tested : Tested) (rule : Rule) (e : Seen) (past : List Seen) (rests : Bool) → rests ≡ is_binding tested.role (newest e past) → not rests ≡ true → (binds rule tested && is_binding tested.role (newest e past)) ≡ false
unbinding tested rule e past true is none = absurd (cc)
unbinding tested rule e past false is none = ap (λ b. binds rule tested && b) (sym is) ∙ and_false (binds rule tested)

pub judged-here : (tested : Tested) (rule : Rule) (e : Seen) (past : List Seen) (bound rests : Bool) → bound ≡ binds rule tested → bound ≡ true → rests ≡ is_binding tested.role (newest e past) → not rests ≡ false
    → (binds rule tested && is_binding tested.role (newest e past)) ≡ true
judged-here tested rule e past bound true is there rest_is rested = ap (λ b. b && is_binding tested.role (newest e past)) (sym is ∙ there) ∙ sym rest_is
judged-here tested rule e past bound false is there rest_is rested = absurd (cc)

pub blames-of : (named rule : Rule) (decided : ℕ) (given places : List Place3) (old new : FaultMap) → named ≡ rule → given ≡ places → Blames named decided given old new → Blames rule decided places old new
blames-of named rule decided given places old new names are h = subst (λ r. Blames r decided places old new) names (subst (λ ps. Blames named decided ps old new) are h)

pub blames_within-of : (named rule : Rule) (decided : ℕ) (given places : List Place3) (old new : FaultMap) → named ≡ rule → given ≡ places → BlamesWithin named decided given old new → BlamesWithin rule decided places old new
blames_within-of named rule decided given places old new names are h = subst (λ r. BlamesWithin r decided places old new) names (subst (λ ps. BlamesWithin named decided ps old new) are h)
