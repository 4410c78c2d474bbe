-- How often statements are put to the test, as rows and in a whole log.
use Rattle.std.proofs.Common.{◌≡◌, ℕ, Bool, true, false, cond, List, [], ◌∷◌, ◌++◌, Option, Some, None, refl, ap, sym, ◌∙◌, ◌<◌, ◌≤◌, ◌+◌, ◌&&◌, ◌||◌, not, add-one, length, map, drop, drop-cons, get_or, append_assoc, subst, arith, nat_lt, Result, Ok, Err}
use Rattle.std.specs.Prelude.{IfOk, IfSome, ◌==◌}
use Rattle.std.specs.List.{flat_map}
use Rattle.std.proofs.lemmas.Bool.{ltb-true, ltb-false}
use Rattle.std.proofs.lemmas.List.{append-nil, drop_all}
use Rattle.mq_log.specs.Events.{Placed, events}
use Rattle.mq_log.specs.Refusals.{is_cut_short}
use Rattle.mq_log.proofs.Exports.{events-header}
use Rattle.mq_rules.proofs.Exports.{places-most}
use Rattle.mq_rules.specs.declared.rule.Rule.{Rule}
use Rattle.mq_rules.specs.declared.rule.Rule.TheVariants.{W01}
use Rattle.mq_rules.specs.declared.role.Further.{Further}
use Rattle.mq_rules.specs.declared.role.Tested.{Tested}
use Rattle.mq_rules.specs.Rules.{all_rules}
use Rattle.mq_rules.specs.Notes.{tested_by, seen}
use Rattle.mq_rules.specs.Statements.{is_on_bytes}
use Rattle.mq_rules.specs.Occasions.{places}
use Rattle.mq_rules.specs.Trials.{places_bytes}
use Rattle.mq_report.specs.declared.report.coverage.Covered.{Covered}
use Rattle.mq_judge.specs.Coverage.{chosen_row, coverage_of, is_listed, listed_row, places_among, places_in, rows_among}

next_rule : (rules : List Rule) (i : ℕ) → i < length rules → drop i rules ≡ get_or rules i W01 ∷ drop (i + 1) rules
next_rule rules i h = rw (add-one, drop-cons rules i W01) refl

-- the row of one statement more
pub row-put : (chosen : Rule → Bool) (tested : Tested) (received : List Placed) (rules : List Rule) (i : ℕ) (old new whole : List Covered) → i < length rules
    → old ++ flat_map (chosen_row chosen tested received) (drop i rules) ≡ whole → new ≡ old ++ chosen_row chosen tested received (get_or rules i W01)
    → new ++ flat_map (chosen_row chosen tested received) (drop (i + 1) rules) ≡ whole
row-put chosen tested received rules i old new whole h so_far more =
    let f = chosen_row chosen tested received in
    let rest = flat_map f (drop (i + 1) rules) in
    ap (λ (rows : List Covered). rows ++ rest) more ∙ append_assoc old (f (get_or rules i W01)) rest
    ∙ ap (λ (l : List Rule). old ++ flat_map f l) (sym (next_rule rules i h)) ∙ so_far

-- all statements have had their turn
pub rows-all : (chosen : Rule → Bool) (tested : Tested) (received : List Placed) (rules : List Rule) (i : ℕ) (rows whole : List Covered) → length rules ≤ i
    → rows ++ flat_map (chosen_row chosen tested received) (drop i rules) ≡ whole → rows ≡ whole
rows-all chosen tested received rules i rows whole h so_far =
    sym (ap (λ (left : List Rule). rows ++ flat_map (chosen_row chosen tested received) left) (drop_all i rules h) ∙ append-nil rows) ∙ so_far

-- a statement has a row if it is listed
pub listed-row-is : (tested : Tested) (received : List Placed) (rule : Rule) (n : ℕ) (listed : Bool) → n ≡ places_among tested received rule
    → listed ≡ is_listed tested rule n → listed_row tested received rule ≡ cond listed (record { rule = rule; places = n } ∷ []) []
listed-row-is tested received rule n listed same says =
    ap (λ (m : ℕ). cond {A = List Covered} (is_listed tested rule m) (record { rule = rule; places = m } ∷ []) []) (sym same)
    ∙ ap (λ (b : Bool). cond {A = List Covered} b (record { rule = rule; places = n } ∷ []) []) (sym says)

-- a statement on a packet's bytes has its places among the packets, and any other one among what was noted of the events
pub among-bytes : (tested : Tested) (received : List Placed) (rule : Rule) (o : Option ℕ) (n : ℕ)
    → o ≡ cond (is_on_bytes tested rule) None (Some (places tested (map seen received) rule)) → o ≡ None → n ≡ places_bytes tested received rule
    → n ≡ places_among tested received rule
among-bytes tested received rule o n is none bytes = bytes ∙ go (is_on_bytes tested rule) refl
  where
    go : (b : Bool) → is_on_bytes tested rule ≡ b → places_bytes tested received rule ≡ cond b (places_bytes tested received rule) (places tested (map seen received) rule)
    go true on = refl
    go false off = absurd (let bad : None ≡ Some (places tested (map seen received) rule) = sym none ∙ is ∙ rw off refl in cc)

pub among-noted : (tested : Tested) (received : List Placed) (rule : Rule) (o : Option ℕ) (n : ℕ)
    → o ≡ cond (is_on_bytes tested rule) None (Some (places tested (map seen received) rule)) → o ≡ Some n
    → n ≡ places_among tested received rule
among-noted tested received rule o n is some = go (is_on_bytes tested rule) refl
  where
    go : (b : Bool) → is_on_bytes tested rule ≡ b → n ≡ cond b (places_bytes tested received rule) (places tested (map seen received) rule)
    go true on = absurd (let bad : Some n ≡ None = sym some ∙ is ∙ rw on refl in cc)
    go false off = let same : Some n ≡ Some (places tested (map seen received) rule) = sym some ∙ is ∙ rw off refl in cc

-- no events have no places
none-among : (tested : Tested) (rule : Rule) → places_among tested [] rule ≡ 0
unfolding places_bytes
none-among tested rule = go (is_on_bytes tested rule)
  where
    none : places tested [] rule ≡ 0
    none = let most = places-most tested [] rule in omega (arith, most)

    go : (b : Bool) → cond b 0 (places tested [] rule) ≡ 0
    go true = refl
    go false = none

-- what is counted for the end that a log's header names is what its statements have
pub named-places : (further : Further) (tested : Tested) (log : List ℕ) (rule : Rule) → (8 ≤ length log → tested ≡ tested_by further log) → places_among tested (events log) rule ≡ places_in further log rule
unfolding places_in
named-places further tested log rule named = go (nat_lt (length log) 8) refl
  where
    go : (b : Bool) → nat_lt (length log) 8 ≡ b → places_among tested (events log) rule ≡ places_among (tested_by further log) (events log) rule
    go true is =
        let short = ltb-true (length log) 8 is in
        let nothing : events log ≡ [] = events-header log (omega (arith, short)) in
        ap (λ (received : List Placed). places_among tested received rule) nothing ∙ none-among tested rule
        ∙ sym (ap (λ (received : List Placed). places_among (tested_by further log) received rule) nothing ∙ none-among (tested_by further log) rule)
    go false is = ap (λ (t : Tested). places_among t (events log) rule) (named (ltb-false (length log) 8 is))

-- a whole log isn't shorter than its header
pub whole-long : (log : List ℕ) → is_cut_short log ≡ false → 8 ≤ length log
unfolding is_cut_short
whole-long log h = go (nat_lt (length log) 8) _ refl h
  where
    go : (b c : Bool) → nat_lt (length log) 8 ≡ b → (b || c) ≡ false → 8 ≤ length log
    go true c is h = absurd (cc)
    go false c is h = ltb-false (length log) 8 is
