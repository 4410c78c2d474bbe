-- Whether some property of a list is such, property by property.
use Rattle.std.proofs.Common.{◌≡◌, ℕ, Bool, true, false, not, ◌&&◌, ◌||◌, ◌==◌, List, [], ◌∷◌, None, Some, refl, sym, ap, ◌∙◌}
use Rattle.std.specs.List.{find, list_any}
use Rattle.std.proofs.lemmas.Bool.{eqb-true, eqb-false, eq-eqb, ne_eqb}
use Rattle.mq_wire.specs.Left.{Left}
use Rattle.mq_props.specs.Values.{Property}
use Rattle.mq_props.specs.Reading.{item_on, items_on}
use Rattle.mq_props.specs.Having.{any_property, in_line, is_textual, is_restricted, has_text, has_range}
use Rattle.mq_props.specs.Allowed.{occurs_in}
use Rattle.mq_props.specs.Table.{Line, row_of, rows}
use Rattle.mq_props.proofs.Items.{items_on-some, items_on-none}

or_by : (a b whole : Bool) → (a || b) ≡ whole → a ≡ false → b ≡ whole
or_by true b whole e never = absurd cc
or_by false b whole e never = e

or_with : (a b whole : Bool) → (a || b) ≡ whole → a ≡ true → true ≡ whole
or_with true b whole e holds = e
or_with false b whole e holds = absurd cc

-- the first property isn't such
pub any_passes : (test : ℕ → Bool) (left : Left) (p : Property) (new : Left) (whole : Bool) → item_on left ≡ Some (p, new) → test p.id ≡ false → any_property test (items_on left) ≡ whole → any_property test (items_on new) ≡ whole
any_passes test left p new whole e never so_far = or_by (test p.id) (any_property test (items_on new)) whole (sym (ap (any_property test) (items_on-some left p new e)) ∙ so_far) never

-- the first property is
pub any_found : (test : ℕ → Bool) (left : Left) (p : Property) (new : Left) (whole : Bool) → item_on left ≡ Some (p, new) → test p.id ≡ true → any_property test (items_on left) ≡ whole → true ≡ whole
any_found test left p new whole e holds so_far = or_with (test p.id) (any_property test (items_on new)) whole (sym (ap (any_property test) (items_on-some left p new e)) ∙ so_far) holds

-- there is no property any more
pub any_none : (test : ℕ → Bool) (left : Left) (whole : Bool) → item_on left ≡ None → any_property test (items_on left) ≡ whole → false ≡ whole
any_none test left whole e so_far = sym (ap (any_property test) (items_on-none left e)) ∙ so_far

-- ---- by the identifiers that the table gives

-- no two lines have the same identifier
abbrev distinct : List Line → Bool
distinct [] = true
distinct (line ∷ rest) = not (list_any (λ other. other.id == line.id) rest) && distinct rest

no_such : (test : Line → Bool) (id : ℕ) (lines : List Line) → list_any (λ line. line.id == id) lines ≡ false → list_any (λ line. test line && (line.id == id)) lines ≡ false
no_such test id [] none = refl
no_such test id (line ∷ rest) none = passes (test line) (line.id == id) _ _ none (no_such test id rest)
  where
    passes : (t e there such : Bool) → (e || there) ≡ false → (there ≡ false → such ≡ false) → ((t && e) || such) ≡ false
    passes t true there such never later = absurd cc
    passes true false there such never later = later never
    passes false false there such never later = later never

-- the line of an identifier is such exactly if some line is, and has it
line_any : (test : Line → Bool) (id : ℕ) (lines : List Line) → distinct lines ≡ true → in_line test (find (λ line. line.id == id) lines) ≡ list_any (λ line. test line && (line.id == id)) lines
line_any test id [] differ = refl
line_any test id (line ∷ rest) differ = by_cases (line.id == id) refl (line_any test id rest)
  where
    alone : (there more : Bool) → (not there && more) ≡ true → there ≡ false
    alone true more e = absurd cc
    alone false more e = refl

    others : (there more : Bool) → (not there && more) ≡ true → more ≡ true
    others true more e = absurd cc
    others false more e = e

    with_it : (t such : Bool) → such ≡ false → t ≡ ((t && true) || such)
    with_it true such e = refl
    with_it false such e = sym e

    without_it : (t such : Bool) → such ≡ ((t && false) || such)
    without_it true such = refl
    without_it false such = refl

    by_cases : (b : Bool) → (line.id == id) ≡ b → (distinct rest ≡ true → in_line test (find (λ other. other.id == id) rest) ≡ list_any (λ other. test other && (other.id == id)) rest) → in_line test (find (λ other. other.id == id) (line ∷ rest)) ≡ list_any (λ other. test other && (other.id == id)) (line ∷ rest)
    by_cases true e later =
        let only = ap (λ (k : ℕ). list_any (λ other. other.id == k) rest) (sym (eqb-true line.id id e)) ∙ alone _ _ differ in
        rw e (with_it (test line) _ (no_such test id rest only))
    by_cases false e later = rw e (later (others _ _ differ) ∙ without_it (test line) _)

flip : (a b : ℕ) → (a == b) ≡ (b == a)
flip a b = by_cases (a == b) refl
  where
    by_cases : (x : Bool) → (a == b) ≡ x → (a == b) ≡ (b == a)
    by_cases true e = e ∙ sym (eq-eqb b a (sym (eqb-true a b e)))
    by_cases false e = e ∙ sym (ne_eqb b a (λ same. eqb-false a b e (sym same)))

-- ---- an identifier that one of several is

abbrev any_of : List ℕ → ℕ → Bool
any_of ids id = list_any (λ k. k == id) ids

nothing_any : (ids : List ℕ) → list_any (λ k. occurs_in k []) ids ≡ false
nothing_any [] = refl
nothing_any (k ∷ ids) = nothing_any ids

cross : (a b c d : Bool) → ((a || b) || (c || d)) ≡ ((a || c) || (b || d))
cross true b c d = refl
cross false true true d = refl
cross false true false d = refl
cross false false c d = refl

one_more : (ids : List ℕ) (p : Property) (ps : List Property) → (any_of ids p.id || list_any (λ k. occurs_in k ps) ids) ≡ list_any (λ k. occurs_in k (p ∷ ps)) ids
one_more [] p ps = refl
one_more (k ∷ ids) p ps =
    cross (k == p.id) (any_of ids p.id) (occurs_in k ps) (list_any (λ j. occurs_in j ps) ids)
    ∙ ap (λ (b : Bool). (b || occurs_in k ps) || (any_of ids p.id || list_any (λ j. occurs_in j ps) ids)) (flip k p.id)
    ∙ ap (λ (b : Bool). ((p.id == k) || occurs_in k ps) || b) (one_more ids p ps)

-- some property has one of the identifiers exactly if one of them occurs
any_swapped : (test : ℕ → Bool) (ids : List ℕ) (ps : List Property) → ((id : ℕ) → test id ≡ any_of ids id) → any_property test ps ≡ list_any (λ k. occurs_in k ps) ids
any_swapped test ids [] same = sym (nothing_any ids)
any_swapped test ids (p ∷ ps) same =
    ap (λ (b : Bool). b || any_property test ps) (same p.id)
    ∙ ap (λ (b : Bool). any_of ids p.id || b) (any_swapped test ids ps same)
    ∙ one_more ids p ps

-- the first test, or one of the tests of the others, from the left
abbrev pub either : (ℕ → Bool) → Bool → List ℕ → Bool
either test so_far [] = so_far
either test so_far (k ∷ ids) = either test (so_far || test k) ids

or_false : (b : Bool) → (b || false) ≡ b
or_false true = refl
or_false false = refl

or_again : (a b c : Bool) → (a || (b || c)) ≡ ((a || b) || c)
or_again true b c = refl
or_again false b c = refl

from_left : (test : ℕ → Bool) (so_far : Bool) (ids : List ℕ) → (so_far || list_any test ids) ≡ either test so_far ids
from_left test so_far [] = or_false so_far
from_left test so_far (k ∷ ids) = or_again so_far (test k) (list_any test ids) ∙ from_left test (so_far || test k) ids

-- some property has a text exactly if one of these occurs
pub any_text : (ps : List Property) → any_property has_text ps ≡ either (λ k. occurs_in k ps) (occurs_in 3 ps) (8 ∷ 18 ∷ 21 ∷ 26 ∷ 28 ∷ 31 ∷ 38 ∷ [])
unfolding row_of rows
any_text ps = any_swapped has_text (3 ∷ 8 ∷ 18 ∷ 21 ∷ 26 ∷ 28 ∷ 31 ∷ 38 ∷ []) ps (λ id. line_any (λ line. is_textual line.kind) id rows refl)
    ∙ from_left (λ k. occurs_in k ps) (occurs_in 3 ps) (8 ∷ 18 ∷ 21 ∷ 26 ∷ 28 ∷ 31 ∷ 38 ∷ [])

-- some property has a range exactly if one of these occurs
pub any_range : (ps : List Property) → any_property has_range ps ≡ either (λ k. occurs_in k ps) (occurs_in 11 ps) (23 ∷ 25 ∷ 33 ∷ 35 ∷ 36 ∷ 37 ∷ 39 ∷ 40 ∷ 41 ∷ 42 ∷ [])
unfolding row_of rows
any_range ps = any_swapped has_range (11 ∷ 23 ∷ 25 ∷ 33 ∷ 35 ∷ 36 ∷ 37 ∷ 39 ∷ 40 ∷ 41 ∷ 42 ∷ []) ps (λ id. line_any (λ line. is_restricted line.range) id rows refl)
    ∙ from_left (λ k. occurs_in k ps) (occurs_in 11 ps) (23 ∷ 25 ∷ 33 ∷ 35 ∷ 36 ∷ 37 ∷ 39 ∷ 40 ∷ 41 ∷ 42 ∷ [])
