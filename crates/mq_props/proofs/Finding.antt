-- A line that is found in the source's table is found in its view.
use Rattle.std.proofs.Common.{◌≡◌, ℕ, ◌<◌, Bool, true, false, ◌&&◌, cond, eqb, ltb, List, [], ◌∷◌, Option, None, Some, Bor, refl, sym}
use Rattle.std.specs.Option.{option_map}
use Rattle.std.specs.List.{find, list_all}
use Rattle.std.specs.Prelude.{IfSome}
use Rattle.std.proofs.lemmas.Bool.{ltb-true, eqb-true}
use Rattle.mq_props.specs.declared.table.Place.{Place}
use Rattle.mq_props.specs.declared.table.Range.{Range}
use Rattle.mq_props.specs.declared.table.ValueType.{ValueType}
use Rattle.mq_props.specs.Table.{Line, row_view, rows_of, rows, row_of}

cond-map : {A B : Type 0} (view : A → B) (b : Bool) (x : A) (o : Option A) (q : Option B) → option_map view o ≡ q → option_map view (cond b (Some x) o) ≡ cond b (Some (view x)) q
cond-map view true x o q h = refl
cond-map view false x o q h = h

pub find-view : (id : ℕ) (rows : List (ℕ × ValueType × Range × Bor (List Place))) → option_map row_view (find (λ row. eqb row.0 id) rows) ≡ find (λ (row : Line). eqb row.id id) (rows_of rows)
find-view id [] = refl
find-view id (row ∷ rows) = cond-map row_view (eqb row.0 id) row (find (λ r. eqb r.0 id) rows) (find (λ (r : Line). eqb r.id id) (rows_of rows)) (find-view id rows)

-- what is found passes each test that all pass
found_at : {X : Type 0} (b c : Bool) (y x : X) (rest : Option X) (q : X → Bool) (others : Bool) → q y ≡ c → (others ≡ true → rest ≡ Some x → q x ≡ true) → (c && others) ≡ true → cond b (Some y) rest ≡ Some x → q x ≡ true
found_at b false y x rest q others is later all e = absurd cc
found_at false true y x rest q others is later all e = later all e
found_at true true y x rest q others is later all e = let same : y ≡ x = cc in rw (← same) is

find-all : {X : Type 0} (p q : X → Bool) (xs : List X) (x : X) → list_all q xs ≡ true → find p xs ≡ Some x → q x ≡ true
find-all p q [] x all e = absurd cc
find-all p q (y ∷ ys) x all e = found_at (p y) (q y) y x (find p ys) q (list_all q ys) refl (λ others f. find-all p q ys x others f) all e

-- the identifiers of the table are below 43
pub line_below : (id : ℕ) (o : Option (ℕ × ValueType × Range × Bor (List Place))) → option_map row_view o ≡ row_of id → IfSome o (λ row. row.0 < 43)
unfolding row_of rows
line_below id None e = tt
line_below id (Some row) e = ltb-true row.0 43 (find-all (λ (line : Line). eqb line.id id) (λ line. ltb line.id 43) rows (row_view row) refl (sym e))

passes_at : {X : Type 0} (b : Bool) (y x : X) (rest : Option X) (p : X → Bool) → p y ≡ b → (rest ≡ Some x → p x ≡ true) → cond b (Some y) rest ≡ Some x → p x ≡ true
passes_at false y x rest p is later e = later e
passes_at true y x rest p is later e = let same : y ≡ x = cc in rw (← same) is

-- what is found passes the test that it was found by
find-passes : {X : Type 0} (p : X → Bool) (xs : List X) (x : X) → find p xs ≡ Some x → p x ≡ true
find-passes p [] x e = absurd cc
find-passes p (y ∷ ys) x e = passes_at (p y) y x (find p ys) p refl (λ f. find-passes p ys x f) e

-- the line of an identifier has that identifier
pub line_known : (id : ℕ) (line : Line) → row_of id ≡ Some line → line.id ≡ id
unfolding row_of
line_known id line e = eqb-true line.id id (find-passes (λ (l : Line). eqb l.id id) rows line e)

-- and one below 43
pub known_below : (id : ℕ) (line : Line) → row_of id ≡ Some line → line.id < 43
unfolding row_of rows
known_below id line e = ltb-true line.id 43 (find-all (λ (l : Line). eqb l.id id) (λ l. ltb l.id 43) rows line refl e)
