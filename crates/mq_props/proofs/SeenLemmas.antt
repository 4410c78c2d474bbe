-- The identifiers seen, after one more.
use Rattle.std.proofs.Common.{◌≡◌, ℕ, ◌<◌, ◌*◌, ◌^◌, ◌%◌, Bool, true, false, ◌||◌, cond, eqb, List, [], ◌∷◌, ◌++◌, bit_or, refl, sym, ap, ◌∙◌, inl, inr}
use Rattle.std.specs.Int.{bit_at, w64}
use Rattle.std.proofs.lemmas.Bool.{cases_eq, eq-eqb, ne_eqb}
use Rattle.std.proofs.lemmas.List.Folds.{list_any-append}
use Rattle.std.proofs.lemmas.Nat.Bits.{bit_at_set_same, bit_at_set_other}
use Rattle.mq_props.specs.Values.{Property}
use Rattle.mq_props.specs.Allowed.{occurs_in}

or_true : (b : Bool) → (b || (true || false)) ≡ true
or_true true = refl
or_true false = refl

or_false : (b : Bool) → (b || (false || false)) ≡ b
or_false true = refl
or_false false = refl

occurs_in-push : (id : ℕ) (ps : List Property) (p : Property) → occurs_in id (ps ++ p ∷ []) ≡ (occurs_in id ps || (eqb p.id id || false))
occurs_in-push id ps p = list_any-append (λ (q : Property). eqb q.id id) ps (p ∷ [])

-- a bit for what occurs
abbrev bit_of : Bool → ℕ
bit_of b = cond b 1 0

pub bit_test : (b : Bool) → eqb (cond b 1 0) 1 ≡ b
bit_test true = refl
bit_test false = refl

occurs_same : (id : ℕ) (ps : List Property) (p : Property) → p.id ≡ id → occurs_in id (ps ++ p ∷ []) ≡ true
occurs_same id ps p same = occurs_in-push id ps p ∙ ap (λ (b : Bool). occurs_in id ps || (b || false)) (eq-eqb p.id id same) ∙ or_true (occurs_in id ps)

occurs_other : (id : ℕ) (ps : List Property) (p : Property) → (p.id ≡ id → ⊥) → occurs_in id (ps ++ p ∷ []) ≡ occurs_in id ps
occurs_other id ps p other = occurs_in-push id ps p ∙ ap (λ (b : Bool). occurs_in id ps || (b || false)) (ne_eqb p.id id other) ∙ or_false (occurs_in id ps)

pub sees_more : (bits k : ℕ) (ps : List Property) (p : Property) → k < 64 → p.id ≡ k → ((id : ℕ) → bit_at bits id ≡ cond (occurs_in id ps) 1 0)
    → (id : ℕ) → bit_at (bit_or bits (1 * 2 ^ k % 2 ^ 64)) id ≡ cond (occurs_in id (ps ++ p ∷ [])) 1 0
sees_more bits k ps p lt same seen id =
    elim (cases_eq id k) [
      | inl e ↦ rw e (bit_at_set_same w64 bits k lt ∙ sym (ap bit_of (occurs_same k ps p same)))
      | inr ne ↦ bit_at_set_other w64 bits k lt id ne ∙ seen id ∙ sym (ap bit_of (occurs_other id ps p (λ e. ne (sym e ∙ same))))
    ]
