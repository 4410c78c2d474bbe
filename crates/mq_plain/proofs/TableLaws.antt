-- One value for each identifier.
use Rattle.std.proofs.Common.{ℕ, zero, suc, ◌≡◌, [], ◌∷◌, ◌++◌, replicate, get_or, refl, ap}

pub of_replicate : {A : Type 0} → (n i : ℕ) (a : A) → get_or (replicate n a) i a ≡ a
of_replicate zero i a = refl
of_replicate (suc n) zero a = refl
of_replicate (suc n) (suc i) a = of_replicate n i a

pub one_more : {A : Type 0} → (n : ℕ) (a : A) → replicate n a ++ a ∷ [] ≡ replicate (suc n) a
one_more zero a = refl
one_more (suc n) a = ap (λ xs. a ∷ xs) (one_more n a)
