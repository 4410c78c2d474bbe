-- A handle that isn't held is empty.
use Rattle.std.proofs.Common.{◌≡◌, false, Option, Some, None, is_some, refl, sym}
use Rattle.std.proofs.lemmas.Bool.{false≢true}

pub empty : {A : Type 0} (o : Option A) → is_some o ≡ false → o ≡ None
empty None is = refl
empty (Some x) is = absurd (false≢true (sym is))
