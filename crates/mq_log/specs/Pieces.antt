-- Cutting bytes into pieces from the front: whole pieces, as long as there is one, and a rest.
use Rattle.std.specs.Prelude.{◌≡◌, ℕ, zero, suc, List, [], ◌∷◌, ◌++◌, length, take, drop, Option, Some, None, unwrap_or}
use Rattle.std.specs.List.{AllByRecursion, flat_map}

pub record Pieces : Type 0 where
  -- the whole pieces, in order
  pub whole : List (List ℕ)
  -- what is after them: no whole piece is at its front
  pub rest : List ℕ

-- a piece of this size at the front, if there is one, and then the others
abbrev pub with_piece : Option ℕ → List ℕ → Pieces → Pieces
with_piece None bytes others = record { whole = []; rest = bytes }
with_piece (Some size) bytes others = record { whole = take size bytes ∷ others.whole; rest = others.rest }

-- at most this many pieces; `size_at` gives the size of the piece at the front, if a whole one is there
abbrev pub at_most : ℕ → (List ℕ → Option ℕ) → List ℕ → Pieces
at_most zero size_at bytes = record { whole = []; rest = bytes }
at_most (suc n) size_at bytes = with_piece (size_at bytes) bytes (at_most n size_at (drop (unwrap_or (size_at bytes) 0) bytes))

-- all the pieces: there are no more of them than bytes
unfoldable pub pieces : (List ℕ → Option ℕ) → List ℕ → Pieces
pieces size_at bytes = at_most (length bytes) size_at bytes

-- what a cut is: the pieces and the rest joined are the bytes, each piece is a whole one, and the rest doesn't begin with a whole one
pub record AreCut (size_at : List ℕ → Option ℕ) (bytes : List ℕ) (cut : Pieces) : Type 0 where
  pub joined : bytes ≡ flat_map (λ piece. piece) cut.whole ++ cut.rest
  pub each : AllByRecursion (λ piece. size_at piece ≡ Some (length piece)) cut.whole
  pub none : size_at cut.rest ≡ None
