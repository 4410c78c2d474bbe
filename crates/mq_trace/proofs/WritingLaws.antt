-- Bytes that are written piece by piece.
use Rattle.std.proofs.lemmas.List.{take_all, length-append}
use Rattle.std.proofs.Common.{◌≡◌, ℕ, zero, suc, ◌-◌, subst, length-drop, OnErr, Result, Ok, Err, List, [], ◌∷◌, ◌++◌, length, take, drop, Option, Some, None, refl, sym, ap, ◌∙◌, append_assoc, append-nil, arith}
use Rattle.std.specs.Io.KnownBytes.{Appends, Keeps}
use Rattle.mq_trace.specs.Writing.{AppendsBeginning, LeavesToWrite}

pub appends-nothing : (x : Option (List ℕ)) → Appends x x []
appends-nothing None = tt
appends-nothing (Some xs) = sym (append-nil xs)

pub appends-kept : (x y : Option (List ℕ)) → Keeps x y → Appends x y []
appends-kept None y h = tt
appends-kept (Some xs) None h = absurd h
appends-kept (Some xs) (Some ys) h = h ∙ sym (append-nil xs)

pub appends-then : (x y z : Option (List ℕ)) (a b : List ℕ) → Appends x y a → Appends y z b → Appends x z (a ++ b)
appends-then None y z a b h k = tt
appends-then (Some xs) None z a b h k = absurd h
appends-then (Some xs) (Some ys) None a b h k = absurd k
appends-then (Some xs) (Some ys) (Some zs) a b h k = k ∙ ap (λ (t : List ℕ). t ++ b) h ∙ append_assoc xs a b

take-drop-whole : (n : ℕ) (xs : List ℕ) → xs ≡ take n xs ++ drop n xs
take-drop-whole zero xs = refl
take-drop-whole (suc n) [] = refl
take-drop-whole (suc n) (x ∷ xs) = ap (λ z. x ∷ z) (take-drop-whole n xs)

pub take-left : (n : ℕ) (xs : List ℕ) → take (length xs - n) (drop n xs) ≡ drop n xs
take-left n xs = take_all (length xs - n) (drop n xs) (omega (arith, length-drop n xs))

pub all-left : (x : Option (List ℕ)) (whole : List ℕ) → LeavesToWrite x x whole whole
all-left x whole = record { written = []; parts = refl; appended = appends-nothing x }

pub piece-written : {x y z : Option (List ℕ)} {whole : List ℕ} (piece rest : List ℕ)
    → LeavesToWrite x y whole (piece ++ rest) → Appends y z piece → LeavesToWrite x z whole rest
piece-written {x} {y} {z} piece rest so_far more = record {
  written = so_far.written ++ piece;
  parts = so_far.parts ∙ sym (append_assoc so_far.written piece rest);
  appended = appends-then x y z so_far.written piece so_far.appended more;
}

pub last-written : {x y : Option (List ℕ)} (z : Option (List ℕ)) {whole : List ℕ} (piece : List ℕ)
    → LeavesToWrite x y whole piece → Appends y z piece → Appends x z whole
last-written {x} {y} z piece so_far more = rw so_far.parts (appends-then x y z so_far.written piece so_far.appended more)

-- a write took the first n bytes of the rest
pub some-written : {x y z : Option (List ℕ)} {whole : List ℕ} (n : ℕ) (rest : List ℕ)
    → LeavesToWrite x y whole rest → Appends y z (take n rest) → LeavesToWrite x z whole (take (length rest - n) (drop n rest))
some-written {x} {y} {z} {whole} n rest so_far more =
    let split : LeavesToWrite x y whole (take n rest ++ drop n rest) = subst (LeavesToWrite x y whole) (take-drop-whole n rest) so_far in
    subst (LeavesToWrite x z whole) (sym (take-left n rest)) (piece-written (take n rest) (drop n rest) split more)

-- of two pieces the first was written in part
pub stopped-in-front : {x y : Option (List ℕ)} (front back : List ℕ) → AppendsBeginning x y front → AppendsBeginning x y (front ++ back)
stopped-in-front front back part = record {
  written = part.written;
  unwritten = part.unwritten ++ back;
  whole = ap (λ (t : List ℕ). t ++ back) part.whole ∙ append_assoc part.written part.unwritten back;
  some = omega (arith, part.some, length-append part.unwritten back);
  appended = part.appended;
}

-- of two pieces the first was written, and the second in part
pub stopped-in-back : {x y z : Option (List ℕ)} (front back : List ℕ) → Appends x y front → AppendsBeginning y z back → AppendsBeginning x z (front ++ back)
stopped-in-back {x} {y} {z} front back before part = record {
  written = front ++ part.written;
  unwritten = part.unwritten;
  whole = ap (λ (t : List ℕ). front ++ t) part.whole ∙ sym (append_assoc front part.written part.unwritten);
  some = part.some;
  appended = appends-then x y z front part.written before part.appended;
}

pub stopped-in-last : {x y : Option (List ℕ)} (z : Option (List ℕ)) {whole : List ℕ} (piece : List ℕ)
    → LeavesToWrite x y whole piece → AppendsBeginning y z piece → AppendsBeginning x z whole
stopped-in-last z piece so_far part = rw so_far.parts (stopped-in-back so_far.written piece so_far.appended part)

pub stopped-in-piece : {x y : Option (List ℕ)} (z : Option (List ℕ)) {whole : List ℕ} (piece rest : List ℕ)
    → LeavesToWrite x y whole (piece ++ rest) → AppendsBeginning y z piece → AppendsBeginning x z whole
stopped-in-piece z piece rest so_far part = stopped-in-last z (piece ++ rest) so_far (stopped-in-front piece rest part)

-- a fact that holds anyway holds of an error
pub on-err : {T E X : Type 0} (answer : Result T E) → X → OnErr answer X
on-err (Ok value) holds = tt
on-err (Err fault) holds = holds
