-- A log that is read and fed turn by turn.
use Rattle.std.proofs.Common.{◌≡◌, ℕ, List, [], ◌++◌, length, Option, Some, None, refl, sym, ap, subst, ◌∙◌, ◌+◌, ◌*◌, ◌≤◌, append_assoc, append-nil, length-append, IfSome, arith}
use Rattle.std.proofs.Math.Nat.{mul-add, mul-one}
use Rattle.std.specs.Io.KnownBytes.{Consumes, Keeps, IsAtEnd}

pub consumes-nothing : (x : Option (List ℕ)) → Consumes x x []
consumes-nothing None = tt
consumes-nothing (Some xs) = refl

pub consumes-then : (x y z : Option (List ℕ)) (a b : List ℕ) → Consumes x y a → Consumes y z b → Consumes x z (a ++ b)
consumes-then None y z a b h k = tt
consumes-then (Some xs) None z a b h k = absurd h
consumes-then (Some xs) (Some ys) None a b h k = absurd k
consumes-then (Some xs) (Some ys) (Some zs) a b h k = h ∙ ap (λ (t : List ℕ). a ++ t) k ∙ sym (append_assoc a b zs)

pub consumes-kept : (x y z : Option (List ℕ)) (a : List ℕ) → Consumes x y a → Keeps y z → Consumes x z a
consumes-kept None y z a h k = tt
consumes-kept (Some xs) None z a h k = absurd h
consumes-kept (Some xs) (Some ys) None a h k = absurd k
consumes-kept (Some xs) (Some ys) (Some zs) a h k = h ∙ ap (λ (t : List ℕ). a ++ t) (sym k)

-- The feeder has been fed all that was taken from a reader so far, this many bytes.
pub record IsFed {F S : Type 0} (limit : F → ℕ) (follows : F → S → List ℕ → Type 0) (first : ℕ) (old new : Option (List ℕ)) (feeder : F) (sink : S) (fed : ℕ) : Type 0 where
  pub log : List ℕ
  pub consumed : Consumes old new log
  pub followed : follows feeder sink log
  pub within : limit feeder ≡ first
  pub count : fed ≡ length log

-- There is room for what was taken in so far and for all that the turns that are left may give.
pub record HasRoom (fed left turns length : ℕ) : Type 0 where
  pub most : (room : ℕ) → length ≤ room → fed + room * left ≤ room * turns

-- a turn that gives this many bytes
pub room-after : (fed left before turns length count : ℕ) → HasRoom fed before turns length → before ≡ left + 1 → count ≤ length → HasRoom (fed + count) left turns length
room-after fed left before turns length count had one few = record {
  most = λ room within.
      let all : fed + room * before ≤ room * turns = had.most room within in
      let step : room * before ≡ room * left + room = ap (λ (n : ℕ). room * n) one ∙ mul-add room left 1 ∙ ap (λ (n : ℕ). room * left + n) (mul-one room) in
      omega (arith, all, step, few, within);
}

-- all that was taken, with the piece that this turn gave
pub few-taken : (fed before left turns length_of count room : ℕ) (log piece : List ℕ) → HasRoom fed before turns length_of → fed ≡ length log → before ≡ left + 1
    → count ≤ length_of → length piece ≡ count → length_of ≤ room → length (log ++ piece) ≤ room * turns
few-taken fed before left turns length_of count room log piece had is one few short within =
    let all : (fed + count) + room * left ≤ room * turns = (room-after fed left before turns length_of count had one few).most room within in
    let whole : length (log ++ piece) ≡ length log + length piece = length-append log piece in
    omega (arith, all, is, short, whole)

-- what was taken up to the end is the whole
pub whole-taken : (x y : Option (List ℕ)) (log : List ℕ) (P : List ℕ → Type 0) → Consumes x y log → IsAtEnd y → P log → IfSome x P
whole-taken None y log P h end p = tt
whole-taken (Some xs) None log P h end p = absurd h
whole-taken (Some xs) (Some ys) log P h end p =
    let same : xs ≡ log = h ∙ ap (λ (t : List ℕ). log ++ t) end ∙ append-nil log in
    subst P (sym same) p

-- what was taken before is a beginning of the whole
pub some-taken : (x y : Option (List ℕ)) (log : List ℕ) (P : List ℕ → Option (List ℕ) → Type 0) → Consumes x y log
    → ((left : List ℕ) → P (log ++ left) (Some left)) → IfSome x (λ whole. P whole y)
some-taken None y log P h p = tt
some-taken (Some xs) None log P h p = absurd h
some-taken (Some xs) (Some ys) log P h p = subst (λ (l : List ℕ). P l (Some ys)) (sym h) (p ys)

-- a piece in two parts, between what was taken before and what is left
pub pieces-are : (log piece taken rest left : List ℕ) → piece ≡ taken ++ rest → (log ++ piece) ++ left ≡ (log ++ taken) ++ (rest ++ left)
pieces-are log piece taken rest left is =
    append_assoc log piece left
    ∙ ap (λ (l : List ℕ). log ++ (l ++ left)) is
    ∙ ap (λ (l : List ℕ). log ++ l) (append_assoc taken rest left)
    ∙ sym (append_assoc log taken (rest ++ left))
