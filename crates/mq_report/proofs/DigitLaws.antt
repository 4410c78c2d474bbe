-- A number's decimal digits, counted, and written from the last one.
use Rattle.std.proofs.Common.{◌≡◌, ℕ, zero, suc, ◌+◌, ◌-◌, ◌*◌, ◌/◌, ◌%◌, ◌^◌, ◌≤◌, ◌<◌, List, [], ◌∷◌, ◌++◌, length, drop, set, sym, ap, ◌∙◌, arith, append_assoc, append-nil, length-append}
use Rattle.std.proofs.Math.Nat.{pow-succ'}
use Rattle.std.specs.Fmt.{decimal}
use Rattle.std.proofs.lemmas.Fmt.{decimal_digit, decimal_step, decimal_nonempty}
use Rattle.std.proofs.lemmas.List.{drop-set, set_split, drop_all, length-set}

-- a number below ten is its digit
pub digit_alone : (n : ℕ) → n < 10 → decimal n ≡ (48 + n) ∷ []
digit_alone n small = decimal_digit n small

-- it has one
pub one_digit : (n : ℕ) → n < 10 → length (decimal n) ≡ 1
one_digit n small = ap (λ (l : List ℕ). length l) (decimal_digit n small)

-- any other has one more than its tenth
pub digit_more : (n : ℕ) → 10 ≤ n → n < 2 ^ 64 → length (decimal n) ≡ length (decimal (n / 10)) + 1
digit_more n low small =
    ap (λ (l : List ℕ). length l) (decimal_step n low small) ∙ length-append (decimal (n / 10)) ((48 + n % 10) ∷ [])

pow_some : (k : ℕ) → 1 ≤ 10 ^ k
pow_some zero = omega arith
pow_some (suc k) = omega (arith, pow-succ' 10 k, pow_some k)

-- A number has one digit more than the power of ten that it reaches.
pub digits_between : (k n : ℕ) → 10 ^ k ≤ n → n < 10 ^ suc k → n < 2 ^ 64 → length (decimal n) ≡ k + 1
digits_between zero n low high small = one_digit n (omega (arith, pow-succ' 10 0))
digits_between (suc k) n low high small =
    let power : 10 ^ suc k ≡ 10 * 10 ^ k = pow-succ' 10 k in
    let next : 10 ^ suc (suc k) ≡ 10 * 10 ^ suc k = pow-succ' 10 (suc k) in
    let some : 1 ≤ 10 ^ k = pow_some k in
    let tenth : length (decimal (n / 10)) ≡ k + 1 = digits_between k (n / 10) (omega arith) (omega arith) (omega arith) in
    omega (arith, tenth, digit_more n (omega arith) small)

-- Of a number, all digits after the first ones are written: those that the rest has.
pub record LeavesDigits (number rest at : ℕ) (digits : List ℕ) : Type 0 where
  pub count : at ≡ length (decimal rest)
  pub parts : decimal number ≡ decimal rest ++ drop at digits
  pub some : 1 ≤ at
  pub room : at ≤ length digits

pub no_digit_written : (number : ℕ) (digits : List ℕ) → number < 2 ^ 64 → length digits ≡ length (decimal number)
    → LeavesDigits number number (length digits) digits
no_digit_written number digits small room = record {
  count = room;
  parts = sym (ap (λ (l : List ℕ). decimal number ++ l) (drop_all (length digits) digits (omega arith)) ∙ append-nil (decimal number));
  some = omega (arith, decimal_nonempty number small);
  room = omega arith;
}

pub digit_written : (number rest at : ℕ) (digits : List ℕ) → LeavesDigits number rest at digits → 10 ≤ rest → rest < 2 ^ 64
    → LeavesDigits number (rest / 10) (at - 1) (set digits (at - 1) (48 + rest % 10))
digit_written number rest at digits so_far low small =
    let more : length (decimal rest) ≡ length (decimal (rest / 10)) + 1 = digit_more rest low small in
    let some : 1 ≤ length (decimal (rest / 10)) = decimal_nonempty (rest / 10) (omega arith) in
    let before : drop (at - 1) (set digits (at - 1) (48 + rest % 10)) ≡ (48 + rest % 10) ∷ drop (at - 1 + 1) digits =
    drop-set digits (at - 1) (48 + rest % 10) (omega (arith, so_far.room, so_far.some)) in
    let following : drop (at - 1 + 1) digits ≡ drop at digits = ap (λ (k : ℕ). drop k digits) (omega (arith, so_far.some)) in
    let last : decimal rest ≡ decimal (rest / 10) ++ ((48 + rest % 10) ∷ []) = decimal_step rest low small in
    record {
      count = omega (arith, so_far.count, more);
      parts = so_far.parts ∙ ap (λ (l : List ℕ). l ++ drop at digits) last ∙ append_assoc (decimal (rest / 10)) ((48 + rest % 10) ∷ []) (drop at digits)
          ∙ ap (λ (l : List ℕ). decimal (rest / 10) ++ l) (ap (λ (l : List ℕ). (48 + rest % 10) ∷ l) (sym following) ∙ sym before);
      some = omega (arith, so_far.count, more, some);
      room = rw length-set (omega (arith, so_far.room));
    }

-- Two digits at once.
pub two_left : (number rest at : ℕ) (digits : List ℕ) → LeavesDigits number rest at digits → 10 ≤ rest → rest < 2 ^ 64 → 2 ≤ at
two_left number rest at digits so_far low small =
    let more : length (decimal rest) ≡ length (decimal (rest / 10)) + 1 = digit_more rest low small in
    let some : 1 ≤ length (decimal (rest / 10)) = decimal_nonempty (rest / 10) (omega arith) in
    omega (arith, so_far.count, more, some)

pub pair_written : (number rest at : ℕ) (digits : List ℕ) → LeavesDigits number rest at digits → 100 ≤ rest → rest < 2 ^ 64
    → LeavesDigits number (rest / 100) (at - 2) (set (set digits (at - 1) (48 + rest % 100 % 10)) (at - 2) (48 + rest % 100 / 10))
pair_written number rest at digits so_far low small =
    let ones : rest % 100 % 10 ≡ rest % 10 = omega arith in
    let tens : rest % 100 / 10 ≡ rest / 10 % 10 = omega arith in
    let left : rest / 100 ≡ rest / 10 / 10 = omega arith in
    let place : at - 2 ≡ at - 1 - 1 = omega arith in
    let both = digit_written number (rest / 10) (at - 1) (set digits (at - 1) (48 + rest % 10)) (digit_written number rest at digits so_far (omega arith) small) (omega arith) (omega arith) in
    rw (ones, tens, left, place) both

pub last_digit_written : (number rest at : ℕ) (digits : List ℕ) → LeavesDigits number rest at digits → rest < 10
    → set digits (at - 1) (48 + rest) ≡ decimal number
last_digit_written number rest at digits so_far small =
    let first : at ≡ 1 = so_far.count ∙ one_digit rest small in
    ap (λ (k : ℕ). set digits (k - 1) (48 + rest)) first ∙ set_split digits 0 (48 + rest) (omega (arith, so_far.room, so_far.some))
    ∙ sym (so_far.parts ∙ ap (λ (l : List ℕ). l ++ drop at digits) (decimal_digit rest small) ∙ ap (λ (k : ℕ). (48 + rest) ∷ drop k digits) first)
