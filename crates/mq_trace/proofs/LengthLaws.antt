-- A record's kind and length, byte by byte, for a reader of events and for a copier.
use Rattle.std.proofs.Common.{◌≡◌, ℕ, ◌+◌, ◌*◌, ◌<◌, List, [], ◌∷◌, ◌++◌, length, refl, sym, ◌∙◌, ap, arith, zero, suc, length-append}
use Rattle.std.specs.Int.{w32, from_be_bytes}
use Rattle.mq_log.specs.declared.kind.RecordKind.{RecordKind}
use Rattle.mq_log.specs.Framing.{body_length, spelled_from}
use Rattle.mq_log.proofs.Exports.{kind_of-append}
use Rattle.mq_trace.specs.Heads.{IsHead, IsWithinHead, head_of}
use Rattle.mq_trace.proofs.StepLaws.{fifth_length}

-- what one byte more spells
pub spelled_more : (number : ℕ) (bytes : List ℕ) (b : ℕ) → spelled_from number (bytes ++ b ∷ []) ≡ spelled_from number bytes * 256 + b
spelled_more number [] b = refl
spelled_more number (x ∷ bytes) b = spelled_more (number * 256 + x) bytes b

-- the length that the four bytes after a record's first one say
fourth : (first : ℕ) (bytes : List ℕ) (b : ℕ) → length bytes ≡ 3 → body_length ((first ∷ bytes) ++ b ∷ []) ≡ spelled_from 0 bytes * 256 + b
fourth first [] b e = absurd (omega arith)
fourth first (x ∷ []) b e = absurd (omega arith)
fourth first (x ∷ y ∷ []) b e = absurd (omega arith)
fourth first (x ∷ y ∷ z ∷ []) b e = fifth_length first x y z b ∙ (let same : from_be_bytes w32 (x ∷ y ∷ z ∷ b ∷ []) ≡ (((0 * 256 + x) * 256 + y) * 256 + z) * 256 + b = omega arith in same)
fourth first (x ∷ y ∷ z ∷ w ∷ bytes) b e = absurd (omega arith)

small_of : (count number : ℕ) → count < 3 → (count ≡ 0 → number ≡ 0) → (count ≡ 1 → number < 256) → (count ≡ 2 → number < 65536) → number < 65536
small_of zero number few a b c = let is = a refl in omega arith
small_of (suc zero) number few a b c = let is = b refl in omega arith
small_of (suc (suc zero)) number few a b c = c refl
small_of (suc (suc (suc count))) number few a b c = absurd (omega arith)

-- how many bytes of the record came
pub head_size : (kind : RecordKind) (count number : ℕ) (part : List ℕ) → IsHead (head_of kind count number) part → length part ≡ 1 + count
head_size kind count number part h = let l : length part ≡ length (h.0 ∷ h.1) = ap length h.2 in let n : length h.1 ≡ count = h.4 in omega arith

module _ (kind : RecordKind) (count number b : ℕ) where
  -- A byte of the length that isn't its last one.
  pub longer_head : (part : List ℕ) → IsHead (head_of kind count number) part → IsHead (head_of kind (count + 1) (number * 256 + b)) (part ++ b ∷ [])
  longer_head part h =
      let l = head_size kind count number part h in
      let n : length h.1 ≡ count = h.4 in
      let more = length-append h.1 (b ∷ []) in
      (h.0, h.1 ++ b ∷ [], ap (λ p. p ++ b ∷ []) h.2, kind_of-append part (b ∷ []) (omega arith) ∙ h.3, omega arith, ap (λ m. m * 256 + b) h.5 ∙ sym (spelled_more 0 h.1 b))

  pub longer_within : IsWithinHead (head_of kind count number) → count < 3 → b < 256 → IsWithinHead (head_of kind (count + 1) (number * 256 + b))
  longer_within bounds few byte =
      let small : number < 65536 = small_of count number few bounds.1.0 bounds.1.1 bounds.1.2 in
      (omega arith, (λ e. absurd (omega arith), λ e. (let none : number ≡ 0 = bounds.1.0 (omega arith) in omega arith), λ e. (let less : number < 256 = bounds.1.1 (omega arith) in omega arith), omega arith))

  -- Its last byte.
  pub whole_length : (part : List ℕ) → count ≡ 3 → IsHead (head_of kind count number) part → body_length (part ++ b ∷ []) ≡ number * 256 + b
  whole_length part last h =
      ap (λ p. body_length (p ++ b ∷ [])) h.2
      ∙ fourth h.0 h.1 b (h.4 ∙ last)
      ∙ ap (λ m. m * 256 + b) (sym h.5)
