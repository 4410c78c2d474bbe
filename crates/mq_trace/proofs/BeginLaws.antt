-- A piece in two parts, of which the first belongs to the header.
use Rattle.std.proofs.Common.{◌≡◌, ℕ, ◌+◌, ◌-◌, ◌<◌, ◌≤◌, min, ◌⊎◌, inl, inr, List, [], ◌∷◌, ◌++◌, length, refl, sym, ap, ◌∙◌, arith, length-append, append_assoc, append-nil}
use Rattle.mq_log.specs.declared.refusal.Refusal.{Refusal}
use Rattle.mq_trace.specs.declared.reading.Reading.{Reading}
use Rattle.mq_log.specs.Events.{events}
use Rattle.mq_trace.specs.Tracing.{Traced, IsTracedTo, Begins, StopsAt, StopsInHeader}
use Rattle.mq_log.proofs.Exports.{events-header}

-- so many bytes of a piece belong to the header
abbrev pub Heads : List ℕ → List ℕ → List ℕ → Type 0
Heads log header rest = length header ≡ min (8 - length log) (length (header ++ rest))

-- after the first part, either the header is whole or there is no second
header-done : (log header rest : List ℕ) → Heads log header rest → (8 ≤ length (log ++ header)) ⊎ (rest ≡ [])
header-done log header [] heads = inr refl
header-done log header (byte ∷ rest) heads =
    let more : length (byte ∷ rest) ≡ length rest + 1 = omega arith in
    inl (omega (arith, heads, length-append log header, length-append header (byte ∷ rest)))

-- it completes no event
header-quiet : (log header rest : List ℕ) → Heads log header rest → events (log ++ header) ≡ events log
header-quiet log [] rest heads = ap events (append-nil log)
header-quiet log (byte ∷ header) rest heads =
    let more : length (byte ∷ header) ≡ length header + 1 = omega arith in
    let whole : length (log ++ byte ∷ header) ≤ 8 = omega (arith, heads, length-append log (byte ∷ header)) in
    let part : length log ≤ 8 = omega (arith, heads, length-append log (byte ∷ header)) in
    events-header (log ++ byte ∷ header) whole ∙ sym (events-header log part)

pub begins : (tracer : Traced) (log piece header rest : List ℕ) → piece ≡ header ++ rest → Heads log header rest → IsTracedTo tracer (log ++ header) → Begins tracer log piece rest
begins tracer log piece header rest parts heads follows = record {
  taken = header;
  is = parts;
  follows = follows;
  no_event = header-quiet log header rest heads;
  whole = header-done log header rest heads;
}

-- what stops the first part stops the piece, in the header
pub stops_first : (limit : ℕ) (log piece header rest : List ℕ) (reading : Reading) (r : Refusal) → piece ≡ header ++ rest → Heads log header rest
    → StopsAt {S = Unit {0}} (λ _ _. Unit {0}) (λ _ _ _. ⊥) limit log header tt tt reading r → StopsInHeader limit log piece reading r
stops_first limit log piece header rest reading r parts heads stops =
    let s = stops.0 in
    let few : length (log ++ s.taken) < 8 = omega (arith, heads, ap length s.is, length-append s.taken (s.byte ∷ s.later), length-append header rest, length-append log s.taken) in (
      (
        record {
          taken = s.taken;
          byte = s.byte;
          later = s.later ++ rest;
          is = parts ∙ ap (λ (l : List ℕ). l ++ rest) s.is ∙ append_assoc s.taken (s.byte ∷ s.later) rest;
          unrefused = s.unrefused;
          why = s.why;
        },
        stops.1,
      ),
      few,
    )
