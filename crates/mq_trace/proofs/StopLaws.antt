-- A refusal has the offset of the byte that isn't taken in, and what is kept of the header is what the bytes before that byte say.
use Rattle.std.proofs.Common.{◌≡◌, ℕ, ◌+◌, ◌<◌, ◌≤◌, ◌==◌, inl, inr, Bool, true, false, cond, nat_lt, arith, List, [], ◌∷◌, ◌++◌, length, length-append, append_assoc, Option, Some, None, refl, sym, ap, ◌∙◌}
use Rattle.std.specs.Prelude.{slice_index, if◌then◌else◌}
use Rattle.std.proofs.lemmas.Bool.{ltb-true, ltb-false, le-ltb}
use Rattle.std.proofs.lemmas.List.{get_or_append_left}
use Rattle.mq_log.specs.declared.refusal.Refusal.{Refusal}
use Rattle.mq_log.specs.declared.refusal.Refusal.TheVariants as refusals
use Rattle.mq_trace.specs.declared.reading.Reading.{Reading}
use Rattle.mq_log.specs.Framing.{header_by, magic, is_version}
use Rattle.mq_log.specs.Events.{Placed}
use Rattle.mq_log.specs.Refusals.{Situation, situation, first_that_applies, conditions, header_refusal, record_refusal, refusal_at}
use Rattle.mq_log.specs.Refusing.{refusal_offset, moved}
use Rattle.mq_log.specs.Reception.{Declines}
use Rattle.mq_trace.specs.Keeping.{StepStops, HoldsHeader}
use Rattle.mq_trace.specs.Tracing.{HasRead, KeepsHeader, Stops, StopsAt, Why}
use Rattle.mq_trace.proofs.TracingLaws.{Goes, stops_piece, stops_piece-taken, kept_at, kept_header}

-- ---- the offset of a refusal

-- what holds where a choice gives this refusal, if it does for both sides
chosen : {G : Type 0} (r : Refusal) (b : Bool) (p q : Option Refusal) → (p ≡ Some r → G) → (q ≡ Some r → G) → (if b then p else q) ≡ Some r → G
chosen r true p q f g e = f e
chosen r false p q f g e = g e

met : (at : ℕ) (r : Refusal) (b : Bool) (x : Refusal) → refusal_offset x ≡ at → (if b then None else Some x) ≡ Some r → refusal_offset r ≡ at
met at r true x p e = absurd (cc)
met at r false x p e = let same : x ≡ r = cc in sym (ap refusal_offset same) ∙ p

pub header_offset : (at byte : ℕ) (r : Refusal) → header_refusal at byte ≡ Some r → refusal_offset r ≡ at
unfolding header_refusal
header_offset at byte r e =
    chosen r (nat_lt at 4) _ _ (met at r (byte == slice_index magic at) (refusals.Header at) refl)
    (chosen r (at == 4) _ _ (met at r (is_version byte) (refusals.Version at) refl)
    (chosen r (at == 5) _ _ (met at r (nat_lt byte 2) (refusals.Role at) refl)
    (chosen r (at == 6) _ _ (met at r (nat_lt byte 2) (refusals.Flags at) refl)
    (met at r (byte == 0) (refusals.Flags at) refl)))) e

AreAt : ℕ → List (Bool × Refusal) → Type 0
AreAt at [] = Unit {0}
AreAt at (line ∷ lines) = (refusal_offset line.1 ≡ at) × AreAt at lines

first_offset : (at : ℕ) (lines : List (Bool × Refusal)) → AreAt at lines → (r : Refusal) → first_that_applies lines ≡ Some r → refusal_offset r ≡ at
unfolding AreAt
first_offset at [] are r e = absurd (cc)
first_offset at (line ∷ lines) are r e = go (first_offset at lines are.1 r) line.0 e
  where
    go : (first_that_applies lines ≡ Some r → refusal_offset r ≡ at) → (b : Bool) → cond b (Some line.1) (first_that_applies lines) ≡ Some r → refusal_offset r ≡ at
    go later true e = let same : line.1 ≡ r = cc in sym (ap refusal_offset same) ∙ are.0
    go later false e = later e

record_offset : (limit : ℕ) (s : Situation) (r : Refusal) → record_refusal limit s ≡ Some r → refusal_offset r ≡ s.at
unfolding record_refusal AreAt
record_offset limit s r e = first_offset s.at (conditions limit s) (refl, (refl, (refl, (refl, (refl, (refl, (refl, (refl, (refl, tt))))))))) r e

byte_offset : (limit : ℕ) (log : List ℕ) (byte : ℕ) (r : Refusal) → refusal_at limit log byte ≡ Some r → refusal_offset r ≡ length log
unfolding refusal_at situation
byte_offset limit log byte r e =
    chosen r (nat_lt (length log) 8) _ _ (header_offset (length log) byte r) (record_offset limit (situation log byte) r) e

moved_offset : (r : Refusal) (n : ℕ) → refusal_offset (moved r n) ≡ n
moved_offset (refusals.Header at) n = refl
moved_offset _ n = refl

why_offset : {S : Type 0} (agrees : S → List Placed → Type 0) (refuses : S → List Placed → Refusal → Type 0) (limit : ℕ) (log bytes : List ℕ) (byte : ℕ) (old new : S) (refusal : Refusal)
    → Why agrees refuses limit log bytes byte old new refusal → refusal_offset refusal ≡ length (log ++ bytes)
why_offset agrees refuses limit log bytes byte old new refusal (inl x) = byte_offset limit (log ++ bytes) byte refusal x.met
why_offset agrees refuses limit log bytes byte old new refusal (inr (inl x)) = ap refusal_offset x.is
why_offset agrees refuses limit log bytes byte old new refusal (inr (inr x)) = ap refusal_offset x.is ∙ moved_offset x.own (length (log ++ bytes))

-- ---- what is kept of the header

header_longer : (log later : List ℕ) → 8 ≤ length log → header_by (log ++ later) ≡ header_by log
header_longer log later h =
    ap (λ v. record { version = v; server = slice_index (log ++ later) 5 == 1; releases = slice_index (log ++ later) 6 == 1 }) (get_or_append_left log later 0 4 (omega arith))
    ∙ ap (λ n. record { version = slice_index log 4; server = n == 1; releases = slice_index (log ++ later) 6 == 1 }) (get_or_append_left log later 0 5 (omega arith))
    ∙ ap (λ n. record { version = slice_index log 4; server = slice_index log 5 == 1; releases = n == 1 }) (get_or_append_left log later 0 6 (omega arith))

pub keeps_header : (r : Reading) (log : List ℕ) → HasRead r log → KeepsHeader r log
keeps_header r log keeps = record { whole = ap (λ n. nat_lt n 8) (kept_at r log keeps); named = λ long. kept_header r log keeps }

-- What stops a step stops the piece, and the header is that of the bytes before.
pub stops_at : {S : Type 0} (agrees : S → List Placed → Type 0) (refuses : S → List Placed → Refusal → Type 0) (first now next : Reading) (piece rest : List ℕ) (old mid new : S) (refusal : Refusal)
    → Goes agrees first now piece rest old mid → StepStops (Declines agrees refuses) now rest mid new refusal → HoldsHeader now next
    → (now.at < 8 → (refusal_offset refusal ≡ now.at) × (next.at ≡ now.at)) → (log : List ℕ) → HasRead first log
    → StopsAt agrees refuses first.limit log piece old new next refusal
stops_at agrees refuses first now next piece rest old mid new refusal goes stop holds early log keeps = (stops, header (nat_lt now.at 8) refl)
  where
    stops : Stops agrees refuses first.limit log piece old new refusal
    stops = stops_piece agrees refuses first now piece rest old mid new refusal goes stop log keeps

    before : HasRead now (log ++ goes.done)
    before = (goes.each log keeps).0

    at : now.at ≡ length (log ++ goes.done)
    at = kept_at now (log ++ goes.done) before

    assoc : (log ++ goes.done) ++ stop.taken ≡ log ++ stops.taken
    assoc = append_assoc log goes.done stop.taken ∙ sym (ap (λ (l : List ℕ). log ++ l) (stops_piece-taken agrees refuses first now piece rest old mid new refusal goes stop log keeps))

    longer : length (log ++ stops.taken) ≡ length (log ++ goes.done) + length stop.taken
    longer = sym (ap (length {A = ℕ}) assoc) ∙ length-append (log ++ goes.done) stop.taken

    offset : refusal_offset refusal ≡ length (log ++ stops.taken)
    offset = why_offset agrees refuses first.limit log stops.taken stops.byte old new refusal stops.why

    header : (b : Bool) → nat_lt now.at 8 ≡ b → KeepsHeader next (log ++ stops.taken)
    header true is =
        let short = ltb-true now.at 8 is in
        let now_at = early short in
        let same : length (log ++ stops.taken) ≡ now.at = sym offset ∙ now_at.0 in
        record { whole = ap (λ n. nat_lt n 8) (now_at.1 ∙ sym same); named = λ long. absurd (omega (arith, long, same, short)) }
    header false is =
        let long = ltb-false now.at 8 is in
        let past = holds.0 in
        record {
          whole = le-ltb next.at 8 (omega (arith, at, long, longer, past)) ∙ sym (le-ltb (length (log ++ stops.taken)) 8 (omega (arith, at, long, longer)));
          named = λ whole. holds.1 ∙ kept_header now (log ++ goes.done) before ∙ sym (header_longer (log ++ goes.done) stop.taken (omega (arith, at, long, longer, past))) ∙ ap header_by assoc;
        }
