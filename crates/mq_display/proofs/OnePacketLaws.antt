-- Bytes that are one frame, and what it spells.
use Rattle.std.proofs.Common.{◌≡◌, ℕ, suc, ◌+◌, ◌-◌, ◌≤◌, ◌<◌, ◌↔◌, Bool, true, false, true≢false, List, [], ◌∷◌, ◌++◌, length, take, drop, take_all, Ok, Err, refl, sym, ap, subst, ◌∙◌, ◌^◌, arith, append-nil, length-append, length-drop}
use Rattle.std.proofs.Math.Seq.{drop-append_seam}
use Rattle.std.proofs.lemmas.Bool.Decides.{nat_tests}
use Rattle.mq_packet.specs.declared.frame.Cut.{Cut}
use Rattle.mq_packet.specs.declared.frame.Cut.TheVariants.{Need, Frame, Lost}
use Rattle.mq_packet.specs.declared.fault.DecodeFault.{DecodeFault}
use Rattle.mq_packet.specs.Decoding.{body_start}
use Rattle.mq_packet.specs.Entries.{Entry}
use Rattle.mq_packet.specs.Frames.{BeginsWithFrame}
use Rattle.mq_packet.specs.Spelled.{IsSpelled}
use Rattle.mq_wire.specs.Spellings.{varint_spelling}
use Rattle.mq_display.specs.OnePacket.{IsOnePacket}

-- after the spelling of a length stands the rest
after_length : (first : ℕ) (spelling rest bytes : List ℕ) (start : ℕ) → bytes ≡ first ∷ (spelling ++ rest) → start ≡ 1 + length spelling → drop start bytes ≡ rest
after_length first spelling rest bytes start is at =
    (let next : start ≡ suc (length spelling) = omega (arith, at) in
    let trailing : drop (suc (length spelling)) (first ∷ (spelling ++ rest)) ≡ rest = drop-append_seam spelling rest in
    ap (λ (l : List ℕ). drop start l) is ∙ ap (λ (k : ℕ). drop k (first ∷ (spelling ++ rest))) next ∙ trailing)

counted : (first : ℕ) (spelling rest bytes : List ℕ) (start : ℕ) → bytes ≡ first ∷ (spelling ++ rest) → start ≡ 1 + length spelling → length bytes ≡ start + length rest
counted first spelling rest bytes start is at =
    (let sum : length (spelling ++ rest) ≡ length spelling + length rest = length-append spelling rest in
    let whole : length bytes ≡ suc (length (spelling ++ rest)) = ap (λ (l : List ℕ). length l) is in
    omega (arith, sum, whole, at))

-- Where the parts of a frame at the front of some bytes lie.
pub record Lies (bytes body trailing : List ℕ) (start end : ℕ) : Type 0 where
  pub rest : drop start bytes ≡ body ++ trailing
  pub size : length bytes ≡ end + length trailing
  pub body_size : end ≡ start + length body

pub frame_lies : (bytes : List ℕ) (first start end : ℕ) → (h : BeginsWithFrame bytes first start end) → Lies bytes h.body h.trailing start end
unfolding body_start
frame_lies bytes first start end h =
    (let sum : length (h.body ++ h.trailing) ≡ length h.body + length h.trailing = length-append h.body h.trailing in
    let all : length bytes ≡ start + length (h.body ++ h.trailing) = counted first _ (h.body ++ h.trailing) bytes start h.is h.start_is in
    record {
      rest = after_length first _ (h.body ++ h.trailing) bytes start h.is h.start_is;
      size = omega (arith, sum, all, h.end_is);
      body_size = h.end_is;
    })

nothing : (l : List ℕ) → length l ≡ 0 → l ≡ []
nothing [] e = refl
nothing (b ∷ l) e = absurd (omega arith)

-- A frame that no bytes follow has all the bytes, and its body all those after its fixed header.
pub frame_ends : (bytes : List ℕ) (first start end : ℕ) → BeginsWithFrame bytes first start end → length bytes ≤ end → end ≡ length bytes
frame_ends bytes first start end h all = (let lies = frame_lies bytes first start end h in omega (arith, lies.size))

pub frame_body : (bytes : List ℕ) (first start end : ℕ) → (h : BeginsWithFrame bytes first start end) → length bytes ≤ end → drop start bytes ≡ h.body
frame_body bytes first start end h all =
    (let lies = frame_lies bytes first start end h in
    let none : h.trailing ≡ [] = nothing h.trailing (omega (arith, lies.size)) in
    lies.rest ∙ ap (λ (l : List ℕ). h.body ++ l) none ∙ append-nil h.body)

-- as the code takes it
pub body_taken : (bytes : List ℕ) (start : ℕ) → take (length bytes - start) (drop start bytes) ≡ drop start bytes
body_taken bytes start = take_all (length bytes - start) (drop start bytes) (omega (arith, length-drop start bytes))

-- The parts of a frame that is cut.
abbrev first_in : Cut → ℕ
first_in (Frame first start end) = first
first_in _ = 0

abbrev start_in : Cut → ℕ
start_in (Frame first start end) = start
start_in _ = 0

abbrev end_in : Cut → ℕ
end_in (Frame first start end) = end
end_in _ = 0

-- The cut is a frame exactly where the bytes begin with one.
abbrev pub CutsFrames : Cut → List ℕ → Type 0
CutsFrames cut bytes = (first start end : ℕ) → (cut ≡ Frame first start end) ↔ BeginsWithFrame bytes first start end

-- Where no frame is cut that has all the bytes, they are no packet.
pub no_packet : (bytes : List ℕ) (cut : Cut) → CutsFrames cut bytes → ((first start : ℕ) → cut ≡ Frame first start (length bytes) → ⊥)
    → (false ≡ true → IsOnePacket bytes) × (IsOnePacket bytes → false ≡ true)
no_packet bytes cut frames none =
    (λ e. absurd (true≢false (sym e)), λ one. absurd (none one.first one.start ((frames one.first one.start (length bytes)).1 one.frame)))

pub needs_more : (first start end : ℕ) → Need ≡ Frame first start end → ⊥
needs_more first start end e = (cc)

pub is_lost : (first start end : ℕ) → Lost ≡ Frame first start end → ⊥
is_lost first start end e = (cc)

-- Where bytes follow the frame, they are none either.
pub ends_early : (first start end first' start' size : ℕ) → end < size → Frame first start end ≡ Frame first' start' size → ⊥
ends_early first start end first' start' size early e = (let same : end ≡ size = ap end_in e in absurd (omega (arith, same, early)))

-- Where none follow, they are one packet exactly where the body spells one.
pub spelled_by_body : (bytes : List ℕ) (first start end : ℕ) (answer : Bool) → CutsFrames (Frame first start end) bytes → length bytes ≤ end
    → (answer ≡ true) ↔ ((packet : Entry) × IsSpelled first (take (length bytes - start) (drop start bytes)) packet)
    → (answer ≡ true) ↔ IsOnePacket bytes
spelled_by_body bytes first start end answer frames all spells = (there, back)
  where
    there : answer ≡ true → IsOnePacket bytes
    there e =
        (let P : ℕ → Type 0 = λ k. BeginsWithFrame bytes first start k in
        let cut : BeginsWithFrame bytes first start end = (frames first start end).0 refl in
        let whole : BeginsWithFrame bytes first start (length bytes) = subst P (frame_ends bytes first start end cut all) cut in
        let found = spells.0 e in
        let Q : List ℕ → Type 0 = λ l. IsSpelled first l found.0 in
        record {
          first = first;
          start = start;
          packet = found.0;
          frame = whole;
          spelled = subst Q (body_taken bytes start ∙ frame_body bytes first start (length bytes) whole (omega arith)) found.1;
        })

    back : IsOnePacket bytes → answer ≡ true
    back one =
        (let same : Frame first start end ≡ Frame one.first one.start (length bytes) = (frames one.first one.start (length bytes)).1 one.frame in
        let firsts : one.first ≡ first = sym (ap first_in same) in
        let starts : one.start ≡ start = sym (ap start_in same) in
        let bodies : one.frame.body ≡ take (length bytes - start) (drop start bytes) =
        sym (frame_body bytes one.first one.start (length bytes) one.frame (omega arith)) ∙ ap (λ (k : ℕ). drop k bytes) starts ∙ sym (body_taken bytes start) in
        let Q : ℕ → Type 0 = λ k. IsSpelled k one.frame.body one.packet in
        let R : List ℕ → Type 0 = λ l. IsSpelled first l one.packet in
        spells.1 (one.packet, subst R bodies (subst Q firsts one.spelled)))

-- A packet isn't a fault.
pub no_spelling : (packet : Entry) (fault : DecodeFault) → Ok packet ≡ Err fault → ⊥
no_spelling packet fault e = (cc)

-- The body of a frame that is cut begins within the bytes, and where no bytes follow it is as small as a body may be.
pub starts_inside : (bytes : List ℕ) (first start end : ℕ) → CutsFrames (Frame first start end) bytes → start ≤ length bytes
starts_inside bytes first start end frames =
    (let frame : BeginsWithFrame bytes first start end = (frames first start end).0 refl in
    let lies = frame_lies bytes first start end frame in
    omega (arith, lies.size, lies.body_size))

pub taken_is_small : (bytes : List ℕ) (first start end : ℕ) → CutsFrames (Frame first start end) bytes → length bytes ≤ end
    → length (take (length bytes - start) (drop start bytes)) ≤ 268435455
taken_is_small bytes first start end frames all =
    (let frame : BeginsWithFrame bytes first start end = (frames first start end).0 refl in
    let same : length (take (length bytes - start) (drop start bytes)) ≡ length frame.body =
    ap (λ (l : List ℕ). length l) (body_taken bytes start ∙ frame_body bytes first start end frame all) in
    omega (arith, same, frame.small))

short_spelling : (n : ℕ) → length (varint_spelling n) ≤ 4
unfolding varint_spelling
short_spelling n = grind (arith, nat_tests)

-- A frame's end is a number of four bytes.
pub ends_small : (bytes : List ℕ) (first start end : ℕ) → CutsFrames (Frame first start end) bytes → end < 2 ^ 32
unfolding body_start
ends_small bytes first start end frames =
    (let frame : BeginsWithFrame bytes first start end = (frames first start end).0 refl in
    let short : length (varint_spelling (length frame.body)) ≤ 4 = short_spelling (length frame.body) in
    omega (arith, short, frame.small, frame.start_is, frame.end_is))
