-- A cut is a frame exactly where the bytes begin with one, and lost exactly where they are.
use Rattle.std.proofs.Common.{◌≡◌, ℕ, ◌+◌, ◌≤◌, ◌↔◌, Bool, true, false, List, [], ◌∷◌, ◌++◌, length, take, drop, Result, Ok, Err, refl, sym, ◌∙◌, ap, subst, arith, length-append, length-drop}
use Rattle.std.specs.Prelude.{nat_le, if◌then◌else◌, slice_index}
use Rattle.std.proofs.lemmas.Bool.{leb-true, le-leb}
use Rattle.std.proofs.lemmas.List.{length-take-le, take-append-drop}
use Rattle.mq_wire.specs.declared.fault.Reason.{Reason}
use Rattle.mq_wire.specs.declared.fault.Reason.TheVariants as reasons
use Rattle.mq_wire.specs.Fields.{varint_at}
use Rattle.mq_wire.specs.Spellings.{AreBytes, IsVarint, BeginsWith, varint_spelling}
use Rattle.mq_wire.proofs.Exports.{AreBytes-drop, varint_exact}
use Rattle.mq_packet.specs.declared.header.FixedHeader.{FixedHeader}
use Rattle.mq_packet.specs.declared.header.FixedHeader.TheVariants as headers
use Rattle.mq_packet.specs.declared.frame.Cut.{Cut}
use Rattle.mq_packet.specs.declared.frame.Cut.TheVariants.{Need, Frame, Lost}
use Rattle.mq_packet.specs.Stream.{header_with, fixed_header_of, is_lost}
use Rattle.mq_packet.specs.Decoding.{body_start}
use Rattle.mq_packet.specs.Frames.{BeginsWithFrame, cut_by, cut_of}
use Rattle.mq_packet.proofs.StreamLaws.{lost_header, header_lost}

-- The parts of a frame.
abbrev first_in : Cut → ℕ
first_in (Frame first start end) = first
first_in _ = 0

abbrev start_in : Cut → ℕ
start_in (Frame first start end) = start
start_in _ = 0

abbrev pub end_in : Cut → ℕ
end_in (Frame first start end) = end
end_in _ = 0

-- A number after the first byte, and as many bytes after it, are a frame.
module _ (b : ℕ) (trailing : List ℕ) (n taken : ℕ) (known : AreBytes trailing) (read : varint_at trailing ≡ Ok (n, taken)) (fits : 1 + taken + n ≤ length (b ∷ trailing)) where
  body_fits : n ≤ length (drop taken trailing)
  body_fits = omega (arith, fits, length-drop taken trailing)

  body_length : length (take n (drop taken trailing)) ≡ n
  body_length = length-take-le n (drop taken trailing) body_fits

  spelled : BeginsWith IsVarint varint_spelling trailing n taken
  spelled = varint_exact.only trailing n taken known read

  is_frame : BeginsWithFrame (b ∷ trailing) b (1 + taken) (1 + taken + n)
  unfolding body_start
  is_frame =
      (let size : length (take n (drop taken trailing)) ≡ n = body_length in
      let parts : take n (drop taken trailing) ++ drop n (drop taken trailing) ≡ drop taken trailing = take-append-drop n (drop taken trailing) in
      let whole : trailing ≡ varint_spelling n ++ (take n (drop taken trailing) ++ drop n (drop taken trailing)) = spelled.spelled ∙ ap (λ (l : List ℕ). varint_spelling n ++ l) (sym parts) in
      record {
        body = take n (drop taken trailing);
        trailing = drop n (drop taken trailing);
        small = omega (arith, size, spelled.value);
        is = ap (λ (l : List ℕ). b ∷ l) (whole ∙ ap (λ (k : ℕ). varint_spelling k ++ (take n (drop taken trailing) ++ drop n (drop taken trailing))) (sym size));
        start_is = ap (λ (k : ℕ). 1 + k) (spelled.taken ∙ ap (λ (k : ℕ). length (varint_spelling k)) (sym size));
        end_is = ap (λ (k : ℕ). 1 + taken + k) (sym size);
      })

-- A frame comes of a number.
cut_at : (b : ℕ) (trailing : List ℕ) (read : Result (ℕ × ℕ) Reason) → varint_at trailing ≡ read → AreBytes trailing → (first start end : ℕ) → cut_by (b ∷ trailing) (header_with read) ≡ Frame first start end → BeginsWithFrame (b ∷ trailing) first start end
cut_at b trailing (Ok x) e known first start end h =
    elim (nat_le (1 + x.1 + x.0) (length (b ∷ trailing))) as (λ t. nat_le (1 + x.1 + x.0) (length (b ∷ trailing)) ≡ t → (if t then Frame b (1 + x.1) (1 + x.1 + x.0) else Need) ≡ Frame first start end → BeginsWithFrame (b ∷ trailing) first start end) [
      | true ↦ λ fits h. (let fit : 1 + x.1 + x.0 ≤ length (b ∷ trailing) = leb-true (1 + x.1 + x.0) (length (b ∷ trailing)) fits in
          let frame : BeginsWithFrame (b ∷ trailing) b (1 + x.1) (1 + x.1 + x.0) = is_frame b trailing x.0 x.1 known e fit in
          let P : ℕ → Type 0 = λ k. BeginsWithFrame (b ∷ trailing) k (1 + x.1) (1 + x.1 + x.0) in
          let Q : ℕ → Type 0 = λ k. BeginsWithFrame (b ∷ trailing) first k (1 + x.1 + x.0) in
          let R : ℕ → Type 0 = λ k. BeginsWithFrame (b ∷ trailing) first start k in
          subst R (ap end_in h) (subst Q (ap start_in h) (subst P (ap first_in h) frame)))
      | false ↦ λ fits h. (cc)
    ] refl h
cut_at b trailing (Err reasons.Short) e known first start end h = (cc)
cut_at b trailing (Err reasons.Overlong) e known first start end h = (cc)
cut_at b trailing (Err reasons.NotUtf8) e known first start end h = (cc)
cut_at b trailing (Err reasons.Nul) e known first start end h = (cc)

pub frame_begins : (bytes : List ℕ) → AreBytes bytes → (first start end : ℕ) → cut_of bytes ≡ Frame first start end → BeginsWithFrame bytes first start end
unfolding cut_of fixed_header_of
frame_begins [] known first start end h = (cc)
frame_begins (b ∷ trailing) known first start end h = cut_at b trailing (varint_at trailing) refl (AreBytes-drop 1 (b ∷ trailing) known) first start end h

-- What begins with a frame is cut so.
cut_frame : (first : ℕ) (body trailing : List ℕ) → length body ≤ 268435455 → cut_of (first ∷ (varint_spelling (length body) ++ (body ++ trailing))) ≡ Frame first (1 + length (varint_spelling (length body))) (1 + length (varint_spelling (length body)) + length body)
unfolding cut_of fixed_header_of
cut_frame first body trailing small =
    (let size : ℕ = length body in
    let all : List ℕ = varint_spelling (length body) ++ (body ++ trailing) in
    let read : varint_at (varint_spelling (length body) ++ (body ++ trailing)) ≡ Ok (length body, length (varint_spelling (length body))) = varint_exact.all (length body) (body ++ trailing) small in
    let counted : length (varint_spelling (length body) ++ (body ++ trailing)) ≡ length (varint_spelling (length body)) + (length body + length trailing) = simp length-append in
    let fits : 1 + length (varint_spelling (length body)) + length body ≤ length (first ∷ (varint_spelling (length body) ++ (body ++ trailing))) = omega (arith, counted) in
    ap (λ (r : Result (ℕ × ℕ) Reason). cut_by (first ∷ (varint_spelling (length body) ++ (body ++ trailing))) (header_with r)) read
    ∙ ap (λ (t : Bool). if t then Frame first (1 + length (varint_spelling (length body))) (1 + length (varint_spelling (length body)) + length body) else Need) (le-leb (1 + length (varint_spelling (length body)) + length body) (length (first ∷ (varint_spelling (length body) ++ (body ++ trailing)))) fits))

pub begins_cut : (bytes : List ℕ) (first start end : ℕ) → BeginsWithFrame bytes first start end → cut_of bytes ≡ Frame first start end
unfolding body_start
begins_cut bytes first start end h =
    (let frame : cut_of (first ∷ (varint_spelling (length h.body) ++ (h.body ++ h.trailing))) ≡ Frame first (1 + length (varint_spelling (length h.body))) (1 + length (varint_spelling (length h.body)) + length h.body) = cut_frame first h.body h.trailing h.small in
    let begin : 1 + length (varint_spelling (length h.body)) ≡ start = sym h.start_is in
    let finish : start + length h.body ≡ end = sym h.end_is in
    ap cut_of h.is ∙ frame ∙ ap (λ (k : ℕ). Frame first k (k + length h.body)) begin ∙ ap (λ (k : ℕ). Frame first start k) finish)

pub frame_exactly : (bytes : List ℕ) → AreBytes bytes → (cut : Cut) → cut ≡ cut_of bytes → (first start end : ℕ) → (cut ≡ Frame first start end) ↔ BeginsWithFrame bytes first start end
frame_exactly bytes known cut is first start end = (λ h. frame_begins bytes known first start end (sym is ∙ h), λ h. is ∙ begins_cut bytes first start end h)

-- A cut is lost exactly where the fixed header is.
lost_cut : (bytes : List ℕ) (header : FixedHeader) → cut_by bytes header ≡ Lost → header ≡ headers.Lost
lost_cut bytes headers.Lost h = refl
lost_cut bytes headers.Short h = (cc)
lost_cut bytes (headers.Whole header size) h =
    elim (nat_le size (length bytes)) as (λ t. (if t then Frame (slice_index bytes 0) header size else Need) ≡ Lost → headers.Whole header size ≡ headers.Lost) [ true ↦ λ e. (cc) | false ↦ λ e. (cc) ] h

pub lost_exactly : (bytes : List ℕ) (cut : Cut) → cut ≡ cut_of bytes → (cut ≡ Lost) ↔ (is_lost bytes ≡ true)
unfolding cut_of
lost_exactly bytes cut is =
    (λ h. header_lost bytes (lost_cut bytes (fixed_header_of bytes) (sym is ∙ h)), λ h. is ∙ ap (cut_by bytes) (lost_header bytes h))
