-- A fixed header that is whole or lost stays so whatever follows, and so does a frame.
use Rattle.std.proofs.Common.{◌≡◌, ℕ, ◌+◌, ◌*◌, ◌-◌, ◌<◌, ◌≤◌, ◌↔◌, true, false, ◌⊎◌, inl, inr, List, [], ◌∷◌, ◌++◌, length, Some, None, Result, Ok, Err, refl, sym, ◌∙◌, ap, subst, arith}
use Rattle.std.specs.Prelude.{nat_lt, nat_le, ◌==◌, if◌then◌else◌}
use Rattle.std.proofs.lemmas.List.{length-append}
use Rattle.std.proofs.lemmas.Bool.{leb-true, le-leb}
use Rattle.mq_wire.specs.declared.fault.Reason.{Reason}
use Rattle.mq_wire.specs.declared.fault.Reason.TheVariants as reasons
use Rattle.mq_wire.specs.Fields.{varint_at, second_byte, third_byte, fourth_byte, ended_by}
use Rattle.mq_packet.specs.declared.header.FixedHeader.{FixedHeader}
use Rattle.mq_packet.specs.declared.header.FixedHeader.TheVariants.{Short, Lost, Whole}
use Rattle.mq_packet.proofs.Lengths.{OneToFour, varint_length, chosen, chosen_both}
use Rattle.mq_packet.specs.Stream.{remaining_length_at, header_with, fixed_header_of, size_within, frame_size, is_overlong, is_lost}

-- A number that was read has more than n bytes.
abbrev LongerThan : ℕ → Result (ℕ × ℕ) Reason → Type 0
LongerThan n (Ok x) = n < x.1
LongerThan n (Err reason) = Unit {0}

-- What further bytes do to a number: nothing, or it was short and has more bytes than were there.
abbrev Settled : ℕ → Result (ℕ × ℕ) Reason → Result (ℕ × ℕ) Reason → Type 0
Settled there before after = (after ≡ before) ⊎ ((before ≡ Err reasons.Short) × LongerThan there after)

ended_longer : (there last n taken : ℕ) → there < taken → LongerThan there (ended_by last n taken)
ended_longer there last n taken h = chosen (LongerThan there) (last == 0) (Err reasons.Overlong) (Ok (n, taken)) tt h

fourth_longer : (there n : ℕ) (c : List ℕ) → there < 4 → LongerThan there (fourth_byte n c)
fourth_longer there n [] h = tt
fourth_longer there n (d ∷ c) h =
    chosen (LongerThan there) (nat_lt d 128) (ended_by d (n + 2097152 * d) 4) (Err reasons.Overlong) (ended_longer there d (n + 2097152 * d) 4 h) tt

third_longer : (there n : ℕ) (c : List ℕ) → there < 3 → LongerThan there (third_byte n c)
third_longer there n [] h = tt
third_longer there n (d ∷ c) h =
    chosen (LongerThan there) (nat_lt d 128) (ended_by d (n + 16384 * d) 3) (fourth_byte (n + 16384 * (d - 128)) c) (ended_longer there d (n + 16384 * d) 3 h) (fourth_longer there (n + 16384 * (d - 128)) c (omega arith))

second_longer : (there n : ℕ) (c : List ℕ) → there < 2 → LongerThan there (second_byte n c)
second_longer there n [] h = tt
second_longer there n (d ∷ c) h =
    chosen (LongerThan there) (nat_lt d 128) (ended_by d (n + 128 * d) 2) (third_byte (n + 128 * (d - 128)) c) (ended_longer there d (n + 128 * d) 2 h) (third_longer there (n + 128 * (d - 128)) c (omega arith))

varint_longer : (c : List ℕ) → LongerThan 0 (varint_at c)
unfolding varint_at
varint_longer [] = tt
varint_longer (d ∷ c) = chosen (LongerThan 0) (nat_lt d 128) (Ok (d, 1)) (second_byte (d - 128) c) (omega arith) (second_longer 0 (d - 128) c (omega arith))

-- A byte before others that settle: it is the last of a number, or they go on.
first_settled : (there trailing d : ℕ) (last before after : Result (ℕ × ℕ) Reason) → trailing ≡ there → Settled trailing before after
    → Settled there (if nat_lt d 128 then last else before) (if nat_lt d 128 then last else after)
first_settled there trailing d last before after same settled =
    chosen_both (Settled there) (nat_lt d 128) last before after (inl refl) (subst (λ (k : ℕ). Settled k before after) same settled)

fourth_settled : (n : ℕ) (a c : List ℕ) → Settled (3 + length a) (fourth_byte n a) (fourth_byte n (a ++ c))
fourth_settled n [] c = inr (refl, fourth_longer 3 n c (omega arith))
fourth_settled n (d ∷ a) c = inl refl

third_settled : (n : ℕ) (a c : List ℕ) → Settled (2 + length a) (third_byte n a) (third_byte n (a ++ c))
third_settled n [] c = inr (refl, third_longer 2 n c (omega arith))
third_settled n (d ∷ a) c =
    (let m : ℕ = n + 16384 * (d - 128) in
    first_settled (2 + length (d ∷ a)) (3 + length a) d (ended_by d (n + 16384 * d) 3) (fourth_byte m a) (fourth_byte m (a ++ c)) (omega arith) (fourth_settled m a c))

second_settled : (n : ℕ) (a c : List ℕ) → Settled (1 + length a) (second_byte n a) (second_byte n (a ++ c))
second_settled n [] c = inr (refl, second_longer 1 n c (omega arith))
second_settled n (d ∷ a) c =
    (let m : ℕ = n + 128 * (d - 128) in
    first_settled (1 + length (d ∷ a)) (2 + length a) d (ended_by d (n + 128 * d) 2) (third_byte m a) (third_byte m (a ++ c)) (omega arith) (third_settled m a c))

number_settled : (a c : List ℕ) → Settled (length a) (varint_at a) (varint_at (a ++ c))
unfolding varint_at
number_settled [] c = inr (refl, varint_longer c)
number_settled (d ∷ a) c =
    first_settled (length (d ∷ a)) (1 + length a) d (Ok (d, 1)) (second_byte (d - 128) a) (second_byte (d - 128) (a ++ c)) (omega arith) (second_settled (d - 128) a c)

-- The packet has more than n bytes, where its fixed header is whole.
abbrev LargerThan : ℕ → FixedHeader → Type 0
LargerThan n (Whole header size) = n < size
LargerThan n _ = Unit {0}

larger : (least there : ℕ) (r : Result (ℕ × ℕ) Reason) → least ≤ 1 + there → LongerThan there r → LargerThan least (header_with r)
larger least there (Ok x) le h = omega (arith, le, h)
larger least there (Err reasons.Overlong) le h = tt
larger least there _ le h = tt

-- What further bytes do to a fixed header: nothing, or it was short and its packet has more bytes than were there.
abbrev HeaderSettled : ℕ → FixedHeader → FixedHeader → Type 0
HeaderSettled there before after = (after ≡ before) ⊎ ((before ≡ Short) × LargerThan there after)

header_step : (there : ℕ) (before after : Result (ℕ × ℕ) Reason) → Settled there before after → HeaderSettled (1 + there) (header_with before) (header_with after)
header_step there before after (inl e) = inl (ap header_with e)
header_step there before after (inr h) = inr (ap header_with h.0, larger (1 + there) there after (omega arith) h.1)

header_settled : (a c : List ℕ) → HeaderSettled (length a) (fixed_header_of a) (fixed_header_of (a ++ c))
unfolding fixed_header_of
header_settled [] [] = inl refl
header_settled [] (first ∷ c) = inr (refl, larger 0 0 (varint_at c) (omega arith) (varint_longer c))
header_settled (first ∷ a) c =
    (let P : ℕ → Type 0 = λ k. HeaderSettled k (header_with (varint_at a)) (header_with (varint_at (a ++ c))) in
    let e : 1 + length a ≡ length (first ∷ a) = omega arith in
    subst P e (header_step (length a) (varint_at a) (varint_at (a ++ c)) (number_settled a c)))

-- A fixed header that is whole stays the same whatever follows.
pub whole_stays : (a c : List ℕ) (header size : ℕ) → fixed_header_of a ≡ Whole header size → fixed_header_of (a ++ c) ≡ Whole header size
whole_stays a c header size e =
    elim (header_settled a c) [
      | inl same ↦ same ∙ e
      | inr grown ↦ (let short : fixed_header_of a ≡ Short = grown.0 in cc)
    ]

-- One that is lost stays lost.
pub lost_stays : (a c : List ℕ) → fixed_header_of a ≡ Lost → fixed_header_of (a ++ c) ≡ Lost
lost_stays a c e =
    elim (header_settled a c) [
      | inl same ↦ same ∙ e
      | inr grown ↦ (let short : fixed_header_of a ≡ Short = grown.0 in cc)
    ]

-- The beginning of one that is short is short.
pub short_before : (a c : List ℕ) → fixed_header_of (a ++ c) ≡ Short → fixed_header_of a ≡ Short
short_before a c e =
    elim (header_settled a c) [
      | inl same ↦ sym same ∙ e
      | inr grown ↦ grown.0
    ]

-- The fixed header is lost exactly where the bytes are.
overlong_lost : (r : Result (ℕ × ℕ) Reason) → (is_overlong r ≡ true) ↔ (header_with r ≡ Lost)
overlong_lost (Err reasons.Overlong) = ((λ e. refl), (λ e. refl))
overlong_lost (Ok x) = ((λ e. (cc)), (λ e. (cc)))
overlong_lost _ = ((λ e. (cc)), (λ e. (cc)))

pub lost_header : (a : List ℕ) → is_lost a ≡ true → fixed_header_of a ≡ Lost
unfolding is_lost fixed_header_of
lost_header a e = (overlong_lost (remaining_length_at a)).0 e

pub header_lost : (a : List ℕ) → fixed_header_of a ≡ Lost → is_lost a ≡ true
unfolding is_lost fixed_header_of
header_lost a e = (overlong_lost (remaining_length_at a)).1 e

-- Bytes that are lost stay so whatever follows.
pub is_lost_stays : (a c : List ℕ) → is_lost a ≡ true → is_lost (a ++ c) ≡ true
is_lost_stays a c e = header_lost (a ++ c) (lost_stays a c (lost_header a e))

-- Bytes whose fixed header is lost have no frame at their front.
pub lost_header_no_frame : (a : List ℕ) → fixed_header_of a ≡ Lost → frame_size a ≡ None
unfolding frame_size
lost_header_no_frame a e = ap (size_within (length a)) e

pub lost_no_frame : (a : List ℕ) → is_lost a ≡ true → frame_size a ≡ None
lost_no_frame a e = lost_header_no_frame a (lost_header a e)

-- Neither have bytes whose fixed header is short.
pub short_no_frame : (a : List ℕ) → fixed_header_of a ≡ Short → frame_size a ≡ None
unfolding frame_size
short_no_frame a e = ap (size_within (length a)) e

-- What it is for a whole fixed header to give a frame.
within : (header size there n : ℕ) → size_within there (Whole header size) ≡ Some n → (size ≡ n) × (n ≤ there)
within header size there n =
    elim (nat_le size there) as (λ b. nat_le size there ≡ b → (if b then Some size else None) ≡ Some n → (size ≡ n) × (n ≤ there)) [
      | true ↦ λ e h. (let same : size ≡ n = cc in (same, (let fits : size ≤ there = leb-true size there e in omega arith)))
      | false ↦ λ e h. (cc)
    ] refl

fits : (header size there : ℕ) → size ≤ there → size_within there (Whole header size) ≡ Some size
fits header size there h = rw (le-leb size there h) refl

-- A frame is where the fixed header is whole and names a size that is there.
pub frame_from_header : (a : List ℕ) (header size : ℕ) → fixed_header_of a ≡ Whole header size → size ≤ length a → frame_size a ≡ Some size
unfolding frame_size
frame_from_header a header size e h = ap (size_within (length a)) e ∙ fits header size (length a) h

-- Where the size is more than is there, there is no frame yet.
pub no_frame_yet : (a : List ℕ) (header size : ℕ) → fixed_header_of a ≡ Whole header size → length a < size → frame_size a ≡ None
unfolding frame_size
no_frame_yet a header size e h = ap (size_within (length a)) e ∙ lacks
  where
    lacks : size_within (length a) (Whole header size) ≡ None
    lacks =
        elim (nat_le size (length a)) as (λ b. nat_le size (length a) ≡ b → (if b then Some size else None) ≡ None) [
          | true ↦ λ e. absurd (let f : size ≤ length a = leb-true size (length a) e in omega arith)
          | false ↦ λ e. refl
        ] refl

-- Each frame comes of a whole fixed header, whose size is the frame's.
pub header_from_frame : (a : List ℕ) (n : ℕ) → frame_size a ≡ Some n → (header : ℕ) × (fixed_header_of a ≡ Whole header n) × (n ≤ length a)
unfolding frame_size
header_from_frame a n h = by_header (fixed_header_of a) refl h
  where
    by_header : (x : FixedHeader) → fixed_header_of a ≡ x → size_within (length a) x ≡ Some n → (header : ℕ) × (fixed_header_of a ≡ Whole header n) × (n ≤ length a)
    by_header (Whole header size) e h =
        (let known : (size ≡ n) × (n ≤ length a) = within header size (length a) n h in
        let same : size ≡ n = known.0 in
        (header, e ∙ ap (λ k. Whole header k) same, known.1))
    by_header Short e h = (cc)
    by_header Lost e h = (cc)

-- The size of a packet is above that of its fixed header's first byte.
pub size_above : (a : List ℕ) (header size : ℕ) → fixed_header_of a ≡ Whole header size → (1 ≤ header) × (header ≤ size)
unfolding fixed_header_of
size_above a header size e = by_number (remaining_length_at a) e
  where
    by_number : (r : Result (ℕ × ℕ) Reason) → header_with r ≡ Whole header size → (1 ≤ header) × (header ≤ size)
    by_number (Ok x) e =
        (let h : 1 + x.1 ≡ header = cc in
        let s : 1 + x.1 + x.0 ≡ size = cc in
        (omega (arith, h, s), omega (arith, h, s)))
    by_number (Err reasons.Overlong) e = (cc)
    by_number _ e = (cc)

-- A whole fixed header has five bytes at most.
pub header_few : (a : List ℕ) (header size : ℕ) → fixed_header_of a ≡ Whole header size → header ≤ 5
unfolding fixed_header_of
header_few [] header size e = (cc)
header_few (first ∷ trailing) header size e = by_number (varint_at trailing) (varint_length trailing) e
  where
    by_number : (r : Result (ℕ × ℕ) Reason) → OneToFour r → header_with r ≡ Whole header size → header ≤ 5
    by_number (Ok x) bounds e = (let h : 1 + x.1 ≡ header = cc in omega (arith, h, bounds.1))
    by_number (Err reasons.Overlong) bounds e = (cc)
    by_number _ bounds e = (cc)

-- The size that a fixed header names isn't 0.
pub not_empty : (a : List ℕ) (header size : ℕ) → fixed_header_of a ≡ Whole header size → 0 < size
not_empty a header size e = (let above : (1 ≤ header) × (header ≤ size) = size_above a header size e in omega (arith, above.0, above.1))

-- A frame isn't empty, and is there whole.
pub frame_bounds : (a : List ℕ) (n : ℕ) → frame_size a ≡ Some n → (0 < n) × (n ≤ length a)
frame_bounds a n h =
    (let found : (header : ℕ) × (fixed_header_of a ≡ Whole header n) × (n ≤ length a) = header_from_frame a n h in
    let above : (1 ≤ found.0) × (found.0 ≤ n) = size_above a found.0 n found.1 in
    (omega (arith, above.0, above.1), found.2))

-- A frame at the front stays there whatever follows.
pub frame_stays : (a c : List ℕ) (n : ℕ) → frame_size a ≡ Some n → frame_size (a ++ c) ≡ Some n
frame_stays a c n h =
    (let found : (header : ℕ) × (fixed_header_of a ≡ Whole header n) × (n ≤ length a) = header_from_frame a n h in
    frame_from_header (a ++ c) found.0 n (whole_stays a c found.0 n found.1) (omega (arith, found.2, length-append a c)))

-- A frame at the front stands already in any beginning that holds it.
pub frame_stood : (a c : List ℕ) (n : ℕ) → frame_size (a ++ c) ≡ Some n → n ≤ length a → frame_size a ≡ Some n
frame_stood a c n h fit =
    (let found : (header : ℕ) × (fixed_header_of (a ++ c) ≡ Whole header n) × (n ≤ length (a ++ c)) = header_from_frame (a ++ c) n h in
    elim (header_settled a c) [
      | inl same ↦ frame_from_header a found.0 n (sym same ∙ found.1) fit
      | inr grown ↦
          (let P : FixedHeader → Type 0 = λ x. LargerThan (length a) x in
          let more : length a < n = subst P found.1 grown.1 in
          absurd (omega arith))
    ])
