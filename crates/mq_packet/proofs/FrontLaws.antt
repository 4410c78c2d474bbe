-- Exactly one of three things stands at the front of a stream: a packet, the beginning of one, or the loss of the stream.
use Rattle.std.proofs.Common.{◌≡◌, ℕ, ◌+◌, ◌-◌, ◌<◌, ◌≤◌, ◌↔◌, true, false, inl, inr, List, [], ◌∷◌, ◌++◌, length, drop, Result, Ok, Err, refl, sym, ◌∙◌, ap, subst, arith, append_assoc, length-append}
use Rattle.std.specs.Prelude.{nat_le, if◌then◌else◌, replicate}
use Rattle.std.proofs.lemmas.Bool.{leb-false}
use Rattle.std.proofs.lemmas.List.{append-nil, drop_at, length-replicate}
use Rattle.mq_wire.specs.declared.fault.Reason.{Reason}
use Rattle.mq_wire.specs.declared.fault.Reason.TheVariants as reasons
use Rattle.mq_wire.specs.Fields.{varint_at}
use Rattle.mq_wire.specs.Misspelled.{IsCutShort, BeginsWithNone}
use Rattle.mq_wire.specs.Spellings.{AreBytes, IsVarint, BeginsWith, varint_spelling}
use Rattle.mq_wire.proofs.Exports.{AreBytes-drop, varint_refused, varint_exact}
use Rattle.mq_packet.specs.declared.frame.Cut.{Cut}
use Rattle.mq_packet.specs.declared.frame.Cut.TheVariants.{Need, Frame, Lost}
use Rattle.mq_packet.specs.Stream.{header_with, fixed_header_of, remaining_length_at, is_overlong, is_lost}
use Rattle.mq_packet.specs.Decoding.{body_start}
use Rattle.mq_packet.specs.Frames.{BeginsWithFrame, cut_by, cut_of}
use Rattle.mq_packet.specs.Fronts.{IsBeginning, BeginsWithNumber, IsPrefixOfNumber, IsLost, IsCutOf}
use Rattle.mq_packet.proofs.StreamLaws.{is_lost_stays}
use Rattle.mq_packet.proofs.FrameLaws.{end_in, frame_begins, begins_cut, lost_exactly}

-- So many bytes 0.
abbrev zeros : ℕ → List ℕ
zeros n = replicate n 0

-- ---- lost

-- A number that stands at the front, in the words of a reading.
number_stands : (bytes : List ℕ) (h : BeginsWithNumber bytes) → BeginsWith IsVarint varint_spelling bytes h.number (length (varint_spelling h.number))
number_stands bytes h =
    record {
      value = h.small;
      taken = refl;
      spelled = h.is ∙ ap (λ (l : List ℕ). varint_spelling h.number ++ l) (sym (drop_at (varint_spelling h.number) h.following (length (varint_spelling h.number)) refl) ∙ ap (drop (length (varint_spelling h.number))) (sym h.is));
    }

no_number_from : (bytes : List ℕ) → BeginsWithNone IsVarint varint_spelling bytes → ¬ BeginsWithNumber bytes
no_number_from bytes none h = none h.number (length (varint_spelling h.number)) (number_stands bytes h)

none_from : (bytes : List ℕ) → ¬ BeginsWithNumber bytes → BeginsWithNone IsVarint varint_spelling bytes
none_from bytes never n taken h = never (record { number = n; following = drop taken bytes; small = h.value; is = h.spelled })

-- A prefix of a number is cut short, or is all of it.
no_prefix_from : (bytes : List ℕ) → (¬ IsCutShort IsVarint varint_spelling bytes) → BeginsWithNone IsVarint varint_spelling bytes → ¬ IsPrefixOfNumber bytes
no_prefix_from bytes not_cut none h = by_missing h.missing h.whole
  where
    by_missing : (missing : List ℕ) → varint_spelling h.number ≡ bytes ++ missing → ⊥
    by_missing [] e = no_number_from bytes none (record { number = h.number; following = []; small = h.small; is = sym (append-nil bytes) ∙ (sym e ∙ sym (append-nil (varint_spelling h.number))) })
    by_missing (m ∷ missing) e = not_cut (record { value = h.number; is_value = h.small; missing = m ∷ missing; some_missing = omega arith; whole = e })

not_cut_from : (bytes : List ℕ) → ¬ IsPrefixOfNumber bytes → ¬ IsCutShort IsVarint varint_spelling bytes
not_cut_from bytes never h = never (record { number = h.value; missing = h.missing; small = h.is_value; whole = h.whole })

overlong_is : (r : Result (ℕ × ℕ) Reason) → is_overlong r ≡ true → r ≡ Err reasons.Overlong
overlong_is (Ok x) e = absurd (cc)
overlong_is (Err reasons.Short) e = absurd (cc)
overlong_is (Err reasons.Overlong) e = refl
overlong_is (Err reasons.NotUtf8) e = absurd (cc)
overlong_is (Err reasons.Nul) e = absurd (cc)

lost_front : (bytes : List ℕ) → AreBytes bytes → is_lost bytes ≡ true → IsLost bytes
unfolding is_lost
lost_front [] known e = absurd (cc)
lost_front (b ∷ trailing) known e =
    (let none = (varint_refused.overlong trailing (AreBytes-drop 1 (b ∷ trailing) known)).0 (overlong_is (varint_at trailing) e) in
    record { first = b; following = trailing; is = refl; no_number = no_number_from trailing none.1; no_prefix = no_prefix_from trailing none.0 none.1 })

front_lost : (bytes : List ℕ) → AreBytes bytes → IsLost bytes → is_lost bytes ≡ true
unfolding is_lost
front_lost bytes known h =
    (let fits : AreBytes (h.first ∷ h.following) = subst AreBytes h.is known in
    ap (λ (l : List ℕ). is_overlong (remaining_length_at l)) h.is
    ∙ ap is_overlong ((varint_refused.overlong h.following (AreBytes-drop 1 (h.first ∷ h.following) fits)).1 (not_cut_from h.following h.no_prefix, none_from h.following h.no_number)))

-- ---- the beginning of a packet

-- A number whose bytes aren't all there.
module _ (b : ℕ) (trailing : List ℕ) where
  cut_number : IsCutShort IsVarint varint_spelling trailing → IsBeginning (b ∷ trailing)
  cut_number h =
      (let size : length (zeros h.value) ≡ h.value = length-replicate h.value 0 in
      record {
        first = b;
        body = zeros h.value;
        missing = h.missing ++ zeros h.value;
        small = omega (arith, size, h.is_value);
        some_missing = omega (arith, length-append h.missing (zeros h.value), h.some_missing);
        whole = ap (λ (l : List ℕ). b ∷ l) (ap (λ (n : ℕ). varint_spelling n ++ zeros h.value) size ∙ (ap (λ (l : List ℕ). l ++ zeros h.value) h.whole ∙ append_assoc trailing h.missing (zeros h.value)));
      })

  -- A number, and not as many bytes after it.
  cut_body : (n taken : ℕ) → AreBytes trailing → varint_at trailing ≡ Ok (n, taken) → length (b ∷ trailing) < 1 + taken + n → IsBeginning (b ∷ trailing)
  cut_body n taken known read lacks =
      (let stands : BeginsWith IsVarint varint_spelling trailing n taken = varint_exact.only trailing n taken known read in
      let front : length trailing ≡ length (varint_spelling n) + length (drop taken trailing) = ap (length {A = ℕ}) stands.spelled ∙ length-append (varint_spelling n) (drop taken trailing) in
      let filled : length (zeros (n - length (drop taken trailing))) ≡ n - length (drop taken trailing) = length-replicate (n - length (drop taken trailing)) 0 in
      let whole : length (drop taken trailing ++ zeros (n - length (drop taken trailing))) ≡ length (drop taken trailing) + length (zeros (n - length (drop taken trailing))) = length-append (drop taken trailing) (zeros (n - length (drop taken trailing))) in
      let size : length (drop taken trailing ++ zeros (n - length (drop taken trailing))) ≡ n = omega (arith, filled, whole, front, stands.taken, lacks) in
      record {
        first = b;
        body = drop taken trailing ++ zeros (n - length (drop taken trailing));
        missing = zeros (n - length (drop taken trailing));
        small = omega (arith, size, stands.value);
        some_missing = omega (arith, filled, front, stands.taken, lacks);
        whole = ap (λ (l : List ℕ). b ∷ l) (ap (λ (k : ℕ). varint_spelling k ++ (drop taken trailing ++ zeros (n - length (drop taken trailing)))) size
            ∙ (sym (append_assoc (varint_spelling n) (drop taken trailing) (zeros (n - length (drop taken trailing)))) ∙ ap (λ (l : List ℕ). l ++ zeros (n - length (drop taken trailing))) (sym stands.spelled)));
      })

  need_at : (read : Result (ℕ × ℕ) Reason) → varint_at trailing ≡ read → AreBytes trailing → cut_by (b ∷ trailing) (header_with read) ≡ Need → IsBeginning (b ∷ trailing)
  need_at (Ok x) e known h =
      elim (nat_le (1 + x.1 + x.0) (length (b ∷ trailing))) as (λ t. nat_le (1 + x.1 + x.0) (length (b ∷ trailing)) ≡ t → (if t then Frame b (1 + x.1) (1 + x.1 + x.0) else Need) ≡ Need → IsBeginning (b ∷ trailing)) [
        | true ↦ λ fits h. absurd (cc)
        | false ↦ λ fits h. cut_body x.0 x.1 known e (leb-false (1 + x.1 + x.0) (length (b ∷ trailing)) fits)
      ] refl h
  need_at (Err reasons.Short) e known h = cut_number ((varint_refused.short trailing known).0 e)
  need_at (Err reasons.Overlong) e known h = absurd (cc)
  need_at (Err reasons.NotUtf8) e known h = absurd (elim (varint_refused.only_so trailing reasons.NotUtf8 e) [ inl short ↦ cc | inr over ↦ cc ])
  need_at (Err reasons.Nul) e known h = absurd (elim (varint_refused.only_so trailing reasons.Nul e) [ inl short ↦ cc | inr over ↦ cc ])

need_begins : (bytes : List ℕ) → AreBytes bytes → cut_of bytes ≡ Need → IsBeginning bytes
unfolding cut_of fixed_header_of
need_begins [] known h =
    record { first = 0; body = []; missing = 0 ∷ (varint_spelling 0 ++ []); small = omega arith; some_missing = omega arith; whole = refl }
need_begins (b ∷ trailing) known h = need_at b trailing (varint_at trailing) refl (AreBytes-drop 1 (b ∷ trailing) known) h

-- The packet of which the bytes are the beginning.
module _ (bytes : List ℕ) (h : IsBeginning bytes) where
  packet_begins : BeginsWithFrame (bytes ++ h.missing) h.first (body_start (length h.body)) (body_start (length h.body) + length h.body)
  packet_begins =
      record {
        body = h.body;
        trailing = [];
        small = h.small;
        is = sym h.whole ∙ ap (λ (l : List ℕ). h.first ∷ (varint_spelling (length h.body) ++ l)) (sym (append-nil h.body));
        start_is = refl;
        end_is = refl;
      }

  packet_cut : cut_of (bytes ++ h.missing) ≡ Frame h.first (body_start (length h.body)) (body_start (length h.body) + length h.body)
  packet_cut = begins_cut (bytes ++ h.missing) h.first (body_start (length h.body)) (body_start (length h.body) + length h.body) packet_begins

  packet_size : body_start (length h.body) + length h.body ≡ length bytes + length h.missing
  unfolding body_start
  packet_size =
      (let whole : length (h.first ∷ (varint_spelling (length h.body) ++ h.body)) ≡ length (bytes ++ h.missing) = ap (length {A = ℕ}) h.whole in
      omega (arith, whole, length-append bytes h.missing, length-append (varint_spelling (length h.body)) h.body))

  not_lost : cut_of bytes ≡ Lost → ⊥
  not_lost e =
      (let lost : is_lost (bytes ++ h.missing) ≡ true = is_lost_stays bytes h.missing ((lost_exactly bytes (cut_of bytes) refl).0 e) in
      let gone : cut_of (bytes ++ h.missing) ≡ Lost = (lost_exactly (bytes ++ h.missing) (cut_of (bytes ++ h.missing)) refl).1 lost in
      let never : Frame h.first (body_start (length h.body)) (body_start (length h.body) + length h.body) ≡ Lost = sym packet_cut ∙ gone in
      cc)

  frame_fits : (first start end : ℕ) → BeginsWithFrame bytes first start end → end ≤ length bytes
  unfolding body_start
  frame_fits first start end frame =
      (let whole : length bytes ≡ length (first ∷ (varint_spelling (length frame.body) ++ (frame.body ++ frame.trailing))) = ap (length {A = ℕ}) frame.is in
      omega (arith, whole, frame.start_is, frame.end_is, length-append (varint_spelling (length frame.body)) (frame.body ++ frame.trailing), length-append frame.body frame.trailing))

  not_frame : AreBytes bytes → (first start end : ℕ) → cut_of bytes ≡ Frame first start end → ⊥
  not_frame known first start end e =
      (let frame : BeginsWithFrame bytes first start end = frame_begins bytes known first start end e in
      let longer : BeginsWithFrame (bytes ++ h.missing) first start end = record {
        body = frame.body;
        trailing = frame.trailing ++ h.missing;
        small = frame.small;
        is = ap (λ (l : List ℕ). l ++ h.missing) frame.is ∙ ap (λ (l : List ℕ). first ∷ l) (append_assoc (varint_spelling (length frame.body)) (frame.body ++ frame.trailing) h.missing ∙ ap (λ (l : List ℕ). varint_spelling (length frame.body) ++ l) (append_assoc frame.body frame.trailing h.missing));
        start_is = frame.start_is;
        end_is = frame.end_is;
      } in
      let ends : end ≡ body_start (length h.body) + length h.body = ap end_in (sym (begins_cut (bytes ++ h.missing) first start end longer) ∙ packet_cut) in
      absurd (omega (arith, ends, packet_size, frame_fits first start end frame, h.some_missing)))

  begins_need : AreBytes bytes → cut_of bytes ≡ Need
  begins_need known = by_cut (cut_of bytes) refl
    where
      by_cut : (cut : Cut) → cut_of bytes ≡ cut → cut_of bytes ≡ Need
      by_cut Need e = e
      by_cut (Frame first start end) e = absurd (not_frame known first start end e)
      by_cut Lost e = absurd (not_lost e)

-- ---- which of the three

pub front_of_cut : (bytes : List ℕ) → AreBytes bytes → (cut : Cut) → cut_of bytes ≡ cut → IsCutOf bytes cut
front_of_cut bytes known Need e = need_begins bytes known e
front_of_cut bytes known (Frame first start end) e = frame_begins bytes known first start end e
front_of_cut bytes known Lost e = lost_front bytes known ((lost_exactly bytes (cut_of bytes) refl).0 e)

pub cut_of_front : (bytes : List ℕ) → AreBytes bytes → (cut : Cut) → IsCutOf bytes cut → cut_of bytes ≡ cut
cut_of_front bytes known Need h = begins_need bytes h known
cut_of_front bytes known (Frame first start end) h = begins_cut bytes first start end h
cut_of_front bytes known Lost h = (lost_exactly bytes (cut_of bytes) refl).1 (front_lost bytes known h)

pub cut_exactly : (bytes : List ℕ) → AreBytes bytes → (cut : Cut) → (cut_of bytes ≡ cut) ↔ IsCutOf bytes cut
cut_exactly bytes known cut = (front_of_cut bytes known cut, cut_of_front bytes known cut)

pub one_front : (bytes : List ℕ) → AreBytes bytes → (cut : Cut) × IsCutOf bytes cut × ((other : Cut) → IsCutOf bytes other → cut ≡ other)
one_front bytes known = (cut_of bytes, front_of_cut bytes known (cut_of bytes) refl, cut_of_front bytes known)

-- ---- lost, by what may follow

lost_never : (bytes : List ℕ) → AreBytes bytes → IsLost bytes → (more : List ℕ) (first start end : ℕ) → ¬ BeginsWithFrame (bytes ++ more) first start end
lost_never bytes known h more first start end frame =
    (let gone : cut_of (bytes ++ more) ≡ Lost = (lost_exactly (bytes ++ more) (cut_of (bytes ++ more)) refl).1 (is_lost_stays bytes more (front_lost bytes known h)) in
    let never : Frame first start end ≡ Lost = sym (begins_cut (bytes ++ more) first start end frame) ∙ gone in
    cc)

never_lost : (bytes : List ℕ) → AreBytes bytes → ((more : List ℕ) (first start end : ℕ) → ¬ BeginsWithFrame (bytes ++ more) first start end) → (cut : Cut) → cut_of bytes ≡ cut → IsLost bytes
never_lost bytes known never Need e =
    (let begins : IsBeginning bytes = need_begins bytes known e in
    absurd (never begins.missing begins.first (body_start (length begins.body)) (body_start (length begins.body) + length begins.body) (packet_begins bytes begins)))
never_lost bytes known never (Frame first start end) e =
    absurd (never [] first start end (subst (λ (l : List ℕ). BeginsWithFrame l first start end) (sym (append-nil bytes)) (frame_begins bytes known first start end e)))
never_lost bytes known never Lost e = lost_front bytes known ((lost_exactly bytes (cut_of bytes) refl).0 e)

pub never_exactly : (bytes : List ℕ) → AreBytes bytes → IsLost bytes ↔ ((more : List ℕ) (first start end : ℕ) → ¬ BeginsWithFrame (bytes ++ more) first start end)
never_exactly bytes known = (lost_never bytes known, λ never. never_lost bytes known never (cut_of bytes) refl)
