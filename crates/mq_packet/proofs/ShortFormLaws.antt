-- A packet is spelled by the bytes that are written of it, by their short forms, and by no others.
use Rattle.std.proofs.Common.{◌≡◌, ◌≢◌, ℕ, ◌+◌, ◌-◌, ◌≤◌, ◌⊎◌, ◌↔◌, inl, inr, true, false, List, [], ◌∷◌, ◌++◌, length, take, drop, Result, Ok, refl, sym, ◌∙◌, ap, subst, arith, append_assoc, length-append}
use Rattle.std.specs.Prelude.{◌==◌, if◌then◌else◌}
use Rattle.std.proofs.lemmas.Bool.{eqb-false}
use Rattle.std.proofs.lemmas.List.{take_at, drop_at}
use Rattle.mq_wire.specs.Spellings.{AreBytes, two_bytes_spelling, varint_spelling}
use Rattle.mq_props.specs.Values.{Property}
use Rattle.mq_packet.specs.declared.fault.DecodeFault.{DecodeFault}
use Rattle.mq_packet.specs.declared.packet.PacketType.TheVariants as types
use Rattle.mq_packet.specs.declared.packet.AcknowledgementKind.TheVariants as acknowledgements
use Rattle.mq_packet.specs.declared.packet.ReasonPacketKind.TheVariants as endings
use Rattle.mq_packet.specs.Entries.{Entry, connect, connack, publish, acknowledgement, request, answer, pingreq, pingresp, disconnect, auth}
use Rattle.mq_packet.specs.Decoding.{body_start, decoded}
use Rattle.mq_packet.specs.Spelled.{IsSpelled, DecodesTo}
use Rattle.mq_packet.specs.Canonical.{type_of, list_spelling, reason_spelling, first_byte_of, acknowledgement_body, disconnect_body, auth_body, canonical_body, canonical}
use Rattle.mq_packet.specs.Valid.{valid, IsTyped}
use Rattle.mq_packet.specs.ShortForms.{SpellsEnd, IsBodyOf, IsSpelling, has_short_form, IsShortFor, BeginsWithPacket}
use Rattle.mq_packet.proofs.EndLaws.{acknowledgement_spells, reason_packet_spells}
use Rattle.mq_packet.proofs.CanonicalLaws.{canonical_spelled}
use Rattle.mq_packet.proofs.ValidLaws.{spelled_valid}
use Rattle.mq_packet.proofs.WrittenLaws.{written_cut, written_decoded}
use Rattle.mq_packet.proofs.Readings.{comes_to_decoded}
use Rattle.mq_packet.proofs.SpellingLaws.{spelled_made}

-- ---- what is spelled is one of the spellings

pub spelled_spelling : (first : ℕ) (body : List ℕ) (entry : Entry) → IsSpelled first body entry → IsSpelling first body entry
spelled_spelling first body entry h =
    (let made = spelled_made first body entry h in
    record { typed = made.typed; is_valid = spelled_valid first body entry h; first_is = made.first_is; body_is = made.body_is })

-- ---- and each of them is spelled

-- The body that is written, for a packet that has no short form.
as_written : (entry : Entry) (body : List ℕ) → IsTyped entry → valid entry ≡ true → body ≡ canonical_body entry → IsSpelled (first_byte_of entry) body entry
as_written entry body typed e is = subst (λ (b : List ℕ). IsSpelled (first_byte_of entry) b entry) (sym is) (canonical_spelled entry typed e)

body_spelled : (entry : Entry) (body : List ℕ) → IsTyped entry → valid entry ≡ true → IsBodyOf entry body → IsSpelled (first_byte_of entry) body entry
body_spelled (connect fields) body typed e h = as_written (connect fields) body typed e h
body_spelled (connack session_present code list) body typed e h = as_written (connack session_present code list) body typed e h
body_spelled (publish fields) body typed e h = as_written (publish fields) body typed e h
body_spelled (acknowledgement acknowledgements.Puback identifier code list) body typed e h = acknowledgement_spells acknowledgements.Puback identifier code list body typed e h
body_spelled (acknowledgement acknowledgements.Pubrec identifier code list) body typed e h = acknowledgement_spells acknowledgements.Pubrec identifier code list body typed e h
body_spelled (acknowledgement acknowledgements.Pubrel identifier code list) body typed e h = acknowledgement_spells acknowledgements.Pubrel identifier code list body typed e h
body_spelled (acknowledgement acknowledgements.Pubcomp identifier code list) body typed e h = acknowledgement_spells acknowledgements.Pubcomp identifier code list body typed e h
body_spelled (request kind identifier list filters) body typed e h = as_written (request kind identifier list filters) body typed e h
body_spelled (answer kind identifier list reasons) body typed e h = as_written (answer kind identifier list reasons) body typed e h
body_spelled pingreq body typed e h = as_written pingreq body typed e h
body_spelled pingresp body typed e h = as_written pingresp body typed e h
body_spelled (disconnect code list) body typed e h = reason_packet_spells endings.Disconnect code list body typed e h
body_spelled (auth code list) body typed e h = reason_packet_spells endings.Auth code list body typed e h

pub spelling_spelled : (first : ℕ) (body : List ℕ) (entry : Entry) → IsSpelling first body entry → IsSpelled first body entry
spelling_spelled first body entry h =
    subst (λ (f : ℕ). IsSpelled f body entry) (sym h.first_is) (body_spelled entry body h.typed h.is_valid h.body_is)

pub spelled_exactly : (first : ℕ) (body : List ℕ) (entry : Entry) → IsSpelled first body entry ↔ IsSpelling first body entry
spelled_exactly first body entry = (spelled_spelling first body entry, spelling_spelled first body entry)

-- ---- two spellings of one packet

-- Two bodies are equal, or one of them is short for the other.
abbrev AreAlike : List ℕ → List ℕ → Type 0
AreAlike one two = (one ≡ two) ⊎ (IsShortFor one two ⊎ IsShortFor two one)

none_is : (items : List Property) → items ≡ [] → (length items == 0) ≡ true
none_is items e = ap (λ (l : List Property). length l == 0) e

module _ (code : ℕ) (items : List Property) (none : items ≡ []) where
  full_is : code ∷ list_spelling items ≡ code ∷ 0 ∷ []
  unfolding varint_spelling
  full_is = ap (λ (l : List Property). code ∷ list_spelling l) none

  alone_short : (short long : List ℕ) → long ≡ code ∷ list_spelling items → short ≡ code ∷ [] → IsShortFor short long
  alone_short short long a b = inl (a ∙ (full_is ∙ sym (ap (λ (l : List ℕ). l ++ (0 ∷ [])) b)))

  empty_short : (short long : List ℕ) → long ≡ code ∷ list_spelling items → code ≡ 0 → short ≡ [] → IsShortFor short long
  empty_short short long a zero_is b = inr (a ∙ (full_is ∙ (ap (λ (c : ℕ). c ∷ 0 ∷ []) zero_is ∙ sym (ap (λ (l : List ℕ). l ++ (0 ∷ 0 ∷ [])) b))))

  empty_alone : (short long : List ℕ) → long ≡ code ∷ [] → code ≡ 0 → short ≡ [] → IsShortFor short long
  empty_alone short long a zero_is b = inl (a ∙ (ap (λ (c : ℕ). c ∷ []) zero_is ∙ sym (ap (λ (l : List ℕ). l ++ (0 ∷ [])) b)))

-- What two ends of one packet are to each other: they differ only where there are no properties.
abbrev TwoEnds : List Property → List ℕ → List ℕ → Type 0
TwoEnds items one two = (one ≡ two) ⊎ (((length items == 0) ≡ true) × (IsShortFor one two ⊎ IsShortFor two one))

two_ends : (code : ℕ) (items : List Property) (one two : List ℕ) → SpellsEnd code items one → SpellsEnd code items two → TwoEnds items one two
two_ends code items one two (inl a) (inl b) = inl (a ∙ sym b)
two_ends code items one two (inl a) (inr (inl b)) = inr (none_is items b.0, inr (alone_short code items b.0 two one a b.1))
two_ends code items one two (inl a) (inr (inr b)) = inr (none_is items b.0, inr (empty_short code items b.0 two one a b.1 b.2))
two_ends code items one two (inr (inl a)) (inl b) = inr (none_is items a.0, inl (alone_short code items a.0 one two b a.1))
two_ends code items one two (inr (inl a)) (inr (inl b)) = inl (a.1 ∙ sym b.1)
two_ends code items one two (inr (inl a)) (inr (inr b)) = inr (none_is items a.0, inr (empty_alone code items a.0 two one a.1 b.1 b.2))
two_ends code items one two (inr (inr a)) (inl b) = inr (none_is items a.0, inl (empty_short code items a.0 one two b a.1 a.2))
two_ends code items one two (inr (inr a)) (inr (inl b)) = inr (none_is items a.0, inl (empty_alone code items a.0 one two b.1 a.1 a.2))
two_ends code items one two (inr (inr a)) (inr (inr b)) = inl (a.2 ∙ sym b.2)

-- After the same bytes they are the same to each other.
short_after : (front short long : List ℕ) → IsShortFor short long → IsShortFor (front ++ short) (front ++ long)
short_after front short long (inl e) = inl (ap (λ (l : List ℕ). front ++ l) e ∙ sym (append_assoc front short (0 ∷ [])))
short_after front short long (inr e) = inr (ap (λ (l : List ℕ). front ++ l) e ∙ sym (append_assoc front short (0 ∷ 0 ∷ [])))

ends_after : (items : List Property) (front one two : List ℕ) → TwoEnds items one two → TwoEnds items (front ++ one) (front ++ two)
ends_after items front one two (inl e) = inl (ap (λ (l : List ℕ). front ++ l) e)
ends_after items front one two (inr (none, inl short)) = inr (none, inl (short_after front one two short))
ends_after items front one two (inr (none, inr short)) = inr (none, inr (short_after front two one short))

-- What two bodies of one packet are to each other.
abbrev TwoBodies : Entry → List ℕ → List ℕ → Type 0
TwoBodies entry body other = (body ≡ other) ⊎ ((has_short_form entry ≡ true) × (IsShortFor body other ⊎ IsShortFor other body))

two_bodies : (entry : Entry) (body other : List ℕ) → IsBodyOf entry body → IsBodyOf entry other → TwoBodies entry body other
two_bodies (connect fields) body other h k = inl (h ∙ sym k)
two_bodies (connack session_present code list) body other h k = inl (h ∙ sym k)
two_bodies (publish fields) body other h k = inl (h ∙ sym k)
two_bodies (acknowledgement kind identifier code list) body other h k =
    (let found : TwoEnds list.items (two_bytes_spelling identifier ++ h.0) (two_bytes_spelling identifier ++ k.0) = ends_after list.items (two_bytes_spelling identifier) h.0 k.0 (two_ends code list.items h.0 k.0 h.2 k.2) in
    let there : TwoEnds list.items body (two_bytes_spelling identifier ++ k.0) = subst (λ (b : List ℕ). TwoEnds list.items b (two_bytes_spelling identifier ++ k.0)) (sym h.1) found in
    subst (λ (b : List ℕ). TwoEnds list.items body b) (sym k.1) there)
two_bodies (request kind identifier list filters) body other h k = inl (h ∙ sym k)
two_bodies (answer kind identifier list reasons) body other h k = inl (h ∙ sym k)
two_bodies pingreq body other h k = inl (h ∙ sym k)
two_bodies pingresp body other h k = inl (h ∙ sym k)
two_bodies (disconnect code list) body other h k = two_ends code list.items body other h k
two_bodies (auth code list) body other h k = two_ends code list.items body other h k

pub two_spellings : (first other : ℕ) (body more : List ℕ) (entry : Entry) → IsSpelled first body entry → IsSpelled other more entry
    → (first ≡ other) × ((body ≡ more) ⊎ ((has_short_form entry ≡ true) × (IsShortFor body more ⊎ IsShortFor more body)))
two_spellings first other body more entry h k =
    (let one = spelled_spelling first body entry h in
    let two = spelled_spelling other more entry k in
    (one.first_is ∙ sym two.first_is, two_bodies entry body more one.body_is two.body_is))

-- ---- which of them is written

-- What is written of a Reason Code and properties isn't longer than any other spelling of them.
reason_short : (code : ℕ) (items : List Property) (end : List ℕ) → SpellsEnd code items end → length (reason_spelling code items) ≤ length end
reason_short code [] end (inl e) = (let size : length end ≡ length (code ∷ list_spelling []) = ap (length {A = ℕ}) e in elim (code == 0) as (λ t. length (if t then [] else code ∷ []) ≤ length end) [ true ↦ omega arith | false ↦ omega (arith, size) ])
reason_short code [] end (inr (inl h)) = (let size : length end ≡ 1 = ap (length {A = ℕ}) h.1 in elim (code == 0) as (λ t. length (if t then [] else code ∷ []) ≤ length end) [ true ↦ omega arith | false ↦ omega (arith, size) ])
reason_short code [] end (inr (inr h)) =
    elim (code == 0) as (λ t. (code == 0) ≡ t → length (if t then [] else code ∷ []) ≤ length end) [
      | true ↦ λ _. omega arith
      | false ↦ λ above. absurd (eqb-false code 0 above h.1)
    ] refl
reason_short code (p ∷ items) end (inl e) = (let size : length end ≡ length (code ∷ list_spelling (p ∷ items)) = ap (length {A = ℕ}) e in omega (arith, size))
reason_short code (p ∷ items) end (inr (inl h)) = absurd (let never = h.0 in cc)
reason_short code (p ∷ items) end (inr (inr h)) = absurd (let never = h.0 in cc)

same_length : (one two : List ℕ) → one ≡ two → length two ≤ length one
same_length one two e = (let size : length one ≡ length two = ap (length {A = ℕ}) e in omega (arith, size))

acknowledgement_short : (identifier code : ℕ) (items : List Property) (body end : List ℕ) → body ≡ two_bytes_spelling identifier ++ end → SpellsEnd code items end → length (acknowledgement_body identifier code items) ≤ length body
unfolding acknowledgement_body
acknowledgement_short identifier code items body end e h =
    (let size : length body ≡ length (two_bytes_spelling identifier) + length end = ap (length {A = ℕ}) e ∙ length-append (two_bytes_spelling identifier) end in
    omega (arith, size, reason_short code items end h, length-append (two_bytes_spelling identifier) (reason_spelling code items)))

disconnect_short : (code : ℕ) (items : List Property) (body : List ℕ) → SpellsEnd code items body → length (disconnect_body code items) ≤ length body
unfolding disconnect_body
disconnect_short code items body h = reason_short code items body h

body_short : (entry : Entry) (body : List ℕ) → type_of entry ≢ types.Auth → IsBodyOf entry body → length (canonical_body entry) ≤ length body
body_short (connect fields) body not_auth h = same_length body (canonical_body (connect fields)) h
body_short (connack session_present code list) body not_auth h = same_length body (canonical_body (connack session_present code list)) h
body_short (publish fields) body not_auth h = same_length body (canonical_body (publish fields)) h
body_short (acknowledgement kind identifier code list) body not_auth h = acknowledgement_short identifier code list.items body h.0 h.1 h.2
body_short (request kind identifier list filters) body not_auth h = same_length body (canonical_body (request kind identifier list filters)) h
body_short (answer kind identifier list reasons) body not_auth h = same_length body (canonical_body (answer kind identifier list reasons)) h
body_short pingreq body not_auth h = omega arith
body_short pingresp body not_auth h = omega arith
body_short (disconnect code list) body not_auth h = disconnect_short code list.items body h
body_short (auth code list) body not_auth h = absurd (not_auth refl)

pub shortest : (first : ℕ) (body : List ℕ) (entry : Entry) → type_of entry ≢ types.Auth → IsSpelled first body entry → length (canonical_body entry) ≤ length body
shortest first body entry not_auth h = body_short entry body not_auth (spelled_spelling first body entry h).body_is

-- What is written fits where what was read did: an AUTH is written longer only where it has no properties.
auth_fits : (code : ℕ) (items : List Property) (body : List ℕ) → SpellsEnd code items body → length body ≤ 268435455 → length (auth_body code items) ≤ 268435455
unfolding auth_body varint_spelling
auth_fits code [] body h small = elim (code == 0) as (λ t. length (if t then [] else code ∷ list_spelling []) ≤ 268435455) [ true ↦ omega arith | false ↦ omega arith ]
auth_fits code (p ∷ items) body (inl e) small = (let size : length body ≡ length (code ∷ list_spelling (p ∷ items)) = ap (length {A = ℕ}) e in omega (arith, size, small))
auth_fits code (p ∷ items) body (inr (inl h)) small = absurd (let never = h.0 in cc)
auth_fits code (p ∷ items) body (inr (inr h)) small = absurd (let never = h.0 in cc)

body_fits : (entry : Entry) (body : List ℕ) → IsBodyOf entry body → length body ≤ 268435455 → length (canonical_body entry) ≤ 268435455
body_fits (connect fields) body h small = omega (arith, small, same_length body (canonical_body (connect fields)) h)
body_fits (connack session_present code list) body h small = omega (arith, small, same_length body (canonical_body (connack session_present code list)) h)
body_fits (publish fields) body h small = omega (arith, small, same_length body (canonical_body (publish fields)) h)
body_fits (acknowledgement kind identifier code list) body h small = omega (arith, small, acknowledgement_short identifier code list.items body h.0 h.1 h.2)
body_fits (request kind identifier list filters) body h small = omega (arith, small, same_length body (canonical_body (request kind identifier list filters)) h)
body_fits (answer kind identifier list reasons) body h small = omega (arith, small, same_length body (canonical_body (answer kind identifier list reasons)) h)
body_fits pingreq body h small = omega arith
body_fits pingresp body h small = omega arith
body_fits (disconnect code list) body h small = omega (arith, small, disconnect_short code list.items body h)
body_fits (auth code list) body h small = auth_fits code list.items body h small

-- ---- decoding and writing again

decoded_spelled : (first : ℕ) (body : List ℕ) (entry : Entry) → AreBytes body → decoded first body ≡ Ok entry → IsSpelled first body entry
decoded_spelled first body entry known e = subst (λ (r : Result Entry DecodeFault). DecodesTo first body r) e (comes_to_decoded first body known)

module _ (first : ℕ) (body : List ℕ) (entry : Entry) (known : AreBytes body) (e : decoded first body ≡ Ok entry) where
  pub read_valid : IsTyped entry × (valid entry ≡ true)
  read_valid = (let h = spelled_spelling first body entry (decoded_spelled first body entry known e) in (h.typed, h.is_valid))

  pub read_fits : length body ≤ 268435455 → length (canonical_body entry) ≤ 268435455
  read_fits small = body_fits entry body (spelled_spelling first body entry (decoded_spelled first body entry known e)).body_is small

  pub read_again : decoded (first_byte_of entry) (canonical_body entry) ≡ Ok entry
  read_again = written_decoded entry read_valid.0 read_valid.1

  pub read_written : (first_byte_of entry ≡ first) × ((canonical_body entry ≡ body) ⊎ ((has_short_form entry ≡ true) × (IsShortFor (canonical_body entry) body ⊎ IsShortFor body (canonical_body entry))))
  read_written = two_spellings (first_byte_of entry) first (canonical_body entry) body entry (canonical_spelled entry read_valid.0 read_valid.1) (decoded_spelled first body entry known e)

  pub read_same : has_short_form entry ≡ false → canonical entry ≡ first ∷ (varint_spelling (length body) ++ body)
  unfolding canonical
  read_same none =
      (let same : canonical_body entry ≡ body = elim read_written.1 [ inl is ↦ is | inr other ↦ absurd (let never : has_short_form entry ≡ true = other.0 in cc) ] in
      ap (λ (f : ℕ). f ∷ (varint_spelling (length (canonical_body entry)) ++ canonical_body entry)) read_written.0
      ∙ ap (λ (b : List ℕ). first ∷ (varint_spelling (length b) ++ b)) same)

-- ---- writing and decoding again

-- The body of a frame that is written.
body_found : (first size : ℕ) (body more : List ℕ) → size ≡ length (varint_spelling (length body)) → take (1 + size + length body - (1 + size)) (drop (1 + size) ((first ∷ (varint_spelling (length body) ++ body)) ++ more)) ≡ body
body_found first size body more size_is =
    (let trailing : drop (1 + size) ((first ∷ (varint_spelling (length body) ++ body)) ++ more) ≡ body ++ more =
    ap (drop (1 + size)) (ap (λ (l : List ℕ). first ∷ l) (append_assoc (varint_spelling (length body)) body more))
    ∙ drop_at (first ∷ varint_spelling (length body)) (body ++ more) (1 + size) (omega (arith, size_is)) in
    let count : 1 + size + length body - (1 + size) ≡ length body = omega arith in
    ap (λ (l : List ℕ). take (1 + size + length body - (1 + size)) l) trailing
    ∙ (ap (λ (n : ℕ). take n (body ++ more)) count
    ∙ take_at body more (length body) refl))

pub written_read : (entry : Entry) (more : List ℕ) → IsTyped entry → valid entry ≡ true → length (canonical_body entry) ≤ 268435455 → BeginsWithPacket (canonical entry ++ more) entry
unfolding canonical body_start
written_read entry more typed e small =
    record {
      first = first_byte_of entry;
      start = body_start (length (canonical_body entry));
      end = body_start (length (canonical_body entry)) + length (canonical_body entry);
      cut = written_cut entry more small;
      read = ap (decoded (first_byte_of entry)) (body_found (first_byte_of entry) (length (varint_spelling (length (canonical_body entry)))) (canonical_body entry) more refl) ∙ written_decoded entry typed e;
    }
