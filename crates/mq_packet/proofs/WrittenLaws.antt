-- What is written of a packet is one frame, and is read as the packet.
use Rattle.std.proofs.Common.{◌≡◌, ℕ, ◌+◌, ◌≤◌, Bool, true, List, [], ◌∷◌, ◌++◌, length, Option, Result, Ok, refl, ◌∙◌, ap, append_assoc, arith}
use Rattle.std.specs.Prelude.{if◌then◌else◌}
use Rattle.std.proofs.lemmas.Bool.{ne_eqb}
use Rattle.mq_wire.specs.Spellings.{varint_spelling}
use Rattle.mq_wire.specs.Fields.{◌>>=◌}
use Rattle.mq_packet.specs.declared.frame.Cut.TheVariants.{Frame}
use Rattle.mq_packet.specs.declared.fault.DecodeFault.{DecodeFault}
use Rattle.mq_packet.specs.Entries.{Entry, AskedFilter}
use Rattle.mq_packet.specs.Formats.{Kind, ValueOf, Objection, Format, done, rest, all_codes, all_filters, bad_first_byte, field, at_end, format_of}
use Rattle.mq_packet.specs.Spelled.{spelling, Spells, IsSpelled}
use Rattle.mq_packet.specs.Valid.{valid, IsTyped}
use Rattle.mq_packet.specs.Decoding.{body_start, read, decoded}
use Rattle.mq_packet.specs.Frames.{BeginsWithFrame, cut_of}
use Rattle.mq_packet.specs.Canonical.{first_byte_of, canonical_body, canonical}
use Rattle.mq_packet.proofs.FrameLaws.{begins_cut}
use Rattle.mq_packet.proofs.CodeLaws.{codes_known}
use Rattle.mq_packet.proofs.FilterLaws.{filters_known}
use Rattle.mq_packet.proofs.FieldLaws.{left_from, field_read}
use Rattle.mq_packet.proofs.Readings.{by_field, by_objection}
use Rattle.mq_packet.proofs.CanonicalLaws.{canonical_spelled}

begins : (entry : Entry) (more : List ℕ) → length (canonical_body entry) ≤ 268435455
    → BeginsWithFrame (canonical entry ++ more) (first_byte_of entry) (body_start (length (canonical_body entry))) (body_start (length (canonical_body entry)) + length (canonical_body entry))
unfolding canonical
begins entry more small =
    record {
      body = canonical_body entry;
      trailing = more;
      small = small;
      is = ap (λ (l : List ℕ). first_byte_of entry ∷ l) (append_assoc (varint_spelling (length (canonical_body entry))) (canonical_body entry) more);
      start_is = refl;
      end_is = refl;
    }

pub written_cut : (entry : Entry) (more : List ℕ) → length (canonical_body entry) ≤ 268435455
    → cut_of (canonical entry ++ more) ≡ Frame (first_byte_of entry) (body_start (length (canonical_body entry))) (body_start (length (canonical_body entry)) + length (canonical_body entry))
written_cut entry more small =
    begins_cut (canonical entry ++ more) (first_byte_of entry) (body_start (length (canonical_body entry))) (body_start (length (canonical_body entry)) + length (canonical_body entry)) (begins entry more small)

-- What is spelled by a format is read.
abbrev ReadsSpelled : Format → Type 0
ReadsSpelled format = (at : ℕ) (bytes : List ℕ) (entry : Entry) → Spells format bytes entry → read format (left_from at bytes) ≡ Ok entry

field_reads : (kind : Kind) (objection : ValueOf kind → Option Objection) (next : ValueOf kind → Format) → ((value : ValueOf kind) → ReadsSpelled (next value)) → ReadsSpelled (field kind objection next)
field_reads kind objection next later at bytes entry h =
    ap (by_field kind objection next at) (field_read kind at bytes h.0 h.1 h.2)
    ∙ (ap (by_objection kind next at (h.0, left_from (at + length (spelling kind h.0)) h.1)) h.3
    ∙ later h.0 (at + length (spelling kind h.0)) h.1 entry h.4)

done_reads : (packet : Entry) → ReadsSpelled (done packet)
done_reads packet at [] entry h = ap (λ (e : Entry). Ok e) h.1
done_reads packet at (b ∷ bytes) entry h = absurd (let none : (b ∷ bytes) ≡ [] = h.0 in cc)

at_end_reads : (whole more : Format) → ReadsSpelled whole → ReadsSpelled more → ReadsSpelled (at_end whole more)
at_end_reads whole more one two at [] entry h = one at [] entry h
at_end_reads whole more one two at (b ∷ bytes) entry h =
    ap (λ (t : Bool). if t then read whole (left_from at (b ∷ bytes)) else read more (left_from at (b ∷ bytes))) (ne_eqb (length (b ∷ bytes)) 0 (λ (e : length (b ∷ bytes) ≡ 0). omega arith))
    ∙ two at (b ∷ bytes) entry h

spelled_read : (format : Format) → ReadsSpelled format
spelled_read (done packet) = done_reads packet
spelled_read (rest packet) = λ at bytes entry h. ap (λ (e : Entry). Ok e) h
spelled_read (all_codes table packet) = λ at bytes entry h. ap (λ (r : Result (List ℕ) DecodeFault). r >>= (λ reasons. Ok (packet reasons))) (codes_known table (left_from at bytes) h.0) ∙ ap (λ (e : Entry). Ok e) h.1
spelled_read (all_filters asks packet) = λ at bytes entry h. ap (λ (r : Result (List AskedFilter) DecodeFault). r >>= (λ filters. Ok (packet filters))) (filters_known asks (left_from at bytes) h.0 h.1 h.2) ∙ ap (λ (e : Entry). Ok e) h.3
spelled_read (bad_first_byte rule) = λ at bytes entry h. absurd h
spelled_read (field kind objection next) = field_reads kind objection next (λ value. spelled_read (next value))
spelled_read (at_end whole more) = at_end_reads whole more (spelled_read whole) (spelled_read more)

pub spelled_decoded : (first : ℕ) (body : List ℕ) (entry : Entry) → IsSpelled first body entry → decoded first body ≡ Ok entry
unfolding decoded
spelled_decoded first body entry h = spelled_read (format_of first) (body_start (length body)) body entry h

-- What is written of a valid packet is read as it.
pub written_decoded : (entry : Entry) → IsTyped entry → valid entry ≡ true → decoded (first_byte_of entry) (canonical_body entry) ≡ Ok entry
written_decoded entry typed e = spelled_decoded (first_byte_of entry) (canonical_body entry) entry (canonical_spelled entry typed e)
