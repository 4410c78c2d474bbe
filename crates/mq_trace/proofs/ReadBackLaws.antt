-- What is written is read back.
use Rattle.std.proofs.Common.{◌≡◌, ℕ, ◌+◌, ◌<◌, ◌≤◌, ◌^◌, Bool, true, false, List, [], ◌∷◌, ◌++◌, length, drop, Option, Some, None, refl, ◌∙◌, ap, arith, length-append, append_assoc}
use Rattle.std.specs.Prelude.{◌==◌, nat_le, if◌then◌else◌}
use Rattle.std.proofs.lemmas.Bool.{le-ltb, le-leb}
use Rattle.std.proofs.lemmas.Nat.{from_be_bytes-to_be_bytes_4, from_be_bytes-to_be_bytes_8}
use Rattle.std.proofs.lemmas.List.{drop_at}
use Rattle.std.specs.Int.{w32, w64, to_be_bytes}
use Rattle.mq_log.specs.Framing.{kind_of, body_length, record_size, spelled_from, moment_in, length_end, head_length}
use Rattle.mq_trace.specs.Writing.{Record, open_record, close_record, rest_record, sent_record, received_record, release_record, bit_byte, record_kind, kind_byte, record_body, record_bytes, moment_bytes, framed}
use Rattle.mq_log.proofs.Exports.{head_least}
use Rattle.mq_trace.proofs.MomentLaws.{moment_so_far, moment_stays}
use Rattle.mq_trace.proofs.SplitLaws.{timed_long}

-- a record of this size, as the tests find it
abbrev size_if : Bool → Bool → ℕ → Option ℕ
size_if headless whole n = if headless then None else (if whole then Some n else None)

whole_record : (ahead : ℕ) (bytes : List ℕ) → length_end ≤ ahead → ahead + body_length bytes ≤ length bytes → record_size ahead bytes ≡ Some (ahead + body_length bytes)
unfolding record_size
whole_record ahead bytes least h =
    let there : ahead ≤ length bytes = omega arith in
    ap (λ b. size_if b (nat_le (ahead + body_length bytes) (length bytes)) (ahead + body_length bytes)) (le-ltb (length bytes) ahead there)
    ∙ ap (λ b. size_if false b (ahead + body_length bytes)) (le-leb (ahead + body_length bytes) (length bytes) h)

framed_length : (version moment kind : ℕ) (body rest : List ℕ) → length body < 2 ^ 32 → body_length (framed version moment kind body ++ rest) ≡ length body
unfolding body_length
framed_length version moment kind body rest fits = from_be_bytes-to_be_bytes_4 (length body) fits

framed_long : (version moment kind : ℕ) (body : List ℕ) → length (framed version moment kind body) ≡ head_length version + length body
framed_long version moment kind body =
    let timed = timed_long version moment in
    let front = kind ∷ to_be_bytes w32 (length body) in
    let l = length-append (front ++ moment_bytes version moment) body in
    let m = length-append front (moment_bytes version moment) in
    omega arith

framed_size : (version moment kind : ℕ) (body rest : List ℕ) → length body < 2 ^ 32 → record_size (head_length version) (framed version moment kind body ++ rest) ≡ Some (length (framed version moment kind body))
framed_size version moment kind body rest fits =
    let emitted = framed_length version moment kind body rest fits in
    let long = framed_long version moment kind body in
    let least = head_least version in
    let all = length-append (framed version moment kind body) rest in
    let within : head_length version + body_length (framed version moment kind body ++ rest) ≤ length (framed version moment kind body ++ rest) = omega (arith, emitted, all, long) in
    let same : head_length version + body_length (framed version moment kind body ++ rest) ≡ length (framed version moment kind body) = omega (arith, emitted, long) in
    whole_record (head_length version) (framed version moment kind body ++ rest) least within ∙ ap Some same

pub size_read_back : (version moment : ℕ) (entry : Record) (rest : List ℕ) → length (record_body entry) ≤ 16777216 → record_size (head_length version) (record_bytes version moment entry ++ rest) ≡ Some (length (record_bytes version moment entry))
size_read_back version moment open_record rest fits = framed_size version moment 1 [] rest (omega arith)
size_read_back version moment (sent_record body) rest fits = framed_size version moment 2 body rest (omega arith)
size_read_back version moment (received_record body) rest fits = framed_size version moment 3 body rest (omega arith)
size_read_back version moment close_record rest fits = framed_size version moment 4 [] rest (omega arith)
size_read_back version moment rest_record rest fits = framed_size version moment 5 [] rest (omega arith)
size_read_back version moment (release_record identifier) rest fits = framed_size version moment 6 (record_body (release_record identifier)) rest (omega arith)

-- the body and the moment of a record, after its kind and its length
pub body_read_back : (version moment : ℕ) (entry : Record) → drop (head_length version) (record_bytes version moment entry) ≡ record_body entry
body_read_back version moment entry =
    let body = record_body entry in
    let front = kind_byte (record_kind entry) ∷ to_be_bytes w32 (length body) in
    let timed = timed_long version moment in
    let m = length-append front (moment_bytes version moment) in
    drop_at (front ++ moment_bytes version moment) body (head_length version) (omega arith)

-- in version 2 the moment is written
pub moment_written : (version moment : ℕ) → (version == 2) ≡ true → moment_bytes version moment ≡ to_be_bytes w64 moment
unfolding moment_bytes
moment_written version moment is = ap (λ (b : Bool). if b then to_be_bytes w64 moment else []) is

moment_spelled : (moment : ℕ) → moment < 2 ^ 64 → spelled_from 0 (moment_bytes 2 moment) ≡ moment
unfolding moment_bytes
moment_spelled moment fits = omega (arith, from_be_bytes-to_be_bytes_8 moment fits)

pub moment_read_back : (moment : ℕ) (entry : Record) (rest : List ℕ) → moment < 2 ^ 64 → moment_in (head_length 2) (record_bytes 2 moment entry ++ rest) ≡ moment
moment_read_back moment entry rest fits =
    let body = record_body entry in
    let front = kind_byte (record_kind entry) ∷ to_be_bytes w32 (length body) in
    let timed = timed_long 2 moment in
    let m = length-append front (moment_bytes 2 moment) in
    ap (moment_in (head_length 2)) (append_assoc (front ++ moment_bytes 2 moment) body rest)
    ∙ moment_stays (head_length 2) (front ++ moment_bytes 2 moment) (body ++ rest) (omega arith)
    ∙ moment_so_far (head_length 2) (front ++ moment_bytes 2 moment) (omega arith)
    ∙ moment_spelled moment fits

pub kind_read_back : (version moment : ℕ) (entry : Record) (rest : List ℕ) → kind_of (record_bytes version moment entry ++ rest) ≡ Some (record_kind entry)
unfolding kind_of
kind_read_back version moment open_record rest = refl
kind_read_back version moment (sent_record body) rest = refl
kind_read_back version moment (received_record body) rest = refl
kind_read_back version moment close_record rest = refl
kind_read_back version moment rest_record rest = refl
kind_read_back version moment (release_record identifier) rest = refl

pub bit_read_back : (bit : Bool) → (bit_byte bit == 1) ≡ bit
bit_read_back true = refl
bit_read_back false = refl
