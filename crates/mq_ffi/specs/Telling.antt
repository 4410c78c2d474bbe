-- Events as records of a log.
use Rattle.std.specs.Prelude.{ℕ, zero, suc, ◌-◌, ◌/◌, List, ◌++◌, length, take, drop}
use Rattle.mq_trace.specs.Writing.{Record, open_record, close_record, rest_record, sent_record, received_record, release_record, record_bytes}
use Rattle.mq_ffi.specs.declared.event.Event.{Event}
use Rattle.mq_ffi.specs.declared.event.Event.TheVariants as happened

-- the most bytes that a record of version 1 may have
abbrev pub most_bytes : ℕ
most_bytes = 1048576

-- These bytes in records, each written so: so many that have as many of them as one may have, and one with what is left.
abbrev pub in_parts : (List ℕ → List ℕ) → ℕ → List ℕ → List ℕ
in_parts written zero bytes = written bytes
in_parts written (suc full) bytes = written (take most_bytes bytes) ++ in_parts written full (drop most_bytes bytes)

-- how many full records come before the last one, if there are so many bytes
abbrev pub full_before : ℕ → ℕ
full_before size = (size - 1) / most_bytes

-- these bytes in as few records as can have them: one for up to so many, also for none
abbrev pub in_records : (List ℕ → List ℕ) → List ℕ → List ℕ
in_records written bytes = in_parts written (full_before (length bytes)) bytes

-- a record's bytes in a log of version 1, which has no moments
abbrev pub bytes_in : Record → List ℕ
bytes_in entry = record_bytes 1 0 entry

-- an event's bytes in a log of version 1
abbrev pub bytes_of : Event → List ℕ
bytes_of happened.Open = bytes_in open_record
bytes_of (happened.Sent bytes) = in_records (λ part. bytes_in (sent_record part)) bytes.now
bytes_of (happened.Received bytes) = in_records (λ part. bytes_in (received_record part)) bytes.now
bytes_of happened.Close = bytes_in close_record
bytes_of happened.Rest = bytes_in rest_record
bytes_of (happened.Release identifier) = bytes_in (release_record identifier)
