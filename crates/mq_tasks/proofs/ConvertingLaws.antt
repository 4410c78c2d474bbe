-- What a status tells of a log that was converted.
use Rattle.std.proofs.Common.{◌≡◌, ◌≤◌, ◌∙◌, ◌⊎◌, inl, inr, Bool, false, true≢false, ◌||◌, nat_lt, ℕ, length, take, take_all, arith, ap₂, List, [], ◌∷◌, ◌++◌, append-nil, cond, is_some, reverse, Option, Some, None, Result, Ok, Err, IfErr, IfOk, IfSome, OnOk, ap, refl, subst, sym}
use Rattle.std.proofs.lemmas.List.{drop_all, reverse-append, take-append-le}
use Rattle.std.proofs.KnownBytes.{Appends-kept, Keeps-refl}
use Rattle.std.specs.Io.KnownBytes.{Appends, Consumes, IsAtEnd, Keeps, prepend_known}
use Rattle.clap.specs.Words.{Text as Bytes}
use Rattle.std.specs.Option.{option_or}
use Rattle.mq_judge.specs.declared.Form.TheVariants.{Text, Json}
use Rattle.mq_judge.specs.declared.Refusal.{Refusal}
use Rattle.mq_judge.specs.declared.Refusal.TheVariants as refusals
use Rattle.mq_report.specs.Report.{refused_line}
use Rattle.mq_trace.specs.Converting.{Converts, IsUnconverted, converted, copied, copied_back, timed, unconverted, unconverted_at, unconverted_back}
use Rattle.mq_trace.specs.declared.converting.ConvertFault.TheVariants as faults
use Rattle.mq_host.specs.declared.failure.Failure.{Failure}
use Rattle.mq_host.specs.declared.failure.Failure.TheVariants as failures
use Rattle.mq_host.specs.declared.trouble.Trouble.{Trouble}
use Rattle.mq_log.specs.Framing.{ahead_in, record_size, records}
use Rattle.mq_log.specs.Pieces.{pieces}
use Rattle.mq_log.specs.Refusals.{is_cut_short}
use Rattle.mq_host.specs.declared.trouble.Trouble.TheVariants as troubles
use Rattle.mq_tasks.specs.Converting.{DoesToFiles, FailsConverting, HasHeader, IsConverted, IsConvertible, IsInconvertible, RefusesConverting, StopsConverting}
use Rattle.mq_host.specs.Effects.{Doing}
use Rattle.mq_host.specs.Given.{Given, bytes_at}
use Rattle.mq_tasks.specs.Messages.{BeginsRefusal, IsOfLog, LacksJsonMemory, failure_of}
use Rattle.mq_tasks.specs.Program.{FailsSource, ForSomeFile, IsHinted, RefusesSource}
use Rattle.mq_host.specs.Streams.{AppendsPart, Stream}
use Rattle.mq_host.specs.Troubles.{Tells, failure_in, place_of}
use Rattle.mq_tasks.proofs.BeginningLaws.{hinted_of_kept}
use Rattle.mq_tasks.proofs.MessageLaws.{part-kept}
use Rattle.mq_tasks.proofs.ProgramLemmas.{known_kept}

-- ---- the whole log

-- what is refused stays so, whatever follows, and nothing more of it is copied; the newest byte comes first
back_stays : (more back : List ℕ) (refusal : Refusal) → unconverted_back back ≡ Some refusal
    → (unconverted_back (more ++ back) ≡ Some refusal) × (copied_back (more ++ back) ≡ copied_back back)
unfolding unconverted_back copied_back
back_stays [] back refusal is = (is, refl)
back_stays (byte ∷ more) back refusal is =
    let earlier = back_stays more back refusal is in
    let next : unconverted_back (byte ∷ more ++ back) ≡ Some refusal = ap (λ (o : Option Refusal). option_or o (unconverted_at (reverse (more ++ back)) byte)) earlier.0 in
    (next, ap (λ (o : Option Refusal). cond (is_some o) (copied_back (more ++ back)) (byte ∷ more ++ back)) next ∙ earlier.1)

refused_stays : (read later : List ℕ) (refusal : Refusal) → unconverted read ≡ Some refusal
    → (unconverted (read ++ later) ≡ Some refusal) × (converted (read ++ later) ≡ converted read)
unfolding unconverted copied
refused_stays read later refusal is =
    let turned : reverse (read ++ later) ≡ reverse later ++ reverse read = reverse-append read later in
    let stays = back_stays (reverse later) (reverse read) refusal is in (
      ap unconverted_back turned ∙ stays.0,
      ap (λ (back : List ℕ). timed (reverse (copied_back back))) turned ∙ ap (λ (back : List ℕ). timed (reverse back)) stays.1,
    )

-- what was read up to the end is the log
all_read : (log read : List ℕ) (left : Option (List ℕ)) → Consumes (Some log) left read → IsAtEnd left → read ≡ log
all_read log read None c end = absurd c
all_read log read (Some rest) c end = sym (c ∙ ap (λ (bytes : List ℕ). read ++ bytes) end ∙ append-nil read)

-- a log that was converted to its end
whole_is_converted : (log : List ℕ) (left old new : Option (List ℕ)) → Converts log left (Ok tt) old new → IsConverted log old new
whole_is_converted log left old new h =
    let P : List ℕ → Type 0 = λ bytes. IsConverted bytes old new in
    subst P (all_read log h.read left h.consumed h.does.0) ((h.does.1, h.does.2), h.does.3)

-- a log that is refused, for a reason that lies in it
refused_of_read : (log read : List ℕ) (left old new : Option (List ℕ)) (refusal : Refusal) → IsOfLog refusal → Consumes (Some log) left read
    → IsUnconverted read left refusal → Appends old new (converted read) → IsInconvertible log refusal × Appends old new (converted log)
refused_of_read log read None old new refusal own c why copies = absurd c
refused_of_read log read (Some rest) old new refusal own c (inl is) copies =
    let stays = refused_stays read rest refusal is in
    (inl (ap unconverted c ∙ stays.0), subst (Appends old new) (sym (ap converted c ∙ stays.1)) copies)
refused_of_read log read (Some rest) old new refusal own c (inr (none, inl (end, cut, is))) copies =
    let P : List ℕ → Type 0 = λ bytes. IsInconvertible bytes refusal × Appends old new (converted bytes) in
    subst P (all_read log read (Some rest) c end) (inr (none, cut, is), copies)
refused_of_read log read (Some rest) old new refusal own c (inr (none, inr is)) copies = absurd (subst IsOfLog is own)

log_is_refused : (log : List ℕ) (left made_old made_new old new : Option (List ℕ)) (refusal : Refusal) → IsOfLog refusal
    → Converts log left (Err (faults.Refused refusal)) made_old made_new → Appends old new (refused_line refusal) → RefusesConverting log made_old made_new old new
log_is_refused log left made_old made_new old new refusal own h told =
    let refused = refused_of_read log h.read left made_old made_new refusal own h.consumed h.does.0 h.does.1 in
    record { refusal = refusal; own = own; why = refused.0; copied = refused.1; told = told }

-- ---- the first bytes of a log

-- eight bytes have no part of a record
eight_are_whole : (bytes : List ℕ) → length bytes ≡ 8 → is_cut_short bytes ≡ false
unfolding is_cut_short records pieces
eight_are_whole bytes eight =
    ap₂ (λ (n : ℕ) (rest : List ℕ). nat_lt n 8 || nat_lt 0 (length (pieces (record_size (ahead_in bytes)) rest).rest)) eight (drop_all 8 bytes (omega (arith, eight)))

eight_first : (start rest : List ℕ) → length start ≤ 8 → (length start ≡ 8) ⊎ (rest ≡ []) → take 8 (start ++ rest) ≡ start
eight_first start rest few (inl enough) = take-append-le 8 start rest (omega (arith, enough)) ∙ take_all 8 start few
eight_first start rest few (inr none) = ap (λ (more : List ℕ). take 8 (start ++ more)) none ∙ ap (take 8) (append-nil start) ∙ take_all 8 start few

-- they are a header, or the log has none
pub has_header : (start : List ℕ) (rest : Option (List ℕ)) → length start ≤ 8 → (length start ≡ 8) ⊎ IsAtEnd rest → IsConvertible start
    → IfSome (prepend_known start rest) HasHeader
has_header start None few enough is = tt
has_header start (Some rest) few enough is =
    let P : List ℕ → Type 0 = λ bytes. IsConvertible bytes in
    subst P (sym (eight_first start rest few enough)) is

some_is_none : (refusal : Refusal) → Some refusal ≡ None → ⊥
some_is_none refusal e = cc

not_both : (log : List ℕ) (refusal : Refusal) → IsInconvertible log refusal → IsConvertible log → ⊥
not_both log refusal (inl is) whole = some_is_none refusal (sym is ∙ whole.0)
not_both log refusal (inr (none, cut, is)) whole = true≢false (sym cut ∙ whole.1)

pub has_none : (start : List ℕ) (rest : Option (List ℕ)) (refusal : Refusal) → length start ≤ 8 → (length start ≡ 8) ⊎ IsAtEnd rest → IsInconvertible start refusal
    → IfSome (prepend_known start rest) (λ bytes. ¬ HasHeader bytes)
has_none start None refusal few enough why = tt
has_none start (Some rest) refusal few enough why = λ h.
    let P : List ℕ → Type 0 = λ bytes. IsConvertible bytes in
    not_both start refusal why (subst P (eight_first start rest few enough) h)

-- what they show was read of them alone
pub start_is_whole : (log : List ℕ) (left old new : Option (List ℕ)) → Converts log left (Ok tt) old new → IsConvertible log
start_is_whole log left old new h = (whole_is_converted log left old new h).0

pub start_is_refused : (log : List ℕ) (left old new : Option (List ℕ)) (refusal : Refusal) → IsOfLog refusal → Converts log left (Err (faults.Refused refusal)) old new
    → IsInconvertible log refusal
start_is_refused log left old new refusal own h = (refused_of_read log h.read left old new refusal own h.consumed h.does.0 h.does.1).0

pub told_refusal : {E : Type 0} (log : List ℕ) (left old new : Option (List ℕ)) (refusal : Refusal) (told : Result (Option Refusal) E)
    → Converts log left (Err (faults.Refused refusal)) old new → IfOk told (λ t. (t ≡ Some refusal) × IsOfLog refusal)
    → IfOk told (λ t. IfSome t (λ why. IsOfLog why × IsInconvertible log why))
told_refusal log left old new refusal (Err e) h own = tt
told_refusal log left old new refusal (Ok t) h own =
    let P : Option Refusal → Type 0 = λ o. IfSome o (λ why. IsOfLog why × IsInconvertible log why) in
    subst P (sym own.0) (own.1, start_is_refused log left old new refusal own.1 h)

-- and holds of the log
why_of_start : (start rest : List ℕ) (refusal : Refusal) → (length start ≡ 8) ⊎ (rest ≡ []) → IsInconvertible start refusal → IsInconvertible (start ++ rest) refusal
why_of_start start rest refusal enough (inl is) = inl ((refused_stays start rest refusal is).0)
why_of_start start rest refusal (inl eight) (inr (none, cut, is)) = absurd (true≢false (sym cut ∙ eight_are_whole start eight))
why_of_start start rest refusal (inr end) (inr why) =
    let P : List ℕ → Type 0 = λ bytes. IsInconvertible bytes refusal in
    subst P (sym (ap (λ (more : List ℕ). start ++ more) end ∙ append-nil start)) (inr why)

pub header_is_refused : (start : List ℕ) (rest old new : Option (List ℕ)) (refusal : Refusal) → (length start ≡ 8) ⊎ IsAtEnd rest → IsOfLog refusal
    → IsInconvertible start refusal → Appends old new (refused_line refusal)
    → ForSomeFile (λ made_old made_new. IfSome (prepend_known start rest) (λ log. RefusesConverting log made_old made_new old new))
header_is_refused start rest old new refusal enough own why told = (None, None, on_log rest enough)
  where
    on_log : (left : Option (List ℕ)) → (length start ≡ 8) ⊎ IsAtEnd left → IfSome (prepend_known start left) (λ log. RefusesConverting log None None old new)
    on_log None enough = tt
    on_log (Some more) enough = record { refusal = refusal; own = own; why = why_of_start start more refusal enough why; copied = tt; told = told }

-- where that can't be told, converting stops
start_stops : (start more : List ℕ) (refusal : Refusal) → (length start ≡ 8) ⊎ (more ≡ []) → IsInconvertible start refusal
    → Converts (start ++ more) (Some more) (Err (faults.Refused refusal)) None None
start_stops start more refusal enough why = record { read = start; consumed = refl; does = (unconverted_by enough why, tt) }
  where
    unconverted_by : (length start ≡ 8) ⊎ (more ≡ []) → IsInconvertible start refusal → IsUnconverted start (Some more) refusal
    unconverted_by enough (inl is) = inl is
    unconverted_by (inl eight) (inr (none, cut, is)) = absurd (true≢false (sym cut ∙ eight_are_whole start eight))
    unconverted_by (inr end) (inr (none, cut, is)) = inr (none, inl (end, cut, is))

begun_part : (refusal : Refusal) (old new : Option (List ℕ)) → BeginsRefusal Text refusal old new → AppendsPart old new (refused_line refusal)
begun_part refusal old new (inl kept) = part-kept old new (refused_line refusal) kept
begun_part refusal old new (inr (own, part)) = part

pub header_fails : (place : Bytes) (start : List ℕ) (rest old new : Option (List ℕ)) (is_closed : Bool) (error : Stream) (refusal : Refusal)
    → (length start ≡ 8) ⊎ IsAtEnd rest → IsOfLog refusal → IsInconvertible start refusal → BeginsRefusal Text refusal old new → Tells is_closed place troubles.Write error
    → ForSomeFile (λ made_old made_new. FailsConverting place (prepend_known start rest) is_closed made_old made_new old new error)
header_fails place start rest old new is_closed error refusal enough own why begun told =
    (None, None, record { left = rest; trouble = troubles.Write; stops = on_log rest enough; told = told })
  where
    on_log : (left : Option (List ℕ)) → (length start ≡ 8) ⊎ IsAtEnd left
        → IfSome (prepend_known start left) (λ bytes. StopsConverting failures.Write bytes left None None old new)
    on_log None enough = tt
    on_log (Some more) enough = inr (refusal, own, start_stops start more refusal enough why, begun_part refusal old new begun)

-- ---- a log that may not be known

for_log : (remaining : Option (List ℕ)) (P Q : List ℕ → Type 0) → ((log : List ℕ) → P log → Q log) → IfSome remaining P → IfSome remaining Q
for_log None P Q f h = tt
for_log (Some log) P Q f h = f log h

-- all of it was written, and saved
pub conversion_passes : {E : Type 0} (remaining left old made new : Option (List ℕ)) (status : Result ℕ E) → IfSome remaining (λ log. Converts log left (Ok tt) old made)
    → Keeps made new → IfOk status (λ s. s ≡ 0 → IfSome remaining (λ log. IsConverted log old new))
conversion_passes remaining left old made new (Err e) converts kept = tt
conversion_passes remaining left old made new (Ok s) converts kept = λ is.
    for_log remaining (λ log. Converts log left (Ok tt) old made) (λ log. IsConverted log old new)
    (λ log h. let whole = whole_is_converted log left old made h in (whole.0, Appends-kept old made new (converted log) whole.1 kept)) converts

-- all of it was written, and not saved
pub saving_stops : (remaining left made_old made made_new output : Option (List ℕ)) (status : Result ℕ Failure)
    → IfSome remaining (λ log. Converts log left (Ok tt) made_old made) → Keeps made made_new → IfErr status (λ failure. failure ≡ failures.Write)
    → IfErr status (λ failure. IfSome remaining (λ log. StopsConverting failure log left made_old made_new output output))
saving_stops remaining left made_old made made_new output (Ok s) converts kept is = tt
saving_stops remaining left made_old made made_new output (Err failure) converts kept is =
    for_log remaining (λ log. Converts log left (Ok tt) made_old made) (λ log. StopsConverting failure log left made_old made_new output output)
    (λ log h. subst (λ f. StopsConverting f log left made_old made_new output output) (sym is) (inl (
      inr (record {
        read = h.read;
        consumed = h.consumed;
        does = (h.does.0, h.does.1, h.does.2, Appends-kept made_old made made_new (converted h.read) h.does.3 kept);
      }),
      Keeps-refl output,
    ))) converts

-- writing to the file failed
pub writing_stops : (remaining left made_old made_new output : Option (List ℕ)) → IfSome remaining (λ log. Converts log left (Err faults.Write) made_old made_new)
    → IfSome remaining (λ log. StopsConverting failures.Write log left made_old made_new output output)
writing_stops remaining left made_old made_new output converts =
    for_log remaining (λ log. Converts log left (Err faults.Write) made_old made_new) (λ log. StopsConverting failures.Write log left made_old made_new output output)
    (λ log h. inl (inl h, Keeps-refl output)) converts

-- what was written of a refused log is kept when it is saved
pub refusal_is_saved : (remaining left made_old made made_new : Option (List ℕ)) (refusal : Refusal)
    → IfSome remaining (λ log. Converts log left (Err (faults.Refused refusal)) made_old made) → Keeps made made_new
    → IfSome remaining (λ log. Converts log left (Err (faults.Refused refusal)) made_old made_new)
refusal_is_saved remaining left made_old made made_new refusal converts kept =
    for_log remaining (λ log. Converts log left (Err (faults.Refused refusal)) made_old made) (λ log. Converts log left (Err (faults.Refused refusal)) made_old made_new)
    (λ log h. record {
      read = h.read;
      consumed = h.consumed;
      does = (h.does.0, Appends-kept made_old made made_new (converted h.read) h.does.1 kept);
    }) converts

-- a status for a refusal says which one it is
pub conversion_is_refused : {E : Type 0} (remaining left made_old made_new old new : Option (List ℕ)) (refusal : Refusal) (status : Result ℕ E)
    → IfSome remaining (λ log. Converts log left (Err (faults.Refused refusal)) made_old made_new) → OnOk status (IsOfLog refusal)
    → OnOk status (Appends old new (refused_line refusal)) → IfOk status (λ s. s ≡ 2 → IfSome remaining (λ log. RefusesConverting log made_old made_new old new))
conversion_is_refused remaining left made_old made_new old new refusal (Ok s) converts own told = λ is.
    for_log remaining (λ log. Converts log left (Err (faults.Refused refusal)) made_old made_new) (λ log. RefusesConverting log made_old made_new old new)
    (λ log h. log_is_refused log left made_old made_new old new refusal own h told) converts
conversion_is_refused remaining left made_old made_new old new refusal (Err e) converts own told = tt

-- where it can't be told, that is why
pub conversion_stops : (remaining left made_old made_new old new : Option (List ℕ)) (refusal : Refusal) (status : Result ℕ Failure)
    → IfSome remaining (λ log. Converts log left (Err (faults.Refused refusal)) made_old made_new)
    → IfErr status (λ failure. (failure ≡ failure_of refusal) ⊎ ((failure ≡ failures.Memory) × LacksJsonMemory Text refusal old new))
    → IfErr status (λ _. BeginsRefusal Text refusal old new)
    → IfErr status (λ failure. IfSome remaining (λ log. StopsConverting failure log left made_old made_new old new))
conversion_stops remaining left made_old made_new old new refusal (Ok s) converts failed begun = tt
conversion_stops remaining left made_old made_new old new refusal (Err failure) converts (inr (is, lacks)) begun = absurd (text_is_text lacks.0)
  where
    text_is_text : Text ≡ Json → ⊥
    text_is_text e = cc
conversion_stops remaining left made_old made_new old new refusal (Err failure) converts (inl failed) begun =
    for_log remaining (λ log. Converts log left (Err (faults.Refused refusal)) made_old made_new) (λ log. StopsConverting failure log left made_old made_new old new)
    (λ log h. subst (λ f. StopsConverting f log left made_old made_new old new) (sym failed) (on_log refusal log h begun)) converts
  where
    on_log : (r : Refusal) (log : List ℕ) → Converts log left (Err (faults.Refused r)) made_old made_new → BeginsRefusal Text r old new
        → StopsConverting (failure_of r) log left made_old made_new old new
    on_log (refusals.Read at) log h (inl kept) = (at, h, kept)
    on_log (refusals.Read at) log h (inr (own, part)) = absurd own
    on_log (refusals.Memory at) log h (inl kept) = (at, h, kept)
    on_log (refusals.Memory at) log h (inr (own, part)) = absurd own
    on_log r log h (inl kept) = inr (r, tt, h, part-kept old new (refused_line r) kept)
    on_log r log h (inr (own, part)) = inr (r, own, h, part)

-- ---- a log that a reader gives

-- converting stops where the reader that was made of another one does
pub reader_fails : (place : Bytes) (log first left made_old made_new old new : Option (List ℕ)) (is_closed : Bool) (error : Stream) (failure : Failure) (trouble : Trouble)
    → first ≡ log → failure_in trouble ≡ failure → IfSome first (λ bytes. StopsConverting failure bytes left made_old made_new old new)
    → Tells is_closed place trouble error → FailsConverting place log is_closed made_old made_new old new error
reader_fails place log first left made_old made_new old new is_closed error failure trouble one same stops told = record {
  left = left;
  trouble = trouble;
  stops = rw (sym one, same) stops;
  told = told;
}

-- what holds of what was read of a log holds of the log
pub source_is_refused : (log read made_old made_new old new : Option (List ℕ)) (error : Stream) → Keeps log read
    → IfSome read (λ bytes. RefusesConverting bytes made_old made_new old new) → IsHinted log error → RefusesSource log old new error
source_is_refused log read made_old made_new old new error k h hinted =
    ((made_old, made_new, known_kept log read (λ bytes. RefusesConverting bytes made_old made_new old new) k h), hinted)

pub converting_fails : (place : Bytes) (log read made_old made_new old new : Option (List ℕ)) (is_closed : Bool) (error : Stream) → Keeps log read
    → FailsConverting place read is_closed made_old made_new old new error → FailsConverting place log is_closed made_old made_new old new error
converting_fails place log read made_old made_new old new is_closed error k h = record {
  left = h.left;
  trouble = h.trouble;
  stops = known_kept log read (λ bytes. StopsConverting (failure_in h.trouble) bytes h.left made_old made_new old new) k h.stops;
  told = h.told;
}

-- ---- the log that is named

refused_kept : (log read old new : Option (List ℕ)) (error : Stream) → Keeps log read → RefusesSource read old new error → RefusesSource log old new error
refused_kept log read old new error k h = source_is_refused log read h.0.0 h.0.1 old new error k h.0.2 (hinted_of_kept log read error k h.1)

pub fails_kept : (given : Given) (place : Bytes) (log read : Option (List ℕ)) (path : Bytes) (is_closed : Bool) (old new : Option (List ℕ)) (error : Stream) → Keeps log read
    → FailsSource given place read path is_closed old new error → FailsSource given place log path is_closed old new error
fails_kept given place log read path is_closed old new error k (inl unbegun) = inl unbegun
fails_kept given place log read path is_closed old new error k (inr (inl unmade)) = inr (inl unmade)
fails_kept given place log read path is_closed old new error k (inr (inr (made_old, made_new, fails))) =
    inr (inr (made_old, made_new, converting_fails place log read made_old made_new old new is_closed error k fails))

pub named_is_refused : (given : Given) (name : Option Bytes) (read old new : Option (List ℕ)) (error : Stream) → Keeps (bytes_at given name) read
    → RefusesSource read old new error → RefusesSource (bytes_at given name) old new error
named_is_refused given name read old new error k h = refused_kept (bytes_at given name) read old new error k h

pub named_fails : (given : Given) (name : Option Bytes) (read : Option (List ℕ)) (path : Bytes) (is_closed : Bool) (old new : Option (List ℕ)) (error : Stream)
    → Keeps (bytes_at given name) read → FailsSource given (place_of name) read path is_closed old new error
    → FailsSource given (place_of name) (bytes_at given name) path is_closed old new error
named_fails given name read path is_closed old new error k h = fails_kept given (place_of name) (bytes_at given name) read path is_closed old new error k h

-- ---- what is done to files

-- with these statuses, what is written of the log was written
pub written_whole : (log made_old made_new old new : Option (List ℕ)) (status : ℕ) → (status ≡ 0) ⊎ ((status ≡ 2) ⊎ (status ≡ 4)) → status ≤ 2
    → (status ≡ 0 → IfSome log (λ bytes. IsConverted bytes made_old made_new)) → (status ≡ 2 → IfSome log (λ bytes. RefusesConverting bytes made_old made_new old new))
    → IfSome log (λ bytes. Appends made_old made_new (converted bytes))
written_whole log made_old made_new old new status (inl is) low passes refuses =
    for_log log (λ bytes. IsConverted bytes made_old made_new) (λ bytes. Appends made_old made_new (converted bytes)) (λ bytes h. h.1) (passes is)
written_whole log made_old made_new old new status (inr (inl is)) low passes refuses =
    for_log log (λ bytes. RefusesConverting bytes made_old made_new old new) (λ bytes. Appends made_old made_new (converted bytes)) (λ bytes h. h.copied) (refuses is)
written_whole log made_old made_new old new status (inr (inr is)) low passes refuses = absurd (omega (arith, is, low))

-- what was done for what was read of a log was done for the log
pub done_kept : (log read : Option (List ℕ)) (path : Bytes) (force : Bool) (status : ℕ) (did : Doing) → Keeps log read → DoesToFiles read path force status did
    → DoesToFiles log path force status did
done_kept log read path force status did k (inl nothing) = inl nothing
done_kept log read path force status did k (inr (inl (is, none, headless))) = inr (inl (is, none, known_kept log read (λ bytes. ¬ HasHeader bytes) k headless))
done_kept log read path force status did k (inr (inr (header, inl part))) = inr (inr (known_kept log read HasHeader k header, inl part))
done_kept log read path force status did k (inr (inr (header, inr (low, (held, holds, done, all))))) =
    inr (inr (known_kept log read HasHeader k header, inr (low, (held, holds, done, known_kept log read (λ bytes. Appends held holds (converted bytes)) k all))))
