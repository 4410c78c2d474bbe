-- Several pieces that a judge takes in are one piece; and how bytes are cut into records.
use Rattle.std.proofs.Common.{◌≡◌, ℕ, suc, ◌+◌, ◌-◌, ◌/◌, ◌<◌, ◌≤◌, List, [], ◌∷◌, ◌++◌, length, take, drop, Option, Some, None, Ok, Err, refl, sym, ap, subst, ◌∙◌, arith, append_assoc, append-nil}
use Rattle.std.proofs.Math.Nat.{add-div_right}
use Rattle.std.proofs.lemmas.List.{length-drop}
use Rattle.mq_log.specs.declared.refusal.Refusal.{Refusal}
use Rattle.mq_log.specs.Refusals.{refused}
use Rattle.mq_judge.specs.declared.judge.Judge.{Judge}
use Rattle.mq_judge.specs.Judging.{Follows, RefusesIn, HasRefused}
use Rattle.mq_report.specs.Stopping.{StopsIn, IsRefusedByte}
use Rattle.mq_ffi.specs.declared.answer.Trouble.{Trouble}
use Rattle.mq_ffi.specs.Living.{Answer, TakesIn}
use Rattle.mq_ffi.specs.Telling.{in_parts, full_before, in_records, most_bytes}

-- what is refused in the first of two pieces is refused in both
abbrev earlier : (limit : ℕ) (judge : Judge) (log front back : List ℕ) (refusal : Refusal) → RefusesIn limit judge log front refusal → RefusesIn limit judge log (front ++ back) refusal
earlier limit judge log front back refusal (stops, refused) = (
  record {
    taken = stops.taken;
    byte = stops.byte;
    later = stops.later ++ back;
    is = ap (λ piece. piece ++ back) stops.is ∙ append_assoc stops.taken (stops.byte ∷ stops.later) back;
    unrefused = stops.unrefused;
    why = stops.why;
  },
  refused,
)

-- what is refused in the second of two pieces is refused in both, after the first
abbrev afterwards : (limit : ℕ) (judge : Judge) (log front back : List ℕ) (refusal : Refusal) → RefusesIn limit judge (log ++ front) back refusal → RefusesIn limit judge log (front ++ back) refusal
afterwards limit judge log front back refusal (stops, has_refused) =
    let along : (log ++ front) ++ stops.taken ≡ log ++ (front ++ stops.taken) = append_assoc log front stops.taken in (
      record {
        taken = front ++ stops.taken;
        byte = stops.byte;
        later = stops.later;
        is = ap (λ piece. front ++ piece) stops.is ∙ sym (append_assoc front stops.taken (stops.byte ∷ stops.later));
        unrefused = subst (λ (bytes : List ℕ). refused limit bytes ≡ None) along stops.unrefused;
        why = subst (λ (bytes : List ℕ). IsRefusedByte limit bytes stops.byte refusal) along stops.why;
      },
      subst (λ (bytes : List ℕ). HasRefused judge.further judge.tracer judge.judging.watching bytes refusal) along has_refused,
    )

pub takes_nothing : (judge : Judge) (refusal : Option Refusal) → TakesIn [] judge judge refusal refusal (Ok tt)
takes_nothing judge refusal = (
  refl,
  λ log follows.
      let same : log ≡ log ++ [] = sym (append-nil log) in (
        subst (λ (bytes : List ℕ). refused judge.limit bytes ≡ None) same (subst (λ (limit : ℕ). refused limit log ≡ None) follows.within follows.traced.keeps.unrefused),
        subst (Follows judge) same follows,
        refl,
      ),
  refl,
)

-- a piece that is taken in, and then another
pub takes_both : (front back : List ℕ) (first middle last : Judge) (before between after : Option Refusal) (answer : Answer)
    → TakesIn front first middle before between (Ok tt) → TakesIn back middle last between after answer → TakesIn (front ++ back) first last before after answer
takes_both front back first middle last before between after (Ok _) one other = (
  other.0 ∙ one.0,
  λ log follows.
      let before = one.1 log follows in
      let next = other.1 (log ++ front) before.1 in
      let along : (log ++ front) ++ back ≡ log ++ (front ++ back) = append_assoc log front back in
      (subst (λ (bytes : List ℕ). refused last.limit bytes ≡ None) along next.0, subst (Follows last) along next.1, next.2 ∙ before.2),
  other.2 ∙ one.2,
)
takes_both front back first middle last before between after (Err trouble) one other = (
  other.0,
  (
    other.1.0,
    other.1.1,
    λ log follows.
        afterwards last.limit last log front back other.1.0 (other.1.2 (log ++ front) (one.1 log follows).1),
  ),
  other.2 ∙ one.2,
)

-- a piece that isn't, of which more was to come
pub takes_first : (front back : List ℕ) (old new : Judge) (before after : Option Refusal) (trouble : Trouble)
    → TakesIn front old new before after (Err trouble) → TakesIn (front ++ back) old new before after (Err trouble)
takes_first front back old new before after trouble is = (is.0, (is.1.0, is.1.1, λ log follows. earlier new.limit new log front back is.1.0 (is.1.2 log follows)), is.2)

-- These bytes are in records, of which all but those with the rest were taken in.
pub record HasTaken (written : List ℕ → List ℕ) (bytes rest : List ℕ) (old new : Judge) (before after : Option Refusal) : Type 0 where
  pub front : List ℕ
  pub parts : in_records written bytes ≡ front ++ in_records written rest
  pub taken : TakesIn front old new before after (Ok tt)

pub taken_none : (written : List ℕ → List ℕ) (bytes : List ℕ) (judge : Judge) (refusal : Option Refusal) → HasTaken written bytes bytes judge judge refusal refusal
taken_none written bytes judge refusal = record { front = []; parts = refl; taken = takes_nothing judge refusal }

one_more : (size : ℕ) → most_bytes < size → full_before size ≡ full_before (size - most_bytes) + 1
one_more size many =
    let e : size - 1 ≡ (size - most_bytes - 1) + most_bytes = omega (arith, many) in
    ap (λ n. n / most_bytes) e ∙ add-div_right (size - most_bytes - 1) {k = most_bytes} (omega arith)

by_one : (written : List ℕ → List ℕ) (full n : ℕ) (rest : List ℕ) → n ≡ full + 1 → in_parts written n rest ≡ written (take most_bytes rest) ++ in_parts written full (drop most_bytes rest)
by_one written full n rest is =
    let next : n ≡ suc full = omega (arith, is) in
    ap (λ m. in_parts written m rest) next

-- a full record, and those of what comes after it
pub first_part : (written : List ℕ → List ℕ) (rest : List ℕ) → most_bytes < length rest → in_records written rest ≡ written (take most_bytes rest) ++ in_records written (drop most_bytes rest)
first_part written rest many =
    by_one written (full_before (length rest - most_bytes)) (full_before (length rest)) rest (one_more (length rest) many)
    ∙ ap (λ size. written (take most_bytes rest) ++ in_parts written (full_before size) (drop most_bytes rest)) (sym (length-drop most_bytes rest))

-- the last record
pub last_part : (written : List ℕ → List ℕ) (rest : List ℕ) → length rest ≤ most_bytes → in_records written rest ≡ written rest
last_part written rest few = ap (λ n. in_parts written n rest) (none (length rest) few) where
  none : (size : ℕ) → size ≤ most_bytes → full_before size ≡ 0
  none size few = omega (arith, few)

parted : (written : List ℕ → List ℕ) (rest part later : List ℕ) → most_bytes < length rest → part ≡ take most_bytes rest → later ≡ drop most_bytes rest → in_records written rest ≡ written part ++ in_records written later
parted written rest part later many is_part is_later =
    first_part written rest many ∙ ap (λ p. written p ++ in_records written (drop most_bytes rest)) (sym is_part) ∙ ap (λ l. written part ++ in_records written l) (sym is_later)

pub taken_more : (written : List ℕ → List ℕ) (bytes rest part later : List ℕ) (old middle new : Judge) (before between after : Option Refusal)
    → HasTaken written bytes rest old middle before between → most_bytes < length rest → part ≡ take most_bytes rest → later ≡ drop most_bytes rest
    → TakesIn (written part) middle new between after (Ok tt) → HasTaken written bytes later old new before after
taken_more written bytes rest part later old middle new before between after had many is_part is_later more = record {
  front = had.front ++ written part;
  parts = had.parts ∙ ap (λ back. had.front ++ back) (parted written rest part later many is_part is_later) ∙ sym (append_assoc had.front (written part) (in_records written later));
  taken = takes_both had.front (written part) old middle new before between after (Ok tt) had.taken more;
}

pub taken_stops : (written : List ℕ → List ℕ) (bytes rest part later : List ℕ) (old middle new : Judge) (before between after : Option Refusal) (trouble : Trouble)
    → HasTaken written bytes rest old middle before between → most_bytes < length rest → part ≡ take most_bytes rest → later ≡ drop most_bytes rest
    → TakesIn (written part) middle new between after (Err trouble) → TakesIn (in_records written bytes) old new before after (Err trouble)
taken_stops written bytes rest part later old middle new before between after trouble had many is_part is_later stops =
    subst (λ (piece : List ℕ). TakesIn piece old new before after (Err trouble)) (sym (had.parts ∙ ap (λ back. had.front ++ back) (parted written rest part later many is_part is_later)))
    (takes_both had.front (written part ++ in_records written later) old middle new before between after (Err trouble) had.taken
    (takes_first (written part) (in_records written later) middle new between after trouble stops))

pub taken_last : (written : List ℕ → List ℕ) (bytes rest : List ℕ) (old middle new : Judge) (before between after : Option Refusal) (answer : Answer)
    → HasTaken written bytes rest old middle before between → length rest ≤ most_bytes
    → TakesIn (written rest) middle new between after answer → TakesIn (in_records written bytes) old new before after answer
taken_last written bytes rest old middle new before between after answer had few ends =
    subst (λ (piece : List ℕ). TakesIn piece old new before after answer) (sym (had.parts ∙ ap (λ back. had.front ++ back) (last_part written rest few)))
    (takes_both had.front (written rest) old middle new before between after answer had.taken ends)
