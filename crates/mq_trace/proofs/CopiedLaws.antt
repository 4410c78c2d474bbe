-- Copying the pieces of a log, and the whole log.
use Rattle.std.proofs.Common.{◌≡◌, ℕ, ◌≤◌, Bool, true, false, cond, nat_lt, List, [], ◌∷◌, ◌++◌, length, take, drop, Option, Some, None, Result, Ok, Err, IfErr, is_some, reverse, inl, inr, OnOk, IfSome, refl, sym, ◌∙◌, ap, subst, arith, append_assoc, append-nil}
use Rattle.std.specs.Prelude.{◌==◌, ◌-◌, slice_index}
use Rattle.std.specs.Io.KnownBytes.{Appends, Consumes, IsAtEnd}
use Rattle.std.specs.Option.{option_or}
use Rattle.std.proofs.lemmas.List.{length-take-le, take-append-drop, reverse-append, reverse-reverse}
use Rattle.std.proofs.lemmas.Bool.{ltb-true, ltb-false, eqb-true}
use Rattle.mq_log.specs.declared.refusal.Refusal.{Refusal}
use Rattle.mq_log.specs.declared.refusal.Refusal.TheVariants as refusals
use Rattle.mq_trace.specs.declared.converting.Addition.{Addition}
use Rattle.mq_trace.specs.declared.feeding.Halt.{Halt}
use Rattle.mq_trace.specs.declared.feeding.Halt.TheVariants as halts
use Rattle.mq_trace.specs.Feeding.{FedSome}
use Rattle.mq_trace.specs.declared.converting.ConvertFault.{ConvertFault}
use Rattle.mq_trace.specs.declared.converting.ConvertFault.TheVariants as convert_faults
use Rattle.mq_trace.specs.declared.converting.Copying.{Copying}
use Rattle.mq_trace.specs.declared.converting.Part.TheVariants as parts
use Rattle.mq_log.specs.Framing.{longest_record, records}
use Rattle.mq_log.specs.Refusals.{is_cut_short}
use Rattle.mq_trace.specs.Writing.{AppendsBeginning}
use Rattle.mq_trace.specs.Converting.{Converts, unconverted_at, unconverted_back, unconverted, copied_back, copied, converted, timed}
use Rattle.mq_trace.specs.Copying.{Adds, IsCopyOf, IsHeld, IsSound, RefusesByte, StopsCopying, StopsIn, WritesLess, WritesMore, added_bytes, IsWithin, begun_in, fault_of, past_body}
use Rattle.mq_trace.proofs.StepLaws.{both_none}
use Rattle.mq_trace.proofs.WritingLaws.{appends-nothing, appends-then, stopped-in-back, stopped-in-front, take-left}
use Rattle.mq_trace.proofs.WithMomentLaws.{added}
use Rattle.mq_trace.proofs.ConvertingLaws.{copied_whole, timed_grown, unconverted-grow, no_bytes}
use Rattle.mq_trace.proofs.CopyLaws.{bodies_copied, unwritten}

-- ---- copying pieces

-- what a byte that is taken in and written comes to
pub byte_copied : {W : Type 0} (contents : W → Option (List ℕ)) (old new : W) (c' : Copying) (log : List ℕ) (b : ℕ) (bytes : List ℕ) (addition : Addition) → 1 ≤ length bytes → slice_index bytes 0 ≡ b
    → IsCopyOf c' (log ++ b ∷ []) × Adds log (b ∷ []) (added_bytes addition) → Appends (contents old) (contents new) (added_bytes addition)
    → IsCopyOf c' (log ++ take 1 bytes) × WritesMore log (take 1 bytes) (contents old) (contents new)
byte_copied contents old new c' log b [] addition some is copied wrote = absurd (omega arith)
byte_copied contents old new c' log b (x ∷ bytes) addition some is copied wrote =
    subst (λ y. IsCopyOf c' (log ++ y ∷ []) × WritesMore log (y ∷ []) (contents old) (contents new)) (sym is)
    (copied.0, record { more = added_bytes addition; is = copied.1; appended = wrote })

pub byte_unwritten : {W : Type 0} (contents : W → Option (List ℕ)) (old new : W) (c' : Copying) (log : List ℕ) (b : ℕ) (bytes : List ℕ) (addition : Addition) → 1 ≤ length bytes → slice_index bytes 0 ≡ b
    → IsCopyOf c' (log ++ b ∷ []) × Adds log (b ∷ []) (added_bytes addition) → AppendsBeginning (contents old) (contents new) (added_bytes addition) → WritesLess log bytes (contents old) (contents new)
byte_unwritten contents old new c' log b [] addition some is copied part = absurd (omega arith)
byte_unwritten contents old new c' log b (x ∷ bytes) addition some is copied part =
    record { taken = b ∷ []; later = bytes; is = ap (λ y. y ∷ bytes) is; unrefused = copied.0.unrefused; more = added_bytes addition; adds = copied.1; written = part }

pub byte_refused : {W : Type 0} (contents : W → Option (List ℕ)) (w : W) (c : Copying) (log : List ℕ) (b : ℕ) (bytes : List ℕ) (refusal : Refusal) → 1 ≤ length bytes → slice_index bytes 0 ≡ b
    → IsCopyOf c log → unconverted_at log b ≡ Some refusal → RefusesByte log bytes (contents w) (contents w) refusal
byte_refused contents w c log b [] refusal some is was met = absurd (omega arith)
byte_refused contents w c log b (x ∷ bytes) refusal some is was met =
    let nothing : log ++ [] ≡ log = append-nil log in
    record {
      taken = [];
      byte = b;
      later = bytes;
      is = ap (λ y. y ∷ bytes) is;
      unrefused = ap unconverted nothing ∙ was.unrefused;
      why = ap (λ l. unconverted_at l b) nothing ∙ met;
      written = record { more = []; is = ap timed nothing ∙ sym (append-nil (timed log)); appended = appends-nothing (contents w) };
    }

-- some bytes, and more after them
pub writes_then : (log first next : List ℕ) (x y z : Option (List ℕ)) → WritesMore log first x y → WritesMore (log ++ first) next y z → WritesMore log (first ++ next) x z
writes_then log first next x y z a b = record {
  more = a.more ++ b.more;
  is = ap timed (sym (append_assoc log first next)) ∙ b.is ∙ ap (λ (l : List ℕ). l ++ b.more) a.is ∙ append_assoc (timed log) a.more b.more;
  appended = appends-then x y z a.more b.more a.appended b.appended;
}

pub stops_then : (log first next : List ℕ) (x y z : Option (List ℕ)) (fault : ConvertFault) → WritesMore log first x y → StopsCopying (log ++ first) next y z fault → StopsCopying log (first ++ next) x z fault
stops_then log first next x y z (convert_faults.Refused refusal) a s =
    let whole : (log ++ first) ++ s.taken ≡ log ++ (first ++ s.taken) = append_assoc log first s.taken in
    record {
      taken = first ++ s.taken;
      byte = s.byte;
      later = s.later;
      is = ap (λ (l : List ℕ). first ++ l) s.is ∙ sym (append_assoc first s.taken (s.byte ∷ s.later));
      unrefused = ap unconverted (sym whole) ∙ s.unrefused;
      why = ap (λ l. unconverted_at l s.byte) (sym whole) ∙ s.why;
      written = writes_then log first s.taken x y z a s.written;
    }
stops_then log first next x y z convert_faults.Write a s =
    let whole : (log ++ first) ++ s.taken ≡ log ++ (first ++ s.taken) = append_assoc log first s.taken in
    record {
      taken = first ++ s.taken;
      later = s.later;
      is = ap (λ (l : List ℕ). first ++ l) s.is ∙ sym (append_assoc first s.taken s.later);
      unrefused = ap unconverted (sym whole) ∙ s.unrefused;
      more = a.more ++ s.more;
      adds = ap timed (sym whole) ∙ s.adds ∙ ap (λ (l : List ℕ). l ++ s.more) a.is ∙ append_assoc (timed log) a.more s.more;
      written = stopped-in-back a.more s.more a.appended s.written;
    }

pub writes_nothing : (log : List ℕ) (x : Option (List ℕ)) → WritesMore log [] x x
writes_nothing log x = record { more = []; is = ap timed (append-nil log) ∙ sym (append-nil (timed log)); appended = appends-nothing x }

-- one step more of copying a piece
pub copy_step : (x y z : Option (List ℕ)) (c1 c2 : Copying) (log taken next : List ℕ) → IsCopyOf c1 (log ++ taken) × WritesMore log taken x y → IsCopyOf c2 ((log ++ taken) ++ next) × WritesMore (log ++ taken) next y z
    → IsCopyOf c2 (log ++ (taken ++ next)) × WritesMore log (taken ++ next) x z
copy_step x y z c1 c2 log taken next had step = (subst (IsCopyOf c2) (append_assoc log taken next) step.0, writes_then log taken next x y z had.1 step.1)

-- the parts of a piece, after a step
pub step_parts : (piece taken rest : List ℕ) (n : ℕ) → piece ≡ taken ++ rest → piece ≡ (taken ++ take n rest) ++ take (length rest - n) (drop n rest)
step_parts piece taken rest n is =
    is
    ∙ ap (λ (l : List ℕ). taken ++ l) (sym (take-append-drop n rest))
    ∙ sym (append_assoc taken (take n rest) (drop n rest))
    ∙ ap (λ (l : List ℕ). (taken ++ take n rest) ++ l) (sym (take-left n rest))

pub nothing_left : (piece taken rest : List ℕ) → piece ≡ taken ++ rest → true ≡ (length rest == 0) → taken ≡ piece
nothing_left piece taken rest is none = sym (append-nil taken) ∙ ap (λ (l : List ℕ). taken ++ l) (sym (no_bytes rest (eqb-true (length rest) 0 (sym none)))) ∙ sym is

-- nothing was written yet
pub held_nothing : (held x : Option (List ℕ)) → x ≡ held → IsHeld held x []
held_nothing held x is = subst (Appends held x) (sym (unwritten [] (omega arith))) (subst (λ y. Appends held y []) (sym is) (appends-nothing held))

-- what was held, with more written
pub held_more : (held x y : Option (List ℕ)) (log piece : List ℕ) → IsHeld held x log → WritesMore log piece x y → IsHeld held y (log ++ piece)
held_more held x y log piece had more = subst (Appends held y) (sym more.is) (appends-then held x y (timed log) more.more had more.appended)

pub held_stops : (held x y : Option (List ℕ)) (log piece : List ℕ) (fault : ConvertFault) → IsHeld held x log → StopsCopying log piece x y fault → StopsIn held y log piece fault
held_stops held x y log piece (convert_faults.Refused refusal) had s = (s.taken, s.byte, s.later, s.is, s.unrefused, s.why, held_more held x y log s.taken had s.written)
held_stops held x y log piece convert_faults.Write had s =
    (s.taken, s.later, s.is, s.unrefused, subst (AppendsBeginning held y) (sym s.adds) (stopped-in-back (timed log) s.more had s.written))

-- bytes of a body that were taken in, and written
inside_past : (c : Copying) (left : ℕ) → IsSound c → c.part ≡ parts.Body left → 8 ≤ c.at
inside_past c left sound within =
    let inside : IsWithin (parts.Body left) = subst IsWithin within sound.within in
    let begun : begun_in c.part ≡ longest_record - left = ap begun_in within in
    sound.past_header (omega (arith, begun, inside.1))

pub body_written : {W : Type 0} (contents : W → Option (List ℕ)) (old new : W) (c c' : Copying) (log bytes : List ℕ) (left n : ℕ) → IsCopyOf c log → IsSound c → c.part ≡ parts.Body left
    → 1 ≤ n → n ≤ left → n ≤ length bytes → c' ≡ past_body c left n → Appends (contents old) (contents new) (take n bytes)
    → IsCopyOf c' (log ++ take n bytes) × WritesMore log (take n bytes) (contents old) (contents new)
body_written contents old new c c' log bytes left n was sound within some few short is wrote =
    let count : length (take n bytes) ≡ n = length-take-le n bytes short in
    let copied = bodies_copied (take n bytes) c log left was (inside_past c left sound within) within (omega (arith, count, some)) (omega (arith, count, few)) in (
      subst (λ (x : Copying). IsCopyOf x (log ++ take n bytes)) (ap (past_body c left) count ∙ sym is) copied.0,
      record { more = take n bytes; is = copied.1; appended = wrote },
    )

pub body_unwritten : {W : Type 0} (contents : W → Option (List ℕ)) (old new : W) (c : Copying) (log bytes : List ℕ) (left n : ℕ) → IsCopyOf c log → IsSound c → c.part ≡ parts.Body left
    → 1 ≤ n → n ≤ left → n ≤ length bytes → AppendsBeginning (contents old) (contents new) (take n bytes) → WritesLess log bytes (contents old) (contents new)
body_unwritten contents old new c log bytes left n was sound within some few short part =
    let count : length (take n bytes) ≡ n = length-take-le n bytes short in
    let copied = bodies_copied (take n bytes) c log left was (inside_past c left sound within) within (omega (arith, count, some)) (omega (arith, count, few)) in
    record { taken = take n bytes; later = drop n bytes; is = sym (take-append-drop n bytes); unrefused = copied.0.unrefused; more = take n bytes; adds = copied.1; written = part }

-- what feeding a piece gives, by its result
pub feed_ok : (held x y : Option (List ℕ)) (c' : Copying) (log piece : List ℕ) (result : Result (Unit {0}) ConvertFault) → IsHeld held x log → OnOk result (IsCopyOf c' (log ++ piece) × WritesMore log piece x y)
    → OnOk result (IsCopyOf c' (log ++ piece) × IsHeld held y (log ++ piece))
feed_ok held x y c' log piece (Ok done) had copied = (copied.0, held_more held x y log piece had copied.1)
feed_ok held x y c' log piece (Err fault) had copied = tt

pub feed_err : (held x y : Option (List ℕ)) (log piece : List ℕ) (result : Result (Unit {0}) ConvertFault) → IsHeld held x log → IfErr result (StopsCopying log piece x y) → IfErr result (StopsIn held y log piece)
feed_err held x y log piece (Ok done) had s = tt
feed_err held x y log piece (Err fault) had s = held_stops held x y log piece fault had s

-- ---- the whole

-- what is copied of a log with one byte more
copied_more : (l : List ℕ) (x : ℕ) → copied (l ++ x ∷ []) ≡ cond (is_some (unconverted (l ++ x ∷ []))) (copied l) (l ++ x ∷ [])
unfolding copied copied_back unconverted
copied_more l x =
    ap (λ back. reverse (copied_back back)) (reverse-append l (x ∷ []))
    ∙ by (is_some (unconverted_back (x ∷ reverse l)))
    ∙ ap (λ back. cond (is_some (unconverted_back back)) (reverse (copied_back (reverse l))) (l ++ x ∷ [])) (sym (reverse-append l (x ∷ [])))
  where
    by : (t : Bool) → reverse (cond t (copied_back (reverse l)) (x ∷ reverse l)) ≡ cond t (reverse (copied_back (reverse l))) (l ++ x ∷ [])
    by true = refl
    by false = ap reverse (sym (reverse-append l (x ∷ []))) ∙ reverse-reverse (l ++ x ∷ [])

-- what is refused stays so, and no more is copied
refused_stays : (l more : List ℕ) (r : Refusal) → unconverted l ≡ Some r → (unconverted (l ++ more) ≡ Some r) × (copied (l ++ more) ≡ copied l)
refused_stays l [] r is = (ap unconverted (append-nil l) ∙ is, ap copied (append-nil l))
refused_stays l (x ∷ more) r is =
    let next : unconverted (l ++ x ∷ []) ≡ Some r = unconverted-grow l x ∙ ap (λ o. option_or o (unconverted_at l x)) is in
    let rest = refused_stays (l ++ x ∷ []) more r next in (
      ap unconverted (sym (append_assoc l (x ∷ []) more)) ∙ rest.0,
      ap copied (sym (append_assoc l (x ∷ []) more)) ∙ rest.1 ∙ copied_more l x ∙ ap (λ o. cond (is_some o) (copied l) (l ++ x ∷ [])) next,
    )

-- all before a refused byte is copied
copied_to : (log later : List ℕ) (b : ℕ) (refusal : Refusal) → unconverted log ≡ None → unconverted_at log b ≡ Some refusal → (unconverted (log ++ b ∷ later) ≡ Some refusal) × (copied (log ++ b ∷ later) ≡ log)
copied_to log later b refusal none met =
    let whole : log ++ b ∷ later ≡ (log ++ b ∷ []) ++ later = sym (append_assoc log (b ∷ []) later) in
    let now : unconverted (log ++ b ∷ []) ≡ Some refusal = unconverted-grow log b ∙ ap (λ o. option_or o (unconverted_at log b)) none ∙ met in
    let last : copied (log ++ b ∷ []) ≡ log = copied_more log b ∙ ap (λ o. cond (is_some o) (copied log) (log ++ b ∷ [])) now ∙ copied_whole log none in
    let stays = refused_stays (log ++ b ∷ []) later refusal now in
    (ap unconverted whole ∙ stays.0, ap copied whole ∙ stays.1 ∙ last)

whole_converted : (log : List ℕ) → unconverted log ≡ None → timed log ≡ converted log
whole_converted log none = ap timed (sym (copied_whole log none))

-- A beginning of what is copied is written first.
record CopiesMore (first more : List ℕ) : Type 0 where
  rest : List ℕ
  is : converted (first ++ more) ≡ timed first ++ rest

timed_more : (log : List ℕ) (b : ℕ) → (rest : List ℕ) × (timed (log ++ b ∷ []) ≡ timed log ++ rest)
timed_more log b = by (nat_lt (length log) 8) refl
  where
    by : (t : Bool) → nat_lt (length log) 8 ≡ t → (rest : List ℕ) × (timed (log ++ b ∷ []) ≡ timed log ++ rest)
    by true e = (timed (log ++ b ∷ []), ap (λ (l : List ℕ). l ++ timed (log ++ b ∷ [])) (sym (unwritten log (ltb-true (length log) 8 e))))
    by false e = (added (records log).rest b, timed_grown log b (ltb-false (length log) 8 e))

copies_more : (first more : List ℕ) → unconverted first ≡ None → CopiesMore first more
copies_more first [] none = record { rest = []; is = ap converted (append-nil first) ∙ sym (whole_converted first none) ∙ sym (append-nil (timed first)) }
copies_more first (b ∷ more) none = by (unconverted_at first b) refl (λ next. copies_more (first ++ b ∷ []) more next)
  where
    by : (o : Option Refusal) → unconverted_at first b ≡ o → (unconverted (first ++ b ∷ []) ≡ None → CopiesMore (first ++ b ∷ []) more) → CopiesMore first (b ∷ more)
    by None e others =
        let next = others (unconverted-grow first b ∙ both_none (unconverted first) (unconverted_at first b) none e) in
        let step = timed_more first b in
        record {
          rest = step.0 ++ next.rest;
          is = ap converted (sym (append_assoc first (b ∷ []) more)) ∙ next.is ∙ ap (λ (l : List ℕ). l ++ next.rest) step.1 ∙ append_assoc (timed first) step.0 next.rest;
        }
    by (Some refusal) e others =
        let all = copied_to first more b refusal none e in
        record { rest = []; is = ap timed all.1 ∙ sym (append-nil (timed first)) }

-- a log that was converted to its end, which finishing found whole or cut short
pub converts_all : (x left held now : Option (List ℕ)) (c : Copying) (log : List ℕ) (result : Result (Unit {0}) ConvertFault) → Consumes x left log → IsAtEnd left → IsCopyOf c log → IsHeld held now log
    → OnOk result (is_cut_short log ≡ false) → IfErr result (λ fault. (fault ≡ convert_faults.Refused (refusals.Cut (length log))) × (is_cut_short log ≡ true)) → IfSome x (λ whole. Converts whole left result held now)
converts_all None left held now c log result consumed end was had whole cut = tt
converts_all (Some all) left held now c log (Ok done) consumed end was had whole cut =
    record { read = log; consumed = consumed; does = (end, was.unrefused, whole, subst (Appends held now) (whole_converted log was.unrefused) had) }
converts_all (Some all) left held now c log (Err fault) consumed end was had whole cut =
    subst (λ f. Converts all left (Err f) held now) (sym cut.0)
    (record { read = log; consumed = consumed; does = (inr (was.unrefused, inl (end, cut.1, refl)), subst (Appends held now) (whole_converted log was.unrefused) had) })

-- a log of which no more could be read
converts_unread : (x left held now : Option (List ℕ)) (c : Copying) (log piece : List ℕ) (count : ℕ) → Consumes x left (log ++ piece) → piece ≡ [] → IsCopyOf c log → IsHeld held now log → count ≡ length log
    → IfSome x (λ whole. Converts whole left (Err (convert_faults.Refused (refusals.Read count))) held now)
converts_unread None left held now c log piece count consumed none was had is = tt
converts_unread (Some all) left held now c log piece count consumed none was had is =
    record {
      read = log;
      consumed = subst (Consumes (Some all) left) (ap (λ (l : List ℕ). log ++ l) none ∙ append-nil log) consumed;
      does = (inr (was.unrefused, inr (ap refusals.Read is)), subst (Appends held now) (whole_converted log was.unrefused) had);
    }

-- a log whose converting stopped
converts_some : (x left held now : Option (List ℕ)) (log piece : List ℕ) (fault : ConvertFault) → Consumes x left (log ++ piece) → StopsIn held now log piece fault → IfSome x (λ whole. Converts whole left (Err fault) held now)
converts_some None left held now log piece fault consumed s = tt
converts_some (Some all) left held now log piece (convert_faults.Refused refusal) consumed s =
    let whole : log ++ piece ≡ (log ++ s.0) ++ s.1 ∷ s.2 = ap (λ (l : List ℕ). log ++ l) s.3 ∙ sym (append_assoc log s.0 (s.1 ∷ s.2)) in
    let all_of = copied_to (log ++ s.0) s.2 s.1 refusal s.4 s.5 in
    record {
      read = log ++ piece;
      consumed = consumed;
      does = (inl (ap unconverted whole ∙ all_of.0), subst (Appends held now) (ap timed (sym all_of.1) ∙ ap converted (sym whole)) s.6);
    }
converts_some (Some all) left held now log piece convert_faults.Write consumed s =
    let whole : log ++ piece ≡ (log ++ s.0) ++ s.1 = ap (λ (l : List ℕ). log ++ l) s.2 ∙ sym (append_assoc log s.0 s.1) in
    record {
      read = log ++ piece;
      consumed = consumed;
      does = longer held now (log ++ s.0) s.1 s.3 s.4 (log ++ piece) whole;
    }
  where
    longer : (held now : Option (List ℕ)) (first more : List ℕ) → unconverted first ≡ None → AppendsBeginning held now (timed first) → (read : List ℕ) → read ≡ first ++ more → AppendsBeginning held now (converted read)
    longer held now first more none part read is =
        let copies = copies_more first more none in
        subst (AppendsBeginning held now) (sym copies.is ∙ ap converted (sym is)) (stopped-in-front (timed first) copies.rest part)

-- a log whose feeding halted
pub converts_halted : {W : Type 0} (contents : W → Option (List ℕ)) (x left held : Option (List ℕ)) (c : Copying) (w : W) (first : ℕ) (halt : Halt ConvertFault)
    → FedSome (λ _. 0) (λ copier writer log. IsCopyOf copier log × IsHeld held (contents writer) log) (λ _ _ writer log piece fault. StopsIn held (contents writer) log piece fault) first x left c w halt
    → IfSome x (λ whole. Converts whole left (Err (fault_of halt)) held (contents w))
converts_halted contents x left held c w first (halts.Stopped fault) fed = converts_some x left held (contents w) fed.log fed.piece fault fed.consumed fed.why
converts_halted contents x left held c w first (halts.Failed count) fed = converts_unread x left held (contents w) c fed.log fed.piece count fed.consumed fed.why.0 fed.why.1.0 fed.why.1.1 fed.why.3
converts_halted contents x left held c w first (halts.RanOut count) fed = converts_unread x left held (contents w) c fed.log fed.piece count fed.consumed fed.why.0 fed.why.1.0 fed.why.1.1 fed.why.3
