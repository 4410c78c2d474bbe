-- What is told of a log that was judged and then read again.
use Rattle.std.proofs.Common.{◌≡◌, ◌==◌, ℕ, Bool, true, false, List, [], ◌++◌, length, Option, Some, None, Result, Ok, Err, IfErr, IfOk, IfSome, OnOk, ◌⊎◌, refl, sym, ap, ap₂, subst, ◌∙◌, inl, inr, arith, append-nil}
use Rattle.std.specs.FinMap as map
use Rattle.std.specs.Prelude.{slice_index}
use Rattle.std.proofs.KnownBytes.{Keeps-refl}
use Rattle.std.specs.Io.KnownBytes.{Appends, IsAtEnd, Keeps, prepend_known}
use Rattle.mq_log.specs.Events.{events}
use Rattle.mq_log.specs.Framing.{header_by}
use Rattle.mq_rules.specs.declared.role.Role.{Role}
use Rattle.mq_rules.specs.declared.role.Tested.{Tested}
use Rattle.mq_rules.specs.declared.fault.Fault.{Fault}
use Rattle.mq_rules.specs.declared.faults.FaultKey.{FaultKey}
use Rattle.mq_rules.specs.FaultKeys.{FaultMap}
use Rattle.mq_rules.specs.Notes.{seen_in, seen}
use Rattle.mq_rules.specs.declared.evidence.Evidence.{Evidence}
use Rattle.mq_report.specs.Report.{refused_report, report_on}
use Rattle.mq_report.specs.Reasons.{reasoned_report_on}
use Rattle.mq_report.specs.Stopping.{IsJudged, default_limit, IsRefusedAt}
use Rattle.mq_trail.specs.Explaining.{AreReasons, IsSame}
use Rattle.mq_judge.specs.declared.Form.{Form}
use Rattle.mq_judge.specs.declared.Refusal.{Refusal}
use Rattle.mq_judge.specs.declared.Refusal.TheVariants as refusals
use Rattle.mq_judge.specs.Runner.{IsFaultless, IsVerdictOn, chosen_report}
use Rattle.mq_host.specs.declared.failure.Failure.{Failure}
use Rattle.mq_host.specs.declared.failure.Failure.TheVariants as failures
use Rattle.mq_tasks.specs.declared.lapse.Lapse.{Lapse}
use Rattle.mq_tasks.specs.declared.lapse.Lapse.TheVariants.{Failed, Changed}
use Rattle.mq_tasks.specs.Inquiring.{AreReasonsAgain, AreReasonsOf, HasChanged, HasReleases, HaveSameVerdict, IsExplained, IsPassed, IsReasoned, StopsExplaining, StopsFirst, StopsInquiry, StopsReport, StopsReportBy, reasoned_report, reasoned_verdict}
use Rattle.mq_tasks.specs.Messages.{BeginsRefusal, IsRefusedBy, LacksJsonMemory, failure_of}
use Rattle.mq_tasks.specs.Program.{FailsInquiryBegun, FailsInquiryReaders}
use Rattle.mq_tasks.specs.Lapses.{LacksReasons}
use Rattle.mq_tasks.specs.Reviewing.{IfBoth}
use Rattle.mq_host.specs.declared.trouble.Trouble.{Trouble}
use Rattle.mq_host.specs.Streams.{AppendsPart, Stream}
use Rattle.mq_host.specs.Troubles.{Tells, failure_in}
use Rattle.mq_choice.specs.Choices.{tested_for, wants_further}
use Rattle.mq_tasks.specs.Choosing.{Chosen}
use Rattle.mq_rules.specs.Faults.{listed_faults}
use Rattle.std.proofs.lemmas.Bool.{eqb-true, eq-eqb}
use Rattle.std.proofs.lemmas.List.{get_or_append_left, length-map, nil_from_length}
use Rattle.mq_tasks.proofs.MessageLaws.{own_refusal, part-kept}

-- ---- the report on a verdict

-- without faults it is that of a check
passed_is : (choice : Chosen) (form : Form) (log : List ℕ) (role : Role) (count : ℕ) (faults : FaultMap) → IsVerdictOn choice.has log role count faults → report_on form role (map.entries faults) count ≡ chosen_report choice.has form log
unfolding chosen_report
passed_is choice form log role count faults v = rw (v.role_is, v.faults_are, v.count_is) refl

-- there are as many moments as events
seen_count : (log : List ℕ) → length (seen_in log) ≡ length (events log)
unfolding seen_in
seen_count log = length-map (events log) seen

-- the other log has the verdict of the first one
pub same_of : (choice : Chosen) (first second : List ℕ) (releases : Bool) (role : Role) (count : ℕ) (faults : FaultMap) → IsVerdictOn choice.has first role count faults
    → IsSame choice.has (record { role = role; releases = releases; further = wants_further choice.has }) (tested_for choice.has second) count (map.entries faults) (seen_in second) → releases ≡ (header_by first).releases → HaveSameVerdict choice first second
unfolding seen_in
same_of choice first second releases role count faults v same is = record {
  end = same.end ∙ ap₂ (λ r b. record { role = r; releases = b; further = wants_further choice.has }) v.role_is is;
  counted = sym (length-map (events second) seen) ∙ sym same.counted ∙ v.count_is;
  found = sym (ap (λ t. listed_faults choice.has t (seen_in second)) (sym same.end)) ∙ sym same.listed ∙ v.faults_are;
}

-- ---- two readings

-- what holds of the first log holds whatever the other one is
by_first : (judged again : Option (List ℕ)) (P : List ℕ → Type 0) (R : List ℕ → List ℕ → Type 0) → ((first second : List ℕ) → P first → R first second)
    → IfSome judged P → IfBoth judged again R
by_first None again P R f p = tt
by_first (Some first) None P R f p = tt
by_first (Some first) (Some second) P R f p = f first second p

-- what holds of a log whose first bytes were read holds of all of it
pub rejoin_inquiry : (old judged again : Option (List ℕ)) (R : List ℕ → List ℕ → Type 0) → Keeps old judged → IfBoth judged again R → IfBoth old again R
rejoin_inquiry None judged again R k h = tt
rejoin_inquiry (Some log) None again R k h = absurd k
rejoin_inquiry (Some log) (Some first) None R k h = tt
rejoin_inquiry (Some log) (Some first) (Some second) R k h = subst (λ (x : List ℕ). R x second) k h

-- both readings are of one file's bytes
pub for_one_file : (file judged again : Option (List ℕ)) (R : List ℕ → List ℕ → Type 0) → Keeps file judged → Keeps file again → IfBoth judged again R
    → IfSome file (λ log. R log log)
for_one_file None judged again R k l h = tt
for_one_file (Some log) None again R k l h = absurd k
for_one_file (Some log) (Some first) None R k l h = absurd l
for_one_file (Some log) (Some first) (Some second) R k l h = subst (λ (x : List ℕ). R log x) l (subst (λ (x : List ℕ). R x second) k h)

-- and so is what holds of two logs
for_two_readings : (file judged again : Option (List ℕ)) (R : List ℕ → List ℕ → Type 0) → Keeps file judged → Keeps file again → IfBoth judged again R → IfBoth file file R
for_two_readings None judged again R k l h = tt
for_two_readings (Some log) judged again R k l h = for_one_file (Some log) judged again R k l h

-- ---- a log without faults

-- there are no faults in the verdict's log
pub faultless_if : (choice : Chosen) (first : List ℕ) (role : Role) (count : ℕ) (faults : FaultMap) → IsVerdictOn choice.has first role count faults → (map.len faults == 0) ≡ true → IsFaultless choice.has first
faultless_if choice first role count faults v none = sym v.faults_are ∙ nil_from_length (map.entries faults) (sym (map.len-entries faults) ∙ eqb-true (map.len faults) 0 none)

pub inquiry_passes : (choice : Chosen) (form : Form) (role : Role) (count : ℕ) (faults : FaultMap) (judged again old new : Option (List ℕ)) (status : Result ℕ Lapse) → (map.len faults == 0) ≡ true
    → IfSome judged (λ log. IsVerdictOn choice.has log role count faults) → OnOk status (Appends old new (report_on form role (map.entries faults) count))
    → IfOk status (λ s. s ≡ 0 → IfBoth judged again (λ first second. IsPassed choice form first old new))
inquiry_passes choice form role count faults judged again old new (Err lapse) none v wrote = tt
inquiry_passes choice form role count faults judged again old new (Ok s) none v wrote = λ is.
    by_first judged again (λ log. IsVerdictOn choice.has log role count faults) (λ first second. IsPassed choice form first old new)
    (λ first second w. (w.judged, faultless_if choice first role count faults w none, subst (Appends old new) (passed_is choice form first role count faults w) wrote)) v

-- the report on it wasn't written
pub pass_stops : (choice : Chosen) (form : Form) (releases : Bool) (role : Role) (count : ℕ) (faults : FaultMap) (judged again left again_left old new : Option (List ℕ)) (status : Result ℕ Lapse)
    → (map.len faults == 0) ≡ true → IfSome judged (λ log. IsVerdictOn choice.has log role count faults)
    → IfErr status (StopsReportBy form (report_on form role (map.entries faults) count) old new)
    → IfErr status (λ lapse. HasReleases releases judged → IfBoth judged again (λ first second. StopsInquiry choice form lapse first second left again_left old new))
pass_stops choice form releases role count faults judged again left again_left old new (Ok s) none v stops = tt
pass_stops choice form releases role count faults judged again left again_left old new (Err lapse) none v stops = λ _.
    by_first judged again (λ log. IsVerdictOn choice.has log role count faults) (λ first second. StopsInquiry choice form lapse first second left again_left old new)
    (λ first second w. go first second w lapse stops) v
  where
    go : (first second : List ℕ) → IsVerdictOn choice.has first role count faults → (l : Lapse) → StopsReportBy form (report_on form role (map.entries faults) count) old new l
        → StopsInquiry choice form l first second left again_left old new
    go first second w (Failed failure) h = inr (inl (
      w.judged,
      faultless_if choice first role count faults w none,
      subst (λ (text : List ℕ). StopsReport form text failure old new) (passed_is choice form first role count faults w) h,
    ))
    go first second w Changed h = absurd h

-- ---- a log with faults, which is read again

-- there are some
pub faulty_if : (choice : Chosen) (first : List ℕ) (role : Role) (count : ℕ) (faults : FaultMap) → IsVerdictOn choice.has first role count faults → (map.len faults == 0) ≡ false → ¬ IsFaultless choice.has first
faulty_if choice first role count faults v some none =
    let zero_many : map.len faults ≡ 0 = map.len-entries faults ∙ ap (length {A = FaultKey × Fault}) (v.faults_are ∙ none) in
    absurd (let bad : true ≡ false = sym (eq-eqb (map.len faults) 0 zero_many) ∙ some in cc)

-- what the verdict's faults conflict with is what those of the other log do
pub reasons_of_other : (choice : Chosen) (second : List ℕ) (tested : Tested) (count : ℕ) (faults : List (FaultKey × Fault)) (reasons : List Evidence)
    → IsSame choice.has tested (tested_for choice.has second) count faults (seen_in second) → AreReasons tested (seen_in second) faults reasons → AreReasonsOf choice second reasons
reasons_of_other choice second tested count faults reasons same are =
    subst (λ (t : Tested). AreReasons t (seen_in second) (listed_faults choice.has t (seen_in second)) reasons) (sym same.end)
    (subst (λ (f : List (FaultKey × Fault)). AreReasons tested (seen_in second) f reasons) same.listed are)

-- so they are those of the log that was read again
pub again_if : (choice : Chosen) (first second : List ℕ) (releases : Bool) (role : Role) (count : ℕ) (faults : FaultMap) (reasons : List Evidence) → IsVerdictOn choice.has first role count faults → IsJudged second
    → IsSame choice.has (record { role = role; releases = releases; further = wants_further choice.has }) (tested_for choice.has second) count (map.entries faults) (seen_in second)
    → AreReasons (record { role = role; releases = releases; further = wants_further choice.has }) (seen_in second) (map.entries faults) reasons → releases ≡ (header_by first).releases → AreReasonsAgain choice first second reasons
again_if choice first second releases role count faults reasons v judged same are is = record {
  second = judged;
  same = same_of choice first second releases role count faults v same is;
  are = reasons_of_other choice second (record { role = role; releases = releases; further = wants_further choice.has }) count (map.entries faults) reasons same are;
}

-- and the report on the verdict is that on the other log
other_report : (choice : Chosen) (form : Form) (second : List ℕ) (tested : Tested) (count : ℕ) (faults : List (FaultKey × Fault)) (reasons : List Evidence)
    → IsSame choice.has tested (tested_for choice.has second) count faults (seen_in second) → reasoned_verdict form tested count faults reasons ≡ reasoned_report choice form second reasons
unfolding seen_in
other_report choice form second tested count faults reasons same =
    ap (λ (n : ℕ). reasoned_verdict form tested n faults reasons) (same.counted ∙ length-map (events second) seen)
    ∙ ap (λ (f : List (FaultKey × Fault)). reasoned_verdict form tested (length (events second)) f reasons) same.listed
    ∙ ap (λ (t : Tested). reasoned_report_on form t.role (listed_faults choice.has t (seen_in second)) (length (events second)) reasons) (sym same.end)

pub inquiry_reasons : (choice : Chosen) (form : Form) (releases : Bool) (role : Role) (count : ℕ) (faults : FaultMap) (judged again old new : Option (List ℕ)) (status : Result ℕ Lapse)
    → (map.len faults == 0) ≡ false → IfSome judged (λ log. IsVerdictOn choice.has log role count faults)
    → OnOk status (IfSome again (λ log. IsExplained choice form (record { role = role; releases = releases; further = wants_further choice.has }) count (map.entries faults) log old new))
    → IfOk status (λ s. s ≡ 1 → HasReleases releases judged → IfBoth judged again (λ first second. IsReasoned choice form first second old new))
inquiry_reasons choice form releases role count faults judged again old new (Err lapse) some v told = tt
inquiry_reasons choice form releases role count faults None again old new (Ok s) some v told = λ one is. tt
inquiry_reasons choice form releases role count faults (Some first) None old new (Ok s) some v told = λ one is. tt
inquiry_reasons choice form releases role count faults (Some first) (Some second) old new (Ok s) some v told = λ one is.
    let tested : Tested = record { role = role; releases = releases; further = wants_further choice.has } in
    record {
      first = v.judged;
      faulty = faulty_if choice first role count faults v some;
      reasons = told.2.0;
      are = again_if choice first second releases role count faults told.2.0 v told.0 told.1 told.2.1 is;
      reported = subst (Appends old new) (other_report choice form second tested count (map.entries faults) told.2.0 told.1) told.2.2;
    }

-- logs with one verdict have this one
pub same_as_first : (choice : Chosen) (first second : List ℕ) (releases : Bool) (role : Role) (count : ℕ) (faults : FaultMap) → IsVerdictOn choice.has first role count faults → releases ≡ (header_by first).releases
    → HaveSameVerdict choice first second → IsSame choice.has (record { role = role; releases = releases; further = wants_further choice.has }) (tested_for choice.has second) count (map.entries faults) (seen_in second)
same_as_first choice first second releases role count faults v is same =
    let one : tested_for choice.has second ≡ record { role = role; releases = releases; further = wants_further choice.has } = same.end ∙ sym (ap₂ (λ r b. record { role = r; releases = b; further = wants_further choice.has }) v.role_is is) in
    record {
      end = one;
      counted = v.count_is ∙ sym same.counted ∙ sym (seen_count second);
      listed = v.faults_are ∙ sym same.found ∙ ap (λ (t : Tested). listed_faults choice.has t (seen_in second)) one;
    }

-- a log that is read again and has another verdict isn't the one that was judged
pub differs_if : (choice : Chosen) (first second : List ℕ) (releases : Bool) (role : Role) (count : ℕ) (faults : FaultMap) → IsVerdictOn choice.has first role count faults → releases ≡ (header_by first).releases
    → ((refusal : Refusal) × IsRefusedBy second refusal)
    ⊎ (IsJudged second × (¬ IsSame choice.has (record { role = role; releases = releases; further = wants_further choice.has }) (tested_for choice.has second) count (map.entries faults) (seen_in second)))
    → ((refusal : Refusal) × IsRefusedBy second refusal) ⊎ (IsJudged second × (¬ HaveSameVerdict choice first second))
differs_if choice first second releases role count faults v is (inl refused) = inl refused
differs_if choice first second releases role count faults v is (inr (judged, differs)) =
    inr (judged, λ same. absurd (differs (same_as_first choice first second releases role count faults v is same)))

-- it wasn't explained
pub explaining_stops : (choice : Chosen) (form : Form) (releases : Bool) (role : Role) (count : ℕ) (faults : FaultMap) (judged again left again_left old new : Option (List ℕ)) (result : Result ℕ Lapse)
    → (map.len faults == 0) ≡ false → IfSome judged (λ log. IsVerdictOn choice.has log role count faults)
    → IfErr result (λ lapse. IfSome again (λ log. StopsExplaining choice form (record { role = role; releases = releases; further = wants_further choice.has }) count (map.entries faults) lapse log again_left old new))
    → IfErr result (λ lapse. HasReleases releases judged → IfBoth judged again (λ first second. StopsInquiry choice form lapse first second left again_left old new))
explaining_stops choice form releases role count faults judged again left again_left old new (Ok s) some v stops = tt
explaining_stops choice form releases role count faults None again left again_left old new (Err lapse) some v stops = λ is. tt
explaining_stops choice form releases role count faults (Some first) None left again_left old new (Err lapse) some v stops = λ is. tt
explaining_stops choice form releases role count faults (Some first) (Some second) left again_left old new (Err lapse) some v stops = λ is. go is lapse stops
  where
    tested : Tested
    tested = record { role = role; releases = releases; further = wants_further choice.has }

    faulty : ¬ IsFaultless choice.has first
    faulty = faulty_if choice first role count faults v some

    go : releases ≡ (header_by first).releases → (l : Lapse) → StopsExplaining choice form tested count (map.entries faults) l second again_left old new
        → StopsInquiry choice form l first second left again_left old new
    go is (Failed failures.Read) h = inr (inr (v.judged, faulty, h))
    go is (Failed failures.Memory) h = inr (inr (v.judged, faulty, h))
    go is (Failed failures.Write) h = inr (inr (
      v.judged,
      faulty,
      (
        h.2.0,
        again_if choice first second releases role count faults h.2.0 v h.0 h.1 h.2.1 is,
        subst (AppendsPart old new) (other_report choice form second tested count (map.entries faults) h.2.0 h.1) h.2.2,
      ),
    ))
    go is Changed h = record { first = v.judged; faulty = faulty; why = differs_if choice first second releases role count faults v is h.0; unwritten = h.1 }

-- ---- a log that is refused while it is judged

-- it can't be told
pub refusing_stops : (choice : Chosen) (form : Form) (releases : Bool) (judged again left again_left old new : Option (List ℕ)) (refusal : Refusal) (failure : Failure)
    → IfSome judged (λ log. IsRefusedAt default_limit log left refusal)
    → (failure ≡ failure_of refusal) ⊎ ((failure ≡ failures.Memory) × LacksJsonMemory form refusal old new) → BeginsRefusal form refusal old new
    → HasReleases releases judged → IfBoth judged again (λ first second. StopsInquiry choice form (Failed failure) first second left again_left old new)
refusing_stops choice form releases judged again left again_left old new refusal failure stops failed begun = λ _.
    by_first judged again (λ log. IsRefusedAt default_limit log left refusal)
    (λ first second. StopsInquiry choice form (Failed failure) first second left again_left old new) (λ first second h. inl (by_why first h failed)) stops
  where
    on_log : (r : Refusal) (log : List ℕ) → IsRefusedAt default_limit log left r → BeginsRefusal form r old new → StopsFirst choice form (failure_of r) log left old new
    on_log (refusals.Read at) log h (inl kept) = (at, h, kept)
    on_log (refusals.Read at) log h (inr (own, part)) = absurd own
    on_log (refusals.Memory at) log h (inl kept) = inl (at, h, kept)
    on_log (refusals.Memory at) log h (inr (own, part)) = absurd own
    on_log r log h (inl kept) = (r, own_refusal log left r tt h, part-kept old new (refused_report form r) kept)
    on_log r log h (inr (own, part)) = (r, own_refusal log left r own h, part)

    by_why : (log : List ℕ) → IsRefusedAt default_limit log left refusal → (failure ≡ failure_of refusal) ⊎ ((failure ≡ failures.Memory) × LacksJsonMemory form refusal old new)
        → StopsFirst choice form failure log left old new
    by_why log h (inl why) = subst (λ (f : Failure). StopsFirst choice form f log left old new) (sym why) (on_log refusal log h begun)
    by_why log h (inr (is, lacks)) = subst (λ (f : Failure). StopsFirst choice form f log left old new) (sym is)
        (inr (inl (refusal, own_refusal log left refusal lacks.1 h, lacks.0, lacks.2)))

-- judging it has no other end
pub never_by_first : (judged again : Option (List ℕ)) (R : List ℕ → List ℕ → Type 0) → IfSome judged (λ log. ⊥) → IfBoth judged again R
never_by_first judged again R never = by_first judged again (λ log. ⊥) R (λ first second h. absurd h) never

-- there was no memory for the verdict
pub lacks_verdict : (choice : Chosen) (form : Form) (releases : Bool) (judged again left again_left old : Option (List ℕ)) → IfSome judged (λ log. IsJudged log × (choice.listed ≡ true))
    → HasReleases releases judged → IfBoth judged again (λ first second. StopsInquiry choice form (Failed failures.Memory) first second left again_left old old)
lacks_verdict choice form releases judged again left again_left old lacks = λ _.
    by_first judged again (λ log. IsJudged log × (choice.listed ≡ true)) (λ first second. StopsInquiry choice form (Failed failures.Memory) first second left again_left old old)
    (λ first second h. inl (inr (inr (h.0, h.1, Keeps-refl old)))) lacks

-- ---- what the header says of releases

-- the first bytes of a log show it
pub releases_by_start : (rest : Option (List ℕ)) (taken start : List ℕ) → start ≡ taken → (length taken ≡ 8) ⊎ IsAtEnd rest
    → HasReleases (slice_index start 6 == 1) (prepend_known start rest)
releases_by_start None taken start same enough = tt
releases_by_start (Some bytes) taken start same enough = ap (λ (byte : ℕ). byte == 1) (seventh enough)
  where
    seventh : (length taken ≡ 8) ⊎ (bytes ≡ []) → slice_index start 6 ≡ slice_index (start ++ bytes) 6
    seventh (inl is) = sym (get_or_append_left start bytes 0 6 (let long : length start ≡ 8 = ap (length {A = ℕ}) same ∙ is in omega (arith, long)))
    seventh (inr none) = ap (λ (all : List ℕ). slice_index all 6) (sym (append-nil start)) ∙ ap (λ (others : List ℕ). slice_index (start ++ others) 6) (sym none)

-- and so does it show it of a reader that was made of them
pub releases_kept : (releases shown : Bool) (first log : Option (List ℕ)) → releases ≡ shown → first ≡ log → HasReleases shown log → HasReleases releases first
releases_kept releases shown first log same one is = rw (same, one) is

-- ---- the two readers

-- both stop where the readers that were made of them do
pub inquiry_stops : (path : List ℕ) (choice : Chosen) (form : Form) (judged again first second judged_left again_left old new : Option (List ℕ)) (is_closed : Bool) (error : Stream)
    (failure : Failure) (trouble : Trouble) → first ≡ judged → second ≡ again → failure_in trouble ≡ failure
    → IfBoth first second (λ x y. StopsInquiry choice form (Failed failure) x y judged_left again_left old new) → Tells is_closed path trouble error
    → FailsInquiryBegun path choice form judged again is_closed old new error
inquiry_stops path choice form judged again first second judged_left again_left old new is_closed error failure trouble one other same stops told = inl (record {
  judged_left = judged_left;
  again_left = again_left;
  trouble = trouble;
  stops = rw (sym one, sym other, same) stops;
  told = told;
})

pub failing_rejoined : (path : List ℕ) (choice : Chosen) (form : Form) (log judged again old new : Option (List ℕ)) (is_closed : Bool) (error : Stream) → Keeps log judged
    → FailsInquiryBegun path choice form judged again is_closed old new error → FailsInquiryBegun path choice form log again is_closed old new error
failing_rejoined path choice form log judged again old new is_closed error k (inl stops) = inl (record {
  judged_left = stops.judged_left;
  again_left = stops.again_left;
  trouble = stops.trouble;
  stops = rejoin_inquiry log judged again (λ first second. StopsInquiry choice form (Failed (failure_in stops.trouble)) first second stops.judged_left stops.again_left old new) k stops.stops;
  told = stops.told;
})
failing_rejoined path choice form log judged again old new is_closed error k (inr changes) = inr (record {
  changed = rejoin_inquiry log judged again (λ first second. HasChanged choice first second old new) k changes.changed;
  told = changes.told;
})

-- ---- a file that was opened twice

pub inquiry_of_file_stops : (path : List ℕ) (choice : Chosen) (form : Form) (file judged again old new : Option (List ℕ)) (is_closed : Bool) (error : Stream) → Keeps file judged → Keeps file again
    → FailsInquiryReaders path choice form judged again is_closed old new error → FailsInquiryReaders path choice form file file is_closed old new error
inquiry_of_file_stops path choice form file judged again old new is_closed error k l (inl unbegun) = inl unbegun
inquiry_of_file_stops path choice form file judged again old new is_closed error k l (inr (inl stops)) = inr (inl (record {
  judged_left = stops.judged_left;
  again_left = stops.again_left;
  trouble = stops.trouble;
  stops = for_two_readings file judged again
      (λ first second. StopsInquiry choice form (Failed (failure_in stops.trouble)) first second stops.judged_left stops.again_left old new) k l stops.stops;
  told = stops.told;
}))
inquiry_of_file_stops path choice form file judged again old new is_closed error k l (inr (inr changes)) = inr (inr (record {
  changed = for_two_readings file judged again (λ first second. HasChanged choice first second old new) k l changes.changed;
  told = changes.told;
}))

-- nothing was written where it isn't known what the faults conflict with
pub lacks_explaining : (choice : Chosen) (form : Form) (tested : Tested) (count : ℕ) (faults : List (FaultKey × Fault)) (lapse : Lapse) (again left old : Option (List ℕ))
    → IfSome again (λ log. LacksReasons choice tested count faults lapse log left) → IfSome again (λ log. StopsExplaining choice form tested count faults lapse log left old old)
lacks_explaining choice form tested count faults lapse None left old h = tt
lacks_explaining choice form tested count faults (Failed failures.Read) (Some log) left old h = (h.0, h.1, Keeps-refl old)
lacks_explaining choice form tested count faults (Failed failures.Memory) (Some log) left old h = Keeps-refl old
lacks_explaining choice form tested count faults (Failed failures.Write) (Some log) left old h = absurd h
lacks_explaining choice form tested count faults Changed (Some log) left old h = (h, Keeps-refl old)
