-- What is told of a log that was judged, read again for what its faults conflict with, and then shown with them.
use Rattle.std.proofs.Common.{◌≡◌, ◌==◌, ◌∙◌, ◌^◌, ℕ, Bool, true, false, nat_lt, List, [], ◌∷◌, length, Option, Some, None, Result, Ok, Err, IfErr, IfOk, IfSome, ◌⊎◌, refl, sym, ap, ap₂, subst, inl, inr, ltb-true, lt-ltb}
use Rattle.std.specs.FinMap as map
use Rattle.std.specs.Char.{digit_value}
use Rattle.std.specs.Io.KnownBytes.{Appends, Keeps}
use Rattle.std.proofs.KnownBytes.{Keeps-refl}
use Rattle.std.proofs.lemmas.Bool.{eqb-true}
use Rattle.std.proofs.lemmas.List.{nil_from_length}
use Rattle.std.specs.List.{list_all}
use Rattle.std.specs.Result.{result_ok}
use Rattle.std.specs.Str.Parse.{AllDigits, ParsesUnsigned, digits_value, without_leading_plus}
use Rattle.mq_rules.specs.declared.role.Role.{Role}
use Rattle.mq_rules.specs.declared.role.Further.{Further}
use Rattle.mq_rules.specs.declared.role.Tested.{Tested}
use Rattle.mq_rules.specs.declared.fault.Fault.{Fault}
use Rattle.mq_rules.specs.declared.faults.FaultKey.{FaultKey}
use Rattle.mq_rules.specs.FaultKeys.{FaultMap}
use Rattle.mq_rules.specs.declared.evidence.Evidence.{Evidence}
use Rattle.mq_rules.proofs.Exports.{both_true}
use Rattle.mq_log.specs.Events.{Placed, events}
use Rattle.mq_log.specs.Framing.{header_by}
use Rattle.mq_judge.specs.declared.Form.TheVariants.{Text, Json}
use Rattle.mq_judge.specs.declared.Refusal.{Refusal}
use Rattle.mq_judge.specs.declared.Refusal.TheVariants as refusals
use Rattle.mq_report.specs.Report.{refused_line}
use Rattle.mq_judge.specs.Runner.{IsVerdictOn}
use Rattle.mq_report.specs.Stopping.{IsJudged, default_limit, IsRefusedAt}
use Rattle.mq_host.specs.declared.failure.Failure.{Failure}
use Rattle.mq_host.specs.declared.failure.Failure.TheVariants as failures
use Rattle.mq_host.specs.declared.trouble.Trouble.{Trouble}
use Rattle.mq_tasks.specs.declared.lapse.Lapse.{Lapse}
use Rattle.mq_tasks.specs.declared.lapse.Lapse.TheVariants.{Failed, Changed}
use Rattle.mq_rules.specs.declared.rule.Rule.{Rule}
use Rattle.mq_choice.specs.declared.choice.Choice.{Choice}
use Rattle.mq_choice.specs.Choices.{in_choice, is_listed, unlisted, wants_further}
use Rattle.mq_tasks.specs.Choosing.{Chosen, chosen_as, without_list}
use Rattle.mq_tasks.specs.Inquiring.{HasChanged, HasReleases}
use Rattle.mq_tasks.specs.Program.{FailsBegun, FailsReaders}
use Rattle.mq_host.specs.Streams.{Stream}
use Rattle.mq_host.specs.Troubles.{Tells, failure_in}
use Rattle.mq_tasks.specs.Lapses.{AreVerdictReasons, LacksReasons}
use Rattle.mq_tasks.specs.Reviewing.{AreFoundReasons, AreShownReasons, IfAll, IsReviewed, Plan, RefusesPlan, StopsJudging, StopsPlan, StopsShowing, count_of, is_count, reviewed, text_with}
use Rattle.mq_tasks.specs.Messages.{BeginsRefusal, LacksJsonMemory, RefusesShow, StopsShow, failure_of}
use Rattle.mq_tasks.proofs.InquiringLemmas.{again_if, differs_if, faulty_if}
use Rattle.mq_tasks.proofs.MessageLaws.{own_refusal, part-kept}

-- ---- the number that a word is

digits_from : (ds : List ℕ) → list_all (λ digit. nat_lt (digit_value digit) 10) ds ≡ true → AllDigits 10 ds
digits_from [] e = tt
digits_from (d ∷ ds) e =
    let parts = both_true _ _ e in
    (ltb-true _ _ parts.0, digits_from ds parts.1)

digits_pass : (ds : List ℕ) → AllDigits 10 ds → list_all (λ digit. nat_lt (digit_value digit) 10) ds ≡ true
digits_pass [] h = refl
digits_pass (d ∷ ds) h = rw (lt-ltb _ _ h.0) (digits_pass ds h.1)

-- what is parsed is that number
pub count_read : {E : Type 0} (word : List ℕ) (r : Result ℕ E) → ParsesUnsigned 32 10 word r → result_ok r ≡ count_of word
count_read word (Ok n) h =
    let ds = without_leading_plus word in
    rw (lt-ltb 0 (length ds) h.0.0.0, digits_pass ds h.0.0.1, lt-ltb (digits_value 10 ds) (2 ^ 32) h.0.1, h.1) refl
count_read word (Err e) h = go (is_count (without_leading_plus word)) refl
  where
    go : (b : Bool) → is_count (without_leading_plus word) ≡ b → None ≡ count_of word
    go false t = rw t refl
    go true t =
        let outer = both_true _ _ t in
        let inner = both_true _ _ outer.1 in
        absurd (h ((ltb-true _ _ outer.0, digits_from (without_leading_plus word) inner.0), ltb-true _ _ inner.1))

-- ---- three readings

-- what holds of each of three logs that are known holds of the three
for_all : (judged again shown : Option (List ℕ)) (P Q S : List ℕ → Type 0) (R : List ℕ → List ℕ → List ℕ → Type 0)
    → ((first second third : List ℕ) → P first → Q second → S third → R first second third) → IfSome judged P → IfSome again Q → IfSome shown S → IfAll judged again shown R
for_all None again shown P Q S R f p q s = tt
for_all (Some first) None shown P Q S R f p q s = tt
for_all (Some first) (Some second) None P Q S R f p q s = tt
for_all (Some first) (Some second) (Some third) P Q S R f p q s = f first second third p q s

-- what holds of the first two logs holds whatever the third one is
for_two : (judged again shown : Option (List ℕ)) (P Q : List ℕ → Type 0) (R : List ℕ → List ℕ → List ℕ → Type 0)
    → ((first second third : List ℕ) → P first → Q second → R first second third) → IfSome judged P → IfSome again Q → IfAll judged again shown R
for_two None again shown P Q R f p q = tt
for_two (Some first) None shown P Q R f p q = tt
for_two (Some first) (Some second) None P Q R f p q = tt
for_two (Some first) (Some second) (Some third) P Q R f p q = f first second third p q

-- what holds of the first log holds whatever the others are
for_first : (judged again shown : Option (List ℕ)) (P : List ℕ → Type 0) (R : List ℕ → List ℕ → List ℕ → Type 0) → ((first second third : List ℕ) → P first → R first second third)
    → IfSome judged P → IfAll judged again shown R
for_first None again shown P R f p = tt
for_first (Some first) None shown P R f p = tt
for_first (Some first) (Some second) None P R f p = tt
for_first (Some first) (Some second) (Some third) P R f p = f first second third p

-- the three readings are of one file's bytes
pub for_file : (file judged again shown : Option (List ℕ)) (R : List ℕ → List ℕ → List ℕ → Type 0) → Keeps file judged → Keeps file again → Keeps file shown
    → IfAll judged again shown R → IfSome file (λ log. R log log log)
for_file None judged again shown R k l m h = tt
for_file (Some log) None again shown R k l m h = absurd k
for_file (Some log) (Some first) None shown R k l m h = absurd l
for_file (Some log) (Some first) (Some second) None R k l m h = absurd m
for_file (Some log) (Some first) (Some second) (Some third) R k l m h =
    subst (λ (x : List ℕ). R log log x) m (subst (λ (x : List ℕ). R log x third) l (subst (λ (x : List ℕ). R x second third) k h))

-- both of these hold of what is known
both_known : (o : Option (List ℕ)) (P Q : List ℕ → Type 0) → IfSome o P → IfSome o Q → IfSome o (λ log. P log × Q log)
both_known None P Q p q = tt
both_known (Some log) P Q p q = (p, q)

-- ---- what the faults conflict with

-- nothing is looked for if there are no faults
pub nothing_found : (choice : Chosen) (tested : Tested) (count : ℕ) (faults : FaultMap) (again : Option (List ℕ)) → (map.len faults == 0) ≡ true
    → IfSome again (λ log. AreFoundReasons choice tested count (map.entries faults) log [])
nothing_found choice tested count faults None none = tt
nothing_found choice tested count faults (Some log) none = inl (nil_from_length (map.entries faults) (sym (map.len-entries faults) ∙ eqb-true (map.len faults) 0 none), refl)

-- what was found is what the faults conflict with
pub those_found : (choice : Chosen) (tested : Tested) (count : ℕ) (faults : List (FaultKey × Fault)) (again : Option (List ℕ)) (reasons : List Evidence)
    → IfSome again (λ log. AreVerdictReasons choice tested count faults log reasons)
    → IfSome again (λ log. AreFoundReasons choice tested count faults log reasons)
those_found choice tested count faults None reasons found = tt
those_found choice tested count faults (Some log) reasons found = inr found

-- what was found for a verdict is what is shown
shown_reasons : (further : Further) (first second : List ℕ) (releases : Bool) (role : Role) (count : ℕ) (faults : FaultMap) (reasons : List Evidence) → IsVerdictOn (unlisted further) first role count faults
    → AreFoundReasons (without_list further) (record { role = role; releases = releases; further = wants_further (unlisted further) }) count (map.entries faults) second reasons → releases ≡ (header_by first).releases → AreShownReasons further first second reasons
shown_reasons further first second releases role count faults reasons v (inl none) is = inl (sym v.faults_are ∙ none.0, none.1)
shown_reasons further first second releases role count faults reasons v (inr found) is = inr (again_if (without_list further) first second releases role count faults reasons v found.0 found.1 found.2 is)

-- nothing is shown of a log with faults if it isn't known what they conflict with
pub reasons_lack : (plan : Plan) (releases : Bool) (role : Role) (count : ℕ) (faults : FaultMap) (judged again shown judged_left again_left shown_left old : Option (List ℕ)) (lapse : Lapse)
    → (map.len faults == 0) ≡ false → IfSome judged (λ log. IsVerdictOn (unlisted plan.further) log role count faults)
    → IfSome again (λ log. LacksReasons (without_list plan.further) (record { role = role; releases = releases; further = wants_further (unlisted plan.further) }) count (map.entries faults) lapse log again_left) → HasReleases releases judged
    → IfAll judged again shown (λ first second third. StopsPlan plan lapse first second third judged_left again_left shown_left old old)
reasons_lack plan releases role count faults judged again shown judged_left again_left shown_left old lapse some v lacks is =
    for_two judged again shown (λ log. IsVerdictOn (unlisted plan.further) log role count faults × (releases ≡ (header_by log).releases))
    (λ log. LacksReasons (without_list plan.further) (record { role = role; releases = releases; further = wants_further (unlisted plan.further) }) count (map.entries faults) lapse log again_left)
    (λ first second third. StopsPlan plan lapse first second third judged_left again_left shown_left old old)
    (λ first second third w h. go first second third w.0 w.1 lapse h)
    (both_known judged (λ log. IsVerdictOn (unlisted plan.further) log role count faults) (λ log. releases ≡ (header_by log).releases) v is) lacks
  where
    tested : Tested
    tested = record { role = role; releases = releases; further = wants_further (unlisted plan.further) }

    go : (first second third : List ℕ) → IsVerdictOn (unlisted plan.further) first role count faults → releases ≡ (header_by first).releases → (l : Lapse)
        → LacksReasons (without_list plan.further) tested count (map.entries faults) l second again_left → StopsPlan plan l first second third judged_left again_left shown_left old old
    go first second third w named (Failed failure) h = inr (inl (w.judged, faulty_if (without_list plan.further) first role count faults w some, h, Keeps-refl old))
    go first second third w named Changed h = record {
      first = w.judged;
      faulty = faulty_if (without_list plan.further) first role count faults w some;
      why = differs_if (without_list plan.further) first second releases role count faults w named h;
      unwritten = Keeps-refl old;
    }

-- ---- a log that was judged, and is shown

-- the text with a verdict's faults is that with the faults of the log that they were found in
text_is : (plan : Plan) (role : Role) (count : ℕ) (faults : FaultMap) (reasons : List Evidence) (log shown : List ℕ) → IsVerdictOn (unlisted plan.further) log role count faults
    → text_with plan role (map.entries faults) reasons shown ≡ reviewed plan log shown reasons
text_is plan role count faults reasons log shown v = ap₂ (λ (r : Role) (f : List (FaultKey × Fault)). text_with plan r f reasons shown) v.role_is v.faults_are

-- a verdict on a log, whose header says this of releases
abbrev IsVerdictFor : Further → (releases : Bool) → Role → ℕ → FaultMap → List ℕ → Type 0
IsVerdictFor further releases role count faults log = IsVerdictOn (unlisted further) log role count faults × (releases ≡ (header_by log).releases)

pub review_passes : {E : Type 0} (plan : Plan) (releases : Bool) (role : Role) (count : ℕ) (faults : FaultMap) (reasons : List Evidence) (judged again shown old new : Option (List ℕ)) (status : Result ℕ E)
    → IfSome judged (λ log. IsVerdictOn (unlisted plan.further) log role count faults)
    → IfSome again (λ log. AreFoundReasons (without_list plan.further) (record { role = role; releases = releases; further = wants_further (unlisted plan.further) }) count (map.entries faults) log reasons)
    → IfOk status (λ s. s ≡ 0 → IfSome shown (λ log. IsJudged log × Appends old new (text_with plan role (map.entries faults) reasons log (events log))))
    → IfOk status (λ s. s ≡ 0 → HasReleases releases judged → IfAll judged again shown (λ first second third. IsReviewed plan first second third old new))
review_passes plan releases role count faults reasons judged again shown old new (Err e) v found written = tt
review_passes plan releases role count faults reasons judged again shown old new (Ok s) v found written = λ passed is.
    for_all judged again shown (IsVerdictFor plan.further releases role count faults)
    (λ log. AreFoundReasons (without_list plan.further) (record { role = role; releases = releases; further = wants_further (unlisted plan.further) }) count (map.entries faults) log reasons)
    (λ log. IsJudged log × Appends old new (text_with plan role (map.entries faults) reasons log (events log)))
    (λ first second third. IsReviewed plan first second third old new)
    (λ first second third w f h. record {
      first = w.0.judged;
      reasons = reasons;
      are = shown_reasons plan.further first second releases role count faults reasons w.0 f w.1;
      last = h.0;
      written = subst (λ (text : List Placed → List ℕ). Appends old new (text (events third))) (text_is plan role count faults reasons first third w.0) h.1;
    })
    (both_known judged (λ log. IsVerdictOn (unlisted plan.further) log role count faults) (λ log. releases ≡ (header_by log).releases) v is) found (written passed)

pub review_is_refused : {E : Type 0} (plan : Plan) (releases : Bool) (role : Role) (count : ℕ) (faults : FaultMap) (reasons : List Evidence) (judged again shown old new : Option (List ℕ)) (status : Result ℕ E)
    → IfSome judged (λ log. IsVerdictOn (unlisted plan.further) log role count faults)
    → IfSome again (λ log. AreFoundReasons (without_list plan.further) (record { role = role; releases = releases; further = wants_further (unlisted plan.further) }) count (map.entries faults) log reasons)
    → IfOk status (λ s. s ≡ 2 → IfSome shown (λ log. RefusesShow (text_with plan role (map.entries faults) reasons log) log old new))
    → IfOk status (λ s. s ≡ 2 → HasReleases releases judged → IfAll judged again shown (λ first second third. RefusesPlan plan first second third old new))
review_is_refused plan releases role count faults reasons judged again shown old new (Err e) v found refused = tt
review_is_refused plan releases role count faults reasons judged again shown old new (Ok s) v found refused = λ passed is.
    for_all judged again shown (IsVerdictFor plan.further releases role count faults)
    (λ log. AreFoundReasons (without_list plan.further) (record { role = role; releases = releases; further = wants_further (unlisted plan.further) }) count (map.entries faults) log reasons)
    (λ log. RefusesShow (text_with plan role (map.entries faults) reasons log) log old new)
    (λ first second third. RefusesPlan plan first second third old new)
    (λ first second third w f h. inr (
      w.0.judged,
      (
        reasons,
        shown_reasons plan.further first second releases role count faults reasons w.0 f w.1,
        subst (λ (text : List Placed → List ℕ). RefusesShow text third old new) (text_is plan role count faults reasons first third w.0) h,
      ),
    ))
    (both_known judged (λ log. IsVerdictOn (unlisted plan.further) log role count faults) (λ log. releases ≡ (header_by log).releases) v is) found (refused passed)

pub review_stops : (plan : Plan) (releases : Bool) (role : Role) (count : ℕ) (faults : FaultMap) (reasons : List Evidence)
    (judged again shown judged_left again_left shown_left old new : Option (List ℕ)) (status : Result ℕ Lapse)
    → IfSome judged (λ log. IsVerdictOn (unlisted plan.further) log role count faults)
    → IfSome again (λ log. AreFoundReasons (without_list plan.further) (record { role = role; releases = releases; further = wants_further (unlisted plan.further) }) count (map.entries faults) log reasons)
    → IfErr status (λ lapse. IfSome shown (λ log. StopsShowing (text_with plan role (map.entries faults) reasons log) lapse log shown_left old new))
    → IfErr status (λ lapse. HasReleases releases judged → IfAll judged again shown (λ first second third. StopsPlan plan lapse first second third judged_left again_left shown_left old new))
review_stops plan releases role count faults reasons judged again shown judged_left again_left shown_left old new (Ok s) v found stops = tt
review_stops plan releases role count faults reasons judged again shown judged_left again_left shown_left old new (Err lapse) v found stops = λ is.
    for_all judged again shown (IsVerdictFor plan.further releases role count faults)
    (λ log. AreFoundReasons (without_list plan.further) (record { role = role; releases = releases; further = wants_further (unlisted plan.further) }) count (map.entries faults) log reasons)
    (λ log. StopsShowing (text_with plan role (map.entries faults) reasons log) lapse log shown_left old new)
    (λ first second third. StopsPlan plan lapse first second third judged_left again_left shown_left old new)
    (λ first second third w f h. go first second third w f lapse h)
    (both_known judged (λ log. IsVerdictOn (unlisted plan.further) log role count faults) (λ log. releases ≡ (header_by log).releases) v is) found stops
  where
    go : (first second third : List ℕ) → IsVerdictFor plan.further releases role count faults first
        → AreFoundReasons (without_list plan.further) (record { role = role; releases = releases; further = wants_further (unlisted plan.further) }) count (map.entries faults) second reasons → (l : Lapse)
        → StopsShowing (text_with plan role (map.entries faults) reasons third) l third shown_left old new → StopsPlan plan l first second third judged_left again_left shown_left old new
    go first second third w f (Failed failure) h = inr (inr (
      w.0.judged,
      (
        reasons,
        shown_reasons plan.further first second releases role count faults reasons w.0 f w.1,
        subst (λ (text : List Placed → List ℕ). StopsShow text failure third shown_left old new) (text_is plan role count faults reasons first third w.0) h,
      ),
    ))
    go first second third w f Changed h = absurd h

-- ---- a log that is refused while it is judged

pub judging_stops : (plan : Plan) (judged again shown left again_left shown_left old new : Option (List ℕ)) (refusal : Refusal) (failure : Failure)
    → IfSome judged (λ log. IsRefusedAt default_limit log left refusal)
    → (failure ≡ failure_of refusal) ⊎ ((failure ≡ failures.Memory) × LacksJsonMemory Text refusal old new) → BeginsRefusal Text refusal old new
    → IfAll judged again shown (λ first second third. StopsPlan plan (Failed failure) first second third left again_left shown_left old new)
judging_stops plan judged again shown left again_left shown_left old new refusal failure stops (inr (is, lacks)) begun = absurd (text_is_text lacks.0)
  where
    text_is_text : Text ≡ Json → ⊥
    text_is_text e = cc
judging_stops plan judged again shown left again_left shown_left old new refusal failure stops (inl failed) begun =
    for_first judged again shown (λ log. IsRefusedAt default_limit log left refusal)
    (λ first second third. StopsPlan plan (Failed failure) first second third left again_left shown_left old new)
    (λ first second third h. inl (subst (λ (f : Failure). StopsJudging f first left old new) (sym failed) (on_log refusal first h begun))) stops
  where
    on_log : (r : Refusal) (log : List ℕ) → IsRefusedAt default_limit log left r → BeginsRefusal Text r old new → StopsJudging (failure_of r) log left old new
    on_log (refusals.Read at) log h (inl kept) = (at, h, kept)
    on_log (refusals.Read at) log h (inr (own, part)) = absurd own
    on_log (refusals.Memory at) log h (inl kept) = (at, h, kept)
    on_log (refusals.Memory at) log h (inr (own, part)) = absurd own
    on_log r log h (inl kept) = (r, own_refusal log left r tt h, part-kept old new (refused_line r) kept)
    on_log r log h (inr (own, part)) = (r, own_refusal log left r own h, part)

-- memory for the verdict isn't wanting without a list
pub never_lacks : (choice : Choice) (judged again shown : Option (List ℕ)) (R : List ℕ → List ℕ → List ℕ → Type 0) → is_listed choice ≡ false
    → IfSome judged (λ log. IsJudged log × (is_listed choice ≡ true)) → IfAll judged again shown R
never_lacks choice judged again shown R listed lacks =
    for_first judged again shown (λ log. IsJudged log × (is_listed choice ≡ true)) R (λ first second third h. absurd (let bad : true ≡ false = sym h.1 ∙ listed in cc)) lacks

-- ---- the choice without a list

-- a verdict by it is one without a list
pub judged_without : (choice : Choice) (further : Further) (judged : Option (List ℕ)) (role : Role) (count : ℕ) (faults : FaultMap) → in_choice choice ≡ unlisted further
    → IfSome judged (λ log. IsVerdictOn (in_choice choice) log role count faults) → IfSome judged (λ log. IsVerdictOn (unlisted further) log role count faults)
judged_without choice further judged role count faults has v = subst (λ (chosen : Rule → Bool). IfSome judged (λ log. IsVerdictOn chosen log role count faults)) has v

-- and what is found by it is found without a list
pub found_without : (P : Chosen → Tested → Type 0) (choice : Choice) (further : Further) (releases : Bool) (wants : Further) (role : Role) → in_choice choice ≡ unlisted further → is_listed choice ≡ false
    → wants ≡ wants_further (in_choice choice) → P (chosen_as choice) (record { role = role; releases = releases; further = wants })
    → P (without_list further) (record { role = role; releases = releases; further = wants_further (unlisted further) })
found_without P choice further releases wants role has listed is found =
    subst (λ (f : Further). P (without_list further) (record { role = role; releases = releases; further = f })) (is ∙ ap wants_further has)
    (subst (λ (l : Bool). P (record { has = unlisted further; listed = l }) (record { role = role; releases = releases; further = wants })) listed
    (subst (λ (chosen : Rule → Bool). P (record { has = chosen; listed = is_listed choice }) (record { role = role; releases = releases; further = wants })) has found))

-- ---- a file that was opened three times

-- the three readings of a file stop as readings of its bytes
for_file_thrice : (file judged again shown : Option (List ℕ)) (R : List ℕ → List ℕ → List ℕ → Type 0) → Keeps file judged → Keeps file again → Keeps file shown
    → IfAll judged again shown R → IfAll file file file R
for_file_thrice None judged again shown R k l m h = tt
for_file_thrice (Some log) judged again shown R k l m h = for_file (Some log) judged again shown R k l m h

pub file_stops : (plan : Plan) (file judged again shown old new : Option (List ℕ)) (is_closed : Bool) (error : Stream) → Keeps file judged → Keeps file again → Keeps file shown
    → FailsReaders plan judged again shown is_closed old new error → FailsReaders plan file file file is_closed old new error
file_stops plan file judged again shown old new is_closed error k l m (inl unbegun) = inl unbegun
file_stops plan file judged again shown old new is_closed error k l m (inr (inl stops)) = inr (inl (record {
  judged_left = stops.judged_left;
  again_left = stops.again_left;
  shown_left = stops.shown_left;
  trouble = stops.trouble;
  stops = for_file_thrice file judged again shown
      (λ first second third. StopsPlan plan (Failed (failure_in stops.trouble)) first second third stops.judged_left stops.again_left stops.shown_left old new) k l m stops.stops;
  told = stops.told;
}))
file_stops plan file judged again shown old new is_closed error k l m (inr (inr changes)) = inr (inr (record {
  changed = for_file_thrice file judged again shown (λ first second third. HasChanged (without_list plan.further) first second old new) k l m changes.changed;
  told = changes.told;
}))

-- the readings stop where the readers that were made of them do
pub readers_stop : (plan : Plan) (judged again shown first second third judged_left again_left shown_left old new : Option (List ℕ)) (is_closed : Bool) (error : Stream)
    (failure : Failure) (trouble : Trouble) → first ≡ judged → second ≡ again → third ≡ shown → failure_in trouble ≡ failure
    → IfAll first second third (λ x y z. StopsPlan plan (Failed failure) x y z judged_left again_left shown_left old new) → Tells is_closed plan.path trouble error
    → FailsBegun plan judged again shown is_closed old new error
readers_stop plan judged again shown first second third judged_left again_left shown_left old new is_closed error failure trouble one other last same stops told = inl (record {
  judged_left = judged_left;
  again_left = again_left;
  shown_left = shown_left;
  trouble = trouble;
  stops = rw (sym one, sym other, sym last, same) stops;
  told = told;
})

-- what holds of a log whose first bytes were read holds of all of it
pub rejoin_all : (old judged again shown : Option (List ℕ)) (R : List ℕ → List ℕ → List ℕ → Type 0) → Keeps old judged → IfAll judged again shown R → IfAll old again shown R
rejoin_all None judged again shown R k h = tt
rejoin_all (Some log) None again shown R k h = absurd k
rejoin_all (Some log) (Some first) None shown R k h = tt
rejoin_all (Some log) (Some first) (Some second) None R k h = tt
rejoin_all (Some log) (Some first) (Some second) (Some third) R k h = subst (λ (x : List ℕ). R x second third) k h

pub stops_rejoined : (plan : Plan) (log judged again shown old new : Option (List ℕ)) (is_closed : Bool) (error : Stream) → Keeps log judged
    → FailsBegun plan judged again shown is_closed old new error → FailsBegun plan log again shown is_closed old new error
stops_rejoined plan log judged again shown old new is_closed error k (inl stops) = inl (record {
  judged_left = stops.judged_left;
  again_left = stops.again_left;
  shown_left = stops.shown_left;
  trouble = stops.trouble;
  stops = rejoin_all log judged again shown
      (λ first second third. StopsPlan plan (Failed (failure_in stops.trouble)) first second third stops.judged_left stops.again_left stops.shown_left old new) k stops.stops;
  told = stops.told;
})
stops_rejoined plan log judged again shown old new is_closed error k (inr changes) = inr (record {
  changed = rejoin_all log judged again shown (λ first second third. HasChanged (without_list plan.further) first second old new) k changes.changed;
  told = changes.told;
})
