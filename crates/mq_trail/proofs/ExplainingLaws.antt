-- What the faults of a verdict conflict with, one after the other.
use Rattle.std.proofs.Common.{◌≡◌, ℕ, Bool, true, false, cond, List, [], ◌∷◌, ◌++◌, Option, Some, None, Result, Ok, Err, refl, sym, ap, subst, ◌∙◌, append_assoc, append-nil, IfSome}
use Rattle.std.specs.Prelude.{option_map, Vec, ◌↔◌}
use Rattle.std.specs.List.{Contains}
use Rattle.std.proofs.lemmas.List.Elements.{Contains-append_left, Contains-append_right, Contains-push}
use Rattle.std.specs.FinMap.{entries}
use Rattle.std.specs.declared.alloc.Global.{Global}
use Rattle.mq_rules.specs.declared.role.Tested.{Tested}
use Rattle.mq_rules.specs.declared.rule.Rule.{Rule}
use Rattle.mq_rules.specs.declared.note.Seen.{Seen}
use Rattle.mq_rules.specs.declared.fault.Fault.{Fault}
use Rattle.mq_rules.specs.declared.faults.FaultKey.{FaultKey}
use Rattle.mq_rules.specs.FaultKeys.{FaultMap, fault_at}
use Rattle.mq_rules.specs.Moments.{moment}
use Rattle.mq_rules.specs.Notes.{tested_by, seen_in}
use Rattle.mq_rules.specs.Statements.{fails}
use Rattle.mq_rules.specs.Faults.{chosen_fault, decided, fault_in, listed_faults, reported}
use Rattle.mq_rules.proofs.Exports.{entries-listed, listed-there}
use Rattle.mq_choice.specs.Choices.{AreChosenFaults}
use Rattle.mq_rules.specs.declared.evidence.Evidence.{Evidence}
use Rattle.mq_report.specs.Stopping.{IsJudged}
use Rattle.mq_trail.specs.declared.explaining.Unexplained.{Unexplained}
use Rattle.mq_trail.specs.declared.explaining.Unexplained.TheVariants as why
use Rattle.mq_trail.specs.Explaining.{AnswersFor, AreReasons, ExplainsOver, IsReason, IsSame, IsWanted, AreWanted}
use Rattle.mq_rules.specs.declared.fate.Fate.{Fate}
use Rattle.mq_rules.specs.Connections.{latest_fate}
use Rattle.mq_trail.specs.Following.{HasFollowed}
use Rattle.mq_trail.specs.Rejudging.{HasFound}

-- ---- the faults that are explained

-- what a fault of a log says of it
said : (tested : Tested) (past : List Seen) (k : ℕ) (r : Rule) (fault : Fault) → fault_in tested past k r ≡ Some fault → (fails tested past k r ≡ true) × (decided tested past k r ≡ Some fault.decided)
unfolding fault_in
said tested past k r fault is = go (fails tested past k r) (decided tested past k r) is
  where
    go : (b : Bool) (o : Option ℕ) → cond b (option_map (reported tested.role (moment past k) r) o) None ≡ Some fault → (b ≡ true) × (o ≡ Some fault.decided)
    go true (Some d) h = (refl, ap (λ (x : Option Fault). option_map (λ (f : Fault). f.decided) x) h)
    go true None h = absurd (cc)
    go false o h = absurd (cc)

-- the fault of a chosen statement is one of the log
fault_of : (b : Bool) (o : Option Fault) (fault : Fault) → cond b o None ≡ Some fault → o ≡ Some fault
fault_of true o fault is = is
fault_of false o fault is = absurd (cc)

-- each fault of the verdict is wanted, if the log has the same ones
pub each-wanted : (chosen : Rule → Bool) (wanted faults : FaultMap) (tested : Tested) (past : List Seen) → wanted ≡ faults → AreChosenFaults chosen tested past faults
    → AreWanted wanted tested past (entries faults)
each-wanted chosen wanted faults tested past own are =
    subst (AreWanted wanted tested past) (sym (entries-listed chosen tested past faults are)) (each (listed_faults chosen tested past) (λ x in_it. x_in x in_it))
  where
    x_in : (x : FaultKey × Fault) → Contains (listed_faults chosen tested past) x → IsWanted wanted tested past x
    x_in x in_it =
        let is : chosen_fault chosen tested past x.0.position x.0.rule ≡ Some x.1 = (listed-there chosen tested past x.0 x.1).0 in_it in
        let of : (fails tested past x.0.position x.0.rule ≡ true) × (decided tested past x.0.position x.0.rule ≡ Some x.1.decided) =
        said tested past x.0.position x.0.rule x.1 (fault_of (chosen x.0.rule) (fault_in tested past x.0.position x.0.rule) x.1 is) in
        record {
          kept = ap (λ m. fault_at m x.0.position x.0.rule) own ∙ are x.0.position x.0.rule ∙ is;
          failing = of.0;
          shown = of.1;
        }

    each : (xs : List (FaultKey × Fault)) → ((x : FaultKey × Fault) → Contains xs x → IsWanted wanted tested past x) → AreWanted wanted tested past xs
    each [] h = tt
    each (x ∷ xs) h =
        (h x (Contains-append_left (x ∷ []) xs x (Contains-push [] x)), each xs (λ y in_it. h y (Contains-append_right (x ∷ []) xs y in_it)))

-- ---- their reasons

-- with reasons of the faults that are left, those that were found are reasons of all
abbrev pub ReasonsSoFar : Tested → List Seen → (all left : List (FaultKey × Fault)) → List Evidence → Type 0
ReasonsSoFar tested past all left reasons = (later : List Evidence) → AreReasons tested past left later → AreReasons tested past all (reasons ++ later)

pub reasons_begin : (tested : Tested) (past : List Seen) (all left : List (FaultKey × Fault)) (reasons : List Evidence) → reasons ≡ [] → left ≡ all → ReasonsSoFar tested past all left reasons
reasons_begin tested past all left reasons none whole later h =
    subst (λ (r : List Evidence). AreReasons tested past all (r ++ later)) (sym none) (subst (λ (l : List (FaultKey × Fault)). AreReasons tested past l later) whole h)

pub reasons_go_on : (tested : Tested) (past : List Seen) (all left rest : List (FaultKey × Fault)) (key : FaultKey) (fault : Fault) (reasons next : List Evidence) (reason : Evidence)
    → ReasonsSoFar tested past all left reasons → left ≡ (key, fault) ∷ rest → next ≡ reasons ++ (reason ∷ []) → IsReason tested past key reason → ReasonsSoFar tested past all rest next
reasons_go_on tested past all left rest key fault reasons next reason so_far is pushed it later h =
    subst (λ (r : List Evidence). AreReasons tested past all r) (sym (ap (λ (r : List Evidence). r ++ later) pushed ∙ append_assoc reasons (reason ∷ []) later))
    (so_far (reason ∷ later) (subst (λ (l : List (FaultKey × Fault)). AreReasons tested past l (reason ∷ later)) (sym is) (it, h)))

-- the first of the faults that are left is wanted, and so are those after it
pub wanted_first : (wanted : FaultMap) (tested : Tested) (past : List Seen) (left rest : List (FaultKey × Fault)) (found : FaultKey × Fault) → AreWanted wanted tested past left → left ≡ found ∷ rest
    → IsWanted wanted tested past found × AreWanted wanted tested past rest
wanted_first wanted tested past left rest found are is = subst (AreWanted wanted tested past) is are

pub reasons_end : (tested : Tested) (past : List Seen) (all left : List (FaultKey × Fault)) (reasons : List Evidence) → ReasonsSoFar tested past all left reasons → left ≡ []
    → AreReasons tested past all reasons
reasons_end tested past all left reasons so_far none =
    subst (AreReasons tested past all) (append-nil reasons) (so_far [] (subst (λ (l : List (FaultKey × Fault)). AreReasons tested past l []) (sym none) tt))

-- ---- the log that is read again

-- the verdict is the same one
pub same-verdict : (chosen : Rule → Bool) (tested named : Tested) (count events : ℕ) (faults found : FaultMap) (past : List Seen) → HasFound events found tested past → named ≡ tested → events ≡ count
    → AreChosenFaults chosen tested past faults → IsSame chosen tested named count (entries faults) past
same-verdict chosen tested named count events faults found past has end counts are = record {
  end = end;
  counted = sym counts ∙ has.counted;
  listed = entries-listed chosen tested past faults are;
}

-- the log was read to its end
pub explained : {W : Type 0} (chosen : Rule → Bool) (agrees : W → Tested → Option Fate → List Seen → Type 0) (tested named : Tested) (count : ℕ) (faults : List (FaultKey × Fault)) (reading : W)
    (remaining left : Option (List ℕ)) (result : Result (Vec Evidence Global) Unexplained)
    → IfSome remaining (λ log. IsJudged log × (named ≡ tested_by tested.further log) × HasFollowed agrees tested reading (seen_in log))
    → ((taken : Option Fate) (past : List Seen) → agrees reading tested taken past → AnswersFor chosen tested named count faults past result)
    → IfSome remaining (λ log. ExplainsOver chosen tested count faults log left result)
explained chosen agrees tested named count faults reading None left result over answers = tt
explained chosen agrees tested named count faults reading (Some log) left result over answers =
    go result (subst (λ (n : Tested). AnswersFor chosen tested n count faults (seen_in log) result) over.1 (answers (latest_fate tested.role (seen_in log)) (seen_in log) over.2))
  where
    go : (r : Result (Vec Evidence Global) Unexplained) → AnswersFor chosen tested (tested_by tested.further log) count faults (seen_in log) r → ExplainsOver chosen tested count faults log left r
    go (Ok reasons) h = (over.0, h.0, h.1)
    go (Err (why.Refused refusal)) h = absurd h
    go (Err why.Changed) h = (over.0, h)
    go (Err why.Memory) h = tt
