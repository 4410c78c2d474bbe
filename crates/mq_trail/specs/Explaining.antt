-- What a second reading of a log says of the faults that a first one found.
use Rattle.std.specs.Prelude.{◌≡◌, ⊤, ℕ, Bool, true, List, [], ◌∷◌, length, Option, Some, Result, Ok, Err, Vec}
use Rattle.std.specs.declared.alloc.Global.{Global}
use Rattle.mq_rules.specs.declared.role.Tested.{Tested}
use Rattle.mq_rules.specs.declared.note.Seen.{Seen}
use Rattle.mq_rules.specs.declared.fault.Fault.{Fault}
use Rattle.mq_rules.specs.declared.faults.FaultKey.{FaultKey}
use Rattle.mq_rules.specs.Notes.{tested_by, seen_in}
use Rattle.mq_rules.specs.Statements.{fails}
use Rattle.mq_rules.specs.Faults.{decided, listed_faults}
use Rattle.mq_rules.specs.FaultKeys.{FaultMap, fault_at}
use Rattle.mq_rules.specs.declared.rule.Rule.{Rule}
use Rattle.mq_rules.specs.declared.evidence.Evidence.{Evidence}
use Rattle.mq_report.specs.Stopping.{IsJudged, IsRefusedAt, default_limit}
use Rattle.mq_evidence.specs.Evidence.{evidence}
use Rattle.mq_trail.specs.declared.explaining.Unexplained.{Unexplained}
use Rattle.mq_trail.specs.declared.explaining.Unexplained.TheVariants.{Refused, Changed, Memory}

-- ---- the reasons of faults

-- this is what the fault under a key conflicts with, in the log of these events, the newest first
abbrev pub IsReason : Tested → List Seen → FaultKey → Evidence → Type 0
IsReason tested past key reason = reason ≡ evidence tested past key.position key.rule

-- these are what these faults conflict with: the first what the first one does, and so on
abbrev pub AreReasons : Tested → List Seen → List (FaultKey × Fault) → List Evidence → Type 0
AreReasons tested past [] [] = ⊤
AreReasons tested past [] (reason ∷ reasons) = ⊥
AreReasons tested past (found ∷ faults) [] = ⊥
AreReasons tested past (found ∷ faults) (reason ∷ reasons) = IsReason tested past found.0 reason × AreReasons tested past faults reasons

-- This fault is among those that are explained, and it is one of the log of these events.
pub record IsWanted (wanted : FaultMap) (tested : Tested) (past : List Seen) (found : FaultKey × Fault) : Type 0 where
  pub kept : fault_at wanted found.0.position found.0.rule ≡ Some found.1
  pub failing : fails tested past found.0.position found.0.rule ≡ true
  pub shown : decided tested past found.0.position found.0.rule ≡ Some found.1.decided

-- each of these faults is such a one
abbrev pub AreWanted : FaultMap → Tested → List Seen → List (FaultKey × Fault) → Type 0
AreWanted wanted tested past [] = ⊤
AreWanted wanted tested past (found ∷ faults) = IsWanted wanted tested past found × AreWanted wanted tested past faults

-- ---- a verdict, and the log that is read again

-- The verdict on the log of these events, the newest first, whose header names an end: that end, how many events there are, and the faults of chosen statements.
pub record IsSame (chosen : Rule → Bool) (tested named : Tested) (count : ℕ) (faults : List (FaultKey × Fault)) (past : List Seen) : Type 0 where
  pub end : named ≡ tested
  pub counted : count ≡ length past
  pub listed : faults ≡ listed_faults chosen tested past

-- What is answered for a verdict, once the log was read: what each fault conflicts with, or that the verdict is another one. There may be no memory for it.
abbrev pub AnswersFor : (chosen : Rule → Bool) → (tested named : Tested) → ℕ → List (FaultKey × Fault) → List Seen → Result (Vec Evidence Global) Unexplained → Type 0
AnswersFor chosen tested named count faults past (Ok reasons) = IsSame chosen tested named count faults past × AreReasons tested past faults reasons.items
AnswersFor chosen tested named count faults past (Err (Refused refusal)) = ⊥
AnswersFor chosen tested named count faults past (Err Changed) = ¬ IsSame chosen tested named count faults past
AnswersFor chosen tested named count faults past (Err Memory) = ⊤

-- The result of explaining the faults of a verdict by this log, which is judged by the same statements, and what the reader has left. Nothing is said of the log if there
-- was no memory for the faults.
abbrev pub ExplainsOver : (chosen : Rule → Bool) → Tested → ℕ → List (FaultKey × Fault) → List ℕ → Option (List ℕ) → Result (Vec Evidence Global) Unexplained → Type 0
ExplainsOver chosen tested count faults log left (Ok reasons) = IsJudged log × IsSame chosen tested (tested_by tested.further log) count faults (seen_in log) × AreReasons tested (seen_in log) faults reasons.items
ExplainsOver chosen tested count faults log left (Err (Refused refusal)) = IsRefusedAt default_limit log left refusal
ExplainsOver chosen tested count faults log left (Err Changed) = IsJudged log × (¬ IsSame chosen tested (tested_by tested.further log) count faults (seen_in log))
ExplainsOver chosen tested count faults log left (Err Memory) = ⊤
