-- What keeps the faults of a log from being explained, which is read again for what they conflict with.
use Rattle.std.specs.Prelude.{◌⊎◌, ⊤, ℕ, List, [], ◌∷◌, ◌++◌, codes, Option}
use Rattle.mq_rules.specs.Notes.{tested_by, seen_in}
use Rattle.mq_rules.specs.declared.role.Tested.{Tested}
use Rattle.mq_rules.specs.declared.fault.Fault.{Fault}
use Rattle.mq_rules.specs.declared.faults.FaultKey.{FaultKey}
use Rattle.mq_rules.specs.declared.evidence.Evidence.{Evidence}
use Rattle.mq_report.specs.Stopping.{IsJudged, default_limit, IsRefusedAt}
use Rattle.mq_trail.specs.Explaining.{AreReasons, IsSame}
use Rattle.mq_judge.specs.declared.Refusal.{Refusal}
use Rattle.mq_judge.specs.declared.Refusal.TheVariants as refusals
use Rattle.mq_host.specs.declared.failure.Failure.{Failure}
use Rattle.mq_host.specs.declared.failure.Failure.TheVariants as failures
use Rattle.mq_tasks.specs.declared.lapse.Lapse.{Lapse}
use Rattle.mq_tasks.specs.declared.lapse.Lapse.TheVariants.{Failed, Changed}
use Rattle.mq_tasks.specs.Choosing.{Chosen}
use Rattle.mq_tasks.specs.Messages.{IsRefusedBy}

-- the log that was read again has this verdict, and these are what the faults of the verdict conflict with
abbrev pub AreVerdictReasons : Chosen → Tested → ℕ → List (FaultKey × Fault) → List ℕ → List Evidence → Type 0
AreVerdictReasons choice tested count faults log reasons = IsJudged log × IsSame choice.has tested (tested_by tested.further log) count faults (seen_in log) × AreReasons tested (seen_in log) faults reasons

-- reading the log again failed, or memory ran out. This log is the one whose reader has these bytes left.
abbrev pub StopsReading : Failure → List ℕ → (left : Option (List ℕ)) → Type 0
StopsReading failures.Read log left = (at : ℕ) × IsRefusedAt default_limit log left (refusals.Read at)
StopsReading failures.Memory log left = ⊤
StopsReading failures.Write log left = ⊥

-- they weren't found: reading failed, or memory ran out; or the log is refused or has another verdict
abbrev pub LacksReasons : Chosen → Tested → ℕ → List (FaultKey × Fault) → Lapse → List ℕ → (left : Option (List ℕ)) → Type 0
LacksReasons choice tested count faults (Failed failure) log left = StopsReading failure log left
LacksReasons choice tested count faults Changed log left = ((refusal : Refusal) × IsRefusedBy log refusal) ⊎ (IsJudged log × (¬ IsSame choice.has tested (tested_by tested.further log) count faults (seen_in log)))

-- why a log isn't judged again that is refused so
abbrev pub lapse_of : Refusal → Lapse
lapse_of (refusals.Read at) = Failed failures.Read
lapse_of (refusals.Memory at) = Failed failures.Memory
lapse_of _ = Changed

-- the line for a log that changed
abbrev pub changed_line : List ℕ
changed_line = codes "mqjudge: the log changed between two readings" ++ 10 ∷ []
