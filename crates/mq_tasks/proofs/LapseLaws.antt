-- Why the faults of a verdict aren't explained by a log that is read again.
use Rattle.std.proofs.Common.{◌≡◌, ℕ, List, Option, Some, None, IfSome, sym, subst, inl, inr}
use Rattle.mq_rules.specs.declared.role.Tested.{Tested}
use Rattle.mq_rules.specs.declared.fault.Fault.{Fault}
use Rattle.mq_rules.specs.declared.faults.FaultKey.{FaultKey}
use Rattle.mq_rules.specs.Notes.{tested_by, seen_in}
use Rattle.mq_report.specs.Stopping.{IsJudged, default_limit, IsRefusedAt}
use Rattle.mq_trail.specs.Explaining.{IsSame}
use Rattle.mq_judge.specs.declared.Refusal.{Refusal}
use Rattle.mq_judge.specs.declared.Refusal.TheVariants as refusals
use Rattle.mq_host.specs.declared.failure.Failure.TheVariants as failures
use Rattle.mq_tasks.specs.declared.lapse.Lapse.{Lapse}
use Rattle.mq_tasks.specs.declared.lapse.Lapse.TheVariants.{Failed, Changed}
use Rattle.mq_tasks.specs.Choosing.{Chosen}
use Rattle.mq_tasks.specs.Lapses.{LacksReasons, lapse_of}
use Rattle.mq_tasks.proofs.MessageLaws.{own_refusal}

-- a log that is refused so isn't judged again for this reason
refused_again : (choice : Chosen) (tested : Tested) (count : ℕ) (faults : List (FaultKey × Fault)) (log : List ℕ) (left : Option (List ℕ)) (refusal : Refusal)
    → IsRefusedAt default_limit log left refusal → LacksReasons choice tested count faults (lapse_of refusal) log left
refused_again choice tested count faults log left (refusals.Read at) h = (at, h)
refused_again choice tested count faults log left (refusals.Memory at) h = tt
refused_again choice tested count faults log left refusal h = inl (refusal, own_refusal log left refusal tt h)

pub refused_lacks : (choice : Chosen) (tested : Tested) (count : ℕ) (faults : List (FaultKey × Fault)) (again left : Option (List ℕ)) (refusal : Refusal) (lapse : Lapse) → lapse ≡ lapse_of refusal
    → IfSome again (λ log. IsRefusedAt default_limit log left refusal) → IfSome again (λ log. LacksReasons choice tested count faults lapse log left)
refused_lacks choice tested count faults None left refusal lapse is h = tt
refused_lacks choice tested count faults (Some log) left refusal lapse is h =
    subst (λ (l : Lapse). LacksReasons choice tested count faults l log left) (sym is) (refused_again choice tested count faults log left refusal h)

-- nor is one that has another verdict
pub changed_lacks : (choice : Chosen) (tested : Tested) (count : ℕ) (faults : List (FaultKey × Fault)) (again left : Option (List ℕ))
    → IfSome again (λ log. IsJudged log × (¬ IsSame choice.has tested (tested_by tested.further log) count faults (seen_in log))) → IfSome again (λ log. LacksReasons choice tested count faults Changed log left)
changed_lacks choice tested count faults None left h = tt
changed_lacks choice tested count faults (Some log) left h = inr h

-- nothing is said of a log for which there was no memory
pub memory_lacks : (choice : Chosen) (tested : Tested) (count : ℕ) (faults : List (FaultKey × Fault)) (again left : Option (List ℕ))
    → IfSome again (λ log. LacksReasons choice tested count faults (Failed failures.Memory) log left)
memory_lacks choice tested count faults None left = tt
memory_lacks choice tested count faults (Some log) left = tt
