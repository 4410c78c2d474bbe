-- The faults of the six statements on subscriptions that match, one after the other.
use Rattle.std.proofs.Common.{◌≡◌, ℕ, ◌&&◌, ◌||◌, Bool, List}
use Rattle.mq_log.specs.declared.place.Place3.{Place3}
use Rattle.mq_rules.specs.declared.role.Tested.{Tested}
use Rattle.mq_rules.specs.declared.rule.Rule.{Rule}
use Rattle.mq_rules.specs.declared.rule.Rule.TheVariants.{B08, B09, P01, P02, R01, R02}
use Rattle.mq_rules.specs.declared.note.Seen.{Seen}
use Rattle.mq_rules.specs.Rules.{same_rule}
use Rattle.mq_rules.specs.FaultKeys.{FaultMap}
use Rattle.mq_rules.specs.Growing.{Gains, GainsWithin}
use Rattle.mq_rules.proofs.Exports.{gains_either, within_either_second, within_nothing}
use Rattle.mq_fates.specs.Judgements.{judged_by}
use Rattle.mq_subscriptions.specs.declared.matching.verdicts.Verdicts.{Verdicts}
use Rattle.mq_subscriptions.specs.Grouping.{of_matching}
use Rattle.mq_subscriptions.specs.Verdicts.{Blames}

-- the last four of the statements, and the last three
abbrev from_P01 : Rule → Bool
from_P01 r = same_rule r P01 || (same_rule r P02 || (same_rule r R01 || same_rule r R02))

abbrev from_P02 : Rule → Bool
from_P02 r = same_rule r P02 || (same_rule r R01 || same_rule r R02)

abbrev from_R01 : Rule → Bool
from_R01 r = same_rule r R01 || same_rule r R02

-- the faults with those of the first, of the first two, and so on
abbrev pub one : Verdicts → Place3 → ℕ → FaultMap → FaultMap
one v place at m = judged_by v.matched B08 place at m

abbrev pub two : Verdicts → Place3 → ℕ → FaultMap → FaultMap
two v place at m = judged_by v.granted B09 place at (one v place at m)

abbrev pub three : Verdicts → Place3 → ℕ → FaultMap → FaultMap
three v place at m = judged_by v.named P01 place at (two v place at m)

abbrev pub four : Verdicts → Place3 → ℕ → FaultMap → FaultMap
four v place at m = judged_by v.identified P02 place at (three v place at m)

abbrev pub five : Verdicts → Place3 → ℕ → FaultMap → FaultMap
five v place at m = judged_by v.unretained R01 place at (four v place at m)

abbrev pub six : Verdicts → Place3 → ℕ → FaultMap → FaultMap
six v place at m = judged_by v.unshared R02 place at (five v place at m)

module _ (turns : ℕ → Rule → Bool) (v : Verdicts) (place : Place3) (at : ℕ) (tested : Tested) (log : List Seen) (h : Blames turns v place at tested log) (m : FaultMap) where
  -- all are added
  pub gains-six : Gains (λ k r. of_matching r && turns k r) tested log at m (six v place at m)
  gains-six =
      gains_either (λ r. same_rule r B08) (λ r. same_rule r B09 || from_P01 r) turns tested log at m (one v place at m) (six v place at m) (h.of_B08 m)
      (gains_either (λ r. same_rule r B09) from_P01 turns tested log at (one v place at m) (two v place at m) (six v place at m) (h.of_B09 (one v place at m))
      (gains_either (λ r. same_rule r P01) from_P02 turns tested log at (two v place at m) (three v place at m) (six v place at m) (h.of_P01 (two v place at m))
      (gains_either (λ r. same_rule r P02) from_R01 turns tested log at (three v place at m) (four v place at m) (six v place at m) (h.of_P02 (three v place at m))
      (gains_either (λ r. same_rule r R01) (λ r. same_rule r R02) turns tested log at (four v place at m) (five v place at m) (six v place at m) (h.of_R01 (four v place at m))
      (h.of_R02 (five v place at m))))))

  -- some are
  first : (rest : Rule → Bool) (new : FaultMap) → GainsWithin (λ k r. rest r && turns k r) tested log at (one v place at m) new → GainsWithin (λ k r. (same_rule r B08 || rest r) && turns k r) tested log at m new
  first rest new g = within_either_second (λ r. same_rule r B08) rest turns tested log at m (one v place at m) new (h.of_B08 m) g

  second : (rest : Rule → Bool) (new : FaultMap) → GainsWithin (λ k r. rest r && turns k r) tested log at (two v place at m) new → GainsWithin (λ k r. (same_rule r B09 || rest r) && turns k r) tested log at (one v place at m) new
  second rest new g = within_either_second (λ r. same_rule r B09) rest turns tested log at (one v place at m) (two v place at m) new (h.of_B09 (one v place at m)) g

  third : (rest : Rule → Bool) (new : FaultMap) → GainsWithin (λ k r. rest r && turns k r) tested log at (three v place at m) new → GainsWithin (λ k r. (same_rule r P01 || rest r) && turns k r) tested log at (two v place at m) new
  third rest new g = within_either_second (λ r. same_rule r P01) rest turns tested log at (two v place at m) (three v place at m) new (h.of_P01 (two v place at m)) g

  fourth : (rest : Rule → Bool) (new : FaultMap) → GainsWithin (λ k r. rest r && turns k r) tested log at (four v place at m) new → GainsWithin (λ k r. (same_rule r P02 || rest r) && turns k r) tested log at (three v place at m) new
  fourth rest new g = within_either_second (λ r. same_rule r P02) rest turns tested log at (three v place at m) (four v place at m) new (h.of_P02 (three v place at m)) g

  fifth : (rest : Rule → Bool) (new : FaultMap) → GainsWithin (λ k r. rest r && turns k r) tested log at (five v place at m) new → GainsWithin (λ k r. (same_rule r R01 || rest r) && turns k r) tested log at (four v place at m) new
  fifth rest new g = within_either_second (λ r. same_rule r R01) rest turns tested log at (four v place at m) (five v place at m) new (h.of_R01 (four v place at m)) g

  none : (rest : Rule → Bool) (old new : FaultMap) → new ≡ old → GainsWithin (λ k r. rest r && turns k r) tested log at old new
  none rest old new is = within_nothing (λ k r. rest r && turns k r) tested log at old new is

  pub within-none : (new : FaultMap) → new ≡ m → GainsWithin (λ k r. of_matching r && turns k r) tested log at m new
  within-none new is = none of_matching m new is

  pub within-one : (new : FaultMap) → new ≡ one v place at m → GainsWithin (λ k r. of_matching r && turns k r) tested log at m new
  within-one new is = first (λ r. same_rule r B09 || from_P01 r) new (none (λ r. same_rule r B09 || from_P01 r) (one v place at m) new is)

  pub within-two : (new : FaultMap) → new ≡ two v place at m → GainsWithin (λ k r. of_matching r && turns k r) tested log at m new
  within-two new is = first (λ r. same_rule r B09 || from_P01 r) new (second from_P01 new (none from_P01 (two v place at m) new is))

  pub within-three : (new : FaultMap) → new ≡ three v place at m → GainsWithin (λ k r. of_matching r && turns k r) tested log at m new
  within-three new is = first (λ r. same_rule r B09 || from_P01 r) new (second from_P01 new (third from_P02 new (none from_P02 (three v place at m) new is)))

  pub within-four : (new : FaultMap) → new ≡ four v place at m → GainsWithin (λ k r. of_matching r && turns k r) tested log at m new
  within-four new is =
      first (λ r. same_rule r B09 || from_P01 r) new (second from_P01 new (third from_P02 new (fourth from_R01 new
      (none from_R01 (four v place at m) new is))))

  pub within-five : (new : FaultMap) → new ≡ five v place at m → GainsWithin (λ k r. of_matching r && turns k r) tested log at m new
  within-five new is =
      first (λ r. same_rule r B09 || from_P01 r) new (second from_P01 new (third from_P02 new (fourth from_R01 new
      (fifth (λ r. same_rule r R02) new (none (λ r. same_rule r R02) (five v place at m) new is)))))
