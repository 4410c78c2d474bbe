-- A watcher that takes in a log's events up to one of them.
use Rattle.std.specs.Prelude.{◌≡◌, ℕ, ◌+◌, nat_lt, Bool, false, cond, List, [], ◌∷◌, length, Option}
use Rattle.std.specs.List.{list_any}
use Rattle.std.specs.FinMap.{entries}
use Rattle.mq_rules.specs.declared.role.Tested.{Tested}
use Rattle.mq_rules.specs.declared.fate.Fate.{Fate}
use Rattle.mq_rules.specs.declared.note.Seen.{Seen}
use Rattle.mq_rules.specs.declared.fault.Fault.{Fault}
use Rattle.mq_rules.specs.declared.faults.FaultKey.{FaultKey}
use Rattle.mq_rules.specs.FaultKeys.{FaultMap}
use Rattle.mq_trail.specs.Following.{HasFollowed}

-- the fault was decided after this position
abbrev pub is_decided_after : ℕ → FaultKey × Fault → Bool
is_decided_after n f = nat_lt n f.1.decided

-- of these events, the newest first, those up to this position
abbrev pub up_to : ℕ → List Seen → List Seen
up_to n [] = []
up_to n (e ∷ past) = cond (nat_lt n (length past + 1)) (up_to n past) (e ∷ past)

-- Of these events, the newest first, the watcher, whose law is given, has taken in those up to a position, and none of these faults was decided after that.
pub record HasSeenUntil {W : Type 0} (agrees : W → Tested → Option Fate → List Seen → Type 0) (wanted : FaultMap) (tested : Tested) (last : ℕ) (watcher : W) (past : List Seen) : Type 0 where
  pub so_far : HasFollowed agrees tested watcher (up_to last past)
  pub none_later : list_any (is_decided_after last) (entries wanted) ≡ false
