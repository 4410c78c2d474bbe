-- Giving the faults one by one: by the event that shows them, and those that one event shows in the order of reports.
use Rattle.std.specs.Prelude.{◌≡◌, ℕ, ◌+◌, ◌<◌, ◌==◌, nat_le, min, ◌⊎◌, List, [], ◌∷◌, Option, Some, None, if◌then◌else◌}
use Rattle.std.specs.List.{filter}
use Rattle.std.specs.FinMap as map
use Rattle.mq_rules.specs.FaultKeys.{FaultMap}
use Rattle.mq_judge.specs.Judging.{Knows, AreFaultsOf}
use Rattle.mq_ffi.specs.declared.fault.FaultRow.{FaultRow}
use Rattle.mq_ffi.specs.declared.live.Live.{Live}
use Rattle.mq_ffi.specs.declared.turn.Turn.{Turn}
use Rattle.mq_ffi.specs.Asking.{Found, IsRow, left_by, nth}

-- the faults that this event shows, in the order of reports: none that was known before it, each of which is then known
abbrev pub shown_by : ℕ → List Found → List Found
shown_by event faults = filter (λ found. found.1.decided == event) faults

-- The fault comes after those that were given, as the next one of those that the same event shows.
pub record IsMore (turn : Turn) (faults : List Found) (found : Found) (next : Turn) : Type 0 where
  pub is : nth (shown_by turn.event faults) turn.given ≡ Some found
  pub same : next.event ≡ turn.event
  pub one_more : next.given ≡ turn.given + 1

-- The fault is the first one of those that an event shows, and no event between shows any.
pub record IsFirst (after : ℕ) (faults : List Found) (found : Found) (next : Turn) : Type 0 where
  pub is : nth (shown_by next.event faults) 0 ≡ Some found
  pub later : after < next.event
  pub between : (event : ℕ) → after < event → event < next.event → shown_by event faults ≡ []
  pub one : next.given ≡ 1

-- all that this event shows were given
abbrev pub IsDone : Turn → List Found → Type 0
IsDone turn faults = nth (shown_by turn.event faults) turn.given ≡ None

-- no event after this one shows a fault
abbrev pub AreNoMore : ℕ → List Found → Type 0
AreNoMore after faults = (event : ℕ) → after < event → shown_by event faults ≡ []

-- the next one of those that the same event shows, or none
abbrev pub GivesMore : Turn → List Found → Option (FaultRow × Turn) → Type 0
GivesMore turn faults (Some next) = (found : Found) × IsRow next.0 found × IsMore turn faults found next.1
GivesMore turn faults None = IsDone turn faults

-- the first one of those that a later event shows, or none
abbrev pub GivesFirst : ℕ → List Found → Option (FaultRow × Turn) → Type 0
GivesFirst after faults (Some next) = (found : Found) × IsRow next.0 found × IsFirst after faults found next.1
GivesFirst after faults None = AreNoMore after faults

-- The fault comes next.
abbrev pub IsNext : Turn → List Found → Found → Turn → Type 0
IsNext turn faults found next = IsMore turn faults found next ⊎ (IsDone turn faults × IsFirst turn.event faults found next)

-- the fault that comes next, or none where all were given
abbrev pub Gives : Turn → List Found → Option (FaultRow × Turn) → Type 0
Gives turn faults (Some next) = (found : Found) × IsRow next.0 found × IsNext turn faults found next.1
Gives turn faults None = IsDone turn faults × AreNoMore turn.event faults

-- The judge has given what was answered, and nothing else of it is changed.
abbrev pub IsGiven : Live → Live → Option (FaultRow × Turn) → Option FaultRow → Type 0
IsGiven old new (Some next) result = (result ≡ Some next.0) × (new ≡ record old { turn = next.1 })
IsGiven old new None result = (result ≡ None) × (new ≡ old)

-- the fault that comes next, of those that are known and of chosen statements
pub record GivesNext (old new : Live) (result : Option FaultRow) : Type 0 where
  pub faults : FaultMap
  pub known : (taken : List ℕ) → Knows old.judge taken → AreFaultsOf old.judge.further taken faults
  pub next : Option (FaultRow × Turn)
  pub gives : Gives old.turn (left_by old.choice (map.entries faults)) next
  pub is : IsGiven old new next result

-- the same, as C reads it: the row is as it was if there is none
abbrev pub IsRead : Option FaultRow → FaultRow → FaultRow → ℕ → Type 0
IsRead (Some row) before after code = (code ≡ 0) × (after ≡ row)
IsRead None before after code = (code ≡ 9) × (after ≡ before)

pub record AsksNext (before after : FaultRow) (old new : Live) (code : ℕ) : Type 0 where
  pub result : Option FaultRow
  pub gives : GivesNext old new result
  pub read : IsRead result before after code

-- the earlier of two events, if there are two, that come after a third one
abbrev pub sooner_after : ℕ → Option ℕ → ℕ → Option ℕ
sooner_after after None event = if nat_le event after then None else Some event
sooner_after after (Some other) event = if nat_le event after then Some other else Some (min other event)

-- the earliest event after this one of an earliest one so far and those that show these faults
abbrev pub earliest_after : ℕ → Option ℕ → List Found → Option ℕ
earliest_after after earliest [] = earliest
earliest_after after earliest (x ∷ xs) = earliest_after after (sooner_after after earliest x.1.decided) xs
