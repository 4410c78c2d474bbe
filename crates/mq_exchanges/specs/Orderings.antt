-- A queue of what fell due on the latest connection, the earliest first.
use Rattle.std.specs.Prelude.{ℕ, ◌≡◌, ◌<◌, ◌≤◌, ◌==◌, nat_eq, nat_lt, ◌⊎◌, Bool, true, false, ◌&&◌, not, cond, List, [], ◌∷◌, ◌++◌, filter, Option, Some, None, is_some}
use Rattle.mq_log.specs.declared.place.Place3.{Place3}
use Rattle.mq_rules.specs.declared.rule.Rule.{Rule}
use Rattle.mq_rules.specs.declared.note.Note.{Note}
use Rattle.mq_rules.specs.Words.{is_some_and}
use Rattle.mq_rules.specs.Notes.{is_open}
use Rattle.mq_rules.specs.FaultKeys.{FaultMap}
use Rattle.mq_rules.specs.IdentifierCounts.{ids_where}
use Rattle.mq_exchanges.specs.declared.ordering.Debt.{Debt}
use Rattle.mq_fates.specs.Judgements.{judged_by}

-- the debt is what is due under its identifier
abbrev pub is_still_due : (ℕ → Option Place3) → Debt → Bool
is_still_due due d = is_some_and (λ p. p.position == d.position) (due d.identifier)

-- the queue from its first debt on that is still due
abbrev pub from_due : (ℕ → Option Place3) → List Debt → List Debt
from_due due [] = []
from_due due (d ∷ ds) = cond (is_still_due due d) (d ∷ ds) (from_due due ds)

-- the debt fell due under this identifier, at this position
abbrev pub is_debt : ℕ → ℕ → Debt → Bool
is_debt i at d = (d.identifier == i) && (at == d.position)

-- The queue once a debt is settled: up to it, or to the first debt before it that is still due, all is dropped.
abbrev pub from_settled : (ℕ → Option Place3) → ℕ → ℕ → List Debt → List Debt
from_settled due i at [] = []
from_settled due i at (d ∷ ds) = cond (is_debt i at d) ds (cond (is_still_due due d) (d ∷ ds) (from_settled due i at ds))

-- a debt before it is still due
abbrev pub is_late : (ℕ → Option Place3) → ℕ → ℕ → List Debt → Bool
is_late due i at [] = false
is_late due i at (d ∷ ds) = cond (is_debt i at d) false (cond (is_still_due due d) true (is_late due i at ds))

-- The same for what was due under an identifier: the function says what is due once it isn't any more.
abbrev pub left_after : (ℕ → Option Place3) → ℕ → Option Place3 → List Debt → List Debt
left_after due i None queue = queue
left_after due i (Some p) queue = from_settled due i p.position queue

abbrev pub is_overtaken : (ℕ → Option Place3) → ℕ → Option Place3 → List Debt → Bool
is_overtaken due i None queue = false
is_overtaken due i (Some p) queue = is_late due i p.position queue

-- and for an answer, by what was due before it and what is due after it
abbrev pub left_by : (due next : ℕ → Option Place3) → Option ℕ → List Debt → List Debt
left_by due next None queue = queue
left_by due next (Some i) queue = left_after next i (due i) queue

abbrev pub is_overtaken_by : (due next : ℕ → Option Place3) → Option ℕ → List Debt → Bool
is_overtaken_by due next None queue = false
is_overtaken_by due next (Some i) queue = is_overtaken next i (due i) queue

abbrev pub first_debt : List Debt → Option Debt
first_debt [] = None
first_debt (d ∷ ds) = Some d

-- the queue once an answer was looked at
abbrev pub looked_at : (ℕ → Option Place3) → Option ℕ → List Debt → List Debt
looked_at due answer queue = cond (is_some answer) (from_due due queue) queue

-- the first debt is another one than that of the answer
abbrev pub is_passed : ℕ → List Debt → Bool
is_passed i queue = is_some_and (λ d. not (d.identifier == i)) (first_debt queue)

abbrev pub passes_over : (ℕ → Option Place3) → Option ℕ → List Debt → Bool
passes_over due answer queue = is_some_and (λ i. is_some (due i) && is_passed i queue) answer

-- something is due under another identifier
abbrev pub is_other_due : (ℕ → Option Place3) → ℕ → Bool
is_other_due due i = nat_lt 0 (ids_where (λ other. not (nat_eq i other) && is_some (due other)))

-- an answer to what is due, while something is due under another identifier
abbrev pub chooses : (ℕ → Option Place3) → Option ℕ → Bool
chooses due answer = is_some_and (λ i. is_some (due i) && is_other_due due i) answer

-- the debt of a cause under which nothing is due
abbrev pub fallen : (ℕ → Option Place3) → ℕ → Option ℕ → List Debt
fallen due at None = []
fallen due at (Some i) = cond (is_some (due i)) [] (record { identifier = i; position = at } ∷ [])

-- whether a cause falls due, and its debt if it does
abbrev pub falls_due : (ℕ → Option Place3) → Option ℕ → Bool
falls_due due cause = is_some_and (λ i. not (is_some (due i))) cause

abbrev pub debts_of : Bool → ℕ → Option ℕ → List Debt
debts_of fell at None = []
debts_of fell at (Some i) = cond fell (record { identifier = i; position = at } ∷ []) []

-- the queue after an event, which is an OPEN or not
abbrev pub queued_by : Bool → Option ℕ → ℕ → (ℕ → Option Place3) → List Debt → List Debt
queued_by opens cause at due queue = cond opens [] (queue ++ fallen due at cause)

abbrev pub queued_next : Note → Option ℕ → ℕ → (ℕ → Option Place3) → List Debt → List Debt
queued_next n cause at due queue = queued_by (is_open n) cause at due queue

-- the queue, or all of it that is still due
abbrev pub IsTidied : (ℕ → Option Place3) → List Debt → List Debt → Type 0
IsTidied due old new = (new ≡ old) ⊎ (new ≡ filter (is_still_due due) old)

-- the faults with that of the statement on the order, if there is one and it is broken
abbrev pub ordered_by : Option Rule → Bool → Place3 → ℕ → FaultMap → FaultMap
ordered_by None broken place at faults = faults
ordered_by (Some rule) broken place at faults = judged_by broken rule place at faults

-- ---- what a queue is

-- a debt under this identifier, of this position
abbrev pub Queued : ℕ → ℕ → List Debt → Type 0
Queued i at [] = ⊥
Queued i at (d ∷ ds) = ((d.identifier ≡ i) × (d.position ≡ at)) ⊎ Queued i at ds

abbrev pub IsAscending : List Debt → Type 0
IsAscending [] = Unit {0}
IsAscending (d ∷ ds) = ((i at : ℕ) → Queued i at ds → d.position < at) × IsAscending ds

-- Its debts have ascending positions, up to this one, and all that is due is in it.
pub record IsQueue (due : ℕ → Option Place3) (queue : List Debt) (most : ℕ) : Type 0 where
  pub ascending : IsAscending queue
  pub within : (i at : ℕ) → Queued i at queue → at ≤ most
  pub each : (i : ℕ) (p : Place3) → due i ≡ Some p → Queued i p.position queue
