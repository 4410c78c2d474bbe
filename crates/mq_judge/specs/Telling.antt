-- What somebody is told while a log is judged.
use Rattle.std.specs.Prelude.{◌≡◌, ℕ, ◌+◌, List, [], ◌∷◌, ◌++◌, length, Option, IfSome, Result, Ok, Err}
use Rattle.mq_log.specs.declared.refusal.Refusal.{Refusal}
use Rattle.mq_report.specs.declared.report.Outcome.{Outcome}
use Rattle.mq_report.specs.declared.report.RunFault.{RunFault}
use Rattle.mq_report.specs.declared.report.RunFault.TheVariants as run_faults
use Rattle.mq_judge.specs.Runner.{found_in}
use Rattle.mq_rules.specs.declared.role.Further.{Further}

-- What is said at once: so many more bytes of the log were judged, and so many faults are known by now; or no more of it is judged.
pub data Said : Type 0 where
  advanced : ℕ → ℕ → Said
  ended : Said

-- whether this is what was told so far, the latest first
abbrev pub SaidSoFar : Type 1
SaidSoFar = List Said → Type 0

-- how many bytes were said to be judged
abbrev pub bytes_said : List Said → ℕ
bytes_said [] = 0
bytes_said (advanced bytes faults ∷ earlier) = bytes_said earlier + bytes
bytes_said (ended ∷ earlier) = bytes_said earlier

-- This was said of the judging of these bytes, by these further statements too, the latest first: they are cut into pieces, and after each piece it was said how long that is, and how many faults
-- the bytes up to its end have.
abbrev pub IsSaidOf : (further : Further) → (judged : List ℕ) → List Said → Type 0
IsSaidOf further judged [] = judged ≡ []
IsSaidOf further judged (advanced bytes faults ∷ earlier) =
    (before : List ℕ) × (piece : List ℕ) × (judged ≡ before ++ piece) × (bytes ≡ length piece) × (faults ≡ length (found_in further judged)) × IsSaidOf further before earlier
IsSaidOf further judged (ended ∷ earlier) = ⊥

-- Where something had been told, that has now been told too which is said of the judging of these bytes, and nothing else.
pub record IsTold (further : Further) (old new : SaidSoFar) (judged : List ℕ) : Type 0 where
  pub said : List Said
  pub of_them : IsSaidOf further judged said
  pub told : (before : List Said) → old before → new (said ++ before)

-- Where something had been told, the judging of some bytes has now been told too. If it is known what the reader had left, this is how much of that they are.
pub record IsToldOf (further : Further) (how_much : (log judged : List ℕ) → Type 0) (remaining : Option (List ℕ)) (old new : SaidSoFar) : Type 0 where
  pub judged : List ℕ
  pub of_log : IfSome remaining (λ log. how_much log judged)
  pub tells : IsTold further old new judged

-- these are the first bytes of a log
abbrev pub AreFirst : (log judged : List ℕ) → Type 0
AreFirst log judged = (later : List ℕ) × (log ≡ judged ++ later)

-- How much of a log is judged by a run with this result: all of it, unless it is refused.
abbrev pub IsJudgedBy : Result Outcome RunFault → (log judged : List ℕ) → Type 0
IsJudgedBy (Err (run_faults.Refused refusal)) log judged = AreFirst log judged
IsJudgedBy (Err run_faults.Write) log judged = log ≡ judged
IsJudgedBy (Err run_faults.Memory) log judged = log ≡ judged
IsJudgedBy (Ok outcome) log judged = log ≡ judged

-- the same of a run that only comes to a verdict
abbrev pub IsJudgedFor : {A : Type 0} → Result A Refusal → (log judged : List ℕ) → Type 0
IsJudgedFor (Err refusal) log judged = AreFirst log judged
IsJudgedFor (Ok answer) log judged = log ≡ judged

-- What a run with this result tells: how what it judged of the log is judged, and at last that no more is.
abbrev pub IsToldOfRun : Further → Result Outcome RunFault → (remaining : Option (List ℕ)) → (old new : SaidSoFar) → Type 0
IsToldOfRun further result remaining old new = IsToldOf further (IsJudgedBy result) remaining old (λ said. new (ended ∷ said))
