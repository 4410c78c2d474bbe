-- The state of a judge, and what its calls return.
use Rattle.std.specs.Prelude.{◌≡◌, ℕ, ◌≤◌, Bool, false, List, ◌++◌, length, Some, None, Result, Ok, Err}
use Rattle.mq_log.specs.declared.refusal.Refusal.{Refusal}
use Rattle.mq_trace.specs.declared.reading.Reading.{Reading}
use Rattle.mq_trace.specs.Tracing.{Traced, IsTracedTo, KeepsHeader}
use Rattle.mq_log.specs.Events.{events}
use Rattle.mq_log.specs.Refusals.{refused, is_cut_short}
use Rattle.mq_rules.specs.declared.role.Further.{Further}
use Rattle.mq_rules.specs.declared.role.Tested.{Tested}
use Rattle.mq_rules.specs.declared.rule.Rule.{Rule}
use Rattle.mq_rules.specs.Notes.{tested_by, seen_in}
use Rattle.mq_rules.specs.Faults.{chosen_fault}
use Rattle.mq_report.specs.Chosen.{is_judged}
use Rattle.mq_rules.specs.FaultKeys.{FaultMap, fault_at}
use Rattle.mq_report.specs.Stopping.{StopsIn, IsRefusedEnd}
use Rattle.mq_watchers.specs.Kinds.{is_counting as counts}
use Rattle.mq_judge.specs.Watching.{IsFound, IsWatching, IsTallying, IsJudging}
use Rattle.mq_judge.specs.declared.judge.Judge.{Judge}
use Rattle.mq_judge.specs.declared.watching.Watching.{Watching}

-- The faults are exactly the pairs of a position and a statement that fail in these bytes of a log, each with where it was decided. These further
-- statements are judged too.
abbrev pub AreFaultsOf : Further → List ℕ → FaultMap → Type 0
AreFaultsOf further log faults = (k : ℕ) (rule : Rule) → fault_at faults k rule ≡ chosen_fault (is_judged (tested_by further log)) (tested_by further log) (seen_in log) k rule

-- All that a judge knows of a log, by what its tracer and its watchers keep, is what these first bytes of it say: their header, which names the tested end, and how
-- many events they complete, with their faults.
pub record KnowsBy (further : Further) (reading : Reading) (watching : Watching) (taken : List ℕ) : Type 0 where
  pub header : KeepsHeader reading taken
  pub faults : AreFaultsOf further taken watching.faults
  pub events : watching.events ≡ length (events taken)

-- A judge with this limit, which judges these further statements too, has taken in this log, and refused none of it. Its watchers have taken in the events, as those of the end that the header names, once that is
-- whole.
pub record FollowsBy (limit : ℕ) (further : Further) (tracer : Traced) (watching : Watching) (log : List ℕ) : Type 0 where
  pub traced : IsTracedTo tracer log
  pub within : tracer.reading.limit ≡ limit
  pub knows : KnowsBy further tracer.reading watching log
  pub named : 8 ≤ length log → watching.tested ≡ tested_by further log
  pub watches : IsWatching watching (seen_in log)
  pub tallies : IsTallying watching (events log)

-- A judge has refused the byte after these bytes of its log, and knows nothing of that byte. From then on it returns this refusal.
pub record HasRefused (further : Further) (tracer : Traced) (watching : Watching) (taken : List ℕ) (refusal : Refusal) : Type 0 where
  pub answers : tracer.refusal ≡ Some refusal
  pub knows : KnowsBy further tracer.reading watching taken

-- A judge with this limit has refused, after this log, a byte of this piece, and nothing before that byte.
abbrev pub RefusesBy : ℕ → Further → Traced → Watching → List ℕ → List ℕ → Refusal → Type 0
RefusesBy limit further tracer watching log piece refusal = (stops : StopsIn limit log piece refusal) × HasRefused further tracer watching (log ++ stops.taken) refusal

-- What feeding a piece after a log returns, and the judge's state then: Ok if nothing is refused, else the refusal.
abbrev pub JudgesPieceBy : ℕ → Further → Traced → Watching → List ℕ → List ℕ → Result (Unit {0}) Refusal → Type 0
JudgesPieceBy limit further tracer watching log piece (Ok _) = (refused limit (log ++ piece) ≡ None) × FollowsBy limit further tracer watching (log ++ piece)
JudgesPieceBy limit further tracer watching log piece (Err refusal) = RefusesBy limit further tracer watching log piece refusal

-- the judge counts how often each statement is put to the test
abbrev pub is_counting : Judge → Bool
is_counting judge = counts judge.judging.watching.watchers

-- the same of a judge
abbrev pub Knows : Judge → List ℕ → Type 0
Knows judge = KnowsBy judge.further judge.tracer.reading judge.judging.watching

abbrev pub Follows : Judge → List ℕ → Type 0
Follows judge = FollowsBy judge.limit judge.further judge.tracer judge.judging.watching

abbrev pub RefusesIn : ℕ → Judge → List ℕ → List ℕ → Refusal → Type 0
RefusesIn limit judge = RefusesBy limit judge.further judge.tracer judge.judging.watching

abbrev pub JudgesPiece : List ℕ → List ℕ → Judge → Result (Unit {0}) Refusal → Type 0
JudgesPiece log piece judge = JudgesPieceBy judge.limit judge.further judge.tracer judge.judging.watching log piece

-- The same for a tracer with this limit, whose events are judged as those of this end, with their places counted or not.
abbrev pub TakesEvents : ℕ → Tested → Bool → List ℕ → List ℕ → Traced → Watching → Result (Unit {0}) Refusal → Type 0
TakesEvents limit tested counting log piece tracer watching (Ok _) =
    IsTracedTo tracer (log ++ piece) × (tracer.reading.limit ≡ limit) × IsJudging tested counting watching (events (log ++ piece))
TakesEvents limit tested counting log piece tracer watching (Err refusal) =
    (stops : StopsIn limit log piece refusal) × KeepsHeader tracer.reading (log ++ stops.taken) × (watching.tested ≡ tested) × IsFound watching (seen_in (log ++ stops.taken))

-- What finishing a log that wasn't refused so far returns: the verdict if the log is whole, else why its end is refused.
abbrev pub Finishes : {A : Type 0} → Further → (A → ℕ) → (A → FaultMap) → List ℕ → Result A Refusal → Type 0
Finishes further events_in faults_in log (Ok verdict) = (is_cut_short log ≡ false) × (events_in verdict ≡ length (events log)) × AreFaultsOf further log (faults_in verdict)
Finishes further events_in faults_in log (Err refusal) = IsRefusedEnd log refusal

-- What ending a log that wasn't refused so far returns: how many events it has if it is whole, else why its end is refused.
abbrev pub Ends : List ℕ → Result ℕ Refusal → Type 0
Ends log (Ok count) = (is_cut_short log ≡ false) × (count ≡ length (events log))
Ends log (Err refusal) = IsRefusedEnd log refusal
