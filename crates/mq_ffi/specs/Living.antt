-- What a judge answers that is told what happens while it happens, and its state then.
use Rattle.std.specs.Prelude.{◌≡◌, ℕ, Bool, true, false, List, [], ◌∷◌, ◌++◌, length, ◌⊎◌, Option, Some, None, Result, Ok, Err, IfSome}
use Rattle.mq_log.specs.declared.refusal.Refusal.{Refusal}
use Rattle.mq_log.specs.declared.header.Header.{Header}
use Rattle.mq_log.specs.Events.{events}
use Rattle.mq_log.specs.Refusals.{refused, is_cut_short}
use Rattle.mq_trace.specs.Writing.{header_bytes}
use Rattle.mq_judge.specs.declared.judge.Judge.{Judge}
use Rattle.mq_judge.specs.Judging.{Knows, Follows, RefusesIn, is_counting}
use Rattle.mq_judge.specs.Coverage.{places_in}
use Rattle.mq_rules.specs.declared.rule.Rule.{Rule}
use Rattle.std.specs.Str.{IsUtf8}
use Rattle.mq_choice.specs.declared.choice.Choice.{Choice}
use Rattle.mq_choice.specs.Choices.{in_choice, is_listed, wants_further}
use Rattle.mq_choice.specs.Lists.{Refused, read_list}
use Rattle.mq_report.specs.Stopping.{IsRefusedEnd}
use Rattle.mq_ffi.specs.declared.answer.Trouble.{Trouble}
use Rattle.mq_ffi.specs.declared.answer.Trouble.TheVariants as troubles
use Rattle.mq_ffi.specs.declared.event.Event.{Event}
use Rattle.mq_ffi.specs.declared.live.Live.{Live}
use Rattle.mq_ffi.specs.declared.live.Source.{Source}
use Rattle.mq_ffi.specs.declared.live.Source.TheVariants as sources
use Rattle.mq_ffi.specs.Telling.{bytes_of}

-- what a call answers
abbrev pub Answer : Type 0
Answer = Result (Unit {0}) Trouble

-- The judge was told this log, and refused none of it. Nothing is told before the first call. It counts how often each statement is put to the test, and judges the further
-- statements if one of them is chosen.
pub record IsTold (live : Live) (log : List ℕ) : Type 0 where
  pub follows : Follows live.judge log
  pub unrefused : live.refusal ≡ None
  pub first : live.source ≡ sources.Nothing → log ≡ []
  pub counting : is_counting live.judge ≡ true
  pub by_choice : live.judge.further ≡ wants_further (in_choice live.choice)

-- The call is refused for this reason, and changes nothing.
abbrev pub Declines : Trouble → Live → Live → Answer → Type 0
Declines trouble old new answer = (answer ≡ Err trouble) × (new ≡ old)

-- A log that wasn't refused so far is refused, and why. The judge knows the faults of the events before the refused byte, of the further statements too if one of them is chosen.
pub record IsStopped (limit : ℕ) (log piece : List ℕ) (new : Live) : Type 0 where
  pub refusal : Refusal
  pub kept : new.refusal ≡ Some refusal
  pub why : RefusesIn limit new.judge log piece refusal
  pub by_choice : new.judge.further ≡ wants_further (in_choice new.choice)

-- The judge was told these bytes after this log, and from then on is told what this source gives: either nothing is refused, or it is known what is.
abbrev pub Takes : Source → List ℕ → List ℕ → Live → Answer → Type 0
Takes source log piece new (Ok _) = (refused new.judge.limit (log ++ piece) ≡ None) × IsTold new (log ++ piece) × (new.source ≡ source)
Takes source log piece new (Err trouble) = (trouble ≡ troubles.Refused) × IsStopped new.judge.limit log piece new

-- The same of a judge and of what is kept of its refusal. It goes on to judge the further statements too, or not.
abbrev pub TakesIn : List ℕ → Judge → Judge → Option Refusal → Option Refusal → Answer → Type 0
TakesIn piece old new before after (Ok _) = (after ≡ before) × ((log : List ℕ) → Follows old log → (refused new.limit (log ++ piece) ≡ None) × Follows new (log ++ piece) × (is_counting new ≡ is_counting old))
    × (new.further ≡ old.further)
TakesIn piece old new before after (Err trouble) =
    (trouble ≡ troubles.Refused) × ((refusal : Refusal) × (after ≡ Some refusal) × ((log : List ℕ) → Follows old log → RefusesIn new.limit new log piece refusal)) × (new.further ≡ old.further)

-- Once a log is refused each call says so, and changes nothing.
abbrev pub StaysRefused : Live → Live → Answer → Type 0
StaysRefused old new answer = IfSome old.refusal (λ _. Declines troubles.Refused old new answer)

-- What these bytes choose as a list, if they do.
abbrev pub ReadsList : List ℕ → Option Choice → Type 0
ReadsList list (Some choice) = (read_list list ≡ Ok (in_choice choice)) × (is_listed choice ≡ true)
ReadsList list None = (¬ IsUtf8 list) ⊎ ((why : Refused) × (read_list list ≡ Err why))

-- The judge is one that was told nothing, with the limit that it had, and judges by this choice. It has given no fault.
pub record IsChosen (choice : Choice) (old new : Live) : Type 0 where
  pub told : IsTold new []
  pub source : new.source ≡ sources.Nothing
  pub by : new.choice ≡ choice
  pub limit : new.judge.limit ≡ old.judge.limit
  pub given : new.turn ≡ record { event = 0; given = 0 }

-- A list is read before anything is told, or it is too late.
abbrev pub ChoosesFrom : Option Choice → Source → Live → Live → Answer → Type 0
ChoosesFrom None source old new answer = Declines troubles.Value old new answer
ChoosesFrom (Some choice) sources.Nothing old new answer = (answer ≡ Ok tt) × IsChosen choice old new
ChoosesFrom (Some choice) _ old new answer = Declines troubles.Order old new answer

-- It is chosen what a list chooses, if it is read as one.
abbrev pub ChoosesBy : List ℕ → Live → Live → Answer → Type 0
ChoosesBy list old new answer = (read : Option Choice) × ReadsList list read × ChoosesFrom read old.source old new answer

-- what choosing statements by a list answers
pub record Chooses (list : List ℕ) (old new : Live) (answer : Answer) : Type 0 where
  pub for_ever : StaysRefused old new answer
  pub chosen : old.refusal ≡ None → ChoosesBy list old new answer

-- No bytes change nothing: not even that nothing was told yet.
abbrev pub FeedsBytes : List ℕ → List ℕ → Live → Live → Answer → Type 0
FeedsBytes [] log old new answer = (answer ≡ Ok tt) × (new ≡ old)
FeedsBytes (byte ∷ later) log old new answer = Takes sources.Log log (byte ∷ later) new answer

-- Bytes come only where no events came, and before the end.
abbrev pub FeedsFrom : Source → List ℕ → List ℕ → Live → Live → Answer → Type 0
FeedsFrom sources.Nothing log piece old new answer = FeedsBytes piece log old new answer
FeedsFrom sources.Log log piece old new answer = FeedsBytes piece log old new answer
FeedsFrom _ log piece old new answer = Declines troubles.Order old new answer

-- what feeding bytes answers
pub record Feeds (piece : List ℕ) (old new : Live) (answer : Answer) : Type 0 where
  pub for_ever : StaysRefused old new answer
  pub given : new.turn ≡ old.turn
  pub chosen : new.choice ≡ old.choice
  pub taken : (log : List ℕ) → IsTold old log → FeedsFrom old.source log piece old new answer

-- The header comes first.
abbrev pub BeginsFrom : Source → List ℕ → Header → Live → Live → Answer → Type 0
BeginsFrom sources.Nothing log header old new answer = Takes sources.Events log (header_bytes header) new answer
BeginsFrom _ log header old new answer = Declines troubles.Order old new answer

-- what saying which end is judged answers
pub record Begins (header : Header) (old new : Live) (answer : Answer) : Type 0 where
  pub for_ever : StaysRefused old new answer
  pub given : new.turn ≡ old.turn
  pub chosen : new.choice ≡ old.choice
  pub taken : (log : List ℕ) → IsTold old log → BeginsFrom old.source log header old new answer

-- An event comes after the header.
abbrev pub TellsFrom : Source → List ℕ → Event → Live → Live → Answer → Type 0
TellsFrom sources.Events log event old new answer = Takes sources.Events log (bytes_of event) new answer
TellsFrom _ log event old new answer = Declines troubles.Order old new answer

-- what telling an event answers
pub record Tells (event : Event) (old new : Live) (answer : Answer) : Type 0 where
  pub for_ever : StaysRefused old new answer
  pub given : new.turn ≡ old.turn
  pub chosen : new.choice ≡ old.choice
  pub taken : (log : List ℕ) → IsTold old log → TellsFrom old.source log event old new answer

-- The log ends: it is whole, and has so many events, or is refused as cut short. The faults stay known.
abbrev pub Ends : List ℕ → Live → Result ℕ Trouble → Type 0
Ends log new (Ok count) = (is_cut_short log ≡ false) × (count ≡ length (events log)) × IsTold new log × (new.source ≡ sources.Ended)
Ends log new (Err trouble) = (trouble ≡ troubles.Refused) × ((refusal : Refusal) × (new.refusal ≡ Some refusal) × IsRefusedEnd log refusal) × Knows new.judge log × (new.judge.further ≡ wants_further (in_choice new.choice))

-- whether the log has ended
abbrev pub is_end : Source → Bool
is_end sources.Ended = true
is_end _ = false

-- A log ends once.
abbrev pub EndsFrom : Source → List ℕ → Live → Live → Result ℕ Trouble → Type 0
EndsFrom sources.Ended log old new answer = (answer ≡ Err troubles.Order) × (new ≡ old)
EndsFrom _ log old new answer = Ends log new answer

-- what ending the log answers
pub record Finishes (old new : Live) (answer : Result ℕ Trouble) : Type 0 where
  pub given : new.turn ≡ old.turn
  pub chosen : new.choice ≡ old.choice
  pub for_ever : IfSome old.refusal (λ _. (answer ≡ Err troubles.Refused) × (new ≡ old))
  pub taken : (log : List ℕ) → IsTold old log → EndsFrom old.source log old new answer

-- what asking how often a statement was put to the test answers
pub record AnswersPlaces (rule : Rule) (live : Live) (answer : Result ℕ Trouble) : Type 0 where
  pub for_ever : IfSome live.refusal (λ _. answer ≡ Err troubles.Refused)
  pub counted : (log : List ℕ) → IsTold live log → answer ≡ Ok (places_in (wants_further (in_choice live.choice)) log rule)
