-- What a caller gets from the judge that its handle holds, and the judge that the handle holds then.
use Rattle.std.specs.Prelude.{◌≡◌, ℕ, ◌==◌, nat_lt, ◌||◌, Bool, true, false, List, [], Option, Some, None, Result, Ok, Err, if◌then◌else◌}
use Rattle.mq_log.specs.declared.header.Header.{Header}
use Rattle.mq_log.specs.declared.refusal.Refusal.{Refusal}
use Rattle.mq_log.specs.Refusing.{number_of, name_of, refusal_offset}
use Rattle.mq_rules.specs.declared.rule.Rule.{Rule}
use Rattle.mq_choice.specs.declared.choice.Choice.TheVariants as choices
use Rattle.mq_ffi.specs.declared.answer.Trouble.{Trouble}
use Rattle.mq_ffi.specs.declared.answer.Trouble.TheVariants as troubles
use Rattle.mq_ffi.specs.declared.event.Event.{Event}
use Rattle.mq_ffi.specs.declared.live.Live.{Live}
use Rattle.mq_ffi.specs.Answers.{answer_code}
use Rattle.mq_ffi.specs.Asking.{chosen_at}
use Rattle.mq_ffi.specs.Living.{Answer, AnswersPlaces, Chooses, IsTold, StaysRefused, Declines, Feeds, Begins, Tells, Finishes}
use Rattle.mq_ffi.specs.Texts.{PutsTextAs}

-- The call reaches the judge that the handle holds, and the handle holds it afterwards. A handle that holds none says so, and stays empty.
abbrev pub Asked : (Live → Live → ℕ → Type 0) → Option Live → Option Live → ℕ → Type 0
Asked asks None None code = code ≡ 2
Asked asks (Some old) (Some new) code = asks old new code
Asked asks _ _ code = ⊥

-- The same where the call writes something else too, of which this says that it is as it was.
abbrev pub AskedInto : Type 0 → (Live → Live → ℕ → Type 0) → Option Live → Option Live → ℕ → Type 0
AskedInto unwritten asks None None code = (code ≡ 2) × unwritten
AskedInto unwritten asks (Some old) (Some new) code = asks old new code
AskedInto unwritten asks _ _ code = ⊥

-- the same by the answer's number
pub record ByCode (asks : Live → Live → Answer → Type 0) (old new : Live) (code : ℕ) : Type 0 where
  pub answer : Answer
  pub code_is : code ≡ answer_code answer
  pub asked : asks old new answer

abbrev pub ChoosesAs : List ℕ → Live → Live → ℕ → Type 0
ChoosesAs list = ByCode (Chooses list)

abbrev pub FeedsAs : List ℕ → Live → Live → ℕ → Type 0
FeedsAs bytes = ByCode (Feeds bytes)

abbrev pub TellsAs : Event → Live → Live → ℕ → Type 0
TellsAs event = ByCode (Tells event)

-- the header, of version 1, that two numbers stand for
abbrev pub header_by : ℕ → ℕ → Header
header_by server releases = record { version = 1; server = server == 1; releases = releases == 1 }

-- One of the two numbers is neither 0 nor 1. Once the log is refused the call says that, whatever the numbers are.
pub record Misnames (old new : Live) (answer : Answer) : Type 0 where
  pub for_ever : StaysRefused old new answer
  pub declined : old.refusal ≡ None → Declines troubles.Value old new answer

-- Each of the two numbers is 0 or 1, or the call is declined.
abbrev pub BeginsIf : Bool → Header → Live → Live → Answer → Type 0
BeginsIf true header old new answer = Misnames old new answer
BeginsIf false header old new answer = Begins header old new answer

abbrev pub BeginsWith : ℕ → ℕ → Live → Live → Answer → Type 0
BeginsWith server releases = BeginsIf (nat_lt 1 server || nat_lt 1 releases) (header_by server releases)

abbrev pub BeginsAs : ℕ → ℕ → Live → Live → ℕ → Type 0
BeginsAs server releases = ByCode (BeginsWith server releases)

-- the largest packet that is read if the caller names no limit, in bytes
abbrev pub default_limit : ℕ
default_limit = 16777216

-- the least limit, and the greatest: that of the largest packet of the standard
abbrev pub least_limit : ℕ
least_limit = 5

abbrev pub greatest_limit : ℕ
greatest_limit = 268435460

-- the limit that a number stands for, if it stands for one
abbrev pub limit_by : ℕ → Option ℕ
limit_by limit = if limit == 0 then Some default_limit else (if nat_lt limit least_limit then None else (if nat_lt greatest_limit limit then None else Some limit))

-- A judge with this limit is made, which was told nothing, has given no fault and judges without a list, if there is memory.
abbrev pub MakesWith : ℕ → Option Live → ℕ → Type 0
MakesWith limit (Some live) code = (code ≡ 0) × IsTold live [] × (live.judge.limit ≡ limit) × (live.turn ≡ record { event = 0; given = 0 }) × (live.choice ≡ choices.Usual)
MakesWith limit None code = code ≡ 5

abbrev pub MakesFor : Option ℕ → Option Live → ℕ → Type 0
MakesFor (Some limit) new code = MakesWith limit new code
MakesFor None new code = (code ≡ 4) × (new ≡ None)

-- It is made in an empty handle.
abbrev pub Makes : ℕ → Option Live → Option Live → ℕ → Type 0
Makes limit (Some old) new code = (code ≡ 3) × (new ≡ Some old)
Makes limit None new code = MakesFor (limit_by limit) new code

-- The handle is empty afterwards.
abbrev pub Frees : Option Live → Option Live → ℕ → Type 0
Frees (Some old) new code = (code ≡ 0) × (new ≡ None)
Frees None new code = (code ≡ 2) × (new ≡ None)

-- The refusal is written, if there is one; nothing else is written.
abbrev pub WritesRefusal : Option Refusal → ℕ → ℕ → ℕ → ℕ → ℕ → Type 0
WritesRefusal (Some refusal) number number' byte byte' code = (code ≡ 0) × (number' ≡ number_of refusal) × (byte' ≡ refusal_offset refusal)
WritesRefusal None number number' byte byte' code = (code ≡ 9) × (number' ≡ number) × (byte' ≡ byte)

abbrev pub AsksRefusal : ℕ → ℕ → ℕ → ℕ → Live → Live → ℕ → Type 0
AsksRefusal number number' byte byte' old new code = (new ≡ old) × WritesRefusal old.refusal number number' byte byte' code

-- its name likewise
abbrev pub WritesName : Option Refusal → List ℕ → List ℕ → ℕ → ℕ → ℕ → Type 0
WritesName (Some refusal) before after count count' code = PutsTextAs (name_of refusal) before after count' code
WritesName None before after count count' code = (code ≡ 9) × (after ≡ before) × (count' ≡ count)

abbrev pub AsksName : List ℕ → List ℕ → ℕ → ℕ → Live → Live → ℕ → Type 0
AsksName before after count count' old new code = (new ≡ old) × WritesName old.refusal before after count count' code

-- A count is written if there is one.
abbrev pub WritesCount : Result ℕ Trouble → ℕ → ℕ → ℕ → Type 0
WritesCount (Ok count) before after code = (code ≡ 0) × (after ≡ count)
WritesCount (Err trouble) before after code = (code ≡ answer_code (Err trouble)) × (after ≡ before)

-- How many events there are is written if the log is whole.
pub record FinishesAs (before after : ℕ) (old new : Live) (code : ℕ) : Type 0 where
  pub answer : Result ℕ Trouble
  pub counts : WritesCount answer before after code
  pub finishes : Finishes old new answer

-- how many places a statement has, if there is such a statement that is chosen
abbrev pub PlacesBy : Option Rule → Live → Result ℕ Trouble → Type 0
PlacesBy None live answer = answer ≡ Err troubles.Absent
PlacesBy (Some rule) live answer = AnswersPlaces rule live answer

-- A call that asks for them changes nothing. They are written if they are known.
pub record AsksPlaces (statement before after : ℕ) (old new : Live) (code : ℕ) : Type 0 where
  pub same : new ≡ old
  pub answer : Result ℕ Trouble
  pub counts : WritesCount answer before after code
  pub places : PlacesBy (chosen_at old.choice statement) old answer
