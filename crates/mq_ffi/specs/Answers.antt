-- The numbers of answers.
use Rattle.std.specs.Prelude.{ℕ, Result, Ok, Err}
use Rattle.mq_ffi.specs.declared.answer.Trouble.{Trouble}
use Rattle.mq_ffi.specs.declared.answer.Trouble.TheVariants as troubles

-- an answer's number; 1 is kept for a null pointer, which no judge sees, and 8 for what was too long in version 1 of the interface
abbrev pub answer_code : Result (Unit {0}) Trouble → ℕ
answer_code (Ok _) = 0
answer_code (Err troubles.NoJudge) = 2
answer_code (Err troubles.Held) = 3
answer_code (Err troubles.Value) = 4
answer_code (Err troubles.Memory) = 5
answer_code (Err troubles.Refused) = 6
answer_code (Err troubles.Order) = 7
answer_code (Err troubles.Absent) = 9
answer_code (Err troubles.Room) = 10
