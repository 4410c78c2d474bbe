-- Texts that are written into a list by calls.
use Rattle.std.specs.Fmt.{WritesText, WritesInCalls, with_newline}
use Rattle.std.proofs.lemmas.Fmt.{contents_after_writes}
use Rattle.std.proofs.Common.{◌≡◌, ℕ, IfSome, OnOk, Result, Ok, Err, List, ◌++◌, Option, Some, None}
use Rattle.mq_report.specs.Report.{line}

-- what was written into a list by calls stands at its end
pub all_written : {E : Type 0} (start made text : List ℕ) (r : Result (Unit {0}) E)
    → OnOk r (WritesInCalls (λ old bytes new. new ≡ old ++ bytes) start text made) → OnOk r (made ≡ start ++ text)
all_written start made text (Ok done) h = contents_after_writes (λ old bytes new. new ≡ old ++ bytes) (λ w. w) (λ w bs v e. e) start text made h
all_written start made text (Err fault) h = tt

-- the same of a value's line
pub line_written : {E : Type 0} (start made : List ℕ) (text : Option (List ℕ)) (r : Result (Unit {0}) E)
    → OnOk r (WritesText (λ old bytes new. new ≡ old ++ bytes) start (with_newline text) made) → OnOk r (IfSome text (λ t. made ≡ start ++ line t))
line_written start made None (Ok done) h = tt
line_written start made (Some t) (Ok done) h = contents_after_writes (λ old bytes new. new ≡ old ++ bytes) (λ w. w) (λ w bs v e. e) start (line t) made h
line_written start made text (Err fault) h = tt
