-- A report that is written line by line.
use Rattle.std.proofs.Common.{◌≡◌, ℕ, List, [], ◌∷◌, ◌++◌, length, Option, subst, IfErr, OnOk, Result, Ok, Err}
use Rattle.std.specs.Io.KnownBytes.{Appends}
use Rattle.mq_trace.specs.Writing.{AppendsBeginning, LeavesToWrite}
use Rattle.mq_report.specs.declared.report.RunFault.{RunFault}
use Rattle.mq_report.specs.declared.report.RunFault.TheVariants.{Write}
use Rattle.mq_rules.specs.declared.role.Role.{Role}
use Rattle.mq_rules.specs.declared.fault.Fault.{Fault}
use Rattle.mq_rules.specs.declared.faults.FaultKey.{FaultKey}
use Rattle.mq_report.specs.Report.{line, fault_text, fault_lines}
use Rattle.mq_trace.proofs.Exports.{all-left, appends-nothing, appends-then, piece-written, last-written, stopped-in-piece, stopped-in-last}

-- two pieces: both are written, or the first stops, or the second
pub both_written : (x y z : Option (List ℕ)) (first second : List ℕ) (r : Result (Unit {0}) RunFault)
    → Appends x y first → OnOk r (Appends y z second) → OnOk r (Appends x z (first ++ second))
both_written x y z first second (Ok done) before more = appends-then x y z first second before more
both_written x y z first second (Err fault) before more = tt

pub first_stops : (x y : Option (List ℕ)) (first second : List ℕ) → AppendsBeginning x y first → AppendsBeginning x y (first ++ second)
first_stops x y first second part = stopped-in-piece y first second (all-left x (first ++ second)) part

pub second_stops : (x y z : Option (List ℕ)) (first second : List ℕ) (r : Result (Unit {0}) RunFault) → Appends x y first
    → IfErr r (λ fault. (fault ≡ Write) × AppendsBeginning y z second) → IfErr r (λ fault. (fault ≡ Write) × AppendsBeginning x z (first ++ second))
second_stops x y z first second (Ok done) before part = tt
second_stops x y z first second (Err fault) before part =
    (part.0, stopped-in-last z second (piece-written first second (all-left x (first ++ second)) before) part.1)

-- before the first line
pub report-begins : (x : Option (List ℕ)) (role : Role) (faults left : List (FaultKey × Fault)) → left ≡ faults
    → LeavesToWrite x x (fault_lines role faults) (fault_lines role left)
report-begins x role faults left e = rw e (all-left x (fault_lines role faults))

-- a fault's line
pub report-goes-on : {x y z : Option (List ℕ)} {whole : List ℕ} (role : Role) (left rest : List (FaultKey × Fault)) (key : FaultKey) (fault : Fault)
    → LeavesToWrite x y whole (fault_lines role left) → left ≡ (key, fault) ∷ rest
    → Appends y z (line (fault_text role key fault)) → LeavesToWrite x z whole (fault_lines role rest)
report-goes-on {x} {y} {z} {whole} role left rest key fault so_far e more =
    piece-written (line (fault_text role key fault)) (fault_lines role rest)
    (subst (λ (l : List (FaultKey × Fault)). LeavesToWrite x y whole (fault_lines role l)) e so_far) more

pub report-stops : {x y : Option (List ℕ)} (z : Option (List ℕ)) {whole : List ℕ} (role : Role) (left rest : List (FaultKey × Fault)) (key : FaultKey) (fault : Fault)
    → LeavesToWrite x y whole (fault_lines role left) → left ≡ (key, fault) ∷ rest
    → AppendsBeginning y z (line (fault_text role key fault)) → AppendsBeginning x z whole
report-stops {x} {y} z {whole} role left rest key fault so_far e part =
    stopped-in-piece z (line (fault_text role key fault)) (fault_lines role rest)
    (subst (λ (l : List (FaultKey × Fault)). LeavesToWrite x y whole (fault_lines role l)) e so_far) part

-- after the last line
pub report-ends : {x y : Option (List ℕ)} {whole : List ℕ} (role : Role) (left : List (FaultKey × Fault))
    → LeavesToWrite x y whole (fault_lines role left) → left ≡ [] → Appends x y whole
report-ends {x} {y} {whole} role left so_far e =
    last-written y [] (subst (λ (l : List (FaultKey × Fault)). LeavesToWrite x y whole (fault_lines role l)) e so_far) (appends-nothing y)
