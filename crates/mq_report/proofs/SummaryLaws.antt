-- A report in short: the faults of a statement, and its line.
use Rattle.std.proofs.Common.{◌≡◌, ℕ, Bool, true, false, ◌<◌, ◌≤◌, ◌+◌, add-one, List, [], ◌∷◌, ◌++◌, length, drop, drop-cons, get_or, Option, Some, None, refl, sym, ap, subst, ◌∙◌, arith, OnOk, IfErr, Result, Ok, Err}
use Rattle.std.specs.Option.{option_or}
use Rattle.std.specs.Io.KnownBytes.{Appends}
use Rattle.mq_trace.specs.Writing.{AppendsBeginning, LeavesToWrite}
use Rattle.mq_report.specs.declared.report.RunFault.{RunFault}
use Rattle.mq_report.specs.declared.report.RunFault.TheVariants.{Write}
use Rattle.mq_rules.specs.declared.role.Role.{Role}
use Rattle.mq_rules.specs.declared.rule.Rule.{Rule}
use Rattle.mq_rules.specs.declared.rule.Rule.TheVariants.{W01}
use Rattle.mq_rules.specs.declared.fault.Fault.{Fault}
use Rattle.mq_rules.specs.declared.faults.FaultKey.{FaultKey}
use Rattle.mq_rules.specs.Rules.{same_rule, all_rules}
use Rattle.mq_report.specs.Report.{faults_of, first_fault_of, rule_line, rule_lines}
use Rattle.mq_trace.proofs.Exports.{piece-written, stopped-in-piece}
use Rattle.mq_report.proofs.ReportLaws.{both_written, first_stops, second_stops}

-- What was counted, and the first fault that was found, before these faults are left of all: of the count, those of other statements are still to be taken away.
pub record Tallies (rule : Rule) (count : ℕ) (found : Option (FaultKey × Fault)) (left whole : List (FaultKey × Fault)) : Type 0 where
  pub counts : count + length (faults_of rule left) ≡ length (faults_of rule whole) + length left
  pub finds : option_or found (first_fault_of (faults_of rule left)) ≡ first_fault_of (faults_of rule whole)

shorter : (rule : Rule) (faults : List (FaultKey × Fault)) → length (faults_of rule faults) ≤ length faults
shorter rule [] = omega arith
shorter rule (found ∷ faults) = longer (same_rule found.0.rule rule) refl (shorter rule faults)
  where
    longer : (b : Bool) → same_rule found.0.rule rule ≡ b → length (faults_of rule faults) ≤ length faults → length (faults_of rule (found ∷ faults)) ≤ length (found ∷ faults)
    longer true e h = rw e (omega (arith, h))
    longer false e h = rw e (omega (arith, h))

pub tally_begins : (rule : Rule) (count : ℕ) (left whole : List (FaultKey × Fault)) → left ≡ whole → count ≡ length whole → Tallies rule count None left whole
tally_begins rule count left whole e n = rw (e, n) (record { counts = omega arith; finds = refl })

-- a fault of this statement comes before its others, and a fault of another one isn't among them
this_first : (rule : Rule) (key : FaultKey) (fault : Fault) (rest : List (FaultKey × Fault)) → same_rule key.rule rule ≡ true
    → faults_of rule ((key, fault) ∷ rest) ≡ (key, fault) ∷ faults_of rule rest
this_first rule key fault rest e = rw e refl

other_left_out : (rule : Rule) (key : FaultKey) (fault : Fault) (rest : List (FaultKey × Fault)) → same_rule key.rule rule ≡ false
    → faults_of rule ((key, fault) ∷ rest) ≡ faults_of rule rest
other_left_out rule key fault rest e = rw e refl

-- a fault of another statement
pub other_counted : {rule : Rule} {count : ℕ} {found : Option (FaultKey × Fault)} {left whole : List (FaultKey × Fault)} (rest : List (FaultKey × Fault)) (key : FaultKey) (fault : Fault)
    → Tallies rule count found left whole → left ≡ (key, fault) ∷ rest → same_rule key.rule rule ≡ false → 1 ≤ count
other_counted {rule} {count} {found} {left} {whole} rest key fault so_far e other =
    let same : faults_of rule left ≡ faults_of rule rest = ap (faults_of rule) e ∙ other_left_out rule key fault rest other in
    omega (arith, ap length e, ap length same, shorter rule rest, so_far.counts)

pub tally_passes : {rule : Rule} {count : ℕ} {found : Option (FaultKey × Fault)} {left whole : List (FaultKey × Fault)} (less : ℕ) (rest : List (FaultKey × Fault)) (key : FaultKey) (fault : Fault)
    → Tallies rule count found left whole → left ≡ (key, fault) ∷ rest → same_rule key.rule rule ≡ false → less + 1 ≡ count → Tallies rule less found rest whole
tally_passes {rule} {count} {found} {left} {whole} less rest key fault so_far e other n =
    let same : faults_of rule left ≡ faults_of rule rest = ap (faults_of rule) e ∙ other_left_out rule key fault rest other in
    record {
      counts = omega (arith, ap length e, ap length same, so_far.counts, n);
      finds = ap (λ (l : List (FaultKey × Fault)). option_or found (first_fault_of l)) (sym same) ∙ so_far.finds;
    }

-- a fault of this statement is the first one, unless another one is
or_some : {A : Type 0} (found other : Option A) (one : A) → option_or (option_or found (Some one)) other ≡ option_or found (Some one)
or_some None other one = refl
or_some (Some a) other one = refl

pub tally_meets : {rule : Rule} {count : ℕ} {found : Option (FaultKey × Fault)} {left whole : List (FaultKey × Fault)} (new : Option (FaultKey × Fault)) (rest : List (FaultKey × Fault)) (key : FaultKey) (fault : Fault)
    → Tallies rule count found left whole → left ≡ (key, fault) ∷ rest → same_rule key.rule rule ≡ true → new ≡ option_or found (Some (key, fault)) → Tallies rule count new rest whole
tally_meets {rule} {count} {found} {left} {whole} new rest key fault so_far e this n =
    let first : faults_of rule left ≡ (key, fault) ∷ faults_of rule rest = ap (faults_of rule) e ∙ this_first rule key fault rest this in
    record {
      counts = omega (arith, ap length e, ap length first, so_far.counts);
      finds = ap (λ (o : Option (FaultKey × Fault)). option_or o (first_fault_of (faults_of rule rest))) n ∙ or_some found (first_fault_of (faults_of rule rest)) (key, fault)
          ∙ ap (λ (l : List (FaultKey × Fault)). option_or found (first_fault_of l)) (sym first) ∙ so_far.finds;
    }

-- none is left
pub tally_counts : {rule : Rule} {count : ℕ} {found : Option (FaultKey × Fault)} {left whole : List (FaultKey × Fault)} → Tallies rule count found left whole → left ≡ []
    → count ≡ length (faults_of rule whole)
tally_counts {rule} {count} {found} {left} {whole} so_far e =
    let none : faults_of rule left ≡ [] = ap (faults_of rule) e in
    omega (arith, so_far.counts, ap length e, ap length none)

or_none : {A : Type 0} (found : Option A) → found ≡ option_or found None
or_none None = refl
or_none (Some a) = refl

pub tally_finds : {rule : Rule} {count : ℕ} {found : Option (FaultKey × Fault)} {left whole : List (FaultKey × Fault)} → Tallies rule count found left whole → left ≡ []
    → found ≡ first_fault_of (faults_of rule whole)
tally_finds {rule} {count} {found} {left} {whole} so_far e =
    or_none found ∙ ap (λ (l : List (FaultKey × Fault)). option_or found (first_fault_of (faults_of rule l))) (sym e) ∙ so_far.finds

next_rule : (rules : List Rule) (i : ℕ) → i < length rules → drop i rules ≡ get_or rules i W01 ∷ drop (i + 1) rules
next_rule rules i h = rw (add-one, drop-cons rules i W01) refl

-- a statement's line
pub rules_go_on : {x y z : Option (List ℕ)} {whole : List ℕ} (role : Role) (faults : List (FaultKey × Fault)) (rules : List Rule) (i : ℕ) → i < length rules
    → LeavesToWrite x y whole (rule_lines role faults (drop i rules))
    → Appends y z (rule_line role (get_or rules i W01) (faults_of (get_or rules i W01) faults)) → LeavesToWrite x z whole (rule_lines role faults (drop (i + 1) rules))
rules_go_on {x} {y} {z} {whole} role faults rules i h so_far more =
    let rule = get_or rules i W01 in
    piece-written (rule_line role rule (faults_of rule faults)) (rule_lines role faults (drop (i + 1) rules))
    (subst (λ (l : List Rule). LeavesToWrite x y whole (rule_lines role faults l)) (next_rule rules i h) so_far) more

pub rules_stop : {x y : Option (List ℕ)} (z : Option (List ℕ)) {whole : List ℕ} (role : Role) (faults : List (FaultKey × Fault)) (rules : List Rule) (i : ℕ) → i < length rules
    → LeavesToWrite x y whole (rule_lines role faults (drop i rules))
    → AppendsBeginning y z (rule_line role (get_or rules i W01) (faults_of (get_or rules i W01) faults)) → AppendsBeginning x z whole
rules_stop {x} {y} z {whole} role faults rules i h so_far part =
    let rule = get_or rules i W01 in
    stopped-in-piece z (rule_line role rule (faults_of rule faults)) (rule_lines role faults (drop (i + 1) rules))
    (subst (λ (l : List Rule). LeavesToWrite x y whole (rule_lines role faults l)) (next_rule rules i h) so_far) part

-- the statements that are listed are all
pub of_all_written : (x y z : Option (List ℕ)) (role : Role) (faults : List (FaultKey × Fault)) (last : List ℕ) (r : Result (Unit {0}) RunFault)
    → (listed : List Rule) → listed ≡ all_rules → Appends x y (rule_lines role faults listed) → OnOk r (Appends y z last)
    → OnOk r (Appends x z (rule_lines role faults all_rules ++ last))
of_all_written x y z role faults last r listed all rules more =
    both_written x y z (rule_lines role faults all_rules) last r (subst (λ (l : List Rule). Appends x y (rule_lines role faults l)) all rules) more

pub of_all_first_stops : (x y : Option (List ℕ)) (role : Role) (faults : List (FaultKey × Fault)) (last : List ℕ)
    → (listed : List Rule) → listed ≡ all_rules → AppendsBeginning x y (rule_lines role faults listed) → AppendsBeginning x y (rule_lines role faults all_rules ++ last)
of_all_first_stops x y role faults last listed all part =
    first_stops x y (rule_lines role faults all_rules) last (subst (λ (l : List Rule). AppendsBeginning x y (rule_lines role faults l)) all part)

pub of_all_second_stops : (x y z : Option (List ℕ)) (role : Role) (faults : List (FaultKey × Fault)) (last : List ℕ) (r : Result (Unit {0}) RunFault)
    → (listed : List Rule) → listed ≡ all_rules → Appends x y (rule_lines role faults listed) → IfErr r (λ fault. (fault ≡ Write) × AppendsBeginning y z last)
    → IfErr r (λ fault. (fault ≡ Write) × AppendsBeginning x z (rule_lines role faults all_rules ++ last))
of_all_second_stops x y z role faults last r listed all rules part =
    second_stops x y z (rule_lines role faults all_rules) last r (subst (λ (l : List Rule). Appends x y (rule_lines role faults l)) all rules) part
