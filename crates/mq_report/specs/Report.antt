-- The text of a report in each form, and the line that is written instead for a log that is refused.
use Rattle.std.specs.Prelude.{◌≡◌, ℕ, Bool, true, false, ◌==◌, List, [], ◌∷◌, ◌++◌, length, map, codes, decimal, Option, Some, None, if◌then◌else◌}
use Rattle.std.specs.List.{filter, flat_map}
use Rattle.serde_json.specs.Data.{Data, null, number, unsigned, string, array, object, Items, member, no_members}
use Rattle.serde_json.specs.View.{items_of}
use Rattle.serde_json.specs.Written.{compact_text}
use Rattle.mq_report.specs.declared.report.Form.{Form}
use Rattle.mq_report.specs.declared.report.Form.TheVariants as forms
use Rattle.mq_report.specs.declared.report.RunFault.{RunFault}
use Rattle.mq_report.specs.declared.report.RunFault.TheVariants as run_faults
use Rattle.mq_log.specs.declared.refusal.Refusal.{Refusal}
use Rattle.mq_log.specs.Refusing.{spaced, number_of, name_of, refusal_offset, refused_text}
use Rattle.mq_log.specs.Events.{events}
use Rattle.mq_trace.specs.Writing.{AppendsBeginning}
use Rattle.mq_rules.specs.declared.role.Role as roles
use Rattle.mq_rules.specs.declared.role.Further.{Further}
use Rattle.mq_rules.specs.declared.rule.Rule.{Rule}
use Rattle.mq_rules.specs.declared.fault.Fault.{Fault}
use Rattle.mq_rules.specs.declared.faults.FaultKey.{FaultKey}
use Rattle.mq_rules.specs.Notes.{tested_by, seen_in}
use Rattle.mq_rules.specs.Faults.{listed_faults}
use Rattle.mq_report.specs.Chosen.{is_judged}
use Rattle.mq_rules.specs.Rules.{all_rules, same_rule, code_of}
use Rattle.mq_rules.specs.Naming.{citation_of}

-- a line: its text, and a line feed
abbrev pub line : List ℕ → List ℕ
line text = text ++ 10 ∷ []

-- where in a packet a fault is; `-` for a statement that isn't on a packet's bytes
abbrev pub offset_text : Option ℕ → List ℕ
offset_text None = codes "-"
offset_text (Some offset) = decimal offset

-- a fault: its position and statement, the position that decided it, its position's record, and the offset
abbrev pub fault_text : roles.Role → FaultKey → Fault → List ℕ
fault_text role key fault = spaced (codes "fault" ∷ decimal key.position ∷ code_of key.rule ∷ citation_of key.rule role
    ∷ codes "decided" ∷ decimal fault.decided ∷ codes "record" ∷ decimal fault.record_no ∷ codes "offset" ∷ offset_text fault.offset ∷ [])

-- the verdict: how many faults there are, if any, and how many events
abbrev pub verdict_text : ℕ → ℕ → List ℕ
verdict_text faults events = if faults == 0 then spaced (codes "pass" ∷ decimal events ∷ codes "events" ∷ [])
    else spaced (codes "fail" ∷ decimal faults ∷ codes "faults" ∷ decimal events ∷ codes "events" ∷ [])

-- the lines of these faults
abbrev pub fault_lines : roles.Role → List (FaultKey × Fault) → List ℕ
fault_lines role faults = flat_map (λ found. line (fault_text role found.0 found.1)) faults

-- the report as lines of words: a line for each fault, and then the verdict's
unfoldable pub text_report : roles.Role → List (FaultKey × Fault) → ℕ → List ℕ
text_report role faults events = fault_lines role faults ++ line (verdict_text (length faults) events)

-- where in a packet a fault is, as JSON; null for a statement that isn't on a packet's bytes
abbrev pub offset_data : Option ℕ → Data
offset_data None = null
offset_data (Some offset) = number (unsigned offset)

-- a fault as JSON
abbrev pub fault_data : roles.Role → FaultKey → Fault → Data
fault_data role key fault = object (member (codes "citation") (string (citation_of key.rule role))
    (member (codes "code") (string (code_of key.rule))
    (member (codes "decided") (number (unsigned fault.decided))
    (member (codes "offset") (offset_data fault.offset)
    (member (codes "position") (number (unsigned key.position))
    (member (codes "record") (number (unsigned fault.record_no)) no_members))))))

-- these faults as JSON, in their order
abbrev pub fault_items : roles.Role → List (FaultKey × Fault) → Items
fault_items role faults = items_of (map (λ found. fault_data role found.0 found.1) faults)

-- the verdict in a word: whether there is a fault
abbrev pub verdict_word : ℕ → List ℕ
verdict_word faults = if faults == 0 then codes "pass" else codes "fail"

-- a report as JSON: how many events there are, the faults, and the verdict
abbrev pub report_data : roles.Role → List (FaultKey × Fault) → ℕ → Data
report_data role faults events = object (member (codes "events") (number (unsigned events))
    (member (codes "faults") (array (fault_items role faults))
    (member (codes "verdict") (string (verdict_word (length faults))) no_members)))

-- the report as a line of JSON without spaces
unfoldable pub json_report : roles.Role → List (FaultKey × Fault) → ℕ → List ℕ
json_report role faults events = line (compact_text (report_data role faults events))

-- the faults of a statement
abbrev pub faults_of : Rule → List (FaultKey × Fault) → List (FaultKey × Fault)
faults_of rule faults = filter (λ found. same_rule found.0.rule rule) faults

-- the first of these faults, if there is one
abbrev pub first_fault_of : List (FaultKey × Fault) → Option (FaultKey × Fault)
first_fault_of [] = None
first_fault_of (first ∷ later) = Some first

-- a statement that has faults: how many, and the first one's position and record
abbrev pub rule_text : roles.Role → Rule → ℕ → FaultKey → Fault → List ℕ
rule_text role rule count key fault = spaced (code_of rule ∷ citation_of rule role ∷ codes "faults" ∷ decimal count
    ∷ codes "first" ∷ decimal key.position ∷ codes "record" ∷ decimal fault.record_no ∷ [])

-- the line of a statement that has these faults; no line if it has none
abbrev pub rule_line : roles.Role → Rule → List (FaultKey × Fault) → List ℕ
rule_line role rule [] = []
rule_line role rule (first ∷ later) = line (rule_text role rule (length (first ∷ later)) first.0 first.1)

-- the lines of those of these statements that have faults, in their order
abbrev pub rule_lines : roles.Role → List (FaultKey × Fault) → List Rule → List ℕ
rule_lines role faults rules = flat_map (λ rule. rule_line role rule (faults_of rule faults)) rules

-- the report in short: a line for each statement that has faults, and then the verdict's
unfoldable pub summary_report : roles.Role → List (FaultKey × Fault) → ℕ → List ℕ
summary_report role faults events = rule_lines role faults all_rules ++ line (verdict_text (length faults) events)

-- a report in this form on these faults, of an end in this role, and this many events
abbrev pub report_on : Form → roles.Role → List (FaultKey × Fault) → ℕ → List ℕ
report_on forms.Text role faults events = text_report role faults events
report_on forms.Json role faults events = json_report role faults events
report_on forms.Summary role faults events = summary_report role faults events

-- the report on a log, on these further statements too
unfoldable pub report : Further → Form → List ℕ → List ℕ
report further form log =
    report_on form (tested_by further log).role (listed_faults (is_judged (tested_by further log)) (tested_by further log) (seen_in log)) (length (events log))

-- the line of words for a log that is refused
abbrev pub refused_line : Refusal → List ℕ
refused_line refusal = line (refused_text refusal)

-- a refusal as JSON: its byte, its name and its number
abbrev pub refused_data : Refusal → Data
refused_data refusal = object (member (codes "at") (number (unsigned (refusal_offset refusal)))
    (member (codes "name") (string (name_of refusal))
    (member (codes "refused") (number (unsigned (number_of refusal))) no_members)))

-- all that is written in this form for a log that is refused
abbrev pub refused_report : Form → Refusal → List ℕ
refused_report forms.Text refusal = refused_line refusal
refused_report forms.Json refusal = line (compact_text (refused_data refusal))
refused_report forms.Summary refusal = refused_line refusal

-- Why this text wasn't written in this form, and what was: a write failed, after a beginning of it; or there was no memory for a JSON value, and nothing was written.
abbrev pub FailsToReport : Form → Option (List ℕ) → Option (List ℕ) → List ℕ → RunFault → Type 0
FailsToReport form old new text (run_faults.Refused refusal) = ⊥
FailsToReport form old new text run_faults.Write = AppendsBeginning old new text
FailsToReport form old new text run_faults.Memory = (form ≡ forms.Json) × (new ≡ old)

-- A write failed before, and nothing was written now; or it failed now, and a beginning of the text, but not all of it, was written.
abbrev pub StopsWriting : Bool → Option (List ℕ) → Option (List ℕ) → List ℕ → Type 0
StopsWriting true old new text = new ≡ old
StopsWriting false old new text = AppendsBeginning old new text
