-- What a report says of what each fault conflicts with, and the reports that say it.
use Rattle.std.specs.Prelude.{ℕ, Bool, ◌==◌, cond, List, [], ◌∷◌, ◌++◌, length, map, codes, decimal, Option, Some, None}
use Rattle.std.specs.List.{flat_map, starts_with}
use Rattle.serde_json.specs.Data.{Data, null, number, unsigned, string, array, object, Items, no_items, item, member, no_members, put}
use Rattle.serde_json.specs.View.{items_of}
use Rattle.serde_json.specs.Written.{compact_text}
use Rattle.mq_log.specs.Refusing.{spaced}
use Rattle.mq_rules.specs.declared.role.Role.{Role}
use Rattle.mq_rules.specs.declared.fault.Fault.{Fault}
use Rattle.mq_rules.specs.declared.faults.FaultKey.{FaultKey}
use Rattle.mq_rules.specs.Naming.{citation_of}
use Rattle.mq_rules.specs.Rules.{code_of}
use Rattle.mq_rules.specs.declared.evidence.Evidence.{Evidence}
use Rattle.mq_rules.specs.declared.evidence.Numbers.{Numbers}
use Rattle.mq_rules.specs.declared.evidence.Numbers.TheVariants.{Nothing, One, Two}
use Rattle.mq_rules.specs.Evidence.{nothing}
use Rattle.mq_report.specs.declared.report.Form.{Form}
use Rattle.mq_report.specs.declared.report.Form.TheVariants as forms
use Rattle.mq_report.specs.Report.{line, fault_text, offset_data, verdict_text, verdict_word, summary_report}

-- the first of these reasons, and those after it; beyond the end there is no event and no number
abbrev pub first_reason : List Evidence → Evidence
first_reason [] = nothing
first_reason (reason ∷ reasons) = reason

abbrev pub later_reasons : List Evidence → List Evidence
later_reasons [] = []
later_reasons (reason ∷ reasons) = reasons

-- Each fault with its reason: the first one with the first, and so on. A fault beyond the end of the reasons has none, and a reason beyond the faults is left out.
abbrev pub reasoned : List (FaultKey × Fault) → List Evidence → List ((FaultKey × Fault) × Evidence)
reasoned [] reasons = []
reasoned (found ∷ faults) reasons = (found, first_reason reasons) ∷ reasoned faults (later_reasons reasons)

-- the event because of which a position is at fault; `-` if there is none
abbrev pub event_text : Option ℕ → List ℕ
event_text None = codes "-"
event_text (Some position) = decimal position

-- the words on the numbers that a statement compares, if it is numbers
abbrev pub number_words : Numbers → List (List ℕ)
number_words Nothing = []
number_words (One a) = codes "numbers" ∷ decimal a ∷ []
number_words (Two a b) = codes "numbers" ∷ decimal a ∷ decimal b ∷ []

-- what a fault conflicts with: its position and statement, the event, and the numbers
abbrev pub because_text : FaultKey → Evidence → List ℕ
because_text key reason = spaced (codes "because" ∷ decimal key.position ∷ code_of key.rule ∷ codes "event" ∷ event_text reason.because ∷ number_words reason.numbers)

-- the two lines of a fault: its own, and that on what it conflicts with
abbrev pub reasoned_line : Role → (FaultKey × Fault) × Evidence → List ℕ
reasoned_line role found = line (fault_text role found.0.0 found.0.1) ++ line (because_text found.0.0 found.1)

-- the lines of these faults
abbrev pub reasoned_lines : Role → List ((FaultKey × Fault) × Evidence) → List ℕ
reasoned_lines role faults = flat_map (reasoned_line role) faults

-- the report as lines of words: for each fault its line and that on what it conflicts with, and then the verdict's
unfoldable pub reasoned_text_report : Role → List (FaultKey × Fault) → ℕ → List Evidence → List ℕ
reasoned_text_report role faults events reasons = reasoned_lines role (reasoned faults reasons) ++ line (verdict_text (length faults) events)

-- the event because of which a position is at fault, as JSON; null if there is none
abbrev pub event_data : Option ℕ → Data
event_data None = null
event_data (Some position) = number (unsigned position)

-- the numbers that a statement compares, as JSON
abbrev pub number_items : Numbers → Items
number_items Nothing = no_items
number_items (One a) = item (number (unsigned a)) no_items
number_items (Two a b) = item (number (unsigned a)) (item (number (unsigned b)) no_items)

-- a value with this member, if it is an object; else as it is
abbrev pub with_member : List ℕ → Data → Data → Data
with_member key value (object members) = object (put key value members)
with_member key value other = other

-- a fault and what it conflicts with, as JSON
abbrev pub reasoned_data : Role → (FaultKey × Fault) × Evidence → Data
reasoned_data role found = object (member (codes "because") (event_data found.1.because)
    (member (codes "citation") (string (citation_of found.0.0.rule role))
    (member (codes "code") (string (code_of found.0.0.rule))
    (member (codes "decided") (number (unsigned found.0.1.decided))
    (member (codes "numbers") (array (number_items found.1.numbers))
    (member (codes "offset") (offset_data found.0.1.offset)
    (member (codes "position") (number (unsigned found.0.0.position))
    (member (codes "record") (number (unsigned found.0.1.record_no)) no_members))))))))

-- these faults as JSON, in their order
abbrev pub reasoned_items : Role → List ((FaultKey × Fault) × Evidence) → Items
reasoned_items role faults = items_of (map (reasoned_data role) faults)

-- a report as JSON: how many events there are, the faults with what they conflict with, and the verdict
abbrev pub reasoned_report_data : Role → List (FaultKey × Fault) → ℕ → List Evidence → Data
reasoned_report_data role faults events reasons = object (member (codes "events") (number (unsigned events))
    (member (codes "faults") (array (reasoned_items role (reasoned faults reasons)))
    (member (codes "verdict") (string (verdict_word (length faults))) no_members)))

-- the report as a line of JSON without spaces
unfoldable pub reasoned_json_report : Role → List (FaultKey × Fault) → ℕ → List Evidence → List ℕ
reasoned_json_report role faults events reasons = line (compact_text (reasoned_report_data role faults events reasons))

-- A report in this form on these faults, of an end in this role, and this many events, that also says what each fault conflicts with. In short it says nothing of it.
abbrev pub reasoned_report_on : Form → Role → List (FaultKey × Fault) → ℕ → List Evidence → List ℕ
reasoned_report_on forms.Text role faults events reasons = reasoned_text_report role faults events reasons
reasoned_report_on forms.Json role faults events reasons = reasoned_json_report role faults events reasons
reasoned_report_on forms.Summary role faults events reasons = summary_report role faults events

-- ---- a report without what it says of the reasons

-- the lines of a text, each with its line feed
abbrev pub onto_first : ℕ → List (List ℕ) → List (List ℕ)
onto_first byte [] = (byte ∷ []) ∷ []
onto_first byte (first ∷ later) = (byte ∷ first) ∷ later

abbrev pub text_lines : List ℕ → List (List ℕ)
text_lines [] = []
text_lines (byte ∷ text) = cond (byte == 10) ((10 ∷ []) ∷ text_lines text) (onto_first byte (text_lines text))

-- whether a line says what a fault conflicts with
abbrev pub is_because : List ℕ → Bool
is_because text = starts_with (λ a b. a == b) text (codes "because ")

-- a line, unless it does
abbrev pub unless_because : List ℕ → List ℕ
unless_because text = cond (is_because text) [] text

-- a text without the lines that do
abbrev pub without_reasons : List ℕ → List ℕ
without_reasons text = flat_map unless_because (text_lines text)
