-- What a report says of how often each statement was put to the test, and the reports that say it and what of the log wasn't judged.
use Rattle.std.specs.Prelude.{ℕ, Bool, ◌==◌, not, List, [], ◌∷◌, ◌++◌, length, map, codes, decimal}
use Rattle.std.specs.List.{filter, flat_map}
use Rattle.serde_json.specs.Data.{Data, number, unsigned, string, array, object, Items, member, no_members}
use Rattle.serde_json.specs.View.{items_of}
use Rattle.serde_json.specs.Written.{compact_text}
use Rattle.mq_log.specs.Refusing.{spaced}
use Rattle.mq_rules.specs.declared.role.Role.{Role}
use Rattle.mq_rules.specs.declared.fault.Fault.{Fault}
use Rattle.mq_rules.specs.declared.faults.FaultKey.{FaultKey}
use Rattle.mq_rules.specs.Naming.{citation_of}
use Rattle.mq_rules.specs.Rules.{all_rules, code_of}
use Rattle.mq_report.specs.declared.report.Form.{Form}
use Rattle.mq_report.specs.declared.report.Form.TheVariants as forms
use Rattle.mq_report.specs.declared.report.coverage.Covered.{Covered}
use Rattle.mq_report.specs.declared.report.unjudged.Gap.{Gap}
use Rattle.mq_report.specs.Report.{line, fault_lines, fault_items, rule_lines, verdict_text, verdict_word}
use Rattle.mq_report.specs.Unjudged.{gap_lines, gap_items}

-- a statement, and at how many positions it was put to the test
abbrev pub places_text : Role → Covered → List ℕ
places_text role row = spaced (codes "tested" ∷ code_of row.rule ∷ citation_of row.rule role ∷ codes "places" ∷ decimal row.places ∷ [])

-- the lines of these statements, in their order
abbrev pub places_lines : Role → List Covered → List ℕ
places_lines role rows = flat_map (λ row. line (places_text role row)) rows

-- whether a statement was put to the test
abbrev pub has_place : Covered → Bool
has_place row = not (row.places == 0)

-- how many of these statements were put to the test
abbrev pub covered_count : List Covered → ℕ
covered_count rows = length (filter has_place rows)

-- how many statements were put to the test, of how many
abbrev pub covered_text : ℕ → ℕ → List ℕ
covered_text covered statements = spaced (codes "covered" ∷ decimal covered ∷ codes "of" ∷ decimal statements ∷ codes "statements" ∷ [])

-- the lines on coverage: one for each of these statements, and then how many of them were put to the test
abbrev pub coverage_lines : Role → List Covered → List ℕ
coverage_lines role rows = places_lines role rows ++ line (covered_text (covered_count rows) (length rows))

-- what follows those lines: what wasn't judged, and then the verdict's line
abbrev pub unjudged_ending : ℕ → ℕ → List Gap → List ℕ
unjudged_ending faults events gaps = gap_lines gaps ++ line (verdict_text faults events)

-- the end of a report as lines of words: those on coverage, those on what wasn't judged, and then the verdict's
abbrev pub covered_ending : Role → ℕ → ℕ → List Covered → List Gap → List ℕ
covered_ending role faults events rows gaps = coverage_lines role rows ++ unjudged_ending faults events gaps

-- the report as lines of words: a line for each fault, and then its end
unfoldable pub covered_text_report : Role → List (FaultKey × Fault) → ℕ → List Covered → List Gap → List ℕ
covered_text_report role faults events rows gaps = fault_lines role faults ++ covered_ending role (length faults) events rows gaps

-- the report in short: a line for each statement that has faults, and then its end
unfoldable pub covered_summary_report : Role → List (FaultKey × Fault) → ℕ → List Covered → List Gap → List ℕ
covered_summary_report role faults events rows gaps = rule_lines role faults all_rules ++ covered_ending role (length faults) events rows gaps

-- a statement and at how many positions it was put to the test, as JSON
abbrev pub places_data : Role → Covered → Data
places_data role row = object (member (codes "citation") (string (citation_of row.rule role))
    (member (codes "code") (string (code_of row.rule))
    (member (codes "places") (number (unsigned row.places)) no_members)))

-- these statements as JSON, in their order
abbrev pub places_items : Role → List Covered → Items
places_items role rows = items_of (map (places_data role) rows)

-- a report as JSON: how often each statement was put to the test, how many events there are, the faults, what wasn't judged, and the verdict
abbrev pub covered_data : Role → List (FaultKey × Fault) → ℕ → List Covered → List Gap → Data
covered_data role faults events rows gaps = object (member (codes "coverage") (array (places_items role rows))
    (member (codes "events") (number (unsigned events))
    (member (codes "faults") (array (fault_items role faults))
    (member (codes "unjudged") (array (gap_items gaps))
    (member (codes "verdict") (string (verdict_word (length faults))) no_members)))))

-- the report as a line of JSON without spaces
unfoldable pub covered_json_report : Role → List (FaultKey × Fault) → ℕ → List Covered → List Gap → List ℕ
covered_json_report role faults events rows gaps = line (compact_text (covered_data role faults events rows gaps))

-- A report in this form on these faults, of an end in this role, and this many events, that also says how often each of these statements was put to the test, and what
-- wasn't judged.
abbrev pub covered_report_on : Form → Role → List (FaultKey × Fault) → ℕ → List Covered → List Gap → List ℕ
covered_report_on forms.Text role faults events rows gaps = covered_text_report role faults events rows gaps
covered_report_on forms.Json role faults events rows gaps = covered_json_report role faults events rows gaps
covered_report_on forms.Summary role faults events rows gaps = covered_summary_report role faults events rows gaps
