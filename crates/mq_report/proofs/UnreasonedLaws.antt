-- A report without its lines on what faults conflict with.
use Rattle.std.proofs.Common.{◌≡◌, ◌==◌, ℕ, nat_le, Bool, true, false, cond, List, [], ◌∷◌, ◌++◌, length, codes, decimal, Option, Some, None, if◌then◌else◌, refl, sym, ap, ◌∙◌, arith, append_assoc, append-nil}
use Rattle.std.proofs.lemmas.Bool.{and_parts}
use Rattle.std.proofs.lemmas.Bool.Decides.{nat_tests}
use Rattle.std.specs.List.{flat_map, list_all}
use Rattle.mq_log.specs.Refusing.{spaced}
use Rattle.mq_rules.specs.declared.role.Role.{Role}
use Rattle.mq_rules.specs.declared.role.Role.TheVariants.{Client, Server}
use Rattle.mq_rules.specs.declared.rule.Rule.{Rule}
use Rattle.mq_rules.specs.declared.rule.Rule.TheVariants.{W01}
use Rattle.mq_rules.specs.declared.fault.Fault.{Fault}
use Rattle.mq_rules.specs.declared.faults.FaultKey.{FaultKey}
use Rattle.mq_rules.specs.Naming.{citation_of}
use Rattle.mq_rules.specs.Rules.{code_of, line_of, found_line, lines}
use Rattle.mq_rules.specs.declared.evidence.Evidence.{Evidence}
use Rattle.mq_rules.specs.declared.evidence.Numbers.{Numbers}
use Rattle.mq_rules.specs.declared.evidence.Numbers.TheVariants.{Nothing, One, Two}
use Rattle.mq_report.specs.OneLine.{is_on_one_line}
use Rattle.mq_report.specs.Report.{line, offset_text, fault_text, fault_lines, verdict_text, text_report}
use Rattle.mq_report.specs.Reasons.{event_text, number_words, because_text, first_reason, later_reasons, reasoned, reasoned_lines, reasoned_text_report, text_lines, is_because, unless_because, without_reasons}
use Rattle.mq_report.proofs.OneLineLaws.{both, decimal_fits}

-- words that stay on one line do so with spaces between them
spaced_fit : (words : List (List ℕ)) → list_all is_on_one_line words ≡ true → is_on_one_line (spaced words) ≡ true
spaced_fit [] p = refl
spaced_fit (word ∷ []) p = (and_parts (is_on_one_line word) true p).0
spaced_fit (word ∷ next ∷ words) p =
    let parts : (is_on_one_line word ≡ true) × (list_all is_on_one_line (next ∷ words) ≡ true) = and_parts (is_on_one_line word) (list_all is_on_one_line (next ∷ words)) p in
    both word (32 ∷ spaced (next ∷ words)) parts.0 (spaced_fit (next ∷ words) parts.1)

-- the words of a fault, of a reason and of a verdict
code_fits : (rule : Rule) → is_on_one_line (code_of rule) ≡ true
unfolding line_of found_line lines
code_fits W01 = refl
code_fits _ = refl

client_fits : (rule : Rule) → is_on_one_line (citation_of rule Client) ≡ true
unfolding citation_of
client_fits W01 = refl
client_fits _ = refl

server_fits : (rule : Rule) → is_on_one_line (citation_of rule Server) ≡ true
unfolding citation_of
server_fits W01 = refl
server_fits _ = refl

citation_fits : (rule : Rule) (role : Role) → is_on_one_line (citation_of rule role) ≡ true
citation_fits rule Client = client_fits rule
citation_fits rule Server = server_fits rule

offset_fits : (offset : Option ℕ) → is_on_one_line (offset_text offset) ≡ true
offset_fits None = refl
offset_fits (Some offset) = decimal_fits offset

event_fits : (event : Option ℕ) → is_on_one_line (event_text event) ≡ true
event_fits None = refl
event_fits (Some position) = decimal_fits position

numbers_fit : (numbers : Numbers) → list_all is_on_one_line (number_words numbers) ≡ true
numbers_fit Nothing = refl
numbers_fit (One a) = rw (decimal_fits a) refl
numbers_fit (Two a b) = rw (decimal_fits a, decimal_fits b) refl

fault_fits : (role : Role) (key : FaultKey) (fault : Fault) → is_on_one_line (fault_text role key fault) ≡ true
fault_fits role key fault = spaced_fit (codes "fault" ∷ decimal key.position ∷ code_of key.rule ∷ citation_of key.rule role
    ∷ codes "decided" ∷ decimal fault.decided ∷ codes "record" ∷ decimal fault.record_no ∷ codes "offset" ∷ offset_text fault.offset ∷ [])
    (rw (decimal_fits key.position, code_fits key.rule, citation_fits key.rule role, decimal_fits fault.decided, decimal_fits fault.record_no, offset_fits fault.offset) refl)

because_fits : (key : FaultKey) (reason : Evidence) → is_on_one_line (because_text key reason) ≡ true
because_fits key reason = spaced_fit (codes "because" ∷ decimal key.position ∷ code_of key.rule ∷ codes "event" ∷ event_text reason.because ∷ number_words reason.numbers)
    (rw (decimal_fits key.position, code_fits key.rule, event_fits reason.because, numbers_fit reason.numbers) refl)

verdict_fits : (faults events : ℕ) → is_on_one_line (verdict_text faults events) ≡ true
verdict_fits faults events =
    elim (faults == 0) as (λ t. is_on_one_line (if t then spaced (codes "pass" ∷ decimal events ∷ codes "events" ∷ [])
    else spaced (codes "fail" ∷ decimal faults ∷ codes "faults" ∷ decimal events ∷ codes "events" ∷ [])) ≡ true) [
      | true ↦ spaced_fit (codes "pass" ∷ decimal events ∷ codes "events" ∷ []) (rw (decimal_fits events) refl)
      | false ↦ spaced_fit (codes "fail" ∷ decimal faults ∷ codes "faults" ∷ decimal events ∷ codes "events" ∷ []) (rw (decimal_fits faults, decimal_fits events) refl)
    ]

verdict_stays : (faults events : ℕ) → is_because (line (verdict_text faults events)) ≡ false
verdict_stays faults events =
    elim (faults == 0) as (λ t. is_because (line (if t then spaced (codes "pass" ∷ decimal events ∷ codes "events" ∷ [])
    else spaced (codes "fail" ∷ decimal faults ∷ codes "faults" ∷ decimal events ∷ codes "events" ∷ []))) ≡ false) [ true ↦ refl | false ↦ refl ]

-- the first line of a text, and what is left of it
line_first : (text rest : List ℕ) → is_on_one_line text ≡ true → text_lines (line text ++ rest) ≡ line text ∷ text_lines rest
line_first [] rest p = refl
line_first (byte ∷ text) rest p =
    let parts : (nat_le 32 byte ≡ true) × (is_on_one_line text ≡ true) = and_parts (nat_le 32 byte) (is_on_one_line text) p in
    let visible = parts.0 in
    let other : (byte == 10) ≡ false = grind (arith, nat_tests) in
    rw (other, line_first text rest parts.1) refl

stays : (text rest : List ℕ) → is_on_one_line text ≡ true → is_because (line text) ≡ false → without_reasons (line text ++ rest) ≡ line text ++ without_reasons rest
stays text rest p e = ap (flat_map unless_because) (line_first text rest p) ∙ ap (λ (b : Bool). cond b [] (line text) ++ without_reasons rest) e

goes : (text rest : List ℕ) → is_on_one_line text ≡ true → is_because (line text) ≡ true → without_reasons (line text ++ rest) ≡ without_reasons rest
goes text rest p e = ap (flat_map unless_because) (line_first text rest p) ∙ ap (λ (b : Bool). cond b [] (line text) ++ without_reasons rest) e

verdict_left : (faults events : ℕ) → without_reasons (line (verdict_text faults events)) ≡ line (verdict_text faults events)
verdict_left faults events =
    let text = verdict_text faults events in
    ap without_reasons (sym (append-nil (line text))) ∙ stays text [] (verdict_fits faults events) (verdict_stays faults events) ∙ append-nil (line text)

faults_left : (role : Role) (faults : List (FaultKey × Fault)) (reasons : List Evidence) (rest : List ℕ)
    → without_reasons (reasoned_lines role (reasoned faults reasons) ++ rest) ≡ fault_lines role faults ++ without_reasons rest
faults_left role [] reasons rest = refl
faults_left role (found ∷ faults) reasons rest =
    let of_fault = line (fault_text role found.0 found.1) in
    let of_reason = line (because_text found.0 (first_reason reasons)) in
    let more = reasoned_lines role (reasoned faults (later_reasons reasons)) in
    ap without_reasons (append_assoc (of_fault ++ of_reason) more rest ∙ append_assoc of_fault of_reason (more ++ rest))
    ∙ stays (fault_text role found.0 found.1) (of_reason ++ (more ++ rest)) (fault_fits role found.0 found.1) refl
    ∙ ap (λ (l : List ℕ). of_fault ++ l) (goes (because_text found.0 (first_reason reasons)) (more ++ rest) (because_fits found.0 (first_reason reasons)) refl
    ∙ faults_left role faults (later_reasons reasons) rest)
    ∙ sym (append_assoc of_fault (fault_lines role faults) (without_reasons rest))

pub report_left : (role : Role) (faults : List (FaultKey × Fault)) (events : ℕ) (reasons : List Evidence)
    → without_reasons (reasoned_text_report role faults events reasons) ≡ text_report role faults events
unfolding reasoned_text_report text_report
report_left role faults events reasons =
    faults_left role faults reasons (line (verdict_text (length faults) events)) ∙ ap (λ (l : List ℕ). fault_lines role faults ++ l) (verdict_left (length faults) events)
