-- What each fault conflicts with: the lines, and the values.
use Rattle.std.proofs.Common.{◌≡◌, ℕ, false, List, [], ◌∷◌, ◌++◌, map, Option, Some, None, refl, sym, ap, subst, ◌∙◌, append_assoc, append-nil}
use Rattle.std.proofs.lemmas.List.{map-append}
use Rattle.std.specs.Io.KnownBytes.{Appends}
use Rattle.serde_json.specs.Data.{Data}
use Rattle.serde_json.specs.View.{items_of}
use Rattle.serde_json.specs.Written.{has_float, items_have_float}
use Rattle.mq_trace.specs.Writing.{AppendsBeginning, LeavesToWrite}
use Rattle.mq_rules.specs.declared.role.Role.{Role}
use Rattle.mq_rules.specs.declared.fault.Fault.{Fault}
use Rattle.mq_rules.specs.declared.faults.FaultKey.{FaultKey}
use Rattle.mq_rules.specs.declared.evidence.Evidence.{Evidence}
use Rattle.mq_rules.specs.declared.evidence.Numbers.{Numbers}
use Rattle.mq_rules.specs.declared.evidence.Numbers.TheVariants.{Nothing, One, Two}
use Rattle.mq_report.specs.Report.{offset_data}
use Rattle.mq_report.specs.Reasons.{first_reason, later_reasons, reasoned, reasoned_line, reasoned_lines, event_data, number_items, reasoned_data, reasoned_items, reasoned_report_data}
use Rattle.mq_trace.proofs.Exports.{all-left, appends-nothing, piece-written, last-written, stopped-in-piece}

-- before the first fault
pub reasons_begin : (x : Option (List ℕ)) (role : Role) (faults left : List (FaultKey × Fault)) (reasons : List Evidence) → left ≡ faults
    → LeavesToWrite x x (reasoned_lines role (reasoned faults reasons)) (reasoned_lines role (reasoned left reasons))
reasons_begin x role faults left reasons e = rw e (all-left x (reasoned_lines role (reasoned faults reasons)))

-- a fault's lines
pub reasons_go_on : {x y z : Option (List ℕ)} {whole : List ℕ} (role : Role) (left rest : List (FaultKey × Fault)) (reasons later : List Evidence) (key : FaultKey) (fault : Fault) (reason : Evidence)
    → LeavesToWrite x y whole (reasoned_lines role (reasoned left reasons)) → left ≡ (key, fault) ∷ rest → reason ≡ first_reason reasons → later ≡ later_reasons reasons
    → Appends y z (reasoned_line role ((key, fault), reason)) → LeavesToWrite x z whole (reasoned_lines role (reasoned rest later))
reasons_go_on {x} {y} {z} {whole} role left rest reasons later key fault reason so_far e first after more =
    rw after (piece-written (reasoned_line role ((key, fault), first_reason reasons)) (reasoned_lines role (reasoned rest (later_reasons reasons)))
    (subst (λ (l : List (FaultKey × Fault)). LeavesToWrite x y whole (reasoned_lines role (reasoned l reasons))) e so_far)
    (subst (λ (r : Evidence). Appends y z (reasoned_line role ((key, fault), r))) first more))

pub reasons_stop : {x y : Option (List ℕ)} (z : Option (List ℕ)) {whole : List ℕ} (role : Role) (left rest : List (FaultKey × Fault)) (reasons : List Evidence) (key : FaultKey) (fault : Fault) (reason : Evidence)
    → LeavesToWrite x y whole (reasoned_lines role (reasoned left reasons)) → left ≡ (key, fault) ∷ rest → reason ≡ first_reason reasons
    → AppendsBeginning y z (reasoned_line role ((key, fault), reason)) → AppendsBeginning x z whole
reasons_stop {x} {y} z {whole} role left rest reasons key fault reason so_far e first part =
    stopped-in-piece z (reasoned_line role ((key, fault), first_reason reasons)) (reasoned_lines role (reasoned rest (later_reasons reasons)))
    (subst (λ (l : List (FaultKey × Fault)). LeavesToWrite x y whole (reasoned_lines role (reasoned l reasons))) e so_far)
    (subst (λ (r : Evidence). AppendsBeginning y z (reasoned_line role ((key, fault), r))) first part)

-- after the last fault
pub reasons_end : {x y : Option (List ℕ)} {whole : List ℕ} (role : Role) (left : List (FaultKey × Fault)) (reasons : List Evidence)
    → LeavesToWrite x y whole (reasoned_lines role (reasoned left reasons)) → left ≡ [] → Appends x y whole
reasons_end {x} {y} {whole} role left reasons so_far e =
    last-written y [] (subst (λ (l : List (FaultKey × Fault)). LeavesToWrite x y whole (reasoned_lines role (reasoned l reasons))) e so_far) (appends-nothing y)

-- these faults as JSON
abbrev pub reasoned_datas : Role → List (FaultKey × Fault) → List Evidence → List Data
reasoned_datas role faults reasons = map (reasoned_data role) (reasoned faults reasons)

pub datas_begin : {V : Type 0} (view : V → Data) (role : Role) (values : List V) (left whole : List (FaultKey × Fault)) (reasons : List Evidence)
    → values ≡ [] → left ≡ whole → map view values ++ reasoned_datas role left reasons ≡ reasoned_datas role whole reasons
datas_begin view role values left whole reasons e same = rw (e, same) refl

-- a fault's value after the others
pub datas_go_on : {V : Type 0} (view : V → Data) (role : Role) (values new : List V) (value : V) (left rest : List (FaultKey × Fault)) (reasons later : List Evidence) (whole : List Data)
    (key : FaultKey) (fault : Fault) (reason : Evidence) → map view values ++ reasoned_datas role left reasons ≡ whole → left ≡ (key, fault) ∷ rest → reason ≡ first_reason reasons
    → later ≡ later_reasons reasons → view value ≡ reasoned_data role ((key, fault), reason) → new ≡ values ++ value ∷ []
    → map view new ++ reasoned_datas role rest later ≡ whole
datas_go_on view role values new value left rest reasons later whole key fault reason so_far e first after v n =
    ap (λ (r : List Evidence). map view new ++ reasoned_datas role rest r) after
    ∙ ap (λ (l : List _). map view l ++ reasoned_datas role rest (later_reasons reasons)) n
    ∙ ap (λ (l : List Data). l ++ reasoned_datas role rest (later_reasons reasons)) (map-append view values (value ∷ []))
    ∙ append_assoc (map view values) (view value ∷ []) (reasoned_datas role rest (later_reasons reasons))
    ∙ ap (λ (d : Data). map view values ++ d ∷ reasoned_datas role rest (later_reasons reasons)) (v ∙ ap (λ (r : Evidence). reasoned_data role ((key, fault), r)) first)
    ∙ ap (λ (l : List (FaultKey × Fault)). map view values ++ reasoned_datas role l reasons) (sym e) ∙ so_far

pub datas_end : {V : Type 0} (view : V → Data) (role : Role) (values : List V) (left whole : List (FaultKey × Fault)) (later reasons : List Evidence)
    → map view values ++ reasoned_datas role left later ≡ reasoned_datas role whole reasons → left ≡ [] → items_of (map view values) ≡ reasoned_items role (reasoned whole reasons)
datas_end view role values left whole later reasons so_far e =
    ap items_of (sym (append-nil (map view values)) ∙ ap (λ (l : List (FaultKey × Fault)). map view values ++ reasoned_datas role l later) (sym e) ∙ so_far)

-- no value of a report with reasons holds a float
event_unfloating : (event : Option ℕ) → has_float (event_data event) ≡ false
event_unfloating None = refl
event_unfloating (Some position) = refl

offset_unfloating : (offset : Option ℕ) → has_float (offset_data offset) ≡ false
offset_unfloating None = refl
offset_unfloating (Some offset) = refl

numbers_unfloating : (numbers : Numbers) → items_have_float (number_items numbers) ≡ false
numbers_unfloating Nothing = refl
numbers_unfloating (One a) = refl
numbers_unfloating (Two a b) = refl

fault_unfloating : (role : Role) (found : (FaultKey × Fault) × Evidence) → has_float (reasoned_data role found) ≡ false
fault_unfloating role found = rw (event_unfloating found.1.because, numbers_unfloating found.1.numbers, offset_unfloating found.0.1.offset) refl

faults_unfloating : (role : Role) (faults : List (FaultKey × Fault)) (reasons : List Evidence) → items_have_float (reasoned_items role (reasoned faults reasons)) ≡ false
faults_unfloating role [] reasons = refl
faults_unfloating role (found ∷ faults) reasons = rw (fault_unfloating role (found, first_reason reasons)) (faults_unfloating role faults (later_reasons reasons))

pub reasoned_unfloating : (role : Role) (faults : List (FaultKey × Fault)) (events : ℕ) (reasons : List Evidence) → has_float (reasoned_report_data role faults events reasons) ≡ false
reasoned_unfloating role faults events reasons = rw (faults_unfloating role faults reasons) refl
