-- A report as a JSON value.
use Rattle.std.proofs.Common.{◌≡◌, ℕ, false, List, [], ◌∷◌, ◌++◌, map, Option, Some, None, refl, sym, ap, ◌∙◌, append_assoc, append-nil}
use Rattle.std.proofs.lemmas.List.{map-append}
use Rattle.serde_json.specs.Data.{Data}
use Rattle.serde_json.specs.View.{items_of}
use Rattle.serde_json.specs.Written.{has_float, items_have_float}
use Rattle.mq_rules.specs.declared.role.Role.{Role}
use Rattle.mq_rules.specs.declared.fault.Fault.{Fault}
use Rattle.mq_rules.specs.declared.faults.FaultKey.{FaultKey}
use Rattle.mq_report.specs.Report.{offset_data, fault_data, fault_items, report_data}

-- these faults as JSON
abbrev pub fault_datas : Role → List (FaultKey × Fault) → List Data
fault_datas role faults = map (λ found. fault_data role found.0 found.1) faults

pub values_begin : {V : Type 0} (view : V → Data) (role : Role) (values : List V) (left whole : List (FaultKey × Fault))
    → values ≡ [] → left ≡ whole → map view values ++ fault_datas role left ≡ fault_datas role whole
values_begin view role values left whole e same = rw (e, same) refl

-- a fault's value after the others
pub values_go_on : {V : Type 0} (view : V → Data) (role : Role) (values new : List V) (value : V) (left rest whole : List (FaultKey × Fault)) (key : FaultKey) (fault : Fault)
    → map view values ++ fault_datas role left ≡ fault_datas role whole → left ≡ (key, fault) ∷ rest → view value ≡ fault_data role key fault
    → new ≡ values ++ value ∷ [] → map view new ++ fault_datas role rest ≡ fault_datas role whole
values_go_on view role values new value left rest whole key fault so_far e v n =
    ap (λ (l : List _). map view l ++ fault_datas role rest) n
    ∙ ap (λ (l : List Data). l ++ fault_datas role rest) (map-append view values (value ∷ []))
    ∙ append_assoc (map view values) (view value ∷ []) (fault_datas role rest)
    ∙ ap (λ (d : Data). map view values ++ d ∷ fault_datas role rest) v
    ∙ ap (λ (l : List (FaultKey × Fault)). map view values ++ fault_datas role l) (sym e) ∙ so_far

pub values_end : {V : Type 0} (view : V → Data) (role : Role) (values : List V) (left whole : List (FaultKey × Fault))
    → map view values ++ fault_datas role left ≡ fault_datas role whole → left ≡ [] → items_of (map view values) ≡ fault_items role whole
values_end view role values left whole so_far e =
    ap items_of (sym (append-nil (map view values)) ∙ ap (λ (l : List (FaultKey × Fault)). map view values ++ fault_datas role l) (sym e) ∙ so_far)

-- no value of a report holds a float
offset_unfloating : (offset : Option ℕ) → has_float (offset_data offset) ≡ false
offset_unfloating None = refl
offset_unfloating (Some offset) = refl

fault_unfloating : (role : Role) (key : FaultKey) (fault : Fault) → has_float (fault_data role key fault) ≡ false
fault_unfloating role key fault = rw (offset_unfloating fault.offset) refl

pub faults_unfloating : (role : Role) (faults : List (FaultKey × Fault)) → items_have_float (fault_items role faults) ≡ false
faults_unfloating role [] = refl
faults_unfloating role (found ∷ faults) = rw (fault_unfloating role found.0 found.1) (faults_unfloating role faults)

pub report_unfloating : (role : Role) (faults : List (FaultKey × Fault)) (events : ℕ) → has_float (report_data role faults events) ≡ false
report_unfloating role faults events = rw (faults_unfloating role faults) refl
