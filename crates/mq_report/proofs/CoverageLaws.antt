-- How often each statement was put to the test: the lines, how many there are, and the values.
use Rattle.std.proofs.Common.{◌≡◌, ◌==◌, ℕ, zero, suc, Bool, true, false, ◌<◌, ◌≤◌, ◌+◌, add-one, List, [], ◌∷◌, ◌++◌, length, drop, drop-cons, get_or, map, Option, refl, sym, ap, subst, ◌∙◌, arith, append_assoc, append-nil}
use Rattle.std.proofs.lemmas.Bool.Decides.{nat_tests}
use Rattle.std.proofs.lemmas.List.{map-append}
use Rattle.std.specs.List.{filter}
use Rattle.std.specs.Io.KnownBytes.{Appends}
use Rattle.serde_json.specs.Data.{Data}
use Rattle.serde_json.specs.View.{items_of}
use Rattle.serde_json.specs.Written.{has_float, items_have_float}
use Rattle.mq_trace.specs.Writing.{AppendsBeginning, LeavesToWrite}
use Rattle.mq_rules.specs.declared.role.Role.{Role}
use Rattle.mq_rules.specs.declared.fault.Fault.{Fault}
use Rattle.mq_rules.specs.declared.faults.FaultKey.{FaultKey}
use Rattle.mq_report.specs.declared.report.coverage.Covered.{Covered}
use Rattle.mq_report.specs.Report.{line}
use Rattle.mq_report.specs.Coverage.{places_text, places_lines, has_place, covered_count, places_data, places_items, covered_data}
use Rattle.mq_trace.proofs.Exports.{piece-written, stopped-in-piece}
use Rattle.mq_report.specs.declared.report.unjudged.Gap.{Gap}
use Rattle.mq_report.proofs.JsonLaws.{faults_unfloating}
use Rattle.mq_report.proofs.UnjudgedLaws.{gaps_unfloating}

next_row : (e : Covered) (rows : List Covered) (i : ℕ) → i < length rows → drop i rows ≡ get_or rows i e ∷ drop (i + 1) rows
next_row e rows i h = rw (add-one, drop-cons rows i e) refl

-- a statement's line
pub rows_go_on : {x y z : Option (List ℕ)} {whole : List ℕ} (e : Covered) (role : Role) (rows : List Covered) (i : ℕ) → i < length rows
    → LeavesToWrite x y whole (places_lines role (drop i rows)) → Appends y z (line (places_text role (get_or rows i e)))
    → LeavesToWrite x z whole (places_lines role (drop (i + 1) rows))
rows_go_on {x} {y} {z} {whole} e role rows i h so_far more =
    piece-written (line (places_text role (get_or rows i e))) (places_lines role (drop (i + 1) rows))
    (subst (λ (l : List Covered). LeavesToWrite x y whole (places_lines role l)) (next_row e rows i h) so_far) more

pub rows_stop : {x y : Option (List ℕ)} (z : Option (List ℕ)) {whole : List ℕ} (e : Covered) (role : Role) (rows : List Covered) (i : ℕ) → i < length rows
    → LeavesToWrite x y whole (places_lines role (drop i rows)) → AppendsBeginning y z (line (places_text role (get_or rows i e)))
    → AppendsBeginning x z whole
rows_stop {x} {y} z {whole} e role rows i h so_far part =
    stopped-in-piece z (line (places_text role (get_or rows i e))) (places_lines role (drop (i + 1) rows))
    (subst (λ (l : List Covered). LeavesToWrite x y whole (places_lines role l)) (next_row e rows i h) so_far) part

-- what was counted, before the rows from i on
pub record Counted (count i : ℕ) (rows : List Covered) : Type 0 where
  pub counts : count + length (filter has_place (drop i rows)) ≡ covered_count rows
  pub few : count ≤ i

pub counted_none : (rows : List Covered) → Counted 0 0 rows
counted_none rows = record { counts = omega arith; few = omega arith }

with_place : (row : Covered) (rest : List Covered) → 0 < row.places → length (filter has_place (row ∷ rest)) ≡ 1 + length (filter has_place rest)
with_place row rest h =
    let some : (row.places == 0) ≡ false = grind (arith, nat_tests) in
    rw some (omega arith)

without_place : (row : Covered) (rest : List Covered) → row.places ≡ 0 → length (filter has_place (row ∷ rest)) ≡ length (filter has_place rest)
without_place row rest e = rw e refl

pub counts_place : (e : Covered) {count : ℕ} (new i : ℕ) (rows : List Covered) → i < length rows → Counted count i rows → 0 < (get_or rows i e).places → new ≡ count + 1
    → Counted new (i + 1) rows
counts_place e {count} new i rows h so_far some n =
    let left = ap (λ (l : List Covered). length (filter has_place l)) (next_row e rows i h) in
    let more = with_place (get_or rows i e) (drop (i + 1) rows) some in
    record { counts = omega (arith, left, more, so_far.counts, n); few = omega (arith, so_far.few, n) }

pub passes_no_place : (e : Covered) {count : ℕ} (i : ℕ) (rows : List Covered) → i < length rows → Counted count i rows → (get_or rows i e).places ≡ 0
    → Counted count (i + 1) rows
passes_no_place e {count} i rows h so_far none =
    let left = ap (λ (l : List Covered). length (filter has_place l)) (next_row e rows i h) in
    let more = without_place (get_or rows i e) (drop (i + 1) rows) none in
    record { counts = omega (arith, left, more, so_far.counts); few = omega (arith, so_far.few) }

none_left : (i : ℕ) (rows : List Covered) → length rows ≤ i → drop i rows ≡ []
none_left zero [] h = refl
none_left zero (row ∷ rows) h = absurd (omega (arith, h))
none_left (suc i) [] h = refl
none_left (suc i) (row ∷ rows) h = none_left i rows (omega (arith, h))

pub all_counted : {count i : ℕ} (rows : List Covered) → Counted count i rows → length rows ≤ i → count ≡ covered_count rows
all_counted {count} {i} rows so_far h =
    let none = ap (λ (l : List Covered). length (filter has_place l)) (none_left i rows h) in
    omega (arith, none, so_far.counts)

-- a statement's value after the others
pub places_go_on : {V : Type 0} (view : V → Data) (e : Covered) (role : Role) (values new : List V) (value : V) (rows : List Covered) (i : ℕ) → i < length rows
    → map view values ++ map (places_data role) (drop i rows) ≡ map (places_data role) rows → view value ≡ places_data role (get_or rows i e)
    → new ≡ values ++ value ∷ [] → map view new ++ map (places_data role) (drop (i + 1) rows) ≡ map (places_data role) rows
places_go_on view e role values new value rows i h so_far v n =
    ap (λ (l : List _). map view l ++ map (places_data role) (drop (i + 1) rows)) n
    ∙ ap (λ (l : List Data). l ++ map (places_data role) (drop (i + 1) rows)) (map-append view values (value ∷ []))
    ∙ append_assoc (map view values) (view value ∷ []) (map (places_data role) (drop (i + 1) rows))
    ∙ ap (λ (d : Data). map view values ++ d ∷ map (places_data role) (drop (i + 1) rows)) v
    ∙ ap (λ (l : List Covered). map view values ++ map (places_data role) l) (sym (next_row e rows i h)) ∙ so_far

pub places_end : {V : Type 0} (view : V → Data) (role : Role) (values : List V) (rows : List Covered) (i : ℕ) → length rows ≤ i
    → map view values ++ map (places_data role) (drop i rows) ≡ map (places_data role) rows → items_of (map view values) ≡ places_items role rows
places_end view role values rows i h so_far =
    ap items_of (sym (append-nil (map view values)) ∙ ap (λ (l : List Covered). map view values ++ map (places_data role) l) (sym (none_left i rows h)) ∙ so_far)

-- no value of a report with coverage holds a float
places_unfloating : (role : Role) (rows : List Covered) → items_have_float (places_items role rows) ≡ false
places_unfloating role [] = refl
places_unfloating role (row ∷ rows) = places_unfloating role rows

pub covered_unfloating : (role : Role) (faults : List (FaultKey × Fault)) (events : ℕ) (rows : List Covered) (gaps : List Gap) → has_float (covered_data role faults events rows gaps) ≡ false
covered_unfloating role faults events rows gaps = rw (places_unfloating role rows, faults_unfloating role faults, gaps_unfloating gaps) refl
