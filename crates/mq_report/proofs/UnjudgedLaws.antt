-- What wasn't judged: the lines and the values.
use Rattle.std.proofs.Common.{◌≡◌, ℕ, false, ◌<◌, ◌≤◌, ◌+◌, add-one, List, [], ◌∷◌, ◌++◌, length, drop, drop-cons, get_or, map, Option, Some, None, refl, sym, ap, subst, ◌∙◌, append_assoc, append-nil}
use Rattle.std.proofs.lemmas.List.{map-append, drop_all}
use Rattle.std.specs.Io.KnownBytes.{Appends}
use Rattle.serde_json.specs.Data.{Data}
use Rattle.serde_json.specs.View.{items_of}
use Rattle.serde_json.specs.Written.{has_float, items_have_float}
use Rattle.mq_log.specs.declared.place.Place3.{Place3}
use Rattle.mq_trace.specs.Writing.{AppendsBeginning, LeavesToWrite}
use Rattle.mq_report.specs.declared.report.unjudged.Begun.{Begun}
use Rattle.mq_report.specs.declared.report.unjudged.Gap.{Gap}
use Rattle.mq_report.specs.Report.{line}
use Rattle.mq_report.specs.Unjudged.{gap_text, gap_lines, gap_begun, gap_place, gap_what, gap_why, gap_data, gap_data_by, gap_items}
use Rattle.mq_trace.proofs.Exports.{piece-written, stopped-in-piece}

next_gap : (e : Gap) (gaps : List Gap) (i : ℕ) → i < length gaps → drop i gaps ≡ get_or gaps i e ∷ drop (i + 1) gaps
next_gap e gaps i h = rw (add-one, drop-cons gaps i e) refl

-- a gap's line
pub gaps_go_on : {x y z : Option (List ℕ)} {whole : List ℕ} (e : Gap) (gaps : List Gap) (i : ℕ) → i < length gaps
    → LeavesToWrite x y whole (gap_lines (drop i gaps)) → Appends y z (line (gap_text (get_or gaps i e)))
    → LeavesToWrite x z whole (gap_lines (drop (i + 1) gaps))
gaps_go_on {x} {y} {z} {whole} e gaps i h so_far more =
    piece-written (line (gap_text (get_or gaps i e))) (gap_lines (drop (i + 1) gaps))
    (subst (λ (l : List Gap). LeavesToWrite x y whole (gap_lines l)) (next_gap e gaps i h) so_far) more

pub gaps_stop : {x y : Option (List ℕ)} (z : Option (List ℕ)) {whole : List ℕ} (e : Gap) (gaps : List Gap) (i : ℕ) → i < length gaps
    → LeavesToWrite x y whole (gap_lines (drop i gaps)) → AppendsBeginning y z (line (gap_text (get_or gaps i e)))
    → AppendsBeginning x z whole
gaps_stop {x} {y} z {whole} e gaps i h so_far part =
    stopped-in-piece z (line (gap_text (get_or gaps i e))) (gap_lines (drop (i + 1) gaps))
    (subst (λ (l : List Gap). LeavesToWrite x y whole (gap_lines l)) (next_gap e gaps i h) so_far) part

-- a gap's value after the others
pub gap_values_go_on : {V : Type 0} (view : V → Data) (e : Gap) (values new : List V) (value : V) (gaps : List Gap) (i : ℕ) → i < length gaps
    → map view values ++ map gap_data (drop i gaps) ≡ map gap_data gaps → view value ≡ gap_data (get_or gaps i e)
    → new ≡ values ++ value ∷ [] → map view new ++ map gap_data (drop (i + 1) gaps) ≡ map gap_data gaps
gap_values_go_on view e values new value gaps i h so_far v n =
    ap (λ (l : List _). map view l ++ map gap_data (drop (i + 1) gaps)) n
    ∙ ap (λ (l : List Data). l ++ map gap_data (drop (i + 1) gaps)) (map-append view values (value ∷ []))
    ∙ append_assoc (map view values) (view value ∷ []) (map gap_data (drop (i + 1) gaps))
    ∙ ap (λ (d : Data). map view values ++ d ∷ map gap_data (drop (i + 1) gaps)) v
    ∙ ap (λ (l : List Gap). map view values ++ map gap_data l) (sym (next_gap e gaps i h)) ∙ so_far

pub gap_values_end : {V : Type 0} (view : V → Data) (values : List V) (gaps : List Gap) (i : ℕ) → length gaps ≤ i
    → map view values ++ map gap_data (drop i gaps) ≡ map gap_data gaps → items_of (map view values) ≡ gap_items gaps
gap_values_end view values gaps i h so_far =
    ap items_of (sym (append-nil (map view values)) ∙ ap (λ (l : List Gap). map view values ++ map gap_data l) (sym (drop_all i gaps h)) ∙ so_far)

-- no value of a gap holds a float
gap_unfloating : (begun : Option Begun) (place : Option Place3) (what why : List ℕ) → has_float (gap_data_by begun place what why) ≡ false
gap_unfloating None None what why = refl
gap_unfloating None (Some place) what why = refl
gap_unfloating (Some begun) None what why = refl
gap_unfloating (Some begun) (Some place) what why = refl

pub gaps_unfloating : (gaps : List Gap) → items_have_float (gap_items gaps) ≡ false
gaps_unfloating [] = refl
gaps_unfloating (gap ∷ gaps) = rw (gap_unfloating (gap_begun gap) (gap_place gap) (gap_what gap) (gap_why gap)) (gaps_unfloating gaps)
