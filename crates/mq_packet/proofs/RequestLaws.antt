-- The filters of a SUBSCRIBE or UNSUBSCRIBE: what their type says of them.
use Rattle.std.proofs.Common.{◌≡◌, ℕ, ◌<◌, Bool, true, false, ◌&&◌, not, List, [], ◌∷◌, length, Option, Some, None, refl, ◌∙◌, ap, arith}
use Rattle.std.specs.Prelude.{◌==◌, IfSome}
use Rattle.std.specs.Bool.{beq}
use Rattle.std.specs.List.{list_all, AllByRecursion}
use Rattle.std.proofs.lemmas.Bool.{ne_eqb, not_from_false}
use Rattle.mq_packet.specs.Entries.{AskedFilter}
use Rattle.mq_packet.specs.Formats.{is_filter, are_options}
use Rattle.mq_packet.specs.Asking.{AreOptions, IsAsked, AreAsked}
use Rattle.mq_packet.specs.Valid.{fits_request, valid_filter, valid_filters, IsAskedFilter}
use Rattle.mq_packet.proofs.ValueLaws.{text_passes}

options_typed : (asks : Bool) (options : Option ℕ) → AreOptions asks options → IfSome options (λ o. o < 256)
options_typed false None h = tt
options_typed false (Some o) h = absurd (cc)
options_typed true None h = absurd (let never : None ≡ Some h.0 = h.1 in cc)
options_typed true (Some o) h = (let same : o ≡ h.0 = cc in let small : h.0 < 256 = h.2 in omega arith)

asked_typed : (asks : Bool) (asked : AskedFilter) → IsAsked asks asked → IsAskedFilter asked
asked_typed asks asked h = record { filter = h.text.utf8; options = options_typed asks asked.options h.options }

pub all_typed : (asks : Bool) (filters : List AskedFilter) → AllByRecursion (IsAsked asks) filters → AllByRecursion IsAskedFilter filters
all_typed asks [] h = tt
all_typed asks (asked ∷ filters) h = (asked_typed asks asked h.0, all_typed asks filters h.1)

-- Options are there exactly where they are asked for.
options_fit : (stated wanted : Bool) (options : Option ℕ) → AreOptions stated options → fits_request wanted options ≡ beq stated wanted
options_fit false false None h = refl
options_fit false true None h = refl
options_fit false wanted (Some o) h = absurd (cc)
options_fit true wanted None h = absurd (let never : None ≡ Some h.0 = h.1 in cc)
options_fit true false (Some o) h = refl
options_fit true true (Some o) h = (let same : o ≡ h.0 = cc in ap are_options same ∙ h.3)

filter_fits : (stated wanted : Bool) (asked : AskedFilter) → IsAsked stated asked → valid_filter wanted asked ≡ beq stated wanted
unfolding valid_filter
filter_fits stated wanted asked h =
    ap (λ (t : Bool). t && (is_filter asked.filter && fits_request wanted asked.options)) (text_passes asked.filter h.text)
    ∙ (ap (λ (t : Bool). t && fits_request wanted asked.options) h.filter
    ∙ options_fit stated wanted asked.options h.options)

twice : (b : Bool) → (b && b) ≡ b
twice true = refl
twice false = refl

all_fit : (stated wanted : Bool) (asked : AskedFilter) (filters : List AskedFilter) → AllByRecursion (IsAsked stated) (asked ∷ filters) → list_all (valid_filter wanted) (asked ∷ filters) ≡ beq stated wanted
all_fit stated wanted asked [] h = ap (λ (t : Bool). t && true) (filter_fits stated wanted asked h.0) ∙ one (beq stated wanted)
  where
    one : (b : Bool) → (b && true) ≡ b
    one true = refl
    one false = refl
all_fit stated wanted asked (other ∷ filters) h =
    ap (λ (t : Bool). t && list_all (valid_filter wanted) (other ∷ filters)) (filter_fits stated wanted asked h.0)
    ∙ (ap (λ (t : Bool). beq stated wanted && t) (all_fit stated wanted other filters h.1)
    ∙ twice (beq stated wanted))

-- Filters that may stand in a request are valid there where they have options as it asks for them.
pub filters_fit : (stated wanted : Bool) (filters : List AskedFilter) → AreAsked stated filters → valid_filters wanted filters ≡ beq stated wanted
unfolding valid_filters
filters_fit stated wanted [] h = absurd (h.some refl)
filters_fit stated wanted (asked ∷ filters) h =
    (let some : not (length (asked ∷ filters) == 0) ≡ true = not_from_false (length (asked ∷ filters) == 0) (ne_eqb (length (asked ∷ filters)) 0 (λ (z : length (asked ∷ filters) ≡ 0). omega arith)) in
    ap (λ (t : Bool). t && list_all (valid_filter wanted) (asked ∷ filters)) some ∙ all_fit stated wanted asked filters h.each)
