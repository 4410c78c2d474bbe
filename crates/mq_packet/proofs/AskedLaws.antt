-- The filter at the front of some bytes.
use Rattle.std.proofs.Common.{◌≡◌, ℕ, Bool, true, false, List, [], ◌++◌, length, Option, None, Some, refl, ap, ◌∙◌, append_assoc}
use Rattle.std.proofs.lemmas.List.{drop_at}
use Rattle.mq_wire.specs.Fields.{binary_at, text_at}
use Rattle.mq_wire.specs.Spellings.{text_spelling}
use Rattle.mq_wire.proofs.Exports.{text_exact}
use Rattle.mq_packet.specs.Entries.{AskedFilter}
use Rattle.mq_packet.specs.Asking.{AreOptions, IsAsked, options_spelling, asked_spelling}
use Rattle.mq_packet.specs.Elements.{asked_with, asked_after, asked_at}

abbrev pub some : {A : Type 0} → A → Option A
some x = Some x

pub some_is : {A : Type 0} (x y : A) → some x ≡ some y → x ≡ y
some_is x y e = cc

abbrev asked_filter : List ℕ → Option ℕ → AskedFilter
asked_filter filter options = record { filter = filter; options = options }

-- None stands in no bytes.
pub asked_at_nil : (asks : Bool) → asked_at asks [] ≡ None
unfolding asked_at text_at binary_at
asked_at_nil asks = refl

with_spelled : (asks : Bool) (filter : List ℕ) (options : Option ℕ) (rest : List ℕ) → AreOptions asks options → asked_with asks filter (options_spelling options ++ rest) ≡ Some (asked_filter filter options, rest)
with_spelled false filter None rest is = refl
with_spelled false filter (Some options) rest is = absurd cc
with_spelled true filter None rest is = absurd (let never = is.1 in cc)
with_spelled true filter (Some options) rest is = refl

-- A filter is found at the front of its spelling.
pub asked_at_spelled : (asks : Bool) (f : AskedFilter) (rest : List ℕ) → IsAsked asks f → asked_at asks (asked_spelling f ++ rest) ≡ Some (f, rest)
unfolding asked_at
asked_at_spelled asks f rest is =
    let text : List ℕ = text_spelling f.filter in
    let more : List ℕ = options_spelling f.options ++ rest in
    let parts : asked_spelling f ++ rest ≡ text ++ more = append_assoc text (options_spelling f.options) rest in
    ap (λ (bytes : List ℕ). asked_after asks bytes (text_at bytes)) parts
    ∙ ap (asked_after asks (text ++ more)) (text_exact.all f.filter more is.text)
    ∙ ap (asked_with asks f.filter) (drop_at text more (length text) refl)
    ∙ with_spelled asks f.filter f.options rest is.options
