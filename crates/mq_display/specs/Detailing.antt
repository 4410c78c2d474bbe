-- The words of details in memory.
use Rattle.std.specs.Prelude.{ℕ, List, [], ◌∷◌, decimal}
use Rattle.mq_display.specs.declared.display.details.detail.Shown.{Shown}
use Rattle.mq_display.specs.declared.display.details.detail.Shown.TheVariants as shown
use Rattle.mq_display.specs.declared.display.details.detail.Detail.{Detail}
use Rattle.mq_display.specs.Details.{flag_text, size_text, reason_text, quoted}

-- the words of a value
abbrev pub shown_words : Shown → List (List ℕ)
shown_words (shown.Number number) = decimal number ∷ []
shown_words (shown.Flag flag) = flag_text flag ∷ []
shown_words (shown.Size bytes) = size_text bytes.now ∷ []
shown_words (shown.Code code) = reason_text code ∷ []
shown_words (shown.Text words) = quoted words.now ∷ []
shown_words (shown.Pair name value) = quoted name.now ∷ quoted value.now ∷ []

-- the words of a detail
abbrev pub detail_words : Detail → List (List ℕ)
detail_words detail = detail.name.now ∷ shown_words detail.value
