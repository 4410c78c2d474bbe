use Rattle.std.proofs.Common.{ℕ, List, [], ◌∷◌, codes, decimal, refl, sym, ap, subst, ◌∙◌}
use Rattle.mq_display.specs.Details.{hex_digits, quoted, reason_text, size_text}
use Rattle.mq_display.specs.Detailing.{shown_words}
use Rattle.mq_display.specs.ItemText.{with_spaces}
use Rattle.mq_display.specs.Outgoing.{Puts}
use Rattle.mq_display.proofs.OutgoingLaws.{puts_two}
use Rattle.mq_display.proofs.DetailLaws.{flag_numbers, puts_word, puts_words}
use Rattle.mq_display.proofs.display.details.detail.put_shown.Goals as goal

pub returns-in-Number : goal.returns-in-Number
returns-in-Number g c = puts_word g.W.Write.contents _ _ _ (decimal c.in-Number.number) (shown_words c.args.value) c.put.ensures c.put_number.ensures (ap shown_words c.in-Number.is)

pub returns-in-Flag : goal.returns-in-Flag
returns-in-Flag g c =
    puts_word g.W.Write.contents _ _ _ (decimal c.from.result) (shown_words c.args.value) c.put.ensures c.put_number-in-Flag.ensures
    (ap shown_words c.in-Flag.is ∙ ap (λ (n : ℕ). decimal n ∷ []) (sym (c.from.ensures ∙ flag_numbers c.in-Flag.flag)))

pub returns-in-Size : goal.returns-in-Size
returns-in-Size g c = puts_word g.W.Write.contents _ _ _ (size_text c.in-Size.bytes.now) (shown_words c.args.value) c.put.ensures c.put_number-in-Size.ensures (ap shown_words c.in-Size.is)

pub returns-in-Code : goal.returns-in-Code
returns-in-Code g c =
    puts_word g.W.Write.contents _ _ _ (reason_text c.in-Code.code) (shown_words c.args.value) c.put.ensures
    (puts_two g.W.Write.contents _ _ _ (codes "0x") (hex_digits c.in-Code.code) (reason_text c.in-Code.code) c.put-in-Code.ensures c.put_hex_digits.ensures refl)
    (ap shown_words c.in-Code.is)

pub returns-in-Text : goal.returns-in-Text
returns-in-Text g c = puts_word g.W.Write.contents _ _ _ (quoted c.in-Text.text.now) (shown_words c.args.value) c.put.ensures c.put_quoted.ensures (ap shown_words c.in-Text.is)

pub returns-in-Pair : goal.returns-in-Pair
returns-in-Pair g c =
    let name = quoted c.in-Pair.name.now in
    let value = quoted c.in-Pair.value.now in
    subst (λ (words : List (List ℕ)). Puts g.W.Write.contents c.args.out.now (with_spaces words) c.put_quoted-in-Pair-2.new.out) (sym (ap shown_words c.in-Pair.is))
    (puts_words g.W.Write.contents _ _ _ (name ∷ []) (value ∷ [])
    (puts_word g.W.Write.contents _ _ _ name (name ∷ []) c.put.ensures c.put_quoted-in-Pair.ensures refl)
    (puts_word g.W.Write.contents _ _ _ value (value ∷ []) c.put-in-Pair.ensures c.put_quoted-in-Pair-2.ensures refl))
