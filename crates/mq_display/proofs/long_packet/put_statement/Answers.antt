use Rattle.std.proofs.Common.{ℕ, List, [], ◌∷◌, ◌++◌, ◌∙◌, ap, sym, append_assoc, append-nil, codes}
use Rattle.mq_display.specs.ItemText.{packet_rule_code}
use Rattle.mq_display.specs.Sentences.{packet_rule_sentence}
use Rattle.mq_display.proofs.OutgoingLaws.{puts_five}
use Rattle.mq_display.proofs.long_packet.put_statement.Goals as goal

pub returns : goal.returns
returns g c =
    let code = packet_rule_code c.args.rule in
    let sentence = packet_rule_sentence c.args.rule in
    puts_five g.W.Write.contents _ _ _ _ _ _ _ _ _ _ _ _ c.put.ensures c.put-2.ensures c.put-3.ensures c.put-4.ensures c.put-5.ensures
    ((λ i. codes "  " ++ (c.rule_code.ensures i ++ (codes " " ++ (c.rule_sentence.ensures i ++ (10 ∷ [])))))
    ∙ ap (λ (l : List ℕ). codes "  " ++ (code ++ (32 ∷ (l ++ (10 ∷ []))))) (sym (append-nil sentence))
    ∙ ap (λ (l : List ℕ). codes "  " ++ l) (sym (append_assoc code (32 ∷ (sentence ++ [])) (10 ∷ []))))
