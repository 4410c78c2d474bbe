use Rattle.std.proofs.Common.{[], ◌∷◌, ◌++◌, codes}
use Rattle.mq_display.specs.Details.{first_words, size_text, type_words}
use Rattle.mq_display.proofs.DetailLaws.{puts_words}
use Rattle.mq_display.proofs.display.details.unfinished.put_begun.Goals as goal

pub returns : goal.returns
returns g c =
    let bytes = c.args.bytes.now in
    let size = codes "size" ∷ size_text bytes ∷ [] in
    puts_words g.W.Write.contents _ _ _ (codes "unfinished" ∷ c.args.direction.now ∷ []) (type_words bytes ++ (size ++ first_words bytes)) c.put_heading.ensures
    (puts_words g.W.Write.contents _ _ _ (type_words bytes) (size ++ first_words bytes) c.put_type.ensures
    (puts_words g.W.Write.contents _ _ _ size (first_words bytes) c.put_detail.ensures c.put_first.ensures))
