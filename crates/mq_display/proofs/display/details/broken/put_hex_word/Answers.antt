use Rattle.std.proofs.Common.{refl}
use Rattle.mq_display.specs.Details.{hex_digits, hex_words}
use Rattle.mq_display.proofs.DetailLaws.{puts_word}
use Rattle.mq_display.proofs.display.details.broken.put_hex_word.Goals as goal

pub returns : goal.returns
returns g c = puts_word g.W.Write.contents _ _ _ (hex_digits c.args.byte) (hex_words c.args.byte) c.put.ensures c.put_hex_digits.ensures refl
