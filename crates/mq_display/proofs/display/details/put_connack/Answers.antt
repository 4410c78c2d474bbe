use Rattle.std.proofs.Common.{[], ◌∷◌, codes}
use Rattle.mq_display.specs.Details.{flag_text, property_words, reason_text}
use Rattle.mq_display.proofs.DetailLaws.{puts_words}
use Rattle.mq_display.proofs.display.details.put_connack.Goals as goal

pub returns : goal.returns
returns g c =
    let connack = c.args.connack.now in
    puts_words g.W.Write.contents _ _ _ (codes "code" ∷ reason_text connack.code ∷ codes "session-present" ∷ flag_text connack.session_present ∷ [])
    (property_words connack.properties) c.put_all.ensures c.put_properties.ensures
