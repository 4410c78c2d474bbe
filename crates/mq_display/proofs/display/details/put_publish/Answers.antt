use Rattle.std.proofs.Common.{[], ◌∷◌, codes}
use Rattle.mq_packet.specs.Reading.{publish_view}
use Rattle.mq_display.specs.Details.{flag_text, property_words, quoted, size_text}
use Rattle.mq_display.proofs.DetailLaws.{puts_words}
use Rattle.mq_display.proofs.display.details.put_publish.Goals as goal

pub returns : goal.returns
returns g c =
    let fields = publish_view c.args.publish.now in
    puts_words g.W.Write.contents _ _ _ (codes "retain" ∷ flag_text fields.retain ∷ codes "topic" ∷ quoted fields.topic ∷ codes "payload" ∷ size_text fields.payload ∷ [])
    (property_words fields.properties) c.put_all.ensures c.put_properties.ensures
