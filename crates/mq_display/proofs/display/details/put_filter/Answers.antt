use Rattle.std.proofs.Common.{[], ◌∷◌, codes}
use Rattle.mq_packet.specs.Elements.{filter_view}
use Rattle.mq_display.specs.Details.{option_words, quoted}
use Rattle.mq_display.proofs.DetailLaws.{puts_words}
use Rattle.mq_display.proofs.display.details.put_filter.Goals as goal

pub returns : goal.returns
returns g c =
    let asked = filter_view c.args.filter in
    puts_words g.W.Write.contents _ _ _ (codes "filter" ∷ quoted asked.filter ∷ []) (option_words asked.options) c.put_detail.ensures c.put_options.ensures
