use Rattle.mq_packet.specs.Elements.{filter_view}
use Rattle.mq_display.specs.Details.{filter_words}
use Rattle.mq_display.proofs.DetailLaws.{puts_first}
use Rattle.mq_display.proofs.display.details.put_filters.Goals as goal

pub loop-filter-preserved : goal.loop-filter-preserved
loop-filter-preserved g c =
    puts_first g.W.Write.contents _ c.loop-filter.out _ filter_words _ (filter_view c.in-Some.filter) _ c.next.new.self c.in-Some.ensures.steps c.loop-filter.invariant
    c.put_filter.ensures
