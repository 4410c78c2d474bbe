use Rattle.std.proofs.Common.{sym, ap, ◌∙◌}
use Rattle.mq_packet.specs.Elements.{filter_view}
use Rattle.mq_rules.proofs.WishesLaws.{wishes_next, wishes_with_all}
use Rattle.mq_rules.proofs.packet_note.WishesNote.of.Goals as goal

pub loop-filter-preserved : goal.loop-filter-preserved
loop-filter-preserved c =
    ap (λ w. wishes_with_all w c.next.new.self) c.with_filter-wishes.ensures
    ∙ wishes_next c.loop-filter.wishes (filter_view c.in-Some.filter) c.next.new.self
    ∙ ap (λ fs. wishes_with_all c.loop-filter.wishes fs) (sym c.in-Some.ensures.steps)
    ∙ c.loop-filter.invariant
