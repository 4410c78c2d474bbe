use Rattle.std.specs.List.{flat_map}
use Rattle.mq_display.specs.Details.{property_after}
use Rattle.mq_display.specs.ItemText.{with_spaces}
use Rattle.mq_display.proofs.DetailLaws.{PutsSome}
use Rattle.mq_display.proofs.display.details.property.put_properties.Given as goal

abbrev pub invariant-loop-prop : goal.invariant-loop-prop
invariant-loop-prop g l =
    PutsSome g.W.Write.contents l.fn.out (with_spaces (flat_map (property_after l.prefix) l.fn.properties.items))
    (with_spaces (flat_map (property_after l.prefix) l.prop-iterator)) l.out
