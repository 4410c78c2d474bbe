use Rattle.std.proofs.Common.{take}
use Rattle.std.specs.List.{flat_map}
use Rattle.mq_display.specs.Detailing.{detail_words}
use Rattle.mq_display.specs.ItemText.{with_spaces}
use Rattle.mq_display.specs.Outgoing.{Puts}
use Rattle.mq_display.proofs.display.details.detail.put_all.Given as goal

abbrev pub invariant-loop-detail : goal.invariant-loop-detail
invariant-loop-detail g l = Puts g.W.Write.contents l.fn.out (with_spaces (flat_map detail_words (take l.detail-index l.details))) l.out
