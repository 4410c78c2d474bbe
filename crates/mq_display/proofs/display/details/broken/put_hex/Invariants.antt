use Rattle.std.proofs.Common.{take}
use Rattle.std.specs.List.{flat_map}
use Rattle.mq_display.specs.Details.{hex_words}
use Rattle.mq_display.specs.ItemText.{with_spaces}
use Rattle.mq_display.specs.Outgoing.{Puts}
use Rattle.mq_display.proofs.display.details.broken.put_hex.Given as goal

abbrev pub invariant-loop-byte : goal.invariant-loop-byte
invariant-loop-byte g l = Puts g.W.Write.contents l.fn.out (with_spaces (flat_map hex_words (take l.byte-index l.bytes))) l.out
