use Rattle.std.proofs.Common.{take}
use Rattle.std.specs.List.{flat_map}
use Rattle.mq_display.specs.Details.{hex_digits}
use Rattle.mq_display.specs.Outgoing.{Puts}
use Rattle.mq_display.proofs.display.details.broken.put_all_digits.Given as goal

abbrev pub invariant-loop-byte : goal.invariant-loop-byte
invariant-loop-byte g l = Puts g.W.Write.contents l.fn.out (flat_map hex_digits (take l.byte-index l.bytes)) l.out
