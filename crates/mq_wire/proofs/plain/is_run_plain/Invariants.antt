-- Each byte so far is plain.
use Rattle.std.proofs.Common.{◌≡◌, take}
use Rattle.mq_wire.specs.Plain.{is_plain}
use Rattle.mq_wire.proofs.plain.is_run_plain.Given as goal

abbrev pub invariant-loop-byte : goal.invariant-loop-byte
invariant-loop-byte l = l.is_plain ≡ is_plain (take l.byte-index l.bytes)
