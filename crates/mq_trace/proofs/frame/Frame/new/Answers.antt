-- A whole packet by its bytes and its fixed header.
use Rattle.std.proofs.Common.{arith}
use Rattle.mq_trace.proofs.frame.Frame.new.Goals as goal

pub returns-clause-frame : goal.returns-clause-frame
returns-clause-frame c = record { whole = c.requires.whole; fits = c.requires.fits; bytes = λ i. omega (arith, c.type_inv.bytes i) }
