use Rattle.std.proofs.Common.{[]}
use Rattle.std.specs.Io.KnownBytes.{Consumes}
use Rattle.mq_host.proofs.beginning.read_byte.Given as goal

-- interrupted reads took nothing
abbrev pub invariant-loop-try : goal.invariant-loop-try
invariant-loop-try g l = Consumes (g.R.Read.remaining l.fn.reader) (g.R.Read.remaining l.reader) []
