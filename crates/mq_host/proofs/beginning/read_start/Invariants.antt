use Rattle.std.proofs.Common.{◌≤◌, ◌-◌, length}
use Rattle.std.specs.Io.KnownBytes.{Consumes}
use Rattle.mq_host.proofs.beginning.read_start.Given as goal

abbrev pub invariant-loop-reader : goal.invariant-loop-reader
invariant-loop-reader g l = Consumes (g.R.Read.remaining l.fn.reader) (g.R.Read.remaining l.reader) l.start.items × (length l.start.items ≤ 8)

abbrev pub decreases-loop-reader : goal.decreases-loop-reader
decreases-loop-reader g l = 8 - length l.start.items
