use Rattle.std.proofs.Common.{drop}
use Rattle.mq_report.specs.Unjudged.{gap_lines}
use Rattle.mq_trace.specs.Writing.{LeavesToWrite}
use Rattle.mq_report.proofs.report.unjudged.write_gaps.Given as goal

abbrev pub invariant-loop-gap : goal.invariant-loop-gap
invariant-loop-gap g l = LeavesToWrite (g.W.Write.contents l.fn.writer) (g.W.Write.contents l.writer)
    (gap_lines l.gaps) (gap_lines (drop l.gap-index l.gaps))
