use Rattle.std.proofs.Common.{◌≡◌, ◌++◌, string_bytes}
use denote.Text.{Utf8}
use denote.Shadow.{shadow}
use Rattle.mq_filters.specs.Patterning.{fill}
use Rattle.mq_filters.proofs.patterns.fill.Given as goal

-- with what is left to be filled it is the filter
abbrev pub invariant-loop-pattern : goal.invariant-loop-pattern
invariant-loop-pattern l = (string_bytes l.filter ++ fill l.pattern l.topic ≡ string_bytes l.fn.filter ++ fill l.fn.pattern l.fn.topic) × shadow (Utf8 l.topic)

abbrev pub decreases-loop-pattern : goal.decreases-loop-pattern
decreases-loop-pattern l = l.pattern
