use Rattle.std.proofs.Common.{◌≡◌, length}
use denote.Text.{Utf8}
use denote.Shadow.{shadow}
use Rattle.mq_topic.specs.Levels.{levels_of}
use Rattle.mq_topic.specs.Matching.{levels_match}
use Rattle.mq_topic.proofs.matching.all_levels_match.Given as goal

-- what is left of both texts matches as both texts do
abbrev pub invariant-loop-level : goal.invariant-loop-level
invariant-loop-level l = (levels_match (levels_of l.filters) (levels_of l.names) ≡ levels_match (levels_of l.filter) (levels_of l.name)) × (shadow (Utf8 l.filters) × shadow (Utf8 l.names))

abbrev pub decreases-loop-level : goal.decreases-loop-level
decreases-loop-level l = length l.filters
