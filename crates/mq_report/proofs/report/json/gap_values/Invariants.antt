use Rattle.std.proofs.Common.{◌≡◌, ◌++◌, map, drop}
use Rattle.serde_json.specs.View.{view}
use Rattle.mq_report.specs.Unjudged.{gap_data}
use Rattle.mq_report.proofs.report.json.gap_values.Given as goal

abbrev pub invariant-loop-gap : goal.invariant-loop-gap
invariant-loop-gap l = map view l.values.items ++ map gap_data (drop l.gap-index l.gaps) ≡ map gap_data l.gaps
