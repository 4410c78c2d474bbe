use Rattle.std.proofs.Common.{◌≡◌, ◌++◌, map, drop}
use Rattle.serde_json.specs.View.{view}
use Rattle.mq_report.specs.Coverage.{places_data}
use Rattle.mq_report.proofs.report.json.places_values.Given as goal

abbrev pub invariant-loop-row : goal.invariant-loop-row
invariant-loop-row l = map view l.values.items ++ map (places_data l.role) (drop l.row-index l.rows) ≡ map (places_data l.role) l.rows
