use Rattle.std.proofs.Common.{◌≡◌, ◌++◌, map}
use Rattle.std.specs.FinMap as fin_map
use Rattle.serde_json.specs.View.{view}
use Rattle.mq_report.proofs.JsonLaws.{fault_datas}
use Rattle.mq_report.proofs.report.json.fault_values.Given as goal

abbrev pub invariant-loop-key : goal.invariant-loop-key
invariant-loop-key l = map view l.values.items ++ fault_datas l.role l.key-iterator ≡ fault_datas l.role (fin_map.entries l.faults)
