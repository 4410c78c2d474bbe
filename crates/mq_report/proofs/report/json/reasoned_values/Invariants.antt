use Rattle.std.proofs.Common.{◌≡◌, ◌++◌, map}
use Rattle.std.specs.FinMap as fin_map
use Rattle.serde_json.specs.View.{view}
use Rattle.mq_report.proofs.ReasonLaws.{reasoned_datas}
use Rattle.mq_report.proofs.report.json.reasoned_values.Given as goal

abbrev pub invariant-loop-key : goal.invariant-loop-key
invariant-loop-key l = map view l.values.items ++ reasoned_datas l.role l.key-iterator l.left ≡ reasoned_datas l.role (fin_map.entries l.faults) l.reasons
