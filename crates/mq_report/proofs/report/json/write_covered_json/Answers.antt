use Rattle.std.proofs.Common.{◌∙◌, ap}
use Rattle.std.specs.FinMap as map
use Rattle.serde_json.specs.Written.{has_float}
use Rattle.mq_report.proofs.CoverageLaws.{covered_unfloating}
use Rattle.mq_report.proofs.report.json.write_covered_json.Goals as goal

pub write_value-requires : goal.write_value-requires
write_value-requires g c =
    ap has_float c.in-Ok.ensures ∙ covered_unfloating c.args.role (map.entries c.args.verdict.now.faults) c.args.verdict.now.events c.args.rows.now c.args.gaps.now
