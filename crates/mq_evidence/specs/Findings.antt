-- The evidence that was found, by position and statement.
use Rattle.std.specs.Prelude.{ℕ, Option}
use Rattle.std.specs.BTreeMap.{get}
use Rattle.mq_rules.specs.declared.rule.Rule.{Rule}
use Rattle.mq_rules.specs.FaultKeys.{key_cmp}
use Rattle.mq_rules.specs.declared.evidence.Evidence.{Evidence}
use Rattle.mq_evidence.specs.declared.findings.Findings.{Findings}

abbrev pub found_at : Findings → ℕ → Rule → Option Evidence
found_at f k r = get key_cmp f.found (record { position = k; rule = r })
