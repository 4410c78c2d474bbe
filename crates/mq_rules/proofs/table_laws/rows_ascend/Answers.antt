use Rattle.mq_rules.proofs.TableLaws.{rows_sorted}
use Rattle.mq_rules.proofs.table_laws.rows_ascend.Goals as goal

pub returns : goal.returns
returns c = rows_sorted
