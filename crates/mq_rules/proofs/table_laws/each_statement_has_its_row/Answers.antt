use Rattle.mq_rules.proofs.TableLaws.{rows_found, rows_contain}
use Rattle.mq_rules.proofs.table_laws.each_statement_has_its_row.Goals as goal

pub returns-clause-found : goal.returns-clause-found
returns-clause-found c = rows_found

pub returns-clause-listed : goal.returns-clause-listed
returns-clause-listed c = rows_contain
