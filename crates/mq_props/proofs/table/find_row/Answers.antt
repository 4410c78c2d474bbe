use Rattle.mq_props.specs.Table.{row_of, rows}
use Rattle.mq_props.proofs.Finding.{line_below}
use Rattle.mq_props.proofs.table.find_row.Goals as goal

pub returns-clause-bound : goal.returns-clause-bound
unfolding row_of rows
returns-clause-bound c = line_below c.args.id c.found_in.result c.found_in.ensures
