use Rattle.mq_props.specs.Listed.{Listed}
use Rattle.mq_props.proofs.Lists.{list_only, reads_only, found_result, broken_result}
use Rattle.mq_props.proofs.Within.{within_result}
use Rattle.mq_props.proofs.props.Props.read.Goals as goal

pub returns-clause-found : goal.returns-clause-found
returns-clause-found c = found_result c.args.place c.args.cursor.now c.list_at.result c.list_at.new.cursor c.list_at.ensures.bytes c.list_at.ensures.exact

pub returns-clause-only : goal.returns-clause-only
returns-clause-only c = λ ps bytes rest lists parts. reads_only (λ (l : Listed). l.items) c.list_at.result _ ps c.list_at.new.cursor _ c.list_at.ensures.exact (list_only c.args.place c.args.cursor.now ps bytes rest lists parts)

pub returns-clause-broken : goal.returns-clause-broken
returns-clause-broken c = broken_result c.args.place c.args.cursor.now c.list_at.result c.list_at.new.cursor c.list_at.ensures.bytes c.list_at.ensures.exact

pub returns-clause-within : goal.returns-clause-within
returns-clause-within c = within_result c.args.place c.args.cursor.now c.list_at.result c.list_at.new.cursor c.list_at.ensures.exact
