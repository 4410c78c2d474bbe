use Rattle.mq_packet.specs.Elements.{filter_view}
use Rattle.mq_packet.proofs.FilterLaws.{none_listed, none_in, next_none, next_some}
use Rattle.mq_packet.proofs.filters.next_filter.Goals as goal

pub returns-in_default-clause-listed : goal.returns-in_default-clause-listed
returns-in_default-clause-listed c = rw c.new.ensures (none_listed c.args.options)

pub returns-in_default-clause-gives : goal.returns-in_default-clause-gives
returns-in_default-clause-gives c = (next_none c.args.options c.args.cursor.now.rest c.requires c.in_default.ensures, rw c.new.ensures (none_in c.args.options))

pub returns-clause-listed : goal.returns-clause-listed
returns-clause-listed c = (next_some c.args.options c.args.cursor.now.rest (filter_view c.in-Some.filter) c.filter_at.new.cursor.rest c.requires c.in-Some.ensures).1

pub returns-clause-gives : goal.returns-clause-gives
returns-clause-gives c = (next_some c.args.options c.args.cursor.now.rest (filter_view c.in-Some.filter) c.filter_at.new.cursor.rest c.requires c.in-Some.ensures).0
