-- A list of no properties.
use Rattle.std.proofs.Common.{sym, ◌∙◌}
use Rattle.mq_props.proofs.Lists.{empty_read}
use Rattle.mq_props.proofs.props.list_at.Goals as goal

pub returns-in-Some-clause-exact : goal.returns-in-Some-clause-exact
returns-in-Some-clause-exact c =
    rw (c.empty.ensures, c.starting_at.ensures, c.at-at.ensures.place)
    (empty_read c.args.place c.args.cursor.now c.in-Some.rest.now (sym c.rest_of.ensures.rest ∙ c.in-Some.ensures.rest))
