use Rattle.std.proofs.Common.{sym}
use Rattle.mq_props.proofs.HavingLaws.{any_range}
use Rattle.mq_props.proofs.props.Props.has_range.Goals as goal

pub returns : goal.returns
returns c = rw (c.has.ensures.occurs, c.has-2.ensures.occurs, c.has-3.ensures.occurs, c.has-4.ensures.occurs, c.has-5.ensures.occurs, c.has-6.ensures.occurs, c.has-7.ensures.occurs, c.has-8.ensures.occurs, c.has-9.ensures.occurs, c.has-10.ensures.occurs, c.has-11.ensures.occurs) (sym (any_range c.args.self.now.items))
