-- A whole packet at the front, or what else there is.
use Rattle.std.proofs.Common.{refl, subst, sym}
use Rattle.mq_packet.proofs.Exports.{frame_from_header, short_few}
use Rattle.mq_trace.specs.Keeping.{IsShort}
use Rattle.mq_trace.proofs.deframer.whole_packet.Goals as goal

pub returns-in-Whole-clause-whole : goal.returns-in-Whole-clause-whole
returns-in-Whole-clause-whole c = record {
  spelled = sym c.in-Whole.ensures.exact;
  frame = frame_from_header c.args.bytes.now c.in-Whole.length c.in-Whole.size (sym c.in-Whole.ensures.exact) c.if-size-bytes.true;
  within = c.if-size-limit.true;
  bound = c.in-Whole.ensures.bounds.3;
}

pub returns-in-Short-clause-step : goal.returns-in-Short-clause-step
returns-in-Short-clause-step c = (refl, subst (IsShort c.args.limit c.args.bytes.now) c.in-Short.ensures.exact (short_few c.args.bytes.now (sym c.in-Short.ensures.exact)))
