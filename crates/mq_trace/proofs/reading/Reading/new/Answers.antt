-- What is kept of nothing is sound.
use Rattle.std.proofs.Common.{refl, sym, subst, arith, false}
use Rattle.mq_log.specs.Context.{StreamState}
use Rattle.mq_trace.specs.Keeping.{IsUnfinished}
use Rattle.mq_trace.proofs.DeframerLaws.{nothing_unfinished}
use Rattle.mq_trace.proofs.reading.Reading.new.Goals as goal

pub returns-clause-sound : goal.returns-clause-sound
returns-clause-sound c = record {
  counted = omega arith;
  begun = λ h. absurd (omega (arith, h));
  within = tt;
  past_header = λ h. absurd (omega (arith, h));
  header_first = λ h. (refl, refl);
  emptied = λ e. absurd (cc);
  sent = subst (λ (h : StreamState). IsUnfinished c.args.limit h) (sym c.new.ensures) (nothing_unfinished c.args.limit false);
  recv = subst (λ (h : StreamState). IsUnfinished c.args.limit h) (sym c.new-2.ensures) (nothing_unfinished c.args.limit false);
}
