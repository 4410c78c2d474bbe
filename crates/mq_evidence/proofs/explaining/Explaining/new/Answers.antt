use Rattle.std.proofs.Common.{◌∙◌}
use Rattle.mq_evidence.proofs.NextLaws.{before-any}
use Rattle.mq_evidence.proofs.explaining.Explaining.new.Goals as goal

pub returns-clause-agrees : goal.returns-clause-agrees
returns-clause-agrees c = record {
  trail_is = c.new.ensures.agrees;
  enough = c.new.ensures.keeps ∙ c.any_needs-keeps_standing.ensures;
  enough_asked = c.new.ensures.keeps_asked ∙ c.any_needs-keeps_asked.ensures;
  next_is = before-any c.args.wanted 0;
  explained = λ k r within finds there shut. absurd (cc);
}
