use Rattle.std.proofs.Common.{sym, ◌∙◌}
use Rattle.mq_rules.specs.ByIdentifier.{is_kept, kept}
use Rattle.mq_rules.specs.Notes.{received_exactly_once}
use Rattle.mq_evidence.proofs.StretchLaws.{earlier-kept}
use Rattle.mq_evidence.proofs.PassingLaws.{received-stays}
use Rattle.mq_evidence.proofs.received.Received.take.Goals as goal

pub returns : goal.returns
returns c = λ m s comes before. record {
  in_session = c.in_ok-take.ensures m s.session comes before.in_session;
  earlier_are = earlier-kept c.args.turn.begins received_exactly_once (kept c.args.self.now.in_session.brought) (is_kept c.args.self.now.earlier) (is_kept c.keep_earlier.new.earlier)
      s.session s.earlier before.in_session.brought_are before.earlier_are c.in_ok-keep_earlier.ensures;
}

pub returns-then-passes_asked : goal.returns-then-passes_asked
returns-then-passes_asked c = λ m s comes before. received-stays c.args.self.now c.args.turn c.args.note.now m s (sym c.passes_asked.ensures ∙ c.if-passes_asked.true) comes before
