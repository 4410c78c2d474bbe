use Rattle.std.proofs.Common.{sym, ◌∙◌}
use Rattle.mq_rules.specs.ByIdentifier.{is_kept, kept}
use Rattle.mq_rules.specs.Notes.{opener_of}
use Rattle.mq_evidence.proofs.StretchLaws.{earlier-kept}
use Rattle.mq_evidence.proofs.PassingLaws.{senders-stay}
use Rattle.mq_evidence.proofs.senders.Senders.take.Goals as goal

pub returns : goal.returns
returns c = λ m s comes before. record {
  in_session = c.in_ok-take.ensures m s.session comes before.in_session;
  on_connection = c.in_ok-take-2.ensures m s.connection comes before.on_connection;
  earlier_are = earlier-kept c.args.turn.begins opener_of (kept c.args.self.now.in_session.openers) (is_kept c.args.self.now.earlier) (is_kept c.keep_earlier.new.earlier)
      s.session s.earlier before.in_session.openers_are before.earlier_are c.in_ok-keep_earlier.ensures;
}

pub returns-then-passes_asking : goal.returns-then-passes_asking
returns-then-passes_asking c = λ m s comes before. senders-stay c.args.self.now c.args.turn c.args.note.now m s (sym c.passes_asking.ensures ∙ c.if-passes_asking.true) comes before
