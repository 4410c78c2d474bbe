use Rattle.std.proofs.Common.{sym, ◌∙◌}
use Rattle.mq_evidence.proofs.PassingLaws.{handshake-stays}
use Rattle.mq_evidence.proofs.handshake.Handshake.take.Goals as goal

pub returns : goal.returns
returns c = λ role m s comes before. record {
  same_role = before.same_role;
  sent_is = c.take.ensures role m s.connection before.same_role comes before.sent_is;
  greetings_are = c.take-2.ensures role m s.connection before.same_role comes before.greetings_are;
}

pub returns-then-passes_handshake : goal.returns-then-passes_handshake
returns-then-passes_handshake c = λ role m s comes before.
    handshake-stays c.args.self.now role c.args.turn c.args.note.now m s (sym c.passes_handshake.ensures ∙ c.if-passes_handshake.true) comes before
