use Rattle.std.proofs.Common.{ap, ◌∙◌}
use Rattle.mq_rules.specs.declared.role.Role.{Role}
use Rattle.mq_evidence.specs.Handshakes.{quota_evidence}
use Rattle.mq_evidence.proofs.HandshakeLaws.{greetings-of}
use Rattle.mq_evidence.proofs.handshake.Handshake.quota.Goals as goal

pub returns : goal.returns
returns c = λ role s is. c.quota.ensures s.connection (greetings-of c.args.self.now role s is) ∙ ap (λ (r : Role). quota_evidence r c.args.in_flight s.connection) is.same_role
