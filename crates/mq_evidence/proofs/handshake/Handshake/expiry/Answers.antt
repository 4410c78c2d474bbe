use Rattle.std.proofs.Common.{ap, ◌∙◌}
use Rattle.std.specs.Prelude.{option_map}
use Rattle.std.specs.Option.{option_and_then}
use Rattle.mq_rules.specs.Notes.{sent_disconnect}
use Rattle.mq_rules.specs.Moments.{position}
use Rattle.mq_evidence.specs.Evidence.{earliest, is_connect, one_of}
use Rattle.mq_evidence.proofs.HandshakeLaws.{same-parts}
use Rattle.mq_evidence.proofs.handshake.Handshake.expiry.Goals as goal

pub returns : goal.returns
returns c = λ role s is.
    same-parts c.args.self.now.greetings.connect_at (option_map position (earliest (is_connect role) s.connection))
    c.one_of.result (one_of (option_and_then (λ d. d.session_expiry) (sent_disconnect c.args.note.now))) c.it_with.result c.it_with.ensures
    is.greetings_are.connect_at
    (c.one_of.ensures ∙ ap one_of c.expiry_sent-expiry.ensures)
