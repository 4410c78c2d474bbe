use Rattle.std.proofs.Common.{ap, ◌∙◌}
use Rattle.std.specs.Prelude.{option_map}
use Rattle.mq_rules.specs.Notes.{sent_packet}
use Rattle.mq_rules.specs.Moments.{position}
use Rattle.mq_evidence.specs.Evidence.{two_of}
use Rattle.mq_evidence.specs.Handshakes.{peer_on, announced_size}
use Rattle.mq_evidence.proofs.HandshakeLaws.{same-parts}
use Rattle.mq_evidence.proofs.handshake.Greetings.size.Goals as goal

pub returns : goal.returns
returns c = λ ms is.
    same-parts c.peer_at-peer.result (option_map position (peer_on c.args.role ms)) c.two_of.result (two_of (option_map (λ p. p.size) (sent_packet c.args.note.now)) (announced_size c.args.role ms)) c.it_with.result c.it_with.ensures
    (c.peer_at-peer.ensures ms is)
    (c.two_of.ensures ∙ ap (λ a. two_of a c.maximum_size-most.result) c.size_sent-size.ensures ∙ ap (two_of (option_map (λ p. p.size) (sent_packet c.args.note.now))) (c.maximum_size-most.ensures ms is))
