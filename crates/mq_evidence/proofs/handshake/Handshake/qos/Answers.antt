use Rattle.std.proofs.Common.{ap, ◌∙◌, Some}
use Rattle.std.specs.Prelude.{option_map, unwrap_or}
use Rattle.std.specs.Option.{option_and_then}
use Rattle.mq_rules.specs.Notes.{sent_publish, qos_number}
use Rattle.mq_rules.specs.Moments.{position}
use Rattle.mq_rules.specs.Connections.{first_connack}
use Rattle.mq_evidence.specs.Evidence.{earliest, is_connack, two_of}
use Rattle.mq_evidence.proofs.HandshakeLaws.{same-parts}
use Rattle.mq_evidence.proofs.handshake.Handshake.qos.Goals as goal

pub returns : goal.returns
returns c = λ role s is.
    let n = c.args.note.now in
    let most = option_and_then (λ a. a.maximum_qos) (first_connack role s.connection) in
    same-parts c.args.self.now.greetings.connack_at (option_map position (earliest (is_connack role) s.connection))
    c.two_with.result (two_of (option_map (λ p. qos_number p.qos) (sent_publish n)) (Some (unwrap_or most 2))) c.it_with.result c.it_with.ensures
    is.greetings_are.connack_at
    (c.two_with.ensures ∙ ap (λ a. two_of a (Some (unwrap_or c.maximum_qos-most.result 2))) c.qos_sent-qos.ensures
    ∙ ap (λ a. two_of (option_map (λ p. qos_number p.qos) (sent_publish n)) (Some (unwrap_or a 2))) (c.maximum_qos-most.ensures role s.connection is.greetings_are))
