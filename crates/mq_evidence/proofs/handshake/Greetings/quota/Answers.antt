use Rattle.std.proofs.Common.{ap, ◌∙◌, Some}
use Rattle.std.specs.Prelude.{is_some, option_map, unwrap_or}
use Rattle.mq_rules.specs.Words.{only}
use Rattle.mq_rules.specs.Moments.{position}
use Rattle.mq_evidence.specs.Evidence.{two_of}
use Rattle.mq_evidence.specs.Handshakes.{peer_on, announced_receive}
use Rattle.mq_evidence.proofs.HandshakeLaws.{same-parts, only-announced}
use Rattle.mq_evidence.proofs.handshake.Greetings.quota.Goals as goal

pub returns : goal.returns
returns c = λ ms is.
    let role = c.args.role in
    same-parts c.if_announced.result (option_map position (only (is_some (announced_receive role ms)) (peer_on role ms)))
    c.two_with.result (two_of (Some c.args.in_flight) (Some (unwrap_or (announced_receive role ms) 65535))) c.it_with.result c.it_with.ensures
    (c.if_announced.ensures ∙ ap (λ a. only (is_some a) c.peer_at-peer.result) (c.maximum_receive-most.ensures ms is) ∙ ap (only (is_some (announced_receive role ms))) (c.peer_at-peer.ensures ms is)
    ∙ only-announced (is_some (announced_receive role ms)) (peer_on role ms))
    (c.two_with.ensures ∙ ap (λ a. two_of (Some c.args.in_flight) (Some (unwrap_or a 65535))) (c.maximum_receive-most.ensures ms is))
