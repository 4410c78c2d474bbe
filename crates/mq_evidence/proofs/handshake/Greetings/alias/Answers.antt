use Rattle.std.proofs.Common.{ap, ◌∙◌, Some}
use Rattle.std.specs.Prelude.{is_some, option_map, unwrap_or}
use Rattle.std.specs.Option.{option_and_then}
use Rattle.mq_rules.specs.Words.{only}
use Rattle.mq_rules.specs.Notes.{sent_publish}
use Rattle.mq_rules.specs.Moments.{position}
use Rattle.mq_evidence.specs.Evidence.{two_of}
use Rattle.mq_evidence.specs.Handshakes.{peer_on, announced_alias}
use Rattle.mq_evidence.proofs.HandshakeLaws.{same-parts, only-announced}
use Rattle.mq_evidence.proofs.handshake.Greetings.alias.Goals as goal

pub returns : goal.returns
returns c = λ ms is.
    let role = c.args.role in
    let n = c.args.note.now in
    same-parts c.if_announced.result (option_map position (only (is_some (announced_alias role ms)) (peer_on role ms)))
    c.two_with.result (two_of (option_and_then (λ p. p.topic_alias) (sent_publish n)) (Some (unwrap_or (announced_alias role ms) 0))) c.it_with.result c.it_with.ensures
    (c.if_announced.ensures ∙ ap (λ a. only (is_some a) c.peer_at-peer.result) (c.maximum_alias-most.ensures ms is) ∙ ap (only (is_some (announced_alias role ms))) (c.peer_at-peer.ensures ms is)
    ∙ only-announced (is_some (announced_alias role ms)) (peer_on role ms))
    (c.two_with.ensures ∙ ap (λ a. two_of a (Some (unwrap_or c.maximum_alias-most.result 0))) c.alias_sent-alias.ensures
    ∙ ap (λ a. two_of (option_and_then (λ p. p.topic_alias) (sent_publish n)) (Some (unwrap_or a 0))) (c.maximum_alias-most.ensures ms is))
