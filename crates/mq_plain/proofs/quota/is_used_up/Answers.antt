use Rattle.std.proofs.Common.{rules, ◌≡◌, ◌+◌, sym, ◌∙◌, arith}
use Rattle.std.specs.Prelude.{reverse}
use Rattle.mq_plain.proofs.HandshakeLaws.{maximum-next}
use Rattle.mq_plain.proofs.QuotaLaws.{used_up, used_up-none}
use Rattle.mq_plain.proofs.quota.is_used_up.Goals as goal

pub returns-then-most-eq0 : goal.returns-then-most-eq0
returns-then-most-eq0 c = λ event.
    sym (used_up-none c.args.role c.receive_maximum-most.result event (reverse c.args.before.now)
    (maximum-next c.args.role c.receive_maximum-most.result c.handshake_of.result event (reverse c.args.before.now) c.receive_maximum-most.ensures c.handshake_of.ensures) (search rules))

pub returns : goal.returns
returns c = λ event.
    let some_left = c.if-most-eq0.false in
    let from = c.from.ensures in
    let more : c.receive_maximum-most.result ≡ c.from.result + 1 = omega (arith, some_left, from) in
    c.is_overdrawn.ensures ∙ sym (used_up c.args.role c.from.result c.receive_maximum-most.result event (reverse c.args.before.now)
    (maximum-next c.args.role c.receive_maximum-most.result c.handshake_of.result event (reverse c.args.before.now) c.receive_maximum-most.ensures c.handshake_of.ensures) more)
