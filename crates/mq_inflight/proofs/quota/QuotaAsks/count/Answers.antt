use Rattle.std.proofs.Common.{◌+◌, ◌&&◌, nat_le, ap, ◌∙◌}
use Rattle.std.specs.Prelude.{is_some, unwrap_or}
use Rattle.mq_rules.specs.Connections.{accepts}
use Rattle.mq_rules.specs.Under.{seen, fate_before}
use Rattle.mq_inflight.specs.Quotas.{may_count}
use Rattle.mq_inflight.proofs.QuotaLaws.{quota-places}
use Rattle.mq_inflight.proofs.quota.QuotaAsks.count.Goals as goal

pub returns : goal.returns
returns g c = λ tested past under kept was.
    let s = c.args.self.now in
    let e = seen c.args.at (g.E.Noted.note c.args.event.now) in
    quota-places tested s (fate_before tested c.args.fate e past) c.args.fate c.args.arg4 e past c.is_used_up-here.result c.args.places.now c.places_after.result kept under was
    (λ low. c.is_used_up-here.ensures low ∙ ap (λ b. accepts c.args.fate && (b && (may_count s.role s.peer && nat_le (unwrap_or s.peer 65535) (s.in_flight + 1)))) (c.is_some.ensures ∙ ap (λ o. is_some o) c.delivery.ensures)) c.places_after.ensures
