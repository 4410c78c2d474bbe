use Rattle.std.proofs.Common.{◌+◌, ◌&&◌, nat_le, ap, sym, ◌∙◌}
use Rattle.std.specs.Prelude.{is_some, unwrap_or}
use Rattle.mq_rules.specs.Notes.{note_in}
use Rattle.mq_rules.specs.Connections.{accepts}
use Rattle.mq_rules.specs.Under.{seen, fate_before}
use Rattle.mq_inflight.specs.Quotas.{may_count}
use Rattle.mq_inflight.proofs.QuotaLaws.{quota-places, quota-taken, quota-gained}
use Rattle.mq_inflight.proofs.quota.QuotaAsks.count_and_take.Goals as goal

pub returns-clause-agrees : goal.returns-clause-agrees
returns-clause-agrees g c = λ tested past under q.
    let e = seen c.args.at (g.E.Noted.note c.args.event.now) in
    quota-taken tested c.args.self.now (fate_before tested c.args.fate e past) c.args.fate c.args.decided e past c.is_some-delivers.result c.take.new.self q under (c.is_some-delivers.ensures ∙ ap (λ o. is_some o) c.delivery.ensures) c.take.ensures.kept

pub returns-clause-grows : goal.returns-clause-grows
returns-clause-grows g c = λ tested past under q.
    let e = seen c.args.at (g.E.Noted.note c.args.event.now) in
    quota-gained tested c.args.self.now (fate_before tested c.args.fate e past) c.args.fate c.args.decided e past c.is_some-delivers.result c.args.faults.now c.take.new.faults q under (c.is_some-delivers.ensures ∙ ap (λ o. is_some o) c.delivery.ensures) c.in_ok-take.ensures.judged

pub returns-clause-counts : goal.returns-clause-counts
returns-clause-counts g c = λ tested past under kept was.
    let s = c.args.self.now in
    let e = seen c.args.at (g.E.Noted.note c.args.event.now) in
    quota-places tested s (fate_before tested c.args.fate e past) c.args.fate c.args.decided e past c.is_used_up-here.result c.args.places.now c.places_after.result kept under was
    (λ low. c.is_used_up-here.ensures low ∙ ap (λ b. accepts c.args.fate && (b && (may_count s.role s.peer && nat_le (unwrap_or s.peer 65535) (s.in_flight + 1)))) (c.is_some-delivers.ensures ∙ ap (λ o. is_some o) c.delivery.ensures)) c.places_after.ensures
