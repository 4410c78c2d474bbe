use Rattle.mq_rules.specs.Under.{seen, fate_before}
use Rattle.mq_exchanges.proofs.PingLaws.{pings-places}
use Rattle.mq_exchanges.proofs.pings.PingsAsks.count.Goals as goal

pub returns : goal.returns
returns g c = λ tested past under kept was.
    let e = seen c.args.at (g.E.Noted.note c.args.event.now) in
    pings-places tested c.args.self.now (fate_before tested c.args.fate e past) c.args.fate c.args.decided e past c.is_put_to_test-here.result c.args.places.now c.places_after.result kept under was (c.is_put_to_test-here.ensures e.note c.is_rest.ensures) c.places_after.ensures
