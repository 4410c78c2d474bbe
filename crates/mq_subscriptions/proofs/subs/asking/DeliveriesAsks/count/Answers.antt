use Rattle.std.proofs.Common.{nat_eq, sym}
use Rattle.indexmap.specs.IndexMap.{get}
use Rattle.mq_rules.specs.Notes.{note_in}
use Rattle.mq_rules.specs.Under.{seen}
use Rattle.mq_subscriptions.proofs.DeliveryPlacesLaws.{B01-places, B02-places}
use Rattle.mq_subscriptions.proofs.subs.asking.DeliveriesAsks.count.Goals as goal

pub returns : goal.returns
returns g c = rw (sym c.as_ref-event.ensures) (λ tested past under kept was.
    let s = c.args.self.now in
    let p = c.args.places.now in
    let e = seen c.args.at (note_in c.as_ref-event.result) in
    let f = c.args.fate in (
      B01-places tested s.fate f s.filters.settled s.filters.waiting s.sharing (get nat_eq s.topics) c.args.arg4 e past s.bound c.is_delivered-delivered.result p.delivered c.places_after-places.result under kept.1 kept.0 was.0
          c.is_delivered-delivered.ensures c.places_after-places.ensures,
      B02-places tested s.fate f s.filters.settled s.filters.waiting s.sharing (get nat_eq s.topics) c.args.arg4 e past s.bound c.is_granted-granted.result p.acknowledged c.places_after-places-2.result under kept.1 kept.0 was.1
          c.is_granted-granted.ensures c.places_after-places-2.ensures,
    ))
