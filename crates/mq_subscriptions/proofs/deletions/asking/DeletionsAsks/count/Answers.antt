use Rattle.std.proofs.Common.{nat_eq, sym}
use Rattle.indexmap.specs.IndexMap.{get, get_by_text}
use Rattle.mq_rules.specs.Notes.{note_in}
use Rattle.mq_rules.specs.Under.{seen}
use Rattle.mq_subscriptions.proofs.DeletingLaws.{B06-places, B07-places}
use Rattle.mq_subscriptions.proofs.deletions.asking.DeletionsAsks.count.Goals as goal

pub returns : goal.returns
returns g c = rw (sym c.as_ref-event.ensures) (λ tested past under kept was.
    let s = c.args.self.now in
    let p = c.args.places.now in
    let e = seen c.args.at (note_in c.as_ref-event.result) in
    let f = c.args.fate in (
      B06-places tested f (get_by_text s.states) (get nat_eq s.waiting) (get nat_eq s.removing) s.unclear c.args.arg4 e past s.bound c.is_stood-stood.result p.stood c.places_after-places.result under kept.2 kept.0 was.0 c.is_stood-stood.ensures c.places_after-places.ensures,
      B07-places tested f (get_by_text s.states) (get nat_eq s.waiting) (get nat_eq s.removing) s.unclear c.args.arg4 e past s.bound c.is_told-told.result p.told c.places_after-places-2.result under kept.2 kept.0 was.1 c.is_told-told.ensures c.places_after-places-2.ensures,
    ))
