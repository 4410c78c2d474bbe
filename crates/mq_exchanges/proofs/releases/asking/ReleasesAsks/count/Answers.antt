use Rattle.std.proofs.Common.{◌≡◌, ◌==◌, ◌&&◌, is_some, ap, ◌∙◌, sym}
use Rattle.mq_rules.specs.Words.{is_some_and}
use Rattle.mq_rules.specs.Notes.{note_in, released_id}
use Rattle.mq_rules.specs.Connections.{accepts}
use Rattle.mq_rules.specs.Under.{seen}
use Rattle.mq_fates.specs.Knowing.{is_placed}
use Rattle.mq_exchanges.specs.Releasing.{has_id}
use Rattle.mq_exchanges.proofs.ReleasePlacesLaws.{L1-places, L2-places, L3-places}
use Rattle.mq_exchanges.proofs.releases.asking.ReleasesAsks.count.Goals as goal

pub returns : goal.returns
returns g c = rw (sym c.as_ref-event.ensures) (λ tested past under kept was.
    let s = c.args.self.now in
    let p = c.args.places.now in
    let n = note_in c.as_ref-event.result in
    let e = seen c.args.at n in
    let f = c.args.fate in
    let here : c.place-released.result ≡ ((s.releases && is_some (released_id n)) && is_placed f (c.args.decided == c.args.at.position)) =
    c.place-released.ensures ∙ ap (λ b. b && c.is_placed-placed.result) c.is_released.ensures ∙ ap (λ b. (s.releases && is_some (released_id n)) && b) c.is_placed-placed.ensures in (
      L1-places tested s.releases f c.args.decided e past c.place-released.result p.released c.places_after-places.result kept.same_releases under was.0 here c.places_after-places.ensures,
      L2-places tested s.releases f c.args.decided e past c.place-released.result p.released c.places_after-places.result kept.same_releases under was.1 here c.places_after-places.ensures,
      L3-places tested s.role s.releases s.fate f s.has_accepted (has_id s.brought) (has_id s.released) (has_id s.due) c.args.decided e past c.is_completed-completed.result p.completed c.places_after-places-2.result
          kept under was.2 (c.is_completed-completed.ensures ∙ ap (λ o. s.releases && (accepts f && is_some_and (has_id s.due) o)) c.sent_success_pubcomp-success.ensures) c.places_after-places-2.ensures,
    ))
