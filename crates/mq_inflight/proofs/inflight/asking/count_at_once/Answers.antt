use Rattle.mq_rules.specs.Notes.{note_in}
use Rattle.mq_rules.specs.Under.{seen}
use Rattle.mq_inflight.proofs.TriedLaws.{S01-places, S02-places, S03-places, S04-places, S05-places}
use Rattle.mq_inflight.proofs.inflight.asking.count_at_once.Goals as goal

pub returns : goal.returns
returns c = λ tested past under kept was.
    let s = c.args.flight.now in
    let p = c.args.places.now in
    let e = seen c.args.at (note_in c.args.event) in
    let f = c.args.fate in
    let at = c.args.decided in
    record {
      taking = S01-places tested s f at e past c.tries_taking-taking.result p.taking c.places_after-places.result under kept was.taking c.tries_taking-taking.ensures c.places_after-places.ensures;
      resending = S02-places tested s f at e past c.tries_resending-resending.result p.resending c.places_after-places-2.result under kept was.resending c.tries_resending-resending.ensures c.places_after-places-2.ensures;
      repeating = S03-places tested f at e past c.tries_repeating-repeating.result p.repeating c.places_after-places-3.result under was.repeating c.tries_repeating-repeating.ensures c.places_after-places-3.ensures;
      released = S04-places tested s f at e past c.tries_released-released.result p.released c.places_after-places-4.result under kept was.released c.tries_released-released.ensures c.places_after-places-4.ensures;
      ordering = S05-places tested s f at e past c.tries_ordering-ordering.result p.ordering c.places_after-places-5.result under kept was.ordering c.tries_ordering-ordering.ensures c.places_after-places-5.ensures;
    }
