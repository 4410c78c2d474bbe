use Rattle.std.proofs.Common.{nat_eq, true, false, ap, sym, ◌∙◌}
use Rattle.indexmap.specs.IndexMap.{get}
use Rattle.mq_rules.specs.Moments.{newest}
use Rattle.mq_rules.specs.MatchingSubscriptions.{some_matching}
use Rattle.mq_rules.specs.Notes.{note_in}
use Rattle.mq_rules.specs.Under.{seen}
use Rattle.mq_fates.proofs.Exports.{none-counted}
use Rattle.mq_subscriptions.specs.Verdicts.{nothing, of_event}
use Rattle.mq_subscriptions.proofs.VerdictLaws.{answered, say, places-B08, places-B09, places-P01, places-P02, places-R01, places-R02}
use Rattle.mq_subscriptions.proofs.matching.asking.MatchingAsks.count.Goals as goal

pub returns : goal.returns
returns g c = rw (sym c.as_ref-event.ensures) (λ tested past under q was.
    let s = c.args.self.now in
    let p = c.args.places.now in
    let e = seen c.args.at (note_in c.as_ref-event.result) in
    let f = c.args.fate in
    let on = under.follows.on_connections.0 in
    let topics = get nat_eq s.topics in
    let v = c.tested_by-tests.result in
    let is = c.tested_by-tests.ensures (λ topic. some_matching tested.role f (newest e past) topic) (answered tested f s.subscriptions s.sharing s.unclear s.refusing topics e past on s.bound (λ b. (q.2 b).0)) in (
      places-B08 tested f s.subscriptions s.sharing s.unclear s.refusing topics e past on s.bound q.0 (λ b. (q.2 b).1) c.args.arg4 p.matched c.places_after-places.result v under is was.0 c.places_after-places.ensures,
      places-B09 tested f s.subscriptions s.sharing s.unclear s.refusing topics e past on s.bound q.0 (λ b. (q.2 b).1) c.args.arg4 p.granted c.places_after-places-2.result v under is was.1 c.places_after-places-2.ensures,
      places-P01 tested f s.subscriptions s.sharing s.unclear s.refusing topics e past on s.bound q.0 (λ b. (q.2 b).1) c.args.arg4 p.named c.places_after-places-3.result v under is was.2 c.places_after-places-3.ensures,
      places-P02 tested f s.subscriptions s.sharing s.unclear s.refusing topics e past on s.bound q.0 (λ b. (q.2 b).1) c.args.arg4 p.identified c.places_after-places-4.result v under is was.3 c.places_after-places-4.ensures,
      places-R01 tested f s.subscriptions s.sharing s.unclear s.refusing topics e past on s.bound q.0 (λ b. (q.2 b).1) c.args.arg4 p.unretained c.places_after-places-5.result v under is was.4 c.places_after-places-5.ensures,
      places-R02 tested f s.subscriptions s.sharing s.unclear s.refusing topics e past on s.bound q.0 (λ b. (q.2 b).1) c.args.arg4 p.unshared c.places_after-places-6.result v under is was.5 c.places_after-places-6.ensures,
    ))

pub returns-then-not-self : goal.returns-then-not-self
returns-then-not-self g c = λ tested past under q was.
    let s = c.args.self.now in
    let p = c.args.places.now in
    let e = seen c.args.at (g.E.Noted.note c.args.event.now) in
    let f = c.args.fate in
    let on = under.follows.on_connections.0 in
    let topics = get nat_eq s.topics in
    let is = ap (λ b. of_event b f s.unclear (say tested f s.subscriptions s.sharing s.unclear s.refusing topics e past on true) topics e.note) (sym c.if-not-self.true) in (
      places-B08 tested f s.subscriptions s.sharing s.unclear s.refusing topics e past on s.bound q.0 (λ b. (q.2 b).1) c.args.arg4 p.matched p.matched nothing under is was.0 (λ low. none-counted p.matched),
      places-B09 tested f s.subscriptions s.sharing s.unclear s.refusing topics e past on s.bound q.0 (λ b. (q.2 b).1) c.args.arg4 p.granted p.granted nothing under is was.1 (λ low. none-counted p.granted),
      places-P01 tested f s.subscriptions s.sharing s.unclear s.refusing topics e past on s.bound q.0 (λ b. (q.2 b).1) c.args.arg4 p.named p.named nothing under is was.2 (λ low. none-counted p.named),
      places-P02 tested f s.subscriptions s.sharing s.unclear s.refusing topics e past on s.bound q.0 (λ b. (q.2 b).1) c.args.arg4 p.identified p.identified nothing under is was.3 (λ low. none-counted p.identified),
      places-R01 tested f s.subscriptions s.sharing s.unclear s.refusing topics e past on s.bound q.0 (λ b. (q.2 b).1) c.args.arg4 p.unretained p.unretained nothing under is was.4 (λ low. none-counted p.unretained),
      places-R02 tested f s.subscriptions s.sharing s.unclear s.refusing topics e past on s.bound q.0 (λ b. (q.2 b).1) c.args.arg4 p.unshared p.unshared nothing under is was.5 (λ low. none-counted p.unshared),
    )
