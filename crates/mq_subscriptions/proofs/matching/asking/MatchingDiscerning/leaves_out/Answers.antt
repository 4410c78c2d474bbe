use Rattle.std.proofs.Common.{nat_eq, true}
use Rattle.indexmap.specs.IndexMap.{get}
use Rattle.mq_fates.proofs.Exports.{none-counted}
use Rattle.mq_subscriptions.specs.Verdicts.{nothing}
use Rattle.mq_subscriptions.proofs.BesideLaws.{idle-judged, idle-event}
use Rattle.mq_subscriptions.proofs.VerdictLaws.{say, places-B08, places-B09, places-P01, places-P02, places-R01, places-R02}
use Rattle.mq_subscriptions.proofs.matching.asking.MatchingDiscerning.leaves_out.Goals as goal

pub returns : goal.returns
returns c = λ places tested fate at e past h small under q was.
    let s = c.args.self.now in
    let on = under.follows.on_connections.0 in
    let topics = get nat_eq s.topics in
    let is = idle-event s.bound fate s.unclear (say tested fate s.subscriptions s.sharing s.unclear s.refusing topics e past on true) topics e.note (idle-judged tested e.note s.bound h q.0) in (
      places-B08 tested fate s.subscriptions s.sharing s.unclear s.refusing topics e past on s.bound q.0 (λ b. (q.2 b).1) at places.matched places.matched nothing under is was.0 (λ low. none-counted places.matched),
      places-B09 tested fate s.subscriptions s.sharing s.unclear s.refusing topics e past on s.bound q.0 (λ b. (q.2 b).1) at places.granted places.granted nothing under is was.1 (λ low. none-counted places.granted),
      places-P01 tested fate s.subscriptions s.sharing s.unclear s.refusing topics e past on s.bound q.0 (λ b. (q.2 b).1) at places.named places.named nothing under is was.2 (λ low. none-counted places.named),
      places-P02 tested fate s.subscriptions s.sharing s.unclear s.refusing topics e past on s.bound q.0 (λ b. (q.2 b).1) at places.identified places.identified nothing under is was.3 (λ low. none-counted places.identified),
      places-R01 tested fate s.subscriptions s.sharing s.unclear s.refusing topics e past on s.bound q.0 (λ b. (q.2 b).1) at places.unretained places.unretained nothing under is was.4 (λ low. none-counted places.unretained),
      places-R02 tested fate s.subscriptions s.sharing s.unclear s.refusing topics e past on s.bound q.0 (λ b. (q.2 b).1) at places.unshared places.unshared nothing under is was.5 (λ low. none-counted places.unshared),
    )
