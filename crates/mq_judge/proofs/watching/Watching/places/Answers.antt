use Rattle.std.proofs.Common.{map}
use Rattle.mq_rules.specs.Notes.{seen}
use Rattle.mq_judge.proofs.CoverageLaws.{among-bytes, among-noted}
use Rattle.mq_judge.proofs.watching.Watching.places.Goals as goal

pub returns-in-Some : goal.returns-in-Some
returns-in-Some c = λ received counts watches tallies.
    among-noted c.args.self.now.tested received c.args.rule c.places.result _
    (c.places.ensures.counted c.args.self.now.tested _ (map seen received) counts watches.agree) c.in-Some.is

pub returns-in-None : goal.returns-in-None
returns-in-None c = λ received counts watches tallies.
    among-bytes c.args.self.now.tested received c.args.rule c.places.result _
    (c.places.ensures.counted c.args.self.now.tested _ (map seen received) counts watches.agree) c.in-None.is (c.places-in-None.ensures c.args.self.now.tested received (tallies counts))
