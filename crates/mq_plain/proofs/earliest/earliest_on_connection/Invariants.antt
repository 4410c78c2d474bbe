use Rattle.std.proofs.Common.{◌≡◌, length}
use Rattle.std.specs.Prelude.{reverse}
use Rattle.std.specs.Option.{option_or}
use Rattle.mq_rules.specs.Moments.{note, earliest_since}
use Rattle.mq_rules.specs.Connections.{connection}
use Rattle.mq_plain.specs.Finding.{moment_in}
use Rattle.mq_plain.proofs.earliest.earliest_on_connection.Given as goal

-- what is left to look at decides, and else what is found
abbrev pub invariant-loop-event : goal.invariant-loop-event
invariant-loop-event g l = option_or (earliest_since (λ m. g.S.NoteTest.test l.starts (note m)) (λ m. g.E.NoteTest.test l.ends (note m)) (connection (reverse l.earlier))) (moment_in l.found)
    ≡ earliest_since (λ m. g.S.NoteTest.test l.starts (note m)) (λ m. g.E.NoteTest.test l.ends (note m)) (connection (reverse l.before))

abbrev pub decreases-loop-event : goal.decreases-loop-event
decreases-loop-event g l = length l.earlier
