use Rattle.std.proofs.Common.{◌≡◌, length}
use Rattle.std.specs.Prelude.{reverse}
use Rattle.mq_rules.specs.Moments.{note, latest}
use Rattle.mq_rules.specs.Connections.{session}
use Rattle.mq_plain.proofs.earliest.latest_in_session.Given as goal

-- what is left to look at decides
abbrev pub invariant-loop-event : goal.invariant-loop-event
invariant-loop-event g l = latest (λ m. g.T.NoteTest.test l.test (note m)) (session l.role l.fate (reverse l.earlier)) ≡ latest (λ m. g.T.NoteTest.test l.test (note m)) (session l.role l.fn.fate (reverse l.before))

abbrev pub decreases-loop-event : goal.decreases-loop-event
decreases-loop-event g l = length l.earlier
