use Rattle.std.proofs.Common.{◌≡◌, length}
use Rattle.std.specs.Prelude.{reverse}
use Rattle.mq_plain.specs.Resends.{happened_on_void}
use Rattle.mq_plain.proofs.ResendLaws.{void_back}
use Rattle.mq_plain.proofs.resends.earlier.happened_on_void.Given as goal

-- what is left to look at decides
abbrev pub invariant-loop-event : goal.invariant-loop-event
invariant-loop-event g l = void_back l.role (g.T.NoteTest.test l.test) l.fate (reverse l.earlier) ≡ happened_on_void l.role (g.T.NoteTest.test l.test) (reverse l.before)

abbrev pub decreases-loop-event : goal.decreases-loop-event
decreases-loop-event g l = length l.earlier
