use Rattle.std.proofs.Common.{◌≡◌, length}
use Rattle.std.specs.Prelude.{reverse}
use Rattle.mq_rules.specs.Moments.{note, is_same, since}
use Rattle.mq_rules.specs.Connections.{any_accepted, session}
use Rattle.mq_plain.specs.Finding.{moment_of}
use Rattle.mq_plain.proofs.earliest.still_applies.Given as goal

-- what is left to look at decides, and of its connections it is known whether some is accepted
abbrev pub invariant-loop-event : goal.invariant-loop-event
invariant-loop-event g l = record {
  rest : since (is_same (moment_of l.found)) (λ m. g.E.NoteTest.test l.ends (note m)) (session l.role l.fate (reverse l.earlier))
      ≡ since (is_same (moment_of l.found)) (λ m. g.E.NoteTest.test l.ends (note m)) (session l.role l.fn.fate (reverse l.before));
  known : l.any ≡ any_accepted l.role l.fate (reverse l.earlier);
}

abbrev pub decreases-loop-event : goal.decreases-loop-event
decreases-loop-event g l = length l.earlier
