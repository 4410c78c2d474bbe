use Rattle.std.proofs.Common.{◌≡◌, length}
use Rattle.std.specs.Prelude.{reverse}
use Rattle.std.specs.Option.{option_or}
use Rattle.mq_rules.specs.Moments.{note, earliest_since}
use Rattle.mq_rules.specs.Connections.{any_accepted, session}
use Rattle.mq_plain.specs.Finding.{moment_in}
use Rattle.mq_plain.proofs.earliest.earliest_in_session.Given as goal

-- what is left to look at decides, and else what is found; and of the connections left it is known whether some is accepted
abbrev pub invariant-loop-event : goal.invariant-loop-event
invariant-loop-event g l = record {
  rest : option_or (earliest_since (λ m. g.S.NoteTest.test l.starts (note m)) (λ m. g.E.NoteTest.test l.ends (note m)) (session l.role l.fate (reverse l.earlier))) (moment_in l.found)
      ≡ earliest_since (λ m. g.S.NoteTest.test l.starts (note m)) (λ m. g.E.NoteTest.test l.ends (note m)) (session l.role l.fn.fate (reverse l.before));
  known : l.any ≡ any_accepted l.role l.fate (reverse l.earlier);
}

abbrev pub decreases-loop-event : goal.decreases-loop-event
decreases-loop-event g l = length l.earlier
